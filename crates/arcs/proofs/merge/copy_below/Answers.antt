-- `copy_below` meets its contract: a turn puts one more number below the bound behind the others.
use Rattle.std.proofs.Common.{arith, get_or-take, length-take}
use Rattle.arcs.proofs.Merges.{run_next}
use Rattle.arcs.proofs.merge.copy_below.Goals as goal

pub loop-n-preserved : goal.loop-n-preserved
loop-n-preserved c =
    let long = length-take c.min-most.result c.args.list.now in
    let x = get_or-take c.min-most.result c.args.list.now c.loop-n.n 0 (omega arith) in
    rw x (run_next c.loop-n.invariant (omega arith) (omega arith) (omega arith))
