-- `copy_rest` meets its contract: a turn stores one more number behind the others.
use Prim.Native.Nat.{◌+◌}
use Rattle.std.proofs.Common.{arith, ap, refl, ◌∙◌}
use lib.ListN.{get_or, set}
use lib.Seq.{sets, take_all}
use Rattle.arcs.proofs.Merges.{copied_next}
use Rattle.arcs.proofs.merge.copy_rest.Goals as goal

pub loop-n-preserved : goal.loop-n-preserved
loop-n-preserved c =
    let a = c.args in
    let l = c.loop-n in
    ap (λ out. set out (a.at + l.n) (get_or a.rest.now l.n 0)) l.invariant ∙ copied_next a.out.now a.rest.now a.at l.n c.loop-n-test.true

pub returns-clause-some : goal.returns-clause-some
returns-clause-some c =
    let a = c.args in
    (refl, omega arith, c.loop-n.invariant ∙ ap (sets a.out.now a.at) (take_all c.loop-n.n a.rest.now (omega arith)))
