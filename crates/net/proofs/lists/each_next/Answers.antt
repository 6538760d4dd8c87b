-- `each_next`: the whole is what was compared so far and what is left, from the one before. Assumes nothing.
use mathlib.Core.Path.{refl, sym}
use native.Mathlib.Omega.{arith}
use Rattle.net.proofs.Neighbours.{next_turn, next_end}
use Rattle.net.proofs.lists.each_next.Goals as goal

pub loop-i-init : goal.loop-i-init
loop-i-init g c = λ test follows. refl

pub loop-i-preserved : goal.loop-i-preserved
loop-i-preserved g c = λ test follows.
    let l = c.loop-i in
    rw (follows _ _ _ c.passes-all.ensures)
    (next_turn test c.args.list.now l.i l.all _ (l.invariant test follows) (omega arith) (omega arith) c.index-list-i.result c.index-list-i-in-loop-i.result
    c.index-list-i.is c.index-list-i-in-loop-i.is)

pub returns : goal.returns
returns g c = λ test follows.
    let l = c.loop-i in
    sym (next_end test c.args.list.now l.i l.all _ (l.invariant test follows) (omega arith) (omega arith))
