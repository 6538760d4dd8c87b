-- `fill`: the marking with all items' places filled is the one so far with those of the rest filled.
use Rattle.std.proofs.Common.{sym, ◌∙◌}
use Rattle.moving.proofs.MoveTurns.{filling_turn, filling_end}
use Rattle.moving.proofs.Net.fill.Goals as goal

pub loop-t-preserved : goal.loop-t-preserved
loop-t-preserved c =
    let a = c.args in let s = a.self in let l = c.loop-t in
    l.invariant ∙ filling_turn s.rows.now s.arcs.now a.ts.now a.side l.t-index _ c.loop-t-test.true c.from.ensures _ c.side.ensures.value a.tokens l.marking ∙ rw c.fill.ensures

pub returns : goal.returns
returns c =
    let a = c.args in let s = a.self in let l = c.loop-t in
    sym (l.invariant ∙ filling_end s.rows.now s.arcs.now a.ts.now a.side l.t-index c.loop-t-test.false a.tokens l.marking)
