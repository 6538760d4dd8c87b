-- `fill`: the marking with the whole list filled is the one so far with the rest of the list filled.
use Rattle.std.proofs.Common.{sym, ◌∙◌}
use Rattle.moving.proofs.MoveTurns.{filled_turn, filled_end}
use Rattle.moving.proofs.places.fill.Goals as goal

pub loop-p-preserved : goal.loop-p-preserved
loop-p-preserved c =
    let l = c.loop-p in l.invariant ∙ filled_turn c.args.places.now l.p-index _ c.loop-p-test.true c.from.ensures c.args.tokens l.marking

pub returns : goal.returns
returns c =
    let l = c.loop-p in sym (l.invariant ∙ filled_end c.args.places.now l.p-index c.loop-p-test.false c.args.tokens l.marking)
