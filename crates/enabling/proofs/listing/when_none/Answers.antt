-- `when_none`: stuck where an exit is empty, and none enabled where all are marked.
-- Assumes nothing.
use mathlib.Core.Path.{refl, sym, ◌∙◌}
use Rattle.enabling.proofs.ExitsHold.{exits_paired}
use Rattle.enabling.proofs.listing.when_none.Goals as goal

pub returns-then-exits_hold : goal.returns-then-exits_hold
returns-then-exits_hold c =
    rw (sym (c.exits_hold.ensures ∙ exits_paired c.args.kinds.now c.args.marking.now c.requires) ∙ c.if-exits_hold.true) refl

pub returns : goal.returns
returns c =
    rw (sym (c.exits_hold.ensures ∙ exits_paired c.args.kinds.now c.args.marking.now c.requires) ∙ c.if-exits_hold.false) refl
