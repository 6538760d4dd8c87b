-- `is_enabled`: where no place holds more than one token, marked is holding one.
use Rattle.std.proofs.Common.{refl}
use Rattle.enabling.proofs.EnabledTurns.{marked_held}
use Rattle.enabling.proofs.listing.Marked.is_enabled.Goals as goal

pub returns : goal.returns
returns c =
    let s = c.args.self in marked_held s.net.rows.now s.net.arcs.now s.tokens.now c.args.t _ _ s.safe refl c.holds.ensures
