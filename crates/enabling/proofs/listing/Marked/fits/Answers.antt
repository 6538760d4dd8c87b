-- `fits`: room for all transitions is room for the enabled ones, and else they are counted.
use Rattle.std.proofs.Common.{sym, ap, leb, ◌∙◌, arith}
use borrow.Author.Tests.{le-leb}
use Rattle.enabling.proofs.EnabledTurns.{enabled_few, enabled_count}
use Rattle.enabling.proofs.listing.Marked.fits.Goals as goal

pub returns-then-self-room : goal.returns-then-self-room
returns-then-self-room c =
    let s = c.args.self in
    le-leb _ _ c.if-self-room.true
    ∙ sym (le-leb _ c.args.room (omega (arith, c.if-self-room.true, enabled_few s.net.rows.now s.net.arcs.now s.tokens.now s.net.transitions)))

pub returns-else-self-room : goal.returns-else-self-room
returns-else-self-room c =
    let s = c.args.self in ap (λ n. leb n c.args.room) (c.count.ensures ∙ enabled_count s.net.rows.now s.net.arcs.now s.tokens.now 0 s.net.transitions)
