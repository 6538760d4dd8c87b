-- `is_marking`: the marking is long enough, and its part passes, as `check_marking` asks. Assumes nothing.
use mathlib.Core.Path.{sym, ap, ◌∙◌}
use mathlib.Core.Bool.{Bool}
use lib.Seq.{length-take-le}
use Rattle.field.specs.Answer.{check}
use Rattle.field.specs.Refusals.{no_marking}
use Rattle.net.specs.Marking.{check_marking}
use Rattle.net.proofs.Marking.{room_passed}
use Rattle.net.proofs.tokens.is_marking.Goals as goal

pub slice_bounds-at_most_one-end : goal.slice_bounds-at_most_one-end
slice_bounds-at_most_one-end c =
    let a = c.args in
    sym (length-take-le _ a.marking.now (room_passed a.places a.marking.now (c.has_room.ensures ∙ ap (λ (b : Bool). check b no_marking 0) c.if-has_room.true)))

pub returns-then-has_room : goal.returns-then-has_room
returns-then-has_room c =
    unfold check_marking in rw (c.has_room.ensures, c.if-has_room.true, c.at_most_one.ensures)

pub returns-else-has_room : goal.returns-else-has_room
returns-else-has_room c =
    unfold check_marking in rw (c.has_room.ensures, c.if-has_room.false)
