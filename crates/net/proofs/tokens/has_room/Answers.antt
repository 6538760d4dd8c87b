-- `has_room`: its answer is the test that `check_room` makes. Assumes nothing.
use mathlib.Core.Path.{refl}
use Rattle.net.specs.Marking.{check_room}
use Rattle.net.proofs.tokens.has_room.Goals as goal

pub returns : goal.returns
returns c =
    unfold check_room in refl
