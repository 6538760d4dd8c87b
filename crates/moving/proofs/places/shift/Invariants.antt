use Rattle.std.proofs.Common.{◌≡◌, drop}
use Rattle.moving.specs.inner.Moving.{filled, shifts}
use Rattle.moving.proofs.MoveTurns.{Agree}
use Rattle.moving.proofs.places.shift.Given as goal

abbrev pub invariant-loop-place : goal.invariant-loop-place
invariant-loop-place l = record {
  test : shifts l.from l.to l.initial.marking l.places ≡ shifts l.from l.to l.marking (drop l.place-index l.places);
  marking : filled l.to l.initial.marking l.places ≡ filled l.to l.marking (drop l.place-index l.places);
  others : Agree l.places l.initial.marking l.marking;
}
