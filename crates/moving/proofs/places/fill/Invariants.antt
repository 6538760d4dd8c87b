use Rattle.std.proofs.Common.{◌≡◌, drop}
use Rattle.moving.specs.inner.Moving.{filled}
use Rattle.moving.proofs.places.fill.Given as goal

abbrev pub invariant-loop-p : goal.invariant-loop-p
invariant-loop-p l = filled l.tokens l.initial.marking l.places ≡ filled l.tokens l.marking (drop l.p-index l.places)
