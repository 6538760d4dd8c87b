use Rattle.std.proofs.Common.{◌≡◌, drop}
use Rattle.moving.specs.inner.Moving.{sides, filled, in_one}
use Rattle.moving.proofs.Net.fill.Given as goal

abbrev pub invariant-loop-t : goal.invariant-loop-t
invariant-loop-t l = filled l.tokens l.initial.marking (in_one (sides l.side l.self.rows.now l.self.arcs.now l.ts)) ≡ filled l.tokens l.marking (in_one (sides l.side l.self.rows.now l.self.arcs.now (drop l.t-index l.ts)))
