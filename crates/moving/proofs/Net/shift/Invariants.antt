use Rattle.std.proofs.Common.{◌≡◌, ◌+◌, drop}
use Rattle.moving.specs.inner.Moving.{sides, filled, shifts_each, in_one}
use Rattle.moving.proofs.MoveTurns.{Agree}
use Rattle.moving.proofs.Net.shift.Given as goal

abbrev pub invariant-loop-i : goal.invariant-loop-i
invariant-loop-i l = record {
  passed : shifts_each l.from l.to l.initial.marking (sides l.side l.self.rows.now l.self.arcs.now l.ts) ≡ l.i + shifts_each l.from l.to l.marking (sides l.side l.self.rows.now l.self.arcs.now (drop l.i l.ts));
  marking : filled l.to l.initial.marking (in_one (sides l.side l.self.rows.now l.self.arcs.now l.ts)) ≡ filled l.to l.marking (in_one (sides l.side l.self.rows.now l.self.arcs.now (drop l.i l.ts)));
  others : Agree (in_one (sides l.side l.self.rows.now l.self.arcs.now l.ts)) l.initial.marking l.marking;
}
