use Rattle.std.proofs.Common.{◌≡◌, ◌≤◌, ◌-◌, true, length, drop, leb}
use Rattle.field.specs.Lists.{all}
use Rattle.form.specs.Form.{read_steps}
use Rattle.run.proofs.RunEnds.{Same}
use Rattle.run.proofs.steps.run_steps.Given as goal

abbrev pub invariant-loop-place : goal.invariant-loop-place
invariant-loop-place l = record {
  long : length l.marking ≡ length l.initial.marking;
  safe : all (λ x. leb x 1) l.marking ≡ true;
  steps_fit : l.place.steps ≤ l.place.at;
  within : l.place.at ≤ length l.record;
  same : Same l.indexed.net.rows.now l.indexed.net.arcs.now l.indexed.net.transitions 0 l.initial.marking (read_steps 0 0 l.record) l.place.steps l.marking (read_steps l.place.at 0 (drop l.place.at l.record));
}

abbrev pub decreases-loop-place : goal.decreases-loop-place
decreases-loop-place l = length l.record - l.place.at
