use Prim.Native.Nat.{◌+◌, ◌*◌, ◌≤◌}
use mathlib.Core.Path.{◌≡◌}
use Rattle.lists.specs.inner.Placing.{Stepped}
use Rattle.lists.proofs.placing.put_steps.Given as goal

abbrev pub invariant-loop-number : goal.invariant-loop-number
invariant-loop-number l = (l.next ≤ 65535 + 65535 * l.number-index) × (l.next ≡ l.from + l.number-index * l.step) × Stepped l.from l.step l.number-index l.initial.out l.out
