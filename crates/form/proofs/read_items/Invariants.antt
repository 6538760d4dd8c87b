use Prim.Native.Nat.{ℕ, ◌≤◌}
use mathlib.Core.Path.{◌≡◌}
use lib.ListN.{length}
use Rattle.form.specs.Form.{read_items}
use Rattle.form.specs.inner.FormSays.{items_in}
use Rattle.form.proofs.ItemLists.{behind}
use Rattle.form.proofs.read_items.Given as goal

-- First actions rise and are bytes, so there are never more items than the least first action that may follow.
abbrev pub invariant-loop-rest : goal.invariant-loop-rest
invariant-loop-rest l = record {
  few : l.count ≤ l.least;
  bytes : l.least ≤ 256;
  room : length l.items ≡ 256;
  read : (at : ℕ) → read_items at 0 0 l.body ≡ behind (items_in l.count l.items) (read_items at 0 l.least l.rest);
}

abbrev pub decreases-loop-rest : goal.decreases-loop-rest
decreases-loop-rest l = length l.rest
