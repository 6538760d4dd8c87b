use Rattle.std.proofs.Common.{◌≡◌, ℕ, ◌<◌, take, drop, get_or, map}
use Rattle.algebra.specs.Firing.{transitions_named}
use Rattle.form.specs.inner.FormSays.{code_item}
use Rattle.form.proofs.ItemLists.{behind}
use Rattle.moving.specs.inner.InOrder.{transition_in, transitions_within}
use Rattle.step.proofs.firing.Indexed.find_items.Given as goal

abbrev pub invariant-loop-i : goal.invariant-loop-i
invariant-loop-i l = record {
  below : (k d : ℕ) → k < l.i → get_or l.ts k d < l.self.net.transitions;
  named : transitions_named (transitions_within l.self.net.rows.now l.self.net.arcs.now l.self.net.transitions) 0 (map code_item l.items)
      ≡ behind (map (transition_in l.self.net.rows.now l.self.net.arcs.now) (take l.i l.ts)) (transitions_named (transitions_within l.self.net.rows.now l.self.net.arcs.now l.self.net.transitions) l.i (map code_item (drop l.i l.items)));
}
