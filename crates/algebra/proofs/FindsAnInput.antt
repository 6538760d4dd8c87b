-- Whatever actions of an expression are in a step, the step is quiet there, or takes from an entry or from an internal place.
-- An action takes from its own entry, and that is, or is a part of, an entry or an internal place of every expression around it.
use Prim.Native.Nat.{ℕ, ◌+◌, ◌≤◌}
use native.Mathlib.Nat.{eq-zero-or-pos}
use native.Mathlib.Omega.{arith}
use mathlib.Core.Logic.{inl, inr, ⊎_elim}
use Rattle.algebra.specs.Expr.{Expr, action, sequence, choice, parallel, loop, scope, actions}
use Rattle.algebra.proofs.Codes.{Entry, Internal, some_entry, some_exit}
use Rattle.algebra.proofs.PlaceNames.{entry_name, internal_name}
use Rattle.algebra.proofs.Flows.{taken, Quiet, quiet_one, quiet_join, quiet_join_three}

module _ (A : ℕ → ℕ) where
  -- What holds in each of the three cases holds.
  pub finds_input : (n : ℕ) (E : Expr) {X : Type 0}
      → (Quiet n (actions E) A → X) → ((e : Entry E) → 1 ≤ taken A (entry_name n E e) → X) → ((i : Internal E) → 1 ≤ taken A (internal_name n E i) → X) → X
  unfolding actions taken entry_name internal_name
  finds_input n (action l) quiet entry internal = ⊎_elim (λ z. quiet (quiet_one A n z)) (entry tt) (eq-zero-or-pos (A n))
  finds_input n (sequence E F) quiet entry internal =
      finds_input n E
      (λ q. finds_input (n + actions E) F (λ r. quiet (quiet_join (actions E) (actions F) q r)) (λ f. internal (inr (inr (some_exit E, f)))) (λ i. internal (inr (inl i))))
      entry (λ i. internal (inl i))
  finds_input n (choice E F) quiet entry internal =
      finds_input n E
      (λ q. finds_input (n + actions E) F (λ r. quiet (quiet_join (actions E) (actions F) q r)) (λ f h. entry (some_entry E, f) (omega arith)) (λ i. internal (inr i)))
      (λ e h. entry (e, some_entry F) (omega arith)) (λ i. internal (inl i))
  finds_input n (parallel E F) quiet entry internal =
      finds_input n E
      (λ q. finds_input (n + actions E) F (λ r. quiet (quiet_join (actions E) (actions F) q r)) (λ f. entry (inr f)) (λ i. internal (inr i)))
      (λ e. entry (inl e)) (λ i. internal (inl i))
  finds_input n (loop E F G) quiet entry internal =
      finds_input n E
      (λ q. finds_input (n + actions E) F
      (λ r. finds_input (n + actions E + actions F) G (λ s. quiet (quiet_join_three (actions E) (actions F) (actions G) q r s))
      (λ g h. internal (inr (inr (inr ((some_exit E, some_exit F), (some_entry F, g))))) (omega arith)) (λ i. internal (inr (inr (inl i)))))
      (λ f h. internal (inr (inr (inr ((some_exit E, some_exit F), (f, some_entry G))))) (omega arith)) (λ i. internal (inr (inl i))))
      entry (λ i. internal (inl i))
  finds_input n (scope a E) quiet entry internal = finds_input n E quiet entry internal

  -- where the internal places are empty, only two of them are left
  pub finds_entry : (n : ℕ) (E : Expr) {X : Type 0}
      → ((i : Internal E) → taken A (internal_name n E i) ≤ 0) → (Quiet n (actions E) A → X) → ((e : Entry E) → 1 ≤ taken A (entry_name n E e) → X) → X
  finds_entry n E empty quiet entry = finds_input n E quiet entry (λ i h. absurd (omega (arith, empty i)))

  -- and where the entries are empty too, one
  pub finds_none : (n : ℕ) (E : Expr) → ((e : Entry E) → taken A (entry_name n E e) ≤ 0) → ((i : Internal E) → taken A (internal_name n E i) ≤ 0) → Quiet n (actions E) A
  finds_none n E entries internals = finds_entry n E internals (λ q. q) (λ e h. absurd (omega (arith, entries e)))
