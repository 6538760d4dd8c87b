-- A flat step: how often each action moves, with no items and no order. It is the calculus with scopes that let everything pass,
-- so a parallel needs no splitting of a list: both sides look at the same numbers, each at its own actions.
use Prim.Native.Nat.{ℕ, ◌+◌}
use mathlib.Core.Path.{◌≡◌}
use Rattle.algebra.specs.Expr.{Expr, action, sequence, choice, parallel, loop, scope, actions}
use Rattle.algebra.specs.Dynamic.{Dynamic, started, finished, sequence_first, sequence_second, choice_first, choice_second, parallel_both, loop_first, loop_body, loop_last, scope_inside, Equal}
use Rattle.algebra.proofs.Flows.{Quiet}

-- D moves by A, as far as A speaks of the actions of E, whose first has the number n, and becomes D'.
pub data Flat (A : ℕ → ℕ) : ℕ → (E : Expr) → Dynamic E → Dynamic E → Type 0 where
  flat_idle : {n : ℕ} {E : Expr} {D : Dynamic E} → Quiet n (actions E) A → Flat A n E D D
  flat_acts : {n l : ℕ} → A n ≡ 1 → Flat A n (action l) started finished
  flat_sequence_first : {n : ℕ} {E F : Expr} {D D' : Dynamic E} → Quiet (n + actions E) (actions F) A → Flat A n E D D' → Flat A n (sequence E F) (sequence_first D) (sequence_first D')
  flat_sequence_second : {n : ℕ} {E F : Expr} {D D' : Dynamic F} → Quiet n (actions E) A → Flat A (n + actions E) F D D' → Flat A n (sequence E F) (sequence_second D) (sequence_second D')
  flat_choice_first : {n : ℕ} {E F : Expr} {D D' : Dynamic E} → Quiet (n + actions E) (actions F) A → Flat A n E D D' → Flat A n (choice E F) (choice_first D) (choice_first D')
  flat_choice_second : {n : ℕ} {E F : Expr} {D D' : Dynamic F} → Quiet n (actions E) A → Flat A (n + actions E) F D D' → Flat A n (choice E F) (choice_second D) (choice_second D')
  flat_parallel : {n : ℕ} {E F : Expr} {D D' : Dynamic E} {C C' : Dynamic F}
      → Flat A n E D D' → Flat A (n + actions E) F C C' → Flat A n (parallel E F) (parallel_both D C) (parallel_both D' C')
  flat_loop_first : {n : ℕ} {E F G : Expr} {D D' : Dynamic E}
      → Quiet (n + actions E) (actions F) A → Quiet (n + actions E + actions F) (actions G) A → Flat A n E D D' → Flat A n (loop E F G) (loop_first D) (loop_first D')
  flat_loop_body : {n : ℕ} {E F G : Expr} {D D' : Dynamic F}
      → Quiet n (actions E) A → Quiet (n + actions E + actions F) (actions G) A → Flat A (n + actions E) F D D' → Flat A n (loop E F G) (loop_body D) (loop_body D')
  flat_loop_last : {n : ℕ} {E F G : Expr} {D D' : Dynamic G}
      → Quiet n (actions E) A → Quiet (n + actions E) (actions F) A → Flat A (n + actions E + actions F) G D D' → Flat A n (loop E F G) (loop_last D) (loop_last D')
  flat_scope : {n a : ℕ} {E : Expr} {D D' : Dynamic E} → Flat A n E D D' → Flat A n (scope a E) (scope_inside D) (scope_inside D')
  flat_equal : {n : ℕ} {E : Expr} {D D₁ D₂ D' : Dynamic E} → Equal E D D₁ → Flat A n E D₁ D₂ → Equal E D₂ D' → Flat A n E D D'
