-- The tokens of a dynamic expression: a started part marks its entries, a finished part its exits, and a product place is marked by its active part.
-- This is the relation between a marking and a dynamic expression that every fact below is about.
use Prim.Native.Nat.{ℕ, ◌+◌}
use mathlib.Core.Logic.{◌⊎◌, inl, inr}
use Rattle.algebra.specs.Expr.{Expr, sequence, choice, parallel, loop, scope}
use Rattle.algebra.specs.Dynamic.{Dynamic, started, finished, sequence_first, sequence_second, choice_first, choice_second, parallel_both, loop_first, loop_body, loop_last, scope_inside}
use Rattle.algebra.proofs.Codes.{Entry, Internal, Exit}

pub record Tokens (E : Expr) : Type 0 where
  pub entry : Entry E → ℕ
  pub internal : Internal E → ℕ
  pub exit : Exit E → ℕ

abbrev pub none : {A : Type 0} → A → ℕ
none a = 0

abbrev pub every : {A : Type 0} → A → ℕ
every a = 1

abbrev pub either : {A B : Type 0} → (A → ℕ) → (B → ℕ) → A ⊎ B → ℕ
either f g (inl a) = f a
either f g (inr b) = g b

-- What the tokens of an active operand are in the whole.
module _ {E F : Expr} where
  abbrev pub first_of_sequence : Tokens E → Tokens (sequence E F)
  first_of_sequence t = record { entry = t.entry; internal = either t.internal (either none (λ p. t.exit p.0)); exit = none }

  abbrev pub second_of_sequence : Tokens F → Tokens (sequence E F)
  second_of_sequence t = record { entry = none; internal = either none (either t.internal (λ p. t.entry p.1)); exit = t.exit }

  abbrev pub first_of_choice : Tokens E → Tokens (choice E F)
  first_of_choice t = record { entry = λ e. t.entry e.0; internal = either t.internal none; exit = λ x. t.exit x.0 }

  abbrev pub second_of_choice : Tokens F → Tokens (choice E F)
  second_of_choice t = record { entry = λ e. t.entry e.1; internal = either none t.internal; exit = λ x. t.exit x.1 }

  abbrev pub both_of_parallel : Tokens E → Tokens F → Tokens (parallel E F)
  both_of_parallel t u = record { entry = either t.entry u.entry; internal = either t.internal u.internal; exit = either t.exit u.exit }

module _ {E F G : Expr} where
  abbrev pub first_of_loop : Tokens E → Tokens (loop E F G)
  first_of_loop t = record { entry = t.entry; internal = either t.internal (either none (either none (λ p. t.exit p.0.0))); exit = none }

  abbrev pub body_of_loop : Tokens F → Tokens (loop E F G)
  body_of_loop t = record { entry = none; internal = either none (either t.internal (either none (λ p. t.exit p.0.1 + t.entry p.1.0))); exit = none }

  abbrev pub last_of_loop : Tokens G → Tokens (loop E F G)
  last_of_loop t = record { entry = none; internal = either none (either none (either t.internal (λ p. t.entry p.1.1))); exit = t.exit }

abbrev pub inside_scope : {a : ℕ} {E : Expr} → Tokens E → Tokens (scope a E)
inside_scope t = record { entry = t.entry; internal = t.internal; exit = t.exit }

unfoldable pub tokens : {E : Expr} → Dynamic E → Tokens E
tokens started = record { entry = every; internal = none; exit = none }
tokens finished = record { entry = none; internal = none; exit = every }
tokens (sequence_first D) = first_of_sequence (tokens D)
tokens (sequence_second D) = second_of_sequence (tokens D)
tokens (choice_first D) = first_of_choice (tokens D)
tokens (choice_second D) = second_of_choice (tokens D)
tokens (parallel_both D C) = both_of_parallel (tokens D) (tokens C)
tokens (loop_first D) = first_of_loop (tokens D)
tokens (loop_body D) = body_of_loop (tokens D)
tokens (loop_last D) = last_of_loop (tokens D)
tokens (scope_inside D) = inside_scope (tokens D)
