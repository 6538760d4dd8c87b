-- Fact 1: ≡ keeps the tokens. A congruence is the same function of equal tokens, and each equation of the calculus says of two states
-- with the same tokens that they are one.
use Prim.Native.Nat.{ℕ}
use mathlib.Core.Path.{◌≡◌, refl, sym, ◌∙◌, ap, ap₂, fun_ext}
use mathlib.Core.Logic.{◌⊎◌, inl, inr}
use Rattle.algebra.specs.Expr.{Expr}
use Rattle.algebra.specs.Dynamic.{Dynamic, Equal, same, back, then, in_sequence_first, in_sequence_second, in_choice_first, in_choice_second, in_parallel, in_loop_first, in_loop_body, in_loop_last, in_scope, sequence_starts, sequence_goes_on, sequence_finishes, choice_starts_first, choice_starts_second, choice_first_finishes, choice_second_finishes, parallel_starts, parallel_finishes, loop_starts, loop_enters, loop_repeats, loop_leaves, loop_finishes, scope_starts, scope_finishes}
use Rattle.algebra.proofs.Tokens.{none, every, either, first_of_sequence, second_of_sequence, first_of_choice, second_of_choice, both_of_parallel, first_of_loop, body_of_loop, last_of_loop, inside_scope, tokens}

-- a constant on both parts is that constant
either_same : {A B : Type 0} (f : A ⊎ B → ℕ) → f ≡ either (λ a. f (inl a)) (λ b. f (inr b))
either_same f = fun_ext (elim [ inl a ↦ refl | inr b ↦ refl ])

none_of_two : {A B : Type 0} → ◌≡◌ {A = A ⊎ B → ℕ} none (either none none)
none_of_two = either_same none

none_of_three : {A B C : Type 0} → ◌≡◌ {A = A ⊎ (B ⊎ C) → ℕ} none (either none (either none none))
none_of_three = none_of_two ∙ ap (either none) none_of_two

none_of_four : {A B C D : Type 0} → ◌≡◌ {A = A ⊎ (B ⊎ (C ⊎ D)) → ℕ} none (either none (either none (either none none)))
none_of_four = none_of_two ∙ ap (either none) none_of_three

pub equal_tokens : {E : Expr} {D D' : Dynamic E} → Equal E D D' → tokens D ≡ tokens D'
unfolding tokens
equal_tokens same = refl
equal_tokens (back q) = sym (equal_tokens q)
equal_tokens (then q r) = equal_tokens q ∙ equal_tokens r
equal_tokens (in_sequence_first q) = ap first_of_sequence (equal_tokens q)
equal_tokens (in_sequence_second q) = ap second_of_sequence (equal_tokens q)
equal_tokens (in_choice_first q) = ap first_of_choice (equal_tokens q)
equal_tokens (in_choice_second q) = ap second_of_choice (equal_tokens q)
equal_tokens (in_parallel q r) = ap₂ both_of_parallel (equal_tokens q) (equal_tokens r)
equal_tokens (in_loop_first q) = ap first_of_loop (equal_tokens q)
equal_tokens (in_loop_body q) = ap body_of_loop (equal_tokens q)
equal_tokens (in_loop_last q) = ap last_of_loop (equal_tokens q)
equal_tokens (in_scope q) = ap inside_scope (equal_tokens q)
equal_tokens sequence_starts = λ i. record { entry = every; internal = none_of_three i; exit = none }
equal_tokens sequence_goes_on = refl
equal_tokens sequence_finishes = λ i. record { entry = none; internal = sym none_of_three i; exit = every }
equal_tokens choice_starts_first = λ i. record { entry = every; internal = none_of_two i; exit = none }
equal_tokens choice_starts_second = λ i. record { entry = every; internal = none_of_two i; exit = none }
equal_tokens choice_first_finishes = λ i. record { entry = none; internal = sym none_of_two i; exit = every }
equal_tokens choice_second_finishes = λ i. record { entry = none; internal = sym none_of_two i; exit = every }
equal_tokens parallel_starts = λ i. record { entry = either_same every i; internal = none_of_two i; exit = none_of_two i }
equal_tokens parallel_finishes = λ i. record { entry = sym none_of_two i; internal = sym none_of_two i; exit = sym (either_same every) i }
equal_tokens loop_starts = λ i. record { entry = every; internal = none_of_four i; exit = none }
equal_tokens loop_enters = refl
equal_tokens loop_repeats = refl
equal_tokens loop_leaves = refl
equal_tokens loop_finishes = λ i. record { entry = none; internal = sym none_of_four i; exit = every }
equal_tokens scope_starts = refl
equal_tokens scope_finishes = refl
