-- Facts 4 and 5: where all exits hold a token the state is ≡ finished, and nothing else holds one; where all entries do it is ≡ started.
-- By cases on the state: an operand that is not active has an empty exit, and there is always an exit to look at.
use Prim.Native.Nat.{◌≤◌}
use native.Mathlib.Omega.{arith}
use mathlib.Core.Path.{◌≡◌, ap}
use mathlib.Core.Logic.{inl, inr}
use Rattle.algebra.specs.Expr.{Expr}
use Rattle.algebra.specs.Dynamic.{Dynamic, started, finished, sequence_first, sequence_second, choice_first, choice_second, parallel_both, loop_first, loop_body, loop_last, scope_inside, Equal, same, back, then, in_sequence_first, in_sequence_second, in_choice_first, in_choice_second, in_parallel, in_loop_first, in_loop_last, in_scope, sequence_starts, sequence_finishes, choice_starts_first, choice_starts_second, choice_first_finishes, choice_second_finishes, parallel_starts, parallel_finishes, loop_starts, loop_finishes, scope_starts, scope_finishes}
use Rattle.algebra.proofs.Codes.{Entry, Internal, Exit, some_entry, some_exit}
use Rattle.algebra.proofs.Tokens.{tokens}
use Rattle.algebra.proofs.EqualKeepsTokens.{equal_tokens}

no-token {ℓ} : {A : Type ℓ} → 1 ≤ 0 → A
no-token h = let z : ⊥ = omega arith in absurd z

pub full_exits : {E : Expr} (D : Dynamic E) → ((x : Exit E) → 1 ≤ (tokens D).exit x) → Equal E D finished
unfolding tokens
full_exits (started {E = E}) h = no-token (h (some_exit E))
full_exits finished h = same
full_exits (sequence_first {F = F} D) h = no-token (h (some_exit F))
full_exits (sequence_second D) h = then (in_sequence_second (full_exits D h)) sequence_finishes
full_exits (choice_first {F = F} D) h = then (in_choice_first (full_exits D (λ x. h (x, some_exit F)))) choice_first_finishes
full_exits (choice_second {E = E} D) h = then (in_choice_second (full_exits D (λ x. h (some_exit E, x)))) choice_second_finishes
full_exits (parallel_both D C) h = then (in_parallel (full_exits D (λ x. h (inl x))) (full_exits C (λ x. h (inr x)))) parallel_finishes
full_exits (loop_first {G = G} D) h = no-token (h (some_exit G))
full_exits (loop_body {G = G} D) h = no-token (h (some_exit G))
full_exits (loop_last D) h = then (in_loop_last (full_exits D h)) loop_finishes
full_exits (scope_inside D) h = then (in_scope (full_exits D h)) scope_finishes

pub full_entries : {E : Expr} (D : Dynamic E) → ((e : Entry E) → 1 ≤ (tokens D).entry e) → Equal E D started
unfolding tokens
full_entries started h = same
full_entries (finished {E = E}) h = no-token (h (some_entry E))
full_entries (sequence_first D) h = then (in_sequence_first (full_entries D h)) (back sequence_starts)
full_entries (sequence_second {E = E} D) h = no-token (h (some_entry E))
full_entries (choice_first {F = F} D) h = then (in_choice_first (full_entries D (λ e. h (e, some_entry F)))) (back choice_starts_first)
full_entries (choice_second {E = E} D) h = then (in_choice_second (full_entries D (λ e. h (some_entry E, e)))) (back choice_starts_second)
full_entries (parallel_both D C) h = then (in_parallel (full_entries D (λ e. h (inl e))) (full_entries C (λ e. h (inr e)))) (back parallel_starts)
full_entries (loop_first D) h = then (in_loop_first (full_entries D h)) (back loop_starts)
full_entries (loop_body {E = E} D) h = no-token (h (some_entry E))
full_entries (loop_last {E = E} D) h = no-token (h (some_entry E))
full_entries (scope_inside D) h = then (in_scope (full_entries D h)) (back scope_starts)

pub clean_entries : {E : Expr} (D : Dynamic E) → ((x : Exit E) → 1 ≤ (tokens D).exit x) → (e : Entry E) → (tokens D).entry e ≡ 0
unfolding tokens
clean_entries D h e = ap (λ t. t.entry e) (equal_tokens (full_exits D h))

pub clean_internals : {E : Expr} (D : Dynamic E) → ((x : Exit E) → 1 ≤ (tokens D).exit x) → (i : Internal E) → (tokens D).internal i ≡ 0
unfolding tokens
clean_internals D h i = ap (λ t. t.internal i) (equal_tokens (full_exits D h))
