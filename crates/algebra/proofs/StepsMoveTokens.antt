-- Fact 6: a derived step takes only what is there, and moves the tokens: what it leaves and what it took is what was there and what it gave.
-- By induction on the step: the operand that moves has it by induction, and the others, which are quiet, take and give nothing.
use Prim.Native.Nat.{ℕ, ◌+◌, ◌≤◌}
use native.Mathlib.Omega.{arith}
use mathlib.Core.Path.{◌≡◌, refl, ap, ap₂}
use mathlib.Core.Logic.{inl, inr}
use Rattle.algebra.specs.Expr.{Expr, action, sequence, choice, parallel, loop, scope, actions}
use Rattle.algebra.specs.Dynamic.{Dynamic}
use Rattle.algebra.proofs.Codes.{Entry, Internal, Exit}
use Rattle.algebra.proofs.Tokens.{tokens}
use Rattle.algebra.proofs.EqualKeepsTokens.{equal_tokens}
use Rattle.algebra.proofs.PlaceNames.{entry_name, internal_name, exit_name}
use Rattle.algebra.proofs.Flows.{taken, given, Quiet, quiet_first, quiet_second, quiet_of_three}
use Rattle.algebra.proofs.FlatSteps.{Flat, flat_idle, flat_acts, flat_sequence_first, flat_sequence_second, flat_choice_first, flat_choice_second, flat_parallel, flat_loop_first, flat_loop_body, flat_loop_last, flat_scope, flat_equal}

pub quiet_entries : (n : ℕ) (E : Expr) {A : ℕ → ℕ} → Quiet n (actions E) A → (e : Entry E) → taken A (entry_name n E e) ≡ 0
unfolding actions taken entry_name
quiet_entries n (action l) q e = q n (omega arith) (omega arith)
quiet_entries n (sequence E F) q e = quiet_entries n E (quiet_first (actions E) (actions F) q) e
quiet_entries n (choice E F) q e =
    ap₂ ◌+◌ (quiet_entries n E (quiet_first (actions E) (actions F) q) e.0) (quiet_entries (n + actions E) F (quiet_second (actions E) (actions F) q) e.1)
quiet_entries n (parallel E F) q (inl e) = quiet_entries n E (quiet_first (actions E) (actions F) q) e
quiet_entries n (parallel E F) q (inr e) = quiet_entries (n + actions E) F (quiet_second (actions E) (actions F) q) e
quiet_entries n (loop E F G) q e = quiet_entries n E (quiet_of_three (actions E) (actions F) (actions G) q).0 e
quiet_entries n (scope a E) q e = quiet_entries n E q e

pub quiet_exits : (n : ℕ) (E : Expr) {A : ℕ → ℕ} → Quiet n (actions E) A → (x : Exit E) → given A (exit_name n E x) ≡ 0
unfolding actions given exit_name
quiet_exits n (action l) q x = q n (omega arith) (omega arith)
quiet_exits n (sequence E F) q x = quiet_exits (n + actions E) F (quiet_second (actions E) (actions F) q) x
quiet_exits n (choice E F) q x =
    ap₂ ◌+◌ (quiet_exits n E (quiet_first (actions E) (actions F) q) x.0) (quiet_exits (n + actions E) F (quiet_second (actions E) (actions F) q) x.1)
quiet_exits n (parallel E F) q (inl x) = quiet_exits n E (quiet_first (actions E) (actions F) q) x
quiet_exits n (parallel E F) q (inr x) = quiet_exits (n + actions E) F (quiet_second (actions E) (actions F) q) x
quiet_exits n (loop E F G) q x = quiet_exits (n + actions E + actions F) G (quiet_of_three (actions E) (actions F) (actions G) q).2 x
quiet_exits n (scope a E) q x = quiet_exits n E q x

pub quiet_internals : (n : ℕ) (E : Expr) {A : ℕ → ℕ} → Quiet n (actions E) A → (i : Internal E) → (taken A (internal_name n E i) ≡ 0) × (given A (internal_name n E i) ≡ 0)
unfolding actions taken given internal_name
quiet_internals n (action l) q i = absurd i
quiet_internals n (sequence E F) q (inl i) = quiet_internals n E (quiet_first (actions E) (actions F) q) i
quiet_internals n (sequence E F) q (inr (inl i)) = quiet_internals (n + actions E) F (quiet_second (actions E) (actions F) q) i
quiet_internals n (sequence E F) q (inr (inr p)) =
    (quiet_entries (n + actions E) F (quiet_second (actions E) (actions F) q) p.1, quiet_exits n E (quiet_first (actions E) (actions F) q) p.0)
quiet_internals n (choice E F) q (inl i) = quiet_internals n E (quiet_first (actions E) (actions F) q) i
quiet_internals n (choice E F) q (inr i) = quiet_internals (n + actions E) F (quiet_second (actions E) (actions F) q) i
quiet_internals n (parallel E F) q (inl i) = quiet_internals n E (quiet_first (actions E) (actions F) q) i
quiet_internals n (parallel E F) q (inr i) = quiet_internals (n + actions E) F (quiet_second (actions E) (actions F) q) i
quiet_internals n (loop E F G) q (inl i) = quiet_internals n E (quiet_of_three (actions E) (actions F) (actions G) q).0 i
quiet_internals n (loop E F G) q (inr (inl i)) = quiet_internals (n + actions E) F (quiet_of_three (actions E) (actions F) (actions G) q).1 i
quiet_internals n (loop E F G) q (inr (inr (inl i))) = quiet_internals (n + actions E + actions F) G (quiet_of_three (actions E) (actions F) (actions G) q).2 i
quiet_internals n (loop E F G) q (inr (inr (inr p))) =
    let r = quiet_of_three (actions E) (actions F) (actions G) q in (
      ap₂ ◌+◌ (quiet_entries (n + actions E) F r.1 p.1.0) (quiet_entries (n + actions E + actions F) G r.2 p.1.1),
      ap₂ ◌+◌ (quiet_exits n E r.0 p.0.0) (quiet_exits (n + actions E) F r.1 p.0.1),
    )
quiet_internals n (scope a E) q i = quiet_internals n E q i

-- nothing is given to an entry, and nothing taken from an exit
module _ (A : ℕ → ℕ) where
  pub entries_given : (n : ℕ) (E : Expr) (e : Entry E) → given A (entry_name n E e) ≡ 0
  unfolding given entry_name
  entries_given n (action l) e = refl
  entries_given n (sequence E F) e = entries_given n E e
  entries_given n (choice E F) e = refl
  entries_given n (parallel E F) (inl e) = entries_given n E e
  entries_given n (parallel E F) (inr e) = entries_given (n + actions E) F e
  entries_given n (loop E F G) e = entries_given n E e
  entries_given n (scope a E) e = entries_given n E e

  pub exits_taken : (n : ℕ) (E : Expr) (x : Exit E) → taken A (exit_name n E x) ≡ 0
  unfolding taken exit_name
  exits_taken n (action l) x = refl
  exits_taken n (sequence E F) x = exits_taken (n + actions E) F x
  exits_taken n (choice E F) x = refl
  exits_taken n (parallel E F) (inl x) = exits_taken n E x
  exits_taken n (parallel E F) (inr x) = exits_taken (n + actions E) F x
  exits_taken n (loop E F G) x = exits_taken (n + actions E + actions F) G x
  exits_taken n (scope a E) x = exits_taken n E x

module _ {A : ℕ → ℕ} where
  pub flat_entries : {n : ℕ} {E : Expr} {D D' : Dynamic E} → Flat A n E D D' → (e : Entry E) → (tokens D').entry e + taken A (entry_name n E e) ≡ (tokens D).entry e
  unfolding tokens taken entry_name
  flat_entries (flat_idle {n = n} {E = E} q) e = omega (arith, quiet_entries n E q e)
  flat_entries (flat_acts a) e = omega arith
  flat_entries (flat_sequence_first q s) e = flat_entries s e
  flat_entries (flat_sequence_second {n = n} {E = E} q s) e = omega (arith, quiet_entries n E q e)
  flat_entries (flat_choice_first {n = n} {E = E} {F = F} q s) e = omega (arith, flat_entries s e.0, quiet_entries (n + actions E) F q e.1)
  flat_entries (flat_choice_second {n = n} {E = E} q s) e = omega (arith, flat_entries s e.1, quiet_entries n E q e.0)
  flat_entries (flat_parallel s t) (inl e) = flat_entries s e
  flat_entries (flat_parallel s t) (inr e) = flat_entries t e
  flat_entries (flat_loop_first q r s) e = flat_entries s e
  flat_entries (flat_loop_body {n = n} {E = E} q r s) e = omega (arith, quiet_entries n E q e)
  flat_entries (flat_loop_last {n = n} {E = E} q r s) e = omega (arith, quiet_entries n E q e)
  flat_entries (flat_scope s) e = flat_entries s e
  flat_entries (flat_equal q s r) e = omega (arith, ap (λ t. t.entry e) (equal_tokens q), ap (λ t. t.entry e) (equal_tokens r), flat_entries s e)

  pub flat_exits : {n : ℕ} {E : Expr} {D D' : Dynamic E} → Flat A n E D D' → (x : Exit E) → (tokens D').exit x ≡ (tokens D).exit x + given A (exit_name n E x)
  unfolding tokens given exit_name
  flat_exits (flat_idle {n = n} {E = E} q) x = omega (arith, quiet_exits n E q x)
  flat_exits (flat_acts a) x = omega arith
  flat_exits (flat_sequence_first {n = n} {E = E} {F = F} q s) x = omega (arith, quiet_exits (n + actions E) F q x)
  flat_exits (flat_sequence_second q s) x = flat_exits s x
  flat_exits (flat_choice_first {n = n} {E = E} {F = F} q s) x = omega (arith, flat_exits s x.0, quiet_exits (n + actions E) F q x.1)
  flat_exits (flat_choice_second {n = n} {E = E} q s) x = omega (arith, flat_exits s x.1, quiet_exits n E q x.0)
  flat_exits (flat_parallel s t) (inl x) = flat_exits s x
  flat_exits (flat_parallel s t) (inr x) = flat_exits t x
  flat_exits (flat_loop_first {n = n} {E = E} {F = F} {G = G} q r s) x = omega (arith, quiet_exits (n + actions E + actions F) G r x)
  flat_exits (flat_loop_body {n = n} {E = E} {F = F} {G = G} q r s) x = omega (arith, quiet_exits (n + actions E + actions F) G r x)
  flat_exits (flat_loop_last q r s) x = flat_exits s x
  flat_exits (flat_scope s) x = flat_exits s x
  flat_exits (flat_equal q s r) x = omega (arith, ap (λ t. t.exit x) (equal_tokens q), ap (λ t. t.exit x) (equal_tokens r), flat_exits s x)

  pub flat_internals : {n : ℕ} {E : Expr} {D D' : Dynamic E} → Flat A n E D D' → (i : Internal E)
      → (taken A (internal_name n E i) ≤ (tokens D).internal i) × ((tokens D').internal i + taken A (internal_name n E i) ≡ (tokens D).internal i + given A (internal_name n E i))
  unfolding tokens taken given internal_name
  flat_internals (flat_idle {n = n} {E = E} q) i = omega (arith, quiet_internals n E q i)
  flat_internals (flat_acts a) i = absurd i
  flat_internals (flat_sequence_first q s) (inl i) = flat_internals s i
  flat_internals (flat_sequence_first {n = n} {E = E} {F = F} q s) (inr (inl i)) = omega (arith, quiet_internals (n + actions E) F q i)
  flat_internals (flat_sequence_first {n = n} {E = E} {F = F} q s) (inr (inr p)) = omega (arith, flat_exits s p.0, quiet_entries (n + actions E) F q p.1)
  flat_internals (flat_sequence_second {n = n} {E = E} q s) (inl i) = omega (arith, quiet_internals n E q i)
  flat_internals (flat_sequence_second q s) (inr (inl i)) = flat_internals s i
  flat_internals (flat_sequence_second {n = n} {E = E} q s) (inr (inr p)) = omega (arith, flat_entries s p.1, quiet_exits n E q p.0)
  flat_internals (flat_choice_first q s) (inl i) = flat_internals s i
  flat_internals (flat_choice_first {n = n} {E = E} {F = F} q s) (inr i) = omega (arith, quiet_internals (n + actions E) F q i)
  flat_internals (flat_choice_second {n = n} {E = E} q s) (inl i) = omega (arith, quiet_internals n E q i)
  flat_internals (flat_choice_second q s) (inr i) = flat_internals s i
  flat_internals (flat_parallel s t) (inl i) = flat_internals s i
  flat_internals (flat_parallel s t) (inr i) = flat_internals t i
  flat_internals (flat_loop_first q r s) (inl i) = flat_internals s i
  flat_internals (flat_loop_first {n = n} {E = E} {F = F} q r s) (inr (inl i)) = omega (arith, quiet_internals (n + actions E) F q i)
  flat_internals (flat_loop_first {n = n} {E = E} {F = F} {G = G} q r s) (inr (inr (inl i))) = omega (arith, quiet_internals (n + actions E + actions F) G r i)
  flat_internals (flat_loop_first {n = n} {E = E} {F = F} {G = G} q r s) (inr (inr (inr p))) =
      omega (arith, flat_exits s p.0.0, quiet_exits (n + actions E) F q p.0.1, quiet_entries (n + actions E) F q p.1.0, quiet_entries (n + actions E + actions F) G r p.1.1)
  flat_internals (flat_loop_body {n = n} {E = E} q r s) (inl i) = omega (arith, quiet_internals n E q i)
  flat_internals (flat_loop_body q r s) (inr (inl i)) = flat_internals s i
  flat_internals (flat_loop_body {n = n} {E = E} {F = F} {G = G} q r s) (inr (inr (inl i))) = omega (arith, quiet_internals (n + actions E + actions F) G r i)
  flat_internals (flat_loop_body {n = n} {E = E} {F = F} {G = G} q r s) (inr (inr (inr p))) =
      omega (arith, flat_exits s p.0.1, flat_entries s p.1.0, quiet_exits n E q p.0.0, quiet_entries (n + actions E + actions F) G r p.1.1)
  flat_internals (flat_loop_last {n = n} {E = E} q r s) (inl i) = omega (arith, quiet_internals n E q i)
  flat_internals (flat_loop_last {n = n} {E = E} {F = F} q r s) (inr (inl i)) = omega (arith, quiet_internals (n + actions E) F r i)
  flat_internals (flat_loop_last q r s) (inr (inr (inl i))) = flat_internals s i
  flat_internals (flat_loop_last {n = n} {E = E} {F = F} q r s) (inr (inr (inr p))) =
      omega (arith, flat_entries s p.1.1, quiet_exits n E q p.0.0, quiet_exits (n + actions E) F r p.0.1, quiet_entries (n + actions E) F r p.1.0)
  flat_internals (flat_scope s) i = flat_internals s i
  flat_internals (flat_equal q s r) i = omega (arith, ap (λ t. t.internal i) (equal_tokens q), ap (λ t. t.internal i) (equal_tokens r), flat_internals s i)
