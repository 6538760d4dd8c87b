-- The check for loops passes exactly the expressions whose every loop has an exclusive body, and else gives refusal 10 with an offset inside the plan.
-- True because the faulty loops of an expression are its own, if it is one, and its operands', and these stand inside its field.
use Prim.Native.Nat.{ℕ, ◌+◌, ◌≤◌, ◌<◌}
use mathlib.Core.Path.{◌≡◌, refl, ap, subst}
use mathlib.Core.List.{List, [], ◌∷◌, ◌++◌, append-nil, append-eq-nil_iff}
use mathlib.Core.Logic.{◌↔◌}
use mathlib.Core.Bool.{Bool, true, false, cond}
use native.Mathlib.Omega.{arith}
use native.Mathlib.Nat.{le_trans}
use lib.Dec.{T}
use Rattle.field.specs.Answer.{good, refused}
use Rattle.field.specs.Refusals.{body_not_exclusive}
use Rattle.field.proofs.Answers.{good_not_refused}
use Rattle.algebra.specs.Expr.{Expr, action, sequence, choice, parallel, loop, scope}
use Rattle.algebra.specs.Exclusive.{exclusive, LoopsExclusive}
use Rattle.plan.specs.Loops.{bytes, faulty_loops, no_fault, check_loops}

none_here : (b : Bool) (at : ℕ) → (cond b [] (at ∷ []) ≡ []) ↔ T b
none_here true at = (λ e. tt, λ t. refl)
none_here false at = (λ e. let z : ◌≡◌ {A = ℕ} 0 1 = cc in let w : ⊥ = omega arith in w, λ t. absurd t)

none_in_both : {A B : Type 0} (l m : List ℕ) → (l ≡ []) ↔ A → (m ≡ []) ↔ B → (l ++ m ≡ []) ↔ (A × B)
none_in_both l m f g = (
  λ e. let (u, v) = (append-eq-nil_iff {p = l} {q = m}).0 e in (f.0 u, g.0 v),
  λ h. (append-eq-nil_iff {p = l} {q = m}).1 (f.1 h.0, g.1 h.1),
)

none_faulty : (E : Expr) (at : ℕ) → (faulty_loops at E ≡ []) ↔ LoopsExclusive E
unfolding faulty_loops
none_faulty (action l) at = (λ e. tt, λ t. refl)
none_faulty (sequence E F) at = none_in_both _ _ (none_faulty E (at + 3)) (none_faulty F (at + 3 + bytes E))
none_faulty (choice E F) at = none_in_both _ _ (none_faulty E (at + 3)) (none_faulty F (at + 3 + bytes E))
none_faulty (parallel E F) at = none_in_both _ _ (none_faulty E (at + 3)) (none_faulty F (at + 3 + bytes E))
none_faulty (loop E F G) at =
    let operands = none_in_both _ _ (none_faulty E (at + 3)) (none_in_both _ _ (none_faulty F (at + 3 + bytes E)) (none_faulty G (at + 3 + bytes E + bytes F))) in
    let all = none_in_both _ _ (none_here (exclusive F) at) operands in (
      λ e. let (f, (x, (y, z))) = all.0 e in (x, y, z, f),
      λ h. all.1 (h.3, (h.0, (h.1, h.2))),
    )
none_faulty (scope a E) at = none_faulty E (at + 4)

no_fault_none : (l : List ℕ) → no_fault l ≡ good tt → l ≡ []
no_fault_none [] e = refl
no_fault_none (at ∷ l) e = good_not_refused (refused body_not_exclusive at) tt body_not_exclusive at e refl

pub loops_exclusive : (E : Expr) → check_loops E ≡ good tt → LoopsExclusive E
unfolding check_loops
loops_exclusive E e = (none_faulty E 0).0 (no_fault_none (faulty_loops 0 E) e)

pub exclusive_loops : (E : Expr) → LoopsExclusive E → check_loops E ≡ good tt
unfolding check_loops
exclusive_loops E h = ap no_fault ((none_faulty E 0).1 h)

-- each offset of a list is below a bound
data Below (b : ℕ) : List ℕ → Type 0 where
  none : Below b []
  one_more : {c : ℕ} {l : List ℕ} → c < b → Below b l → Below b (c ∷ l)

below_both : {b m : ℕ} {l k : List ℕ} → b ≤ m → Below b l → Below m k → Below m (l ++ k)
below_both h none u = u
below_both h (one_more c t) u = one_more (le_trans c h) (below_both h t u)

below_wider : {b m : ℕ} {l : List ℕ} → b ≤ m → Below b l → Below m l
below_wider {m} {l} h t = subst (Below m) (append-nil l) (below_both h t none)

here_below : (b : Bool) (at m : ℕ) → at < m → Below m (cond b [] (at ∷ []))
here_below true at m h = none
here_below false at m h = one_more h none

-- two operands behind a header
two_below : (at : ℕ) (E F : Expr) → Below (at + 3 + bytes E) (faulty_loops (at + 3) E) → Below (at + 3 + bytes E + bytes F) (faulty_loops (at + 3 + bytes E) F)
    → Below (at + (3 + bytes E + bytes F)) (faulty_loops (at + 3) E ++ faulty_loops (at + 3 + bytes E) F)
two_below at E F t u = below_both (omega arith) t (below_wider (omega arith) u)

faulty_below : (E : Expr) (at : ℕ) → Below (at + bytes E) (faulty_loops at E)
unfolding faulty_loops
faulty_below (action l) at = none
faulty_below (sequence E F) at = two_below at E F (faulty_below E (at + 3)) (faulty_below F (at + 3 + bytes E))
faulty_below (choice E F) at = two_below at E F (faulty_below E (at + 3)) (faulty_below F (at + 3 + bytes E))
faulty_below (parallel E F) at = two_below at E F (faulty_below E (at + 3)) (faulty_below F (at + 3 + bytes E))
faulty_below (loop E F G) at =
    below_both (omega arith) (here_below (exclusive F) at (at + (3 + bytes E + bytes F + bytes G)) (omega arith))
    (below_both (omega arith) (faulty_below E (at + 3))
    (below_both (omega arith) (faulty_below F (at + 3 + bytes E))
    (below_wider (omega arith) (faulty_below G (at + 3 + bytes E + bytes F)))))
faulty_below (scope a E) at = below_wider (omega arith) (faulty_below E (at + 4))

first_below : (b : ℕ) (l : List ℕ) (n c : ℕ) → Below b l → no_fault l ≡ refused n c → (n ≡ body_not_exclusive) × (c < b)
first_below b l n c none e = good_not_refused (good tt) tt n c refl e
first_below b l n c (one_more {c = at} h t) e = let p : at ≡ c = cc in (cc, omega arith)

-- refusal 10 and no other, with an offset inside the plan
pub faulty_first : (E : Expr) (n c : ℕ) → check_loops E ≡ refused n c → (n ≡ 10) × (c < bytes E)
unfolding check_loops
faulty_first E n c e = let (p, q) = first_below (0 + bytes E) (faulty_loops 0 E) n c (faulty_below E 0) e in (p, omega arith)
