-- Flat steps and the numbers of actions: what holds of the actions of operands holds of those of the whole, and the other way round,
-- and a flat step depends on its numbers only at the actions of its expression.
use Prim.Native.Nat.{ℕ, ◌+◌, ◌≤◌, ◌<◌}
use native.Mathlib.Omega.{arith}
use native.Mathlib.Decide.{dec_lt}
use mathlib.Core.Path.{◌≡◌, sym, ◌∙◌}
use Rattle.algebra.specs.Expr.{Expr, actions}
use Rattle.algebra.specs.Dynamic.{Dynamic}
use Rattle.algebra.proofs.Flows.{Quiet}
use Rattle.algebra.proofs.FlatSteps.{Flat, flat_idle, flat_acts, flat_sequence_first, flat_sequence_second, flat_choice_first, flat_choice_second, flat_parallel, flat_loop_first, flat_loop_body, flat_loop_last, flat_scope, flat_equal}

-- a number is below another, or not
pub below_or_not : {X : Type 0} (i m : ℕ) → (i < m → X) → (m ≤ i → X) → X
below_or_not {X} i m f g = go (dec_lt i m)
  where
    go : Dec (i < m) → X
    go (yes h) = f h
    go (no h) = g (omega arith)

-- what holds of so many actions from n on
abbrev pub Over : ℕ → ℕ → (ℕ → Type 0) → Type 0
Over n size P = (i : ℕ) → n ≤ i → i < n + size → P i

over_part : (P : ℕ → Type 0) (n size m part : ℕ) → n ≤ m → m + part ≤ n + size → Over n size P → Over m part P
over_part P n size m part p q h i lo hi = h i (omega arith) (omega arith)

-- of two operands, which have a and b actions
module _ (P : ℕ → Type 0) (n a b : ℕ) where
  pub over_two : Over n (a + b) P → Over n a P × Over (n + a) b P
  over_two h = (over_part P n (a + b) n a (omega arith) (omega arith) h, over_part P n (a + b) (n + a) b (omega arith) (omega arith) h)

  pub of_two : Over n a P → Over (n + a) b P → Over n (a + b) P
  of_two f g i lo hi = below_or_not i (n + a) (λ l. f i lo l) (λ l. g i l (omega arith))

-- of three operands, which have a, b and c actions
module _ (P : ℕ → Type 0) (n a b c : ℕ) where
  pub over_three : Over n (a + b + c) P → Over n a P × Over (n + a) b P × Over (n + a + b) c P
  over_three h =
      let r = over_two P n a b (over_two P n (a + b) c h).0 in
      (r.0, r.1, over_part P n (a + b + c) (n + a + b) c (omega arith) (omega arith) h)

  pub of_three : Over n a P → Over (n + a) b P → Over (n + a + b) c P → Over n (a + b + c) P
  of_three f g h = of_two P n (a + b) c (of_two P n a b f g) (over_part P (n + a + b) c (n + (a + b)) c (omega arith) (omega arith) h)

-- an action that is in the step is not where the step is quiet
module _ (A : ℕ → ℕ) (n a i : ℕ) where
  pub before_quiet : (b : ℕ) → Quiet (n + a) b A → i < n + a + b → 1 ≤ A i → i < n + a
  before_quiet b q hi some = below_or_not i (n + a) (λ l. l) (λ l. absurd (omega (arith, q i l hi)))

  pub after_quiet : Quiet n a A → n ≤ i → 1 ≤ A i → n + a ≤ i
  after_quiet q lo some = below_or_not i (n + a) (λ l. absurd (omega (arith, q i lo l))) (λ l. l)

-- what is quiet stays so where the numbers are the same
pub quiet_same : (A B : ℕ → ℕ) (n size : ℕ) → Over n size (λ i. A i ≡ B i) → Quiet n size A → Quiet n size B
quiet_same A B n size e q i lo hi = sym (e i lo hi) ∙ q i lo hi

pub flat_same : {A B : ℕ → ℕ} {n : ℕ} {E : Expr} {D D' : Dynamic E} → ((i : ℕ) → n ≤ i → i < n + actions E → A i ≡ B i) → Flat A n E D D' → Flat B n E D D'
unfolding actions
flat_same {A} {B} e (flat_idle {n = n} {E = E} q) = flat_idle (quiet_same A B n (actions E) e q)
flat_same e (flat_acts {n = n} p) = flat_acts (sym (e n (omega arith) (omega arith)) ∙ p)
flat_same {A} {B} e (flat_sequence_first {n = n} {E = E} {F = F} q s) =
    let r = over_two (λ i. A i ≡ B i) n (actions E) (actions F) e in flat_sequence_first (quiet_same A B (n + actions E) (actions F) r.1 q) (flat_same r.0 s)
flat_same {A} {B} e (flat_sequence_second {n = n} {E = E} {F = F} q s) =
    let r = over_two (λ i. A i ≡ B i) n (actions E) (actions F) e in flat_sequence_second (quiet_same A B n (actions E) r.0 q) (flat_same r.1 s)
flat_same {A} {B} e (flat_choice_first {n = n} {E = E} {F = F} q s) =
    let r = over_two (λ i. A i ≡ B i) n (actions E) (actions F) e in flat_choice_first (quiet_same A B (n + actions E) (actions F) r.1 q) (flat_same r.0 s)
flat_same {A} {B} e (flat_choice_second {n = n} {E = E} {F = F} q s) =
    let r = over_two (λ i. A i ≡ B i) n (actions E) (actions F) e in flat_choice_second (quiet_same A B n (actions E) r.0 q) (flat_same r.1 s)
flat_same {A} {B} e (flat_parallel {n = n} {E = E} {F = F} s t) =
    let r = over_two (λ i. A i ≡ B i) n (actions E) (actions F) e in flat_parallel (flat_same r.0 s) (flat_same r.1 t)
flat_same {A} {B} e (flat_loop_first {n = n} {E = E} {F = F} {G = G} p q s) =
    let r = over_three (λ i. A i ≡ B i) n (actions E) (actions F) (actions G) e in
    flat_loop_first (quiet_same A B (n + actions E) (actions F) r.1 p) (quiet_same A B (n + actions E + actions F) (actions G) r.2 q) (flat_same r.0 s)
flat_same {A} {B} e (flat_loop_body {n = n} {E = E} {F = F} {G = G} p q s) =
    let r = over_three (λ i. A i ≡ B i) n (actions E) (actions F) (actions G) e in
    flat_loop_body (quiet_same A B n (actions E) r.0 p) (quiet_same A B (n + actions E + actions F) (actions G) r.2 q) (flat_same r.1 s)
flat_same {A} {B} e (flat_loop_last {n = n} {E = E} {F = F} {G = G} p q s) =
    let r = over_three (λ i. A i ≡ B i) n (actions E) (actions F) (actions G) e in
    flat_loop_last (quiet_same A B n (actions E) r.0 p) (quiet_same A B (n + actions E) (actions F) r.1 q) (flat_same r.2 s)
flat_same e (flat_scope s) = flat_scope (flat_same e s)
flat_same e (flat_equal p s q) = flat_equal p (flat_same e s) q
