-- A good answer of several parts has only good parts: each test was passed, and each part handed on what the next one asks for.
-- True because the first refusal is the answer.
use Prim.Native.Nat.{ℕ}
use mathlib.Core.Path.{◌≡◌, refl}
use mathlib.Core.Bool.{Bool, true, false}
use mathlib.Core.Logic.{◌⊎◌, inl, inr}
use native.Mathlib.Omega.{arith}
use Rattle.field.specs.Answer.{Answer, good, refused, ◌>>=◌, check}

module _ {A : Type 0} where
  -- no answer is both good and refused
  pub good_not_refused : {X : Type 0} (r : Answer A) (x : A) (n c : ℕ) → r ≡ good x → r ≡ refused n c → X
  good_not_refused r x n c e f = absurd (let z : ◌≡◌ {A = ℕ} 0 1 = cc in let w : ⊥ = omega arith in w)

  pub check_good : (b : Bool) (n c : ℕ) (f : Unit {0} → Answer A) (x : A) → (check b n c >>= f) ≡ good x → (b ≡ true) × (f tt ≡ good x)
  check_good true n c f x e = (refl, e)
  check_good false n c f x e = good_not_refused (refused n c) x n c e refl

  pub bind_good : {B : Type 0} (r : Answer B) (f : B → Answer A) (x : A) → (r >>= f) ≡ good x → (b : B) × (r ≡ good b) × (f b ≡ good x)
  bind_good (good b) f x e = (b, refl, e)
  bind_good (refused n c) f x e = good_not_refused (refused n c) x n c e refl

  pub good_same : (x y : A) → good x ≡ good y → x ≡ y
  good_same x y e = cc

  -- A refusal of several parts is the first part's, or the first is good and it is the rest's.
  pub bind_refused : {B : Type 0} (r : Answer B) (f : B → Answer A) (n c : ℕ) → (r >>= f) ≡ refused n c → (r ≡ refused n c) ⊎ ((b : B) × (r ≡ good b) × (f b ≡ refused n c))
  bind_refused (good b) f n c e = inr (b, refl, e)
  bind_refused {B} (refused m d) f n c e = inl (let p : m ≡ n = cc in let q : d ≡ c = cc in λ i. refused (p i) (q i))

  pub refused_number : (n c m d : ℕ) → ◌≡◌ {A = Answer A} (refused n c) (refused m d) → n ≡ m
  refused_number n c m d e = cc

pub check_refused : (b : Bool) (k d n c : ℕ) → check b k d ≡ refused n c → (b ≡ false) × (k ≡ n) × (d ≡ c)
check_refused true k d n c e = good_not_refused (good tt) tt n c refl e
check_refused false k d n c e = (refl, cc, cc)

-- Two refusals that are the same say the same number, and carry the same.
pub two_refusals : {A R : Type 0} (f : ℕ → ℕ → R) (n c k d : ℕ) → ◌≡◌ {A = Answer A} (refused n c) (refused k d) → f n c ≡ f k d
two_refusals f n c k d e = let p : n ≡ k = cc in let q : c ≡ d = cc in λ i. f (p i) (q i)
