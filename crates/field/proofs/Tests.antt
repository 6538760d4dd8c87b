-- A test joined of two is passed exactly when both are passed, and a test is passed exactly when it is true.
-- True by the clauses of the tests.
use mathlib.Core.Path.{◌≡◌, refl, subst}
use mathlib.Core.Bool.{Bool, true, false, ◌&&◌, ◌||◌}
use mathlib.Core.Logic.{◌⊎◌, inl, inr}
use native.Mathlib.Omega.{arith}
use Prim.Native.Nat.{ℕ}
use lib.Dec.{T, eqb, eqb_refl}

pub and_parts : (a b : Bool) → T (a && b) → T a × T b
and_parts true b t = (tt, t)
and_parts false b t = absurd t

pub parts_and : (a b : Bool) → T a → T b → T (a && b)
parts_and true b s t = t
parts_and false b s t = absurd s

pub T_true : (b : Bool) → T b → b ≡ true
T_true true t = refl
T_true false t = absurd t

pub true_T : (b : Bool) → b ≡ true → T b
true_T true e = tt
true_T false e = let z : ◌≡◌ {A = ℕ} 0 1 = cc in let w : ⊥ = omega arith in w

pub or_left : (a b : Bool) → T a → T (a || b)
or_left true b t = tt
or_left false b t = absurd t

pub or_right : (a b : Bool) → T b → T (a || b)
or_right true b t = tt
or_right false b t = t

pub or_cases : (a b : Bool) → T (a || b) → T a ⊎ T b
or_cases true b t = inl tt
or_cases false b t = inr t

pub eqb_of : (m n : ℕ) → m ≡ n → T (eqb m n)
eqb_of m n e = subst (λ k. T (eqb m k)) e (eqb_refl m)

pub never : {A : Type 0} → false ≡ true → A
never e = absurd (let z : ◌≡◌ {A = ℕ} 0 1 = cc in let w : ⊥ = omega arith in w)

-- A case on a test, with the equation.
pub test : {A : Type 0} (b : Bool) → (b ≡ true → A) → (b ≡ false → A) → A
test true f g = f refl
test false f g = g refl
