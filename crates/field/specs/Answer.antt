-- An answer is what was asked for, or a refusal with its number and what it carries (01, "Refusal numbers": "no.", "answer carries").
use Rattle.std.specs.Prelude.{ℕ, Bool, true, false}

pub data Answer (A : Type 0) : Type 0 where
  good : A → Answer A
  refused : ℕ → ℕ → Answer A

infixl 1 ◌>>=◌ ◌>>◌
-- The first refusal is the answer; what comes after it is not asked.
abbrev pub ◌>>=◌ : {A B : Type 0} → Answer A → (A → Answer B) → Answer B
good a >>= f = f a
refused n c >>= f = refused n c

abbrev pub ◌>>◌ : {A B : Type 0} → Answer A → Answer B → Answer B
r >> q = r >>= (λ a. q)

-- A test with the refusal that is given when it fails.
abbrev pub check : Bool → ℕ → ℕ → Answer (Unit {0})
check true n c = good tt
check false n c = refused n c
