-- What a call tells: its numbers one after another from the front of the array on, and 01's answer behind the code's answer.
-- Assumes nothing.
use Prim.Native.Nat.{ℕ}
use mathlib.Core.Path.{◌≡◌, sym, ap, ◌∙◌}
use mathlib.Core.List.{List, ◌∷◌}
use Rattle.exports.specs.Told.{told}

-- The numbers of the case x that the code's answer r is are those of the answer a that r says.
pub tells : {R A : Type 0} (says : R → A) (numbers : A → List ℕ) (x r : R) (a : A) (array exit : List ℕ)
    → r ≡ x → says r ≡ a → exit ≡ told (numbers (says x)) array → exit ≡ told (numbers a) array
tells says numbers x r a array exit is said e = e ∙ ap (λ b. told (numbers b) array) (ap says (sym is) ∙ said)

-- A refusal's number, once it is known.
pub numbered : {n m : ℕ} (rest array exit : List ℕ) → exit ≡ told (n ∷ rest) array → n ≡ m → exit ≡ told (m ∷ rest) array
numbered rest array exit e same = e ∙ ap (λ n. told (n ∷ rest) array) same
