-- The index of the transitions by their first action: a chain for each action, and what a walk of it visits.
use Rattle.std.specs.Prelude.{ℕ, zero, suc, ◌<◌, ◌≡◌, List, [], ◌∷◌, Bool, true, false, ◌⊎◌, get_or, eqb}
use Rattle.net.specs.Tables.{none}
pub use Rattle.net.specs.Rows.{in_row}

abbrev pub keep : Bool → ℕ → List ℕ → List ℕ
keep true t ts = t ∷ ts
keep false t ts = ts

-- Of so many transitions from t on, the numbers of those that have a first action, rising.
unfoldable pub with_first : List ℕ → ℕ → ℕ → ℕ → List ℕ
with_first rows i t zero = []
with_first rows i t (suc n) = keep (eqb (in_row rows t 1) i) t (with_first rows i (suc t) n)

-- A walk from a number on, from each to the one that `next` has for it, visits these numbers and then ends at 65,535.
unfoldable pub Walk : List ℕ → ℕ → List ℕ → Type 0
Walk next at [] = at ≡ none
Walk next at (t ∷ ts) = (at ≡ t) × (t < none) × Walk next (get_or next t 0) ts

-- For each action a chain: the walk from its head visits the transitions, of so many, that have it as their first action.
abbrev pub Chains : List ℕ → ℕ → List ℕ → List ℕ → Type 0
Chains rows n head next = (i : ℕ) → i < 256 → Walk next (get_or head i 0) (with_first rows i 0 n)

-- What stands for a number that is on no chain is as it was.
abbrev pub Kept : List ℕ → ℕ → List ℕ → List ℕ → Type 0
Kept rows n next next' = (t : ℕ) → (get_or next' t 0 ≡ get_or next t 0) ⊎ ((t < n) × (in_row rows t 1 < 256))
