-- A walk of a chain is a fact with one proof, as a ghost field has to be.
use Rattle.std.specs.Prelude.{ℕ, List, [], ◌∷◌, get_or}
use Rattle.std.specs.Coded.{Π_prop, le_prop}
use native.Mathlib.Nat.{ℕ_set}
use Rattle.net.specs.inner.Chains.{with_first, Walk, Chains}

Walk-prop : (next : List ℕ) (at : ℕ) (ts : List ℕ) → IsProp (Walk next at ts)
unfolding Walk
Walk-prop next at [] = ℕ_set _ _
Walk-prop next at (t ∷ ts) = λ p q i. (ℕ_set at t p.0 q.0 i, le_prop p.1 q.1 i, Walk-prop next (get_or next t 0) ts p.2 q.2 i)

pub Chains-prop : (rows : List ℕ) (n : ℕ) (head next : List ℕ) → IsProp (Chains rows n head next)
Chains-prop rows n head next = Π_prop (λ i. Π_prop (λ h. Walk-prop next (get_or head i 0) (with_first rows i 0 n)))
