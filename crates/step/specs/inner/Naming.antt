-- Finding the transitions that a step's items name, as the code does it, in the rows of a net that is in order.
use Rattle.std.specs.Prelude.{ℕ, zero, suc, ◌≡◌, ◌<◌, List, [], ◌∷◌, map, cond, ◌&&◌, eqb, Option, None, Some}
use Rattle.field.specs.Refusals.{no_transition}
use Rattle.field.specs.Answer.{good, refused}
use Rattle.algebra.specs.Item.{Item}
use Rattle.algebra.specs.Firing.{named_by, transitions_named}
use Rattle.net.specs.inner.Chains.{in_row}
use Rattle.moving.specs.inner.InOrder.{transition_in, transitions_within}

-- The number of the first, of so many transitions from t on, that has these two actions; where there is none, the number behind the last.
unfoldable pub seek : List ℕ → ℕ → ℕ → ℕ → ℕ → ℕ
seek rows i j t zero = t
seek rows i j t (suc n) = cond (eqb i (in_row rows t 1) && eqb j (in_row rows t 2)) t (seek rows i j (suc t) n)

-- The first number of a list whose transition has this second action; another number where there is none.
unfoldable pub seek_in : List ℕ → ℕ → ℕ → List ℕ → ℕ
seek_in rows j n [] = n
seek_in rows j n (t ∷ ts) = cond (eqb j (in_row rows t 2)) t (seek_in rows j n ts)

-- The transition, of so many, that an item names, if there is one.
abbrev pub Found : List ℕ → List ℕ → ℕ → Item → Option ℕ → Type 0
Found rows arcs n item None = (at : ℕ) → named_by at item (transitions_within rows arcs n) ≡ refused no_transition at
Found rows arcs n item (Some t) = (t < n) × ((at : ℕ) → named_by at item (transitions_within rows arcs n) ≡ good (transition_in rows arcs t))

-- The items name the transitions whose numbers stand in a list; or the item at a position names none, and is the first.
abbrev pub ItemFound : List ℕ → List ℕ → ℕ → List Item → List ℕ → Type 0
ItemFound rows arcs n items ts = transitions_named (transitions_within rows arcs n) 0 items ≡ good (map (transition_in rows arcs) ts)

abbrev pub ItemMissed : List ℕ → List ℕ → ℕ → List Item → ℕ → Type 0
ItemMissed rows arcs n items i = transitions_named (transitions_within rows arcs n) 0 items ≡ refused no_transition i
