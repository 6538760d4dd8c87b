-- What the index tells of an action is how many places it has, and the two numbers of an item are its actions.
-- The one is what the index is made for, the other is true by the two cases of an item.
use Prim.Native.Nat.{ℕ, ◌<◌}
use mathlib.Core.Path.{◌≡◌, refl, sym, ◌∙◌, ap₂}
use mathlib.Core.Bool.{Bool, true, false}
use mathlib.Core.List.{List}
use lib.ListN.{length}
use lib.Dec.{eqb}
use borrow.Author.Tests.{eqb-true}
use Rattle.algebra.specs.Expr.{Expr, actions}
use Rattle.algebra.specs.Item.{one, two, first}
use Rattle.net.specs.Tables.{none, second, item_of}
use Rattle.arcs.proofs.Transitions.{item_of_two}
use Rattle.net.specs.declared.Side.{Side}
use Rattle.sides.specs.inner.Sides.{told_count, item_places, Drafted}

pub told_one : {lists index : List ℕ} {E : Expr} → Drafted lists index E → (side : Side) (i : ℕ) → i < actions E → told_count index side i ≡ length (item_places E side (one i))
told_one d side i h = (d.told i h).counted side

pub its_numbers : (i j : ℕ) → (first (item_of i j) ≡ i) × (second (item_of i j) ≡ j)
its_numbers i j = go (eqb j none) refl
  where
    go : (b : Bool) → eqb j none ≡ b → (first (item_of i j) ≡ i) × (second (item_of i j) ≡ j)
    go true e = rw e (refl, sym (eqb-true j none e))
    go false e = rw e (refl, refl)

-- Two numbers of which the second is an action are both actions of an item.
pub its_pair : {i j a b : ℕ} → a ≡ i → b ≡ j → (b ≡ none → ⊥) → item_of i j ≡ two a b
its_pair {i} {j} p q other = item_of_two i j (λ z. other (q ∙ z)) ∙ ap₂ two (sym p) (sym q)
