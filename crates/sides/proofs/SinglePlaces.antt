-- A side of one place, and a side of two places of two actions: the numbers that the rows of the actions' nodes begin with are the places.
-- True because every action has a place and its list begins with the list's base; and two actions of an item share none, so that two places in all are one of each.
use Prim.Native.Nat.{ℕ, ◌+◌, ◌*◌, ◌<◌}
use native.Mathlib.Omega.{arith}
use native.Mathlib.Nat.{zero-mul, one-mul}
use mathlib.Core.Path.{◌≡◌, refl, sym, ◌∙◌, ap, ap₂}
use mathlib.Core.Bool.{Bool, true, false, cond}
use mathlib.Core.List.{List, [], ◌∷◌}
use lib.ListN.{length, get_or, set, drop_of_length-le}
use lib.Seq.{drop-cons}
use lib.Dec.{ltb}
use Rattle.algebra.specs.Expr.{Expr, actions}
use Rattle.algebra.specs.Item.{Item, one, two, first}
use Rattle.boxes.specs.inner.ArcCounts.{item_arcs}
use Rattle.arcs.specs.inner.Merge.{into, union}
use Rattle.arcs.specs.inner.Positions.{stretched}
use Rattle.arcs.specs.inner.Spreads.{Spread, placed}
use Rattle.net.specs.declared.Side.{Side}
use Rattle.arcs.proofs.Positions.{stretched_length, stretched_at}
use Rattle.lists.specs.inner.Lists.{list_row, place_of, Means}
use Rattle.lists.proofs.Chains.{copied_longer, copied_first}
use Rattle.sides.specs.inner.Sides.{told_count, item_places, Placed, Drafted}
use Rattle.sides.proofs.Told.{told_one}
use Rattle.sides.proofs.Runs.{all_set}
use Rattle.sides.proofs.Sides.{both_are}

-- ---- lists of one number and of two
only : (l : List ℕ) → length l ≡ 1 → l ≡ get_or l 0 0 ∷ []
only l e = drop-cons l 0 0 (omega arith) ∙ ap (λ r. get_or l 0 0 ∷ r) (drop_of_length-le l {i = 1} (omega arith))

-- Two numbers that differ, the lower first.
two_rising : (p q : ℕ) → length (union (p ∷ []) (q ∷ [])) ≡ 2 → cond (ltb p q) (p ∷ (q ∷ [])) (q ∷ (p ∷ [])) ≡ union (p ∷ []) (q ∷ [])
unfolding union into
two_rising p q = go (ltb p q) (ltb q p)
  where
    go : (b d : Bool) → length (cond b (p ∷ (q ∷ [])) (cond d (q ∷ (p ∷ [])) (p ∷ []))) ≡ 2 → cond b (p ∷ (q ∷ [])) (q ∷ (p ∷ [])) ≡ cond b (p ∷ (q ∷ [])) (cond d (q ∷ (p ∷ [])) (p ∷ []))
    go true d e = refl
    go false true e = refl
    go false false e = absurd (omega arith)

-- ---- a list of the table
module _ (lists : List ℕ) (side : Side) (k : ℕ) (s : Spread) (wide : 0 < s.width) (means : Means lists side k (list_row lists (place_of side k)) s) where
  abbrev at_first : List ℕ
  at_first = stretched s.width s.base (0 ∷ [])

  first_some : 0 < length at_first
  first_some = omega (arith, stretched_length s.width s.base (0 ∷ []), one-mul s.width)

  placed_some : 0 < length (placed s (0 ∷ []))
  unfolding placed
  placed_some = omega (arith, first_some, copied_longer lists side k _ _ _ s.over at_first means.over)

  placed_first : get_or (placed s (0 ∷ [])) 0 0 ≡ get_or lists (place_of side k) 0
  unfolding placed
  placed_first =
      let z : 0 * s.width + 0 ≡ 0 = omega (arith, zero-mul s.width) in
      copied_first lists side k _ _ _ s.over at_first means.over 0 first_some
      ∙ ap (λ i. get_or at_first i 0) (sym z) ∙ stretched_at s.width s.base 0 0 (0 ∷ []) (omega arith) wide ∙ omega (arith, zero-mul s.width, means.base)

-- The first of an action's places on one side, as the table tells it.
abbrev first_told : List ℕ → List ℕ → Side → ℕ → ℕ
first_told lists index side i = get_or lists (place_of side (get_or index (3 * i) 0)) 0

module _ {lists index : List ℕ} {E : Expr} (d : Drafted lists index E) (side : Side) (i : ℕ) (h : i < actions E) where
  some_place : 0 < told_count index side i
  some_place =
      let l = (d.told i h).listed side in
      omega (arith, told_one d side i h, ap length l.is, placed_some lists side (get_or index (3 * i) 0) l.spread l.wide l.means)

  only_place : told_count index side i ≡ 1 → item_places E side (one i) ≡ first_told lists index side i ∷ []
  only_place e =
      let l = (d.told i h).listed side in
      only (item_places E side (one i)) (sym (told_one d side i h) ∙ e)
      ∙ ap (λ x. x ∷ []) (ap (λ m. get_or m 0 0) l.is ∙ placed_first lists side (get_or index (3 * i) 0) l.spread l.wide l.means)

-- ---- one side of an item
module _ (lists index : List ℕ) (side : Side) (part : List ℕ) where
  -- One place in all is that of one action.
  pub one_place : (item : Item) {i p : ℕ} → first item ≡ i → p ≡ first_told lists index side i → length part ≡ item_arcs (told_count index side) item → length part ≡ 1 → Placed lists index side item part (set part 0 p)
  one_place (one i) {p = p} a e n o E d r long = all_set (p ∷ []) part (sym o) ∙ ap (λ x. x ∷ []) (e ∙ ap (first_told lists index side) (sym a)) ∙ sym (only_place d side i r (sym n ∙ o))
  one_place (two i j) a e n o E d r long = absurd (omega (arith, some_place d side i r.0, some_place d side j r.1))

  -- Two places of two actions are one of each.
  pub two_places : (i j : ℕ) {p q : ℕ} → p ≡ first_told lists index side i → q ≡ first_told lists index side j → length part ≡ told_count index side i + told_count index side j → length part ≡ 2
      → Placed lists index side (two i j) part (cond (ltb p q) (p ∷ (q ∷ [])) (q ∷ (p ∷ [])))
  two_places i j {p} {q} e f n o E d r long =
      let a = some_place d side i r.0 in
      let b = some_place d side j r.1 in
      let u : union (p ∷ []) (q ∷ []) ≡ item_places E side (two i j) =
      ap₂ union (ap (λ x. x ∷ []) e ∙ sym (only_place d side i r.0 (omega arith))) (ap (λ x. x ∷ []) f ∙ sym (only_place d side j r.1 (omega arith))) ∙ both_are E side i j in
      two_rising p q (ap length u ∙ sym long ∙ o) ∙ u
