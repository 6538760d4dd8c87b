-- One side of a transition in its part of the arcs: the places of its action, or of both its actions in rising order, whichever of the two stands first.
-- True because a rising list behind another whose last number is lower is their union, and so is what merging makes of any two.
use Prim.Native.Nat.{ℕ, ◌+◌, ◌*◌, ◌-◌, ◌≤◌, ◌<◌}
use native.Mathlib.Omega.{arith}
use mathlib.Core.Path.{◌≡◌, sym, ◌∙◌, ap, ap₂, subst}
use mathlib.Core.Bool.{Bool, or_comm}
use mathlib.Core.Logic.{◌⊎◌, inl, inr}
use mathlib.Core.List.{List, [], ◌∷◌, ◌++◌, map, append-nil}
use lib.ListN.{length, get_or, take, drop, length-map, length-drop, drop_of_length-le}
use lib.Seq.{length-take-le, take_at, drop_at}
use Rattle.algebra.specs.Expr.{Expr, actions}
use Rattle.algebra.specs.Item.{Item, one, two}
use Rattle.algebra.specs.Places.{Place, places}
use Rattle.algebra.specs.Arcs.{numbers}
use Rattle.boxes.specs.inner.ArcCounts.{item_arcs}
use Rattle.boxes.proofs.ArcsRise.{numbers_rise}
use Rattle.arcs.specs.inner.Merge.{union, Merged}
use Rattle.arcs.specs.inner.Moves.{passes}
use Rattle.net.specs.declared.Side.{Side}
use Rattle.net.specs.declared.Side.TheVariants.{Inputs, Outputs}
use Rattle.arcs.proofs.Merges as merges
use Rattle.arcs.proofs.Merges.{union_numbers, part_is}
use Rattle.arcs.proofs.Ones.{numbers_ones, ones_below}
use Rattle.arcs.specs.inner.Spreads.{Spread, placed}
use Rattle.lists.specs.inner.Lists.{list_row, place_of, Means}
use Rattle.lists.specs.inner.Placing.{Small}
use Rattle.spread.specs.inner.Spread.{Listed}
use Rattle.sides.specs.inner.Sides.{told_count, item_places, Below, Placed, PlacedPair, PlacedBoth, InOrder, Drafted}
use Rattle.std.specs.Prelude.{Option}
use Rattle.sides.proofs.Told.{told_one}
use Rattle.sides.proofs.Unions.{union_in_order, merged_all}

-- ---- both actions of an item on one side
module _ (E : Expr) (side : Side) (i j : ℕ) where
  pub both_are : union (item_places E side (one i)) (item_places E side (one j)) ≡ item_places E side (two i j)
  both_are = union_numbers (passes side i) (passes side j) 0 (places 0 E)

  either_order : item_places E side (two j i) ≡ item_places E side (two i j)
  either_order = ap (λ f. numbers f 0 (places 0 E)) (λ k p. or_comm (passes side j p) (passes side i p) k)

-- Their lists, one behind the other: as they stand, and merged.
module _ (lists index : List ℕ) (side : Side) (i j : ℕ) (part : List ℕ) {m : ℕ} {pair : List ℕ} (e : m ≡ told_count index side i) (p : PlacedPair lists index side i j pair) where
  pub pair_in_order : InOrder pair m → Placed lists index side (two i j) part pair
  pair_in_order o E d r n =
      let l = item_places E side (one i) in
      let w = subst (λ x. InOrder x (length l)) (p E d r) (subst (InOrder pair) (e ∙ told_one d side i r.0) o) in
      p E d r ∙ sym (union_in_order 0 (0 + length (places 0 E)) l (item_places E side (one j)) (numbers_rise (passes side i) 0 (places 0 E)) w) ∙ both_are E side i j

  pub pair_merged : {k : Option ℕ} {after : List ℕ} → Merged (length part) k (union (take m pair) (merges.part pair m)) part after → Placed lists index side (two i j) part after
  pair_merged w E d r n =
      let l = item_places E side (one i) in
      let f = sym (e ∙ told_one d side i r.0) in
      let u = ap₂ union (ap (take m) (p E d r) ∙ take_at l _ m f) (part_is pair m ∙ ap (drop m) (p E d r) ∙ drop_at l _ m f) ∙ both_are E side i j in
      merged_all (ap length u ∙ sym n) w ∙ u

-- ---- the places of an action, as the table of lists tells them
numbers_small : (f : Place → Bool) (ps : List Place) → length ps ≤ 2048 → Small (numbers f 0 ps)
numbers_small f ps few j h =
    let e = numbers_ones f 0 ps in
    let b = ones_below 0 j (map f ps) (subst (λ l. j < length l) e h) in
    omega (arith, ap (λ l. get_or l j 0) e, length-map ps f, b)

-- What the writer of places ensures, of an action.
pub one_placed : (lists index : List ℕ) (side : Side) (i : ℕ) (before after : List ℕ) {k : ℕ} → k ≡ get_or index (3 * i) 0
    → ((s : Spread) → 11 * k + 11 ≤ length lists → Means lists side k (list_row lists (place_of side k)) s → 0 < s.width → length before ≡ length (placed s (0 ∷ [])) → Small (placed s (0 ∷ [])) → after ≡ placed s (0 ∷ []))
    → Placed lists index side (one i) before after
one_placed lists index side i before after e w E d h long =
    let l = subst (λ n. Listed lists side n (item_places E side (one i))) (sym e) ((d.told i h).listed side) in
    w l.spread l.inside l.means l.wide (long ∙ ap length l.is) (subst Small l.is (numbers_small (passes side i) (places 0 E) d.few)) ∙ sym l.is

-- ---- a part that is written in two parts, the second from place m on
abbrev parts : List ℕ → ℕ → List ℕ → List ℕ → List ℕ
parts part m a b = take m (a ++ drop m part) ++ (b ++ drop (length (a ++ drop m part) - m) (drop m (a ++ drop m part)))

module _ (lists index : List ℕ) (side other : Side) (item another : Item) (part : List ℕ) {m : ℕ} {a b : List ℕ} (front : Placed lists index side item (take m part) a)
    (back : Placed lists index other another (merges.part (a ++ drop m part) m) b) where
  parts_are : (E : Expr) → Drafted lists index E → Below (actions E) item → Below (actions E) another → m ≡ length (item_places E side item) → length part ≡ m + length (item_places E other another)
      → parts part m a b ≡ item_places E side item ++ item_places E other another
  parts_are E d r s e f =
      let x = a ++ drop m part in
      let p = front E d r (length-take-le m part (omega arith) ∙ e) in
      let n = ap length p ∙ sym e in
      let q = back E d s (ap length (part_is x m ∙ drop_at a (drop m part) m n) ∙ omega (arith, length-drop m part)) in
      ap₂ (λ l r. l ++ (b ++ r)) (take_at a (drop m part) m n) (drop_of_length-le (drop m x) {i = length x - m} (omega (arith, length-drop m x))) ∙ ap (λ l. a ++ l) (append-nil b) ∙ ap₂ ◌++◌ p q

-- both actions of an item on one side
pub pair_placed : (lists index : List ℕ) (side : Side) (i j : ℕ) (part : List ℕ) {m : ℕ} {a b : List ℕ} → m ≡ told_count index side i → length part ≡ m + told_count index side j
    → Placed lists index side (one i) (take m part) a → Placed lists index side (one j) (merges.part (a ++ drop m part) m) b
    → PlacedPair lists index side i j (parts part m a b)
pair_placed lists index side i j part e f front back E d r =
    parts_are lists index side side (one i) (one j) part front back E d r.0 r.1 (e ∙ told_one d side i r.0) (omega (arith, told_one d side j r.1))

-- both sides of an item
pub sides_placed : (lists index : List ℕ) (item : Item) (part : List ℕ) {m : ℕ} {a b : List ℕ} → m ≡ item_arcs (told_count index Inputs) item → length part ≡ m + item_arcs (told_count index Outputs) item
    → Placed lists index Inputs item (take m part) a → Placed lists index Outputs item (merges.part (a ++ drop m part) m) b
    → PlacedBoth lists index item (parts part m a b)
sides_placed lists index item part e f front back E d r told =
    parts_are lists index Inputs Outputs item item part front back E d r r (e ∙ told Inputs) (omega (arith, told Outputs))

-- ---- the actions of an item
module _ (lists index : List ℕ) (side : Side) (before after : List ℕ) where
  pub as_item : {item other : Item} → item ≡ other → Placed lists index side other before after → Placed lists index side item before after
  as_item e p = subst (λ x. Placed lists index side x before after) (sym e) p

  pub in_some_order : (i j : ℕ) {low high : ℕ} → ((low ≡ i) × (high ≡ j)) ⊎ ((low ≡ j) × (high ≡ i)) → Placed lists index side (two low high) before after → Placed lists index side (two i j) before after
  in_some_order i j (inl e) p = as_item (ap₂ two (sym e.0) (sym e.1)) p
  in_some_order i j (inr e) p = λ E d r n. let q = either_order E side i j in as_item (ap₂ two (sym e.0) (sym e.1)) p E d (r.1, r.0) (n ∙ sym (ap length q)) ∙ q
