-- As many places as the index tells of an item are the item's, on each side; and as many arcs as it tells of the listed transitions are the net's.
-- True because the index tells each action's places, and the two actions of a joined transition share none.
use Prim.Native.Nat.{ℕ, suc, ◌+◌, ◌*◌, ◌-◌, ◌≤◌, ◌<◌}
use native.Mathlib.Omega.{arith}
use mathlib.Core.Path.{◌≡◌, refl, sym, ◌∙◌, ap, ap₂}
use mathlib.Core.List.{List, [], ◌∷◌, Memᴰ}
use lib.ListN.{length, get_or}
use Rattle.algebra.specs.Expr.{Expr, actions}
use Rattle.algebra.specs.Item.{Item, one, two}
use Rattle.algebra.specs.Places.{places}
use Rattle.algebra.specs.Transitions.{Labelled, transitions}
use Rattle.algebra.specs.Arcs.{by_item, net_of}
use Rattle.algebra.proofs.EveryStepHasAnInput.{InRange, items_in_range}
use Rattle.algebra.proofs.JoinedApart.{joined_inputs, joined_outputs}
use Rattle.net.specs.Tables.{item_of, arcs_of}
use Rattle.boxes.specs.inner.ArcCounts.{item_arcs, listed_arcs, action_arcs}
use Rattle.boxes.proofs.ArcsCounted.{arcs_counted, listed_arcs_same}
use Rattle.arcs.specs.inner.Moves.{passes}
use Rattle.net.specs.declared.Side.{Side}
use Rattle.net.specs.declared.Side.TheVariants.{Inputs, Outputs}
use Rattle.arcs.proofs.Transitions.{numbers_few}
use Rattle.sides.specs.inner.Sides.{told_count, told_arcs, item_places, Below, Drafted}
use Rattle.sides.proofs.Told.{told_one}
use Rattle.transitions.specs.declared.Transition as declared
use Rattle.transitions.specs.inner.Numbers.{list_numbers}
use Rattle.transitions.proofs.FlatNumbers.{list_length, label_of, first_of, second_of}
use Rattle.tables.specs.inner.Rows.{no_transition, item_at, listed_at, listed_from, Whole}

-- The arcs of an item are those of its two sides.
pub both_sides : (index : List ℕ) (item : Item) → item_arcs (told_arcs index) item ≡ item_arcs (told_count index Inputs) item + item_arcs (told_count index Outputs) item
both_sides index (one i) = refl
both_sides index (two i j) = omega arith

-- The item is read from the list as two numbers.
module _ (index list : List ℕ) (t : ℕ) {i j : ℕ} (a : i ≡ get_or list (3 * t + 1) 0) (b : j ≡ get_or list (3 * t + 2) 0) where
  pub side_told : (side : Side) {n : ℕ} → n ≡ item_arcs (told_count index side) (item_of i j) → n ≡ item_arcs (told_count index side) (item_at list t)
  side_told side e = e ∙ ap₂ (λ k l. item_arcs (told_count index side) (item_of k l)) a b

  pub sides_told : {n m : ℕ} → n ≡ item_arcs (told_count index Inputs) (item_of i j) → m ≡ item_arcs (told_count index Outputs) (item_of i j) → n + m ≡ item_arcs (told_arcs index) (item_at list t)
  sides_told e f = ap₂ ◌+◌ (side_told Inputs e) (side_told Outputs f) ∙ sym (both_sides index (item_at list t))

-- Transition k of a list, by the list's numbers.
module _ (index : List ℕ) (list : List declared.Transition) (k : ℕ) (room : 3 * (k + 1) ≤ length (list_numbers list)) where
  abbrev it : declared.Transition
  it = get_or list k no_transition

  pub inside : k < length list
  inside = omega (arith, list_length list)

  pub label_is : it.label ≡ get_or (list_numbers list) (3 * k) 0
  label_is = sym (label_of list k no_transition inside)

  pub first_is : it.first ≡ get_or (list_numbers list) (3 * k + 1) 0
  first_is = sym (first_of list k no_transition inside)

  pub second_is : it.second ≡ get_or (list_numbers list) (3 * k + 2) 0
  second_is = sym (second_of list k no_transition inside)

  pub side_is : (side : Side) {n : ℕ} → n ≡ item_arcs (told_count index side) (item_of it.first it.second) → n ≡ item_arcs (told_count index side) (item_at (list_numbers list) k)
  side_is = side_told index (list_numbers list) k first_is second_is

  pub arcs_are : {n m : ℕ} → n ≡ item_arcs (told_count index Inputs) (item_of it.first it.second) → m ≡ item_arcs (told_count index Outputs) (item_of it.first it.second)
      → n + m ≡ item_arcs (told_arcs index) (item_at (list_numbers list) k)
  arcs_are = sides_told index (list_numbers list) k first_is second_is

-- ---- the list, from one transition to the next
pub listed_next : (list : List ℕ) (t many : ℕ) → t < many → listed_from list t (many - t) ≡ listed_at list t ∷ listed_from list (t + 1) (many - (t + 1))
unfolding listed_from
listed_next list t many h =
    let e : many - t ≡ suc (many - (t + 1)) = omega arith in
    let f : suc t ≡ t + 1 = omega arith in
    ap (listed_from list t) e ∙ ap (λ k. listed_at list t ∷ listed_from list k (many - (t + 1))) f

pub listed_none : (list : List ℕ) (t many : ℕ) → many ≤ t → listed_from list t (many - t) ≡ []
unfolding listed_from
listed_none list t many h = let e : many - t ≡ 0 = omega arith in ap (listed_from list t) e

-- Before transition t: the arcs so far, and those of the rest, are all.
pub record Counts (w : ℕ → ℕ) (list : List ℕ) (t many at : ℕ) : Type 0 where
  pub all : at + listed_arcs w (listed_from list t (many - t)) ≡ listed_arcs w (listed_from list 0 many)

pub none_counted : (w : ℕ → ℕ) (list : List ℕ) (many : ℕ) → Counts w list 0 many 0
none_counted w list many = let e : many - 0 ≡ many = omega arith in record { all = omega (arith, ap (λ n. listed_arcs w (listed_from list 0 n)) e) }

module _ {w : ℕ → ℕ} {list : List ℕ} {t many at : ℕ} (c : Counts w list t many at) where
  arcs_next : t < many → listed_arcs w (listed_from list t (many - t)) ≡ item_arcs w (item_at list t) + listed_arcs w (listed_from list (t + 1) (many - (t + 1)))
  unfolding listed_arcs
  arcs_next h = ap (listed_arcs w) (listed_next list t many h)

  arcs_none : many ≤ t → listed_arcs w (listed_from list t (many - t)) ≡ 0
  unfolding listed_arcs
  arcs_none h = ap (listed_arcs w) (listed_none list t many h)

  pub one_counted : t < many → at + item_arcs w (item_at list t) ≤ listed_arcs w (listed_from list 0 many)
  one_counted h = omega (arith, arcs_next h)

  pub next_counted : {end : ℕ} → t < many → end ≡ at + item_arcs w (item_at list t) → Counts w list (t + 1) many end
  next_counted h e = record { all = omega (arith, arcs_next h) }

  pub all_counted : many ≤ t → at ≡ listed_arcs w (listed_from list 0 many)
  all_counted h = omega (arith, arcs_none h)

-- ---- what an expression's tables tell
module _ {lists index : List ℕ} {E : Expr} (d : Drafted lists index E) where
  -- ---- an item that the expression has
  module _ (x : Labelled) (m : Memᴰ x (transitions 0 E)) where
    pair_length : (side : Side) (i j : ℕ) → x.item ≡ two i j → length (item_places E side (two i j)) ≡ length (item_places E side (one i)) + length (item_places E side (one j))
    pair_length Inputs = joined_inputs E d.loops d.scopes x m
    pair_length Outputs = joined_outputs E d.loops d.scopes x m

    pub its_actions : Below (actions E) x.item
    its_actions = go x.item (items_in_range 0 E x m)
      where
        go : (t : Item) → InRange 0 (0 + actions E) t → Below (actions E) t
        go (one i) r = omega arith
        go (two i j) r = (omega arith, omega arith)

    pub item_told : (side : Side) → item_arcs (told_count index side) x.item ≡ length (item_places E side x.item)
    item_told side = go x.item refl its_actions
      where
        go : (t : Item) → x.item ≡ t → Below (actions E) t → item_arcs (told_count index side) t ≡ length (item_places E side t)
        go (one i) e r = told_one d side i r
        go (two i j) e r = omega (arith, told_one d side i r.0, told_one d side j r.1, pair_length side i j e)

    pub item_few : (side : Side) → item_arcs (told_count index side) x.item ≤ 2048
    item_few side = omega (arith, item_told side, numbers_few (by_item (passes side) x.item) (places 0 E), d.few)

    action_by_action : item_arcs (told_arcs index) x.item ≡ item_arcs (action_arcs E) x.item
    action_by_action = go x.item its_actions
      where
        go : (t : Item) → Below (actions E) t → item_arcs (told_arcs index) t ≡ item_arcs (action_arcs E) t
        go (one i) r = omega (arith, told_one d Inputs i r, told_one d Outputs i r)
        go (two i j) r = omega (arith, told_one d Inputs i r.0, told_one d Outputs i r.0, told_one d Inputs j r.1, told_one d Outputs j r.1)

pub arcs_told : {lists index list : List ℕ} {many : ℕ} (E : Expr) → Whole lists index list many E → listed_arcs (told_arcs index) (listed_from list 0 many) ≡ length (arcs_of (net_of E))
arcs_told {index = index} E w =
    ap (listed_arcs (told_arcs index)) w.listed ∙ listed_arcs_same (told_arcs index) (action_arcs E) (transitions 0 E) (action_by_action w.draft) ∙ arcs_counted E w.draft.loops w.draft.scopes
