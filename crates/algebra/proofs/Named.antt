-- 31 over all items: every item names a transition exactly when the transitions of the step are found, each with its item's actions.
-- Both follow the list of items; an item names a transition when their actions are the same numbers.
use Prim.Native.Nat.{ℕ, suc}
use mathlib.Core.Path.{◌≡◌, refl, sym, subst}
use mathlib.Core.Bool.{Bool, true, false, cond}
use mathlib.Core.List.Memᴰ
use mathlib.Core.List.{List, [], ◌∷◌, Memᴰ}
use mathlib.Core.Logic.{◌⊎◌, inl, inr}
use lib.Dec.{T}
use Rattle.field.specs.Answer.{good, refused}
use Rattle.field.proofs.Answers.{bind_good, good_not_refused, good_same}
use Rattle.field.proofs.Tests.{true_T}
use Rattle.algebra.specs.Item.{Item, same_item}
use Rattle.algebra.proofs.Items.{same_item_is, item_same}
use Rattle.algebra.specs.Net.{Transition}
use Rattle.algebra.specs.Firing.{names, named_by, transitions_named}

-- A transition of the net that has an item's actions.
pub record Names (net : List Transition) (i : Item) (t : Transition) : Type 0 where
  pub listed : Memᴰ t net
  pub item : t.item ≡ i

-- The transitions of the items, in their order.
pub data NamedAll (net : List Transition) : List Item → List Transition → Type 0 where
  no_more : NamedAll net [] []
  one_more : {i : Item} {is : List Item} {t : Transition} {ts : List Transition} → Names net i t → NamedAll net is ts → NamedAll net (i ∷ is) (t ∷ ts)

named_found : (at : ℕ) (i : Item) (net : List Transition) (t : Transition) → named_by at i net ≡ good t → Names net i t
unfolding named_by
named_found at i [] t e = good_not_refused (refused _ at) t _ at e refl
named_found at i (u ∷ net) t e = go (names i u) refl e (named_found at i net t)
  where
    go : (b : Bool) → names i u ≡ b → cond b (good u) (named_by at i net) ≡ good t → (named_by at i net ≡ good t → Names net i t) → Names (u ∷ net) i t
    go true f e r = record { listed = Memᴰ.head (sym (good_same u t e)); item = sym (unfold names in same_item_is i t.item (subst (λ v. T (names i v)) (good_same u t e) (true_T (names i u) f))) }
    go false f e r = let n = r e in record { listed = Memᴰ.tail n.listed; item = n.item }

found_named : (at : ℕ) (i : Item) (net : List Transition) (t : Transition) → Names net i t → (u : Transition) × (named_by at i net ≡ good u)
unfolding named_by
found_named at i [] t n = absurd (Memᴰ.not-nil n.listed)
found_named at i (v ∷ net) t n = go (names i v) refl (Memᴰ.cases_cons n.listed) (λ m. found_named at i net t (record { listed = m; item = n.item }))
  where
    go : (b : Bool) → names i v ≡ b → (t ≡ v) ⊎ Memᴰ t net → (Memᴰ t net → (u : Transition) × (named_by at i net ≡ good u)) → (u : Transition) × (cond b (good v) (named_by at i net) ≡ good u)
    go true f m r = (v, refl)
    go false f (inl e) r =
        let h : T (names i v) = unfold names in subst (λ w. T (same_item i w.item)) e (subst (λ j. T (same_item i j)) (sym n.item) (item_same i)) in
        absurd (subst T f h)
    go false f (inr m) r = r m

-- 31 is not given: the transitions are named.
pub all_named : (net : List Transition) (at : ℕ) (is : List Item) (ts : List Transition) → transitions_named net at is ≡ good ts → NamedAll net is ts
unfolding transitions_named
all_named net at [] ts e = subst (NamedAll net []) (good_same [] ts e) no_more
all_named net at (i ∷ is) ts e =
    let a = bind_good (named_by at i net) _ ts e in
    let b = bind_good (transitions_named net (suc at) is) _ ts a.2 in
    subst (NamedAll net (i ∷ is)) (good_same (a.0 ∷ b.0) ts b.2) (one_more (named_found at i net a.0 a.1) (all_named net (suc at) is b.0 b.1))

-- Each item names a transition: 31 is not given.
pub named_good : (net : List Transition) (at : ℕ) (is : List Item) → ((i : Item) → Memᴰ i is → (t : Transition) × Names net i t) → (ts : List Transition) × (transitions_named net at is ≡ good ts)
unfolding transitions_named
named_good net at [] f = ([], refl)
named_good net at (i ∷ is) f =
    let n = f i (Memᴰ.head refl) in
    let a = found_named at i net n.0 n.1 in
    let b = named_good net (suc at) is (λ j m. f j (Memᴰ.tail m)) in
    (a.0 ∷ b.0, rw (a.1, b.1) refl)
