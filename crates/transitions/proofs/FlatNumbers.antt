-- The three numbers of each transition: how many they are, where they stand in a list, and what a store of three leaves.
-- True by recursion on the transitions, and because a store changes nothing before it and behind it.
use Prim.Native.Nat.{ℕ, zero, suc, ◌+◌, ◌*◌, ◌-◌, ◌≤◌, ◌<◌}
use native.Mathlib.Omega.{arith}
use native.Mathlib.Numerals.{add-one, add-two}
use mathlib.Core.Path.{◌≡◌, refl, sym, ◌∙◌, ap, subst}
use mathlib.Core.List.{List, [], ◌∷◌, ◌++◌}
use lib.ListN.{length, get_or, take, drop, set, length-append, length-set, length-take, length-drop}
use Rattle.std.proofs.lemmas.List.{ext_get_or}
use lib.Seq.{sets-eq, take_at, get_or-set_other, length-take-le, get_or-take, get_or-drop, take-nil, drop-nil}
use Rattle.algebra.specs.Item.{first}
use Rattle.algebra.specs.Transitions.{Labelled}
use Rattle.field.proofs.NumbersOfRows.{length_numbers, number_of_row, numbers_set}
use Rattle.plan.proofs.Stands.{stands_second, stands_at}
use Rattle.transitions.specs.declared.Transition.{Transition}
use Rattle.transitions.specs.inner.Numbers.{flat, second, transition_numbers, list_numbers}
use Rattle.transitions.specs.inner.Listing.{Part, Stored}

pub flat_append : (ts us : List Labelled) → flat (ts ++ us) ≡ flat ts ++ flat us
unfolding flat
flat_append [] us = refl
flat_append (t ∷ ts) us = ap (λ l. t.label ∷ (first t.item ∷ (second t.item ∷ l))) (flat_append ts us)

pub flat_length : (ts : List Labelled) → length (flat ts) ≡ 3 * length ts
unfolding flat
flat_length [] = refl
flat_length (t ∷ ts) = omega (arith, flat_length ts)

-- The transition at the front of a part of a list, and the part behind it.
module _ {list : List ℕ} {t end : ℕ} (u : Labelled) (us : List Labelled) (p : Part list t end (u ∷ us)) where
  pub label_at : get_or list (3 * t) 0 ≡ u.label
  unfolding flat
  label_at = let e : 3 * t ≡ 3 * t + 0 = omega arith in ap (λ i. get_or list i 0) e ∙ p.stands 0 (omega arith)

  pub first_at : get_or list (3 * t + 1) 0 ≡ first u.item
  unfolding flat
  first_at = p.stands 1 (omega arith)

  pub second_at : get_or list (3 * t + 2) 0 ≡ second u.item
  unfolding flat
  second_at = p.stands 2 (omega arith)

  pub part_behind : Part list (t + 1) end us
  unfolding flat
  part_behind = record {
    count = omega (arith, p.count);
    stands = stands_at list (flat us) (omega arith) (stands_second list (3 * t) (u.label ∷ (first u.item ∷ (second u.item ∷ []))) (flat us) p.stands);
  }

-- A part ends where no transition is left.
pub part_over : {list : List ℕ} {t end : ℕ} (us : List Labelled) → Part list t end us → end ≤ t → us ≡ []
part_over [] p h = refl
part_over (u ∷ us) p h = absurd (omega (arith, p.count))

-- Three numbers stored.
stored : (entry : List ℕ) (t a b c : ℕ) → 3 * t + 2 < length entry → Stored t a b c entry (set (set (set entry (3 * t) a) (3 * t + 1) b) (3 * t + 2) c)
stored entry t a b c h = record {
  here = ap (take (3 * (t + 1))) all ∙ take_at (take (3 * t) entry ++ three) (drop (3 * t + 3) entry) (3 * (t + 1)) long;
  behind = λ j l.
      get_or-set_other (set (set entry (3 * t) a) (3 * t + 1) b) (3 * t + 2) j c 0 (λ e. omega arith)
      ∙ get_or-set_other (set entry (3 * t) a) (3 * t + 1) j b 0 (λ e. omega arith)
      ∙ get_or-set_other entry (3 * t) j a 0 (λ e. omega arith);
  long = length-set (set (set entry (3 * t) a) (3 * t + 1) b) (3 * t + 2) c ∙ length-set (set entry (3 * t) a) (3 * t + 1) b ∙ length-set entry (3 * t) a;
}
  where
    three : List ℕ
    three = a ∷ (b ∷ (c ∷ []))

    all : set (set (set entry (3 * t) a) (3 * t + 1) b) (3 * t + 2) c ≡ (take (3 * t) entry ++ three) ++ drop (3 * t + 3) entry
    all = rw (add-one, add-two) (sets-eq three entry (3 * t) (omega arith))

    long : length (take (3 * t) entry ++ three) ≡ 3 * (t + 1)
    long = length-append (take (3 * t) entry) three ∙ omega (arith, length-take-le (3 * t) entry (omega arith))

-- ---- a list of transitions as their numbers

pub list_length : (list : List Transition) → length (list_numbers list) ≡ 3 * length list
list_length list = length_numbers transition_numbers 3 (λ t. refl) list

module _ (list : List Transition) (t : ℕ) (d : Transition) (h : t < length list) where
  number : (j : ℕ) → j < 3 → get_or (list_numbers list) (3 * t + j) 0 ≡ get_or (transition_numbers (get_or list t d)) j 0
  number j l = number_of_row transition_numbers 3 (λ t. refl) list t j d h l

  pub label_of : get_or (list_numbers list) (3 * t) 0 ≡ (get_or list t d).label
  label_of = let e : 3 * t ≡ 3 * t + 0 = omega arith in ap (λ i. get_or (list_numbers list) i 0) e ∙ number 0 (omega arith)

  pub first_of : get_or (list_numbers list) (3 * t + 1) 0 ≡ (get_or list t d).first
  first_of = number 1 (omega arith)

  pub second_of : get_or (list_numbers list) (3 * t + 2) 0 ≡ (get_or list t d).second
  second_of = number 2 (omega arith)

-- A transition stored.
pub transition_stored : (list : List Transition) (t : ℕ) (x : Transition) → t < length list → Stored t x.label x.first x.second (list_numbers list) (list_numbers (set list t x))
transition_stored list t x h = subst (Stored t x.label x.first x.second (list_numbers list)) (sym all) (stored (list_numbers list) t x.label x.first x.second (omega (arith, list_length list)))
  where
    all : list_numbers (set list t x) ≡ set (set (set (list_numbers list) (3 * t) x.label) (3 * t + 1) x.first) (3 * t + 2) x.second
    all = numbers_set transition_numbers 3 (λ t. refl) list t x h ∙ rw (add-one, add-two) refl

list_drop : (start : ℕ) (list : List Transition) → list_numbers (drop start list) ≡ drop (3 * start) (list_numbers list)
list_drop zero list = refl
list_drop (suc n) [] = sym (drop-nil (3 * suc n))
list_drop (suc n) (x ∷ list) =
    let e : 3 * suc n ≡ suc (suc (suc (3 * n))) = omega arith in
    list_drop n list ∙ ap (λ i. drop i (list_numbers (x ∷ list))) (sym e)

pub list_take : (n : ℕ) (list : List Transition) → list_numbers (take n list) ≡ take (3 * n) (list_numbers list)
list_take zero list = refl
list_take (suc n) [] = sym (take-nil (3 * suc n))
list_take (suc n) (x ∷ list) =
    let e : 3 * suc n ≡ suc (suc (suc (3 * n))) = omega arith in
    ap (λ l. x.label ∷ (x.first ∷ (x.second ∷ l))) (list_take n list) ∙ ap (λ i. take i (list_numbers (x ∷ list))) (sym e)

-- A list is a part of itself.
pub whole_part : (list : List Transition) (ts : List Labelled) → list_numbers list ≡ flat ts → Part (list_numbers list) 0 (length list) ts
whole_part list ts e = record {
  count = omega (arith, list_length list, flat_length ts, ap length e);
  stands = λ j l. ap (λ i. get_or (list_numbers list) i 0) (let p : 3 * 0 + j ≡ j = omega arith in p) ∙ ap (λ q. get_or q j 0) e;
}

-- A part of a list, cut out.
pub part_cut : (list : List Transition) (start end : ℕ) (ts : List Labelled) → end ≤ length list → Part (list_numbers list) start end ts → list_numbers (take (end - start) (drop start list)) ≡ flat ts
part_cut list start end ts h p = ext_get_or 0 (list_numbers part) (flat ts) long same
  where
    part : List Transition
    part = take (end - start) (drop start list)

    long : length (list_numbers part) ≡ length (flat ts)
    long = list_length part ∙ ap (λ i. 3 * i) (simp (length-take, length-drop) (omega (arith, p.count))) ∙ sym (flat_length ts)

    same : (j : ℕ) → j < length (list_numbers part) → get_or (list_numbers part) j 0 ≡ get_or (flat ts) j 0
    same j l =
        ap (λ q. get_or q j 0) (list_take (end - start) (drop start list) ∙ ap (take (3 * (end - start))) (list_drop start list))
        ∙ get_or-take (3 * (end - start)) (drop (3 * start) (list_numbers list)) j 0 (omega (arith, long, p.count, flat_length ts))
        ∙ get_or-drop (3 * start) (list_numbers list) j 0
        ∙ p.stands j (omega (arith, long))
