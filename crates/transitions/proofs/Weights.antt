-- How long a list of transitions can be: no longer than the actions and the joined pairs together; and no scope takes a pair away.
-- True because every other transition is a single action of its own, and because a pair is silent while a scope's byte is at least 1.
use Prim.Native.Nat.{ℕ, ◌+◌, ◌≤◌}
use native.Mathlib.Omega.{arith}
use mathlib.Core.Path.{◌≡◌, refl, ◌∙◌}
use mathlib.Core.Bool.{Bool, true, false, cond, not, ◌&&◌}
use mathlib.Core.List.{List, [], ◌∷◌, ◌++◌, Memᴰ}
use lib.ListN.{length, length-append, length-map}
use lib.Dec.{eqb}
use borrow.Author.Tests.{eqb-true}
use Rattle.algebra.specs.Expr.{Expr, action, sequence, choice, parallel, loop, scope, actions}
use Rattle.algebra.specs.Item.{Item, one, two, first}
use Rattle.algebra.specs.Transitions.{Labelled, select, labelled, stays, kept, joined, transitions, part_at_parallel}
use Rattle.algebra.proofs.ListedItems.{item_label, listed_label}
use Rattle.transitions.specs.inner.Listing.{pair_of, pairs, firsts, pairs_with, pairs_of, joined_pair}
use Rattle.transitions.proofs.JoinedPairs.{joined_pairs}

pub pairs_append : (ts us : List Labelled) → pairs (ts ++ us) ≡ pairs ts + pairs us
unfolding pairs
pairs_append [] us = omega arith
pairs_append (t ∷ ts) us = omega (arith, pairs_append ts us)

pair_small : (x : Item) → pair_of x ≤ 1
pair_small (one i) = omega arith
pair_small (two i j) = omega arith

pub pairs_within : (ts : List Labelled) → pairs ts ≤ length ts
unfolding pairs
pairs_within [] = omega arith
pairs_within (t ∷ ts) = omega (arith, pair_small t.item, pairs_within ts)

-- What is joined is a pair.
pub pairs_with_all : (part : ℕ → ℕ → Bool) (i : ℕ) (js : List ℕ) → pairs (pairs_with part i js) ≡ length (pairs_with part i js)
unfolding pairs pairs_with
pairs_with_all part i [] = refl
pairs_with_all part i (j ∷ js) = go (part i j) (pairs_with_all part i js)
  where
    go : (b : Bool) → pairs (pairs_with part i js) ≡ length (pairs_with part i js) → pairs (cond b (joined_pair i j ∷ pairs_with part i js) (pairs_with part i js)) ≡ length (cond b (joined_pair i j ∷ pairs_with part i js) (pairs_with part i js))
    go true e = omega arith
    go false e = e

pub pairs_of_all : (part : ℕ → ℕ → Bool) (is js : List ℕ) → pairs (pairs_of part is js) ≡ length (pairs_of part is js)
unfolding pairs_of pairs
pairs_of_all part [] js = refl
pairs_of_all part (i ∷ is) js =
    omega (
      arith,
      pairs_append (pairs_with part i js) (pairs_of part is js),
      length-append (pairs_with part i js) (pairs_of part is js),
      pairs_with_all part i js,
      pairs_of_all part is js,
    )

joined_all : (n : ℕ) (E : Expr) (a : ℕ) (ts : List Labelled) → pairs (joined n E a ts) ≡ length (joined n E a ts)
joined_all n E a ts = rw (joined_pairs n E a ts) (pairs_of_all (part_at_parallel n E) (firsts a ts) (firsts (a + 128) ts))

-- A selection loses no more pairs than transitions.
select_weight : (ok : Labelled → Bool) (ts : List Labelled) → length (select ok ts) + pairs ts ≤ length ts + pairs (select ok ts)
unfolding select pairs
select_weight ok [] = omega arith
select_weight ok (t ∷ ts) = go (ok t) (select_weight ok ts)
  where
    go : (b : Bool) → length (select ok ts) + pairs ts ≤ length ts + pairs (select ok ts) → length (cond b (t ∷ select ok ts) (select ok ts)) + (pair_of t.item + pairs ts) ≤ length (t ∷ ts) + pairs (cond b (t ∷ select ok ts) (select ok ts))
    go true h = omega arith
    go false h = omega (arith, pair_small t.item)

-- The weights of two lists are that of both.
joined_weight : (a b : ℕ) (ts us : List Labelled) → length ts ≤ a + pairs ts → length us ≤ b + pairs us → length (ts ++ us) ≤ a + b + pairs (ts ++ us)
joined_weight a b ts us h k = omega (arith, length-append ts us, pairs_append ts us)

pub transitions_weight : (n : ℕ) (E : Expr) → length (transitions n E) ≤ actions E + pairs (transitions n E)
unfolding transitions pairs kept
transitions_weight n (action l) = omega arith
transitions_weight n (sequence E F) = joined_weight (actions E) (actions F) (transitions n E) (transitions (n + actions E) F) (transitions_weight n E) (transitions_weight (n + actions E) F)
transitions_weight n (choice E F) = joined_weight (actions E) (actions F) (transitions n E) (transitions (n + actions E) F) (transitions_weight n E) (transitions_weight (n + actions E) F)
transitions_weight n (parallel E F) = joined_weight (actions E) (actions F) (transitions n E) (transitions (n + actions E) F) (transitions_weight n E) (transitions_weight (n + actions E) F)
transitions_weight n (loop E F G) =
    let ts = transitions (n + actions E) F in
    let us = transitions (n + actions E + actions F) G in
    let h = joined_weight (actions E) (actions F + actions G) (transitions n E) (ts ++ us) (transitions_weight n E) (joined_weight (actions F) (actions G) ts us (transitions_weight (n + actions E) F) (transitions_weight (n + actions E + actions F) G)) in
    omega arith
transitions_weight n (scope a E) =
    let ts = transitions n E in
    omega (
      arith,
      transitions_weight n E,
      select_weight (stays a) ts,
      joined_all n E a ts,
      length-append (kept a ts) (joined n E a ts),
      pairs_append (kept a ts) (joined n E a ts),
    )

-- What a scope keeps is no longer than the actions and the pairs that it keeps.
pub kept_weight : (n a : ℕ) (E : Expr) → length (kept a (transitions n E)) ≤ actions E + pairs (kept a (transitions n E))
unfolding kept
kept_weight n a E = omega (arith, select_weight (stays a) (transitions n E), transitions_weight n E)

-- Every pair is silent.
abbrev Silent : List Labelled → Type 0
Silent ts = (t : Labelled) → Memᴰ t ts → 1 ≤ pair_of t.item → t.label ≡ 0

transitions_silent : (n : ℕ) (E : Expr) → Silent (transitions n E)
transitions_silent n E t m h = listed_label n E t m ∙ go t.item h
  where
    go : (x : Item) → 1 ≤ pair_of x → item_label n E x ≡ 0
    go (one i) h = absurd (omega arith)
    go (two i j) h = refl

module _ (a : ℕ) (name : 1 ≤ a) where
  -- No pair has a name or its conjugate for its label.
  not_named : (t : Labelled) (b : ℕ) → 1 ≤ b → (1 ≤ pair_of t.item → t.label ≡ 0) → eqb t.label b ≡ true → pair_of t.item ≡ 0
  not_named t b h s e = go t.item s
    where
      go : (x : Item) → (1 ≤ pair_of x → t.label ≡ 0) → pair_of x ≡ 0
      go (one i) s = refl
      go (two i j) s = absurd (omega (arith, s (omega arith), eqb-true t.label b e))

  -- A scope takes no pair away.
  kept_pairs : (ts : List Labelled) → Silent ts → pairs ts ≤ pairs (kept a ts)
  unfolding kept select pairs
  kept_pairs [] s = omega arith
  kept_pairs (t ∷ ts) s = go (eqb t.label a) (eqb t.label (a + 128)) refl refl (kept_pairs ts (λ u m. s u (Memᴰ.tail m)))
    where
      mine : 1 ≤ pair_of t.item → t.label ≡ 0
      mine = s t (Memᴰ.head refl)

      go : (b c : Bool) → eqb t.label a ≡ b → eqb t.label (a + 128) ≡ c → pairs ts ≤ pairs (select (stays a) ts)
          → pair_of t.item + pairs ts ≤ pairs (cond (not b && not c) (t ∷ select (stays a) ts) (select (stays a) ts))
      go true c e f h = omega (arith, not_named t a name mine e)
      go false true e f h = omega (arith, not_named t (a + 128) (omega arith) mine f)
      go false false e f h = omega arith

  -- Those with a name are single actions.
  labelled_few : (b : ℕ) → 1 ≤ b → (ts : List Labelled) → Silent ts → length (select (labelled b) ts) + pairs ts ≤ length ts
  unfolding select pairs
  labelled_few b h [] s = omega arith
  labelled_few b h (t ∷ ts) s = go (eqb t.label b) refl (labelled_few b h ts (λ u m. s u (Memᴰ.tail m)))
    where
      go : (c : Bool) → eqb t.label b ≡ c → length (select (labelled b) ts) + pairs ts ≤ length ts
          → length (cond c (t ∷ select (labelled b) ts) (select (labelled b) ts)) + (pair_of t.item + pairs ts) ≤ length (t ∷ ts)
      go true e k = omega (arith, not_named t b h (s t (Memᴰ.head refl)) e)
      go false e k = omega (arith, pair_small t.item)

  pub scope_pairs : (n : ℕ) (E : Expr) → pairs (transitions n E) ≤ pairs (transitions n (scope a E))
  unfolding transitions
  scope_pairs n E =
      let ts = transitions n E in
      omega (arith, kept_pairs ts (transitions_silent n E), pairs_append (kept a ts) (joined n E a ts))

  pub firsts_few : (b : ℕ) → 1 ≤ b → (n : ℕ) (E : Expr) → length (firsts b (transitions n E)) ≤ actions E
  unfolding firsts
  firsts_few b h n E =
      let ts = transitions n E in
      omega (arith, length-map (select (labelled b) ts) (λ t. first t.item), labelled_few b h ts (transitions_silent n E), transitions_weight n E)
