-- Seeking the transition of two actions finds the one that an item names; and the transitions of a step's items, found one after another.
-- An item names a transition when their first and their second numbers are the same, where 65,535 is the second number of one action.
use Prim.Native.Nat.{ℕ, zero, suc, ◌+◌, ◌≤◌, ◌<◌}
use mathlib.Core.Path.{◌≡◌, refl, sym, ap, ap₂, subst, ◌∙◌}
use mathlib.Core.List.{List, [], ◌∷◌, ◌++◌, map, append-nil}
use mathlib.Core.Bool.{Bool, true, false, cond, ◌&&◌}
use native.Mathlib.Nat.{add-suc, suc-add}
use native.Mathlib.Numerals.{add-one}
use native.Mathlib.Omega.{arith}
use borrow.Author.Tests.{eqb-true, eqb-false, eq-eqb, ne_eqb, lt-ltb, le-ltb}
use lib.ListN.{length, get_or, set, take, drop, drop_of_length-le}
use lib.Seq.{drop-cons, take-suc-set, take_all, get_or-set_same, get_or-set_other}
use lib.Dec.{eqb, ltb}
use Rattle.field.specs.Refusals.{no_transition}
use Rattle.field.specs.Answer.{good, refused}
use Rattle.algebra.specs.Item.{Item, same_item}
use Rattle.algebra.specs.Net.{Transition}
use Rattle.algebra.specs.Firing.{names, named_by, transitions_named}
use Rattle.net.specs.Tables.{none, item_of, transition_at, transitions_from}
use Rattle.std.specs.Prelude.{None, Some}
use Rattle.form.specs.inner.FormSays.{code_item}
use Rattle.form.specs.declared.Item as code
use Rattle.net.specs.inner.Chains.{in_row, with_first, Chains}
use Rattle.net.proofs.Walks.{ahead, Stands, walk_starts, walk_goes_on, walk_ends}
use Rattle.moving.specs.inner.InOrder.{rows_and_arcs, transition_in, transitions_within}
use Rattle.step.specs.inner.Naming.{seek, seek_in, Found, ItemFound, ItemMissed}
use Rattle.field.proofs.Tests.{test}
use Rattle.form.proofs.ItemLists.{behind, behind_behind}

and_true : (b : Bool) → (b && true) ≡ b
and_true true = refl
and_true false = refl

and_false : (b : Bool) → (b && false) ≡ false
and_false true = refl
and_false false = refl

same_pair : (i j a b : ℕ) → same_item (item_of i j) (item_of a b) ≡ (eqb i a && eqb j b)
unfolding same_item
same_pair i j a b =
    test (eqb j none)
    (λ p. test (eqb b none)
    (λ q. rw (p, q, eq-eqb j b (eqb-true j none p ∙ sym (eqb-true b none q))) (sym (and_true (eqb i a))))
    (λ q. rw (p, q, ne_eqb j b (λ e. absurd (eqb-false b none q (sym e ∙ eqb-true j none p)))) (sym (and_false (eqb i a)))))
    (λ p. test (eqb b none)
    (λ q. rw (p, q, ne_eqb j b (λ e. absurd (eqb-false j none p (e ∙ eqb-true b none q)))) (sym (and_false (eqb i a))))
    (λ q. rw (p, q)))

-- Of all transitions those of the first action are enough to look at.
seek_chain : (rows : List ℕ) (i j t m n : ℕ) → t + m ≡ n → seek rows i j t m ≡ seek_in rows j n (with_first rows i t m)
unfolding seek seek_in with_first
seek_chain rows i j t zero n e = omega arith
seek_chain rows i j t (suc m) n e =
    test (eqb (in_row rows t 1) i)
    (λ a.
    rw (a, eq-eqb i (in_row rows t 1) (sym (eqb-true (in_row rows t 1) i a)))
    (ap (λ (x : ℕ). cond (eqb j (in_row rows t 2)) t x) (seek_chain rows i j (suc t) m n (omega arith))))
    (λ a. rw (a, ne_eqb i (in_row rows t 1) (λ f. absurd (eqb-false (in_row rows t 1) i a (sym f)))) (seek_chain rows i j (suc t) m n (omega arith)))

-- the walk of a chain
module _ (rows next : List ℕ) (i j n : ℕ) (few : n ≤ none) where
  pub seek_starts : (head : List ℕ) → Chains rows n head next → i < 256 → (t : ℕ) → t ≡ get_or head i 0
      → Stands rows n next i t × (seek rows i j 0 n ≡ seek_in rows j n (ahead rows n i t))
  seek_starts head c h t e =
      let w = walk_starts rows next i n few head c h in
      subst (λ (x : ℕ). Stands rows n next i x × (seek rows i j 0 n ≡ seek_in rows j n (ahead rows n i x))) (sym e)
      (w.1, seek_chain rows i j 0 n n (omega arith) ∙ ap (seek_in rows j n) w.0)

  module _ (t : ℕ) (h : t < n) (s : Stands rows n next i t) (b : ℕ) (p : b ≡ in_row rows t 2) where
    pub seek_here : j ≡ b → seek_in rows j n (ahead rows n i t) ≡ t
    unfolding seek_in
    seek_here e = rw ((walk_goes_on rows next i n few t h s).0, ← p, eq-eqb j b e)

    pub seek_on : (j ≡ b → ⊥) → (u : ℕ) → u ≡ get_or next t 0 → seek_in rows j n (ahead rows n i t) ≡ seek_in rows j n (ahead rows n i u)
    unfolding seek_in
    seek_on e u f = rw ((walk_goes_on rows next i n few t h s).0, ← p, ne_eqb j b e, f)

    pub walk_on : (u : ℕ) → u ≡ get_or next t 0 → (t < u) × Stands rows n next i u
    walk_on u f = let w = walk_goes_on rows next i n few t h s in subst (λ (x : ℕ). (t < x) × Stands rows n next i x) (sym f) (w.1, w.2)

  pub seek_ends : (t : ℕ) → n ≤ t → seek_in rows j n (ahead rows n i t) ≡ n
  unfolding seek_in
  seek_ends t h = rw (walk_ends rows next i n t h)

-- what the search found is what the item names
module _ (rows arcs : List ℕ) (i j : ℕ) where
  named_from : (at t n : ℕ) → named_by at (item_of i j) (transitions_from (rows_and_arcs rows arcs) t n)
      ≡ cond (ltb (seek rows i j t n) (t + n)) (good (transition_in rows arcs (seek rows i j t n))) (refused no_transition at)
  unfolding named_by names transitions_from transition_at seek
  named_from at t zero = rw (le-ltb t (t + 0) (omega arith))
  named_from at t (suc n) =
      rw (same_pair i j (in_row rows t 1) (in_row rows t 2))
      (test (eqb i (in_row rows t 1) && eqb j (in_row rows t 2))
      (λ e. rw (e, lt-ltb t (t + suc n) (omega arith)))
      (λ e. rw (e, add-suc t n, ← suc-add t n) (named_from at (suc t) n)))

  pub named_found : (at n t : ℕ) → t ≡ seek rows i j 0 n → t < n → named_by at (item_of i j) (transitions_within rows arcs n) ≡ good (transition_in rows arcs t)
  named_found at n t e h = named_from at 0 n ∙ rw (← e, lt-ltb t (0 + n) (omega arith))

  pub named_none : (at n t : ℕ) → t ≡ seek rows i j 0 n → n ≤ t → named_by at (item_of i j) (transitions_within rows arcs n) ≡ refused no_transition at
  named_none at n t e h = named_from at 0 n ∙ rw (← e, le-ltb t (0 + n) (omega arith))

-- What the search found is what an item names whose actions have these numbers.
module _ (rows arcs : List ℕ) (n i j : ℕ) (item : Item) (same : item ≡ item_of i j) (t : ℕ) (e : t ≡ seek rows i j 0 n) where
  pub found_some : t < n → Found rows arcs n item (Some t)
  found_some h = (h, λ at. ap (λ (k : Item). named_by at k (transitions_within rows arcs n)) same ∙ named_found rows arcs i j at n t e h)

  pub found_none : n ≤ t → Found rows arcs n item None
  found_none h at = ap (λ (k : Item). named_by at k (transitions_within rows arcs n)) same ∙ named_none rows arcs i j at n t e h

map_snoc : {A B : Type 0} (f : A → B) (xs : List A) (x : A) → map f (xs ++ (x ∷ [])) ≡ map f xs ++ (f x ∷ [])
map_snoc f [] x = refl
map_snoc f (y ∷ xs) x = ap (λ (l : List _). f y ∷ l) (map_snoc f xs x)

-- The loop over the items stands at item k; those before it name the transitions that stand in a list.
module _ (rows arcs : List ℕ) (items : List code.Item) (n k : ℕ) (ts : List ℕ)
    (inv : transitions_named (transitions_within rows arcs n) 0 (map code_item items)
    ≡ behind (map (transition_in rows arcs) (take k ts)) (transitions_named (transitions_within rows arcs n) k (map code_item (drop k items)))) where
  pub naming_end : length items ≤ k → length ts ≤ k → ItemFound rows arcs n (map code_item items) ts
  unfolding transitions_named
  naming_end h l = inv ∙ rw (drop_of_length-le items h, take_all k ts l, append-nil (map (transition_in rows arcs) ts))

  module _ (h : k < length items) (item : code.Item) (p : item ≡ get_or items k (record { first = 0; second = None })) where
    here : map code_item (drop k items) ≡ code_item item ∷ map code_item (drop (k + 1) items)
    here = rw (drop-cons items k (record { first = 0; second = None }) h, ← p, add-one)

    pub naming_none : Found rows arcs n (code_item item) None → ItemMissed rows arcs n (map code_item items) k
    unfolding transitions_named
    naming_none f = inv ∙ rw (here, f k)

    pub naming_turn : (t : ℕ) → Found rows arcs n (code_item item) (Some t) → k < length ts → transitions_named (transitions_within rows arcs n) 0 (map code_item items)
        ≡ behind (map (transition_in rows arcs) (take (k + 1) (set ts k t))) (transitions_named (transitions_within rows arcs n) (k + 1) (map code_item (drop (k + 1) items)))
    unfolding transitions_named
    naming_turn t f m =
        inv ∙ rw (here, f.1 k)
        (behind_behind (map (transition_in rows arcs) (take k ts)) (transition_in rows arcs t ∷ []) (transitions_named (transitions_within rows arcs n) (suc k) (map code_item (drop (k + 1) items)))
        ∙ ap₂ (λ (us : List Transition) (m : ℕ). behind us (transitions_named (transitions_within rows arcs n) m (map code_item (drop (k + 1) items))))
        (sym (ap (map (transition_in rows arcs)) (ap (λ (m : ℕ). take m (set ts k t)) (add-one k) ∙ take-suc-set ts k t m) ∙ map_snoc (transition_in rows arcs) (take k ts) t)) (sym (add-one k)))

-- One more number below a limit is stored.
pub below_set : (ts : List ℕ) (k t n : ℕ) → k < length ts → ((i d : ℕ) → i < k → get_or ts i d < n) → t < n → (i d : ℕ) → i < k + 1 → get_or (set ts k t) i d < n
below_set ts k t n h below lt i d l =
    test (eqb i k)
    (λ e. subst (λ (j : ℕ). get_or (set ts k t) j d < n) (sym (eqb-true i k e)) (subst (λ (x : ℕ). x < n) (sym (get_or-set_same ts k t d h)) lt))
    (λ e. let ne : i ≡ k → ⊥ = eqb-false i k e in subst (λ (x : ℕ). x < n) (sym (get_or-set_other ts k i t d ne)) (below i d (omega arith)))
