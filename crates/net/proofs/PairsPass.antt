-- The test chain by chain is the test of every two transitions: where labels and actions fit, no pair of actions stands twice exactly if on no chain a second action does.
-- True because two transitions have the same item exactly if they have the same first action and the same second, or none both.
use Prim.Native.Nat.{ℕ, zero, suc, ◌+◌, ◌≤◌, ◌<◌, min}
use mathlib.Core.Path.{◌≡◌, refl, sym, ap, ap₂, subst⁻¹, ◌∙◌}
use mathlib.Core.List.{List, map}
use mathlib.Core.Bool.{Bool, true, false, cond, not, ◌&&◌, ◌||◌}
use mathlib.Core.Logic.{◌⊎◌, inl, inr, ⊎_elim}
use native.Mathlib.Omega.{arith}
use borrow.Author.Tests.{eqb-true, eqb-false, eq-eqb, ne_eqb}
use lib.Dec.{T, eqb, leb, eqb→eq, leb→le}
use Rattle.field.specs.Lists.{all}
use Rattle.field.proofs.Tests.{and_parts, or_cases}
use Rattle.field.proofs.Alls.{and_assoc}
use Rattle.algebra.specs.Item.{one, two, same_item}
use Rattle.algebra.specs.Net.{Transition}
use Rattle.net.specs.Tables.{Tables, number, none, item_of, transition_at, transitions_from}
use Rattle.net.specs.Check.{codes_fit, pairs_differ}
use Rattle.net.specs.inner.Chains.{keep, with_first}
use Rattle.net.specs.inner.Passes.{codes_pass, second_or_256, differ, seconds_differ, each, pairs_pass}
use Rattle.net.proofs.RowsPass.{codes_are}

-- A second number that may stand in a row.
abbrev Second : ℕ → Type 0
Second j = (j ≡ none) ⊎ (j ≤ 255)

-- 256 can stand for none among the seconds.
min_same : (j k : ℕ) → Second j → Second k → eqb (min j 256) (min k 256) ≡ eqb j k
min_same j k (inl e) (inl f) = eq-eqb (min j 256) (min k 256) (omega arith) ∙ sym (eq-eqb j k (omega arith))
min_same j k (inl e) (inr f) = ne_eqb (min j 256) (min k 256) (λ z. omega arith) ∙ sym (ne_eqb j k (λ z. omega arith))
min_same j k (inr e) (inl f) = ne_eqb (min j 256) (min k 256) (λ z. omega arith) ∙ sym (ne_eqb j k (λ z. omega arith))
min_same j k (inr e) (inr f) = ap₂ eqb (let z : min j 256 ≡ j = omega arith in z) (let z : min k 256 ≡ k = omega arith in z)

eqb_swap : (a b : ℕ) → eqb a b ≡ eqb b a
eqb_swap a b = go (eqb b a) (eqb-true b a) (eqb-false b a)
  where
    go : (c : Bool) → (c ≡ true → b ≡ a) → (c ≡ false → b ≡ a → ⊥) → eqb a b ≡ c
    go true same unlike = eq-eqb a b (sym (same refl))
    go false same unlike = ne_eqb a b (λ e. unlike refl (sym e))

-- Two items are the same if first and second are.
same_item_is : (f j g k : ℕ) → same_item (item_of f j) (item_of g k) ≡ (eqb f g && eqb j k)
unfolding same_item
same_item_is f j g k = go (eqb j none) refl (eqb k none) refl
  where
    none_false : (a b : Bool) → b ≡ false → false ≡ (a && b)
    none_false true b e = sym e
    none_false false b e = refl

    and_yes : (a b : Bool) → b ≡ true → a ≡ (a && b)
    and_yes true b e = sym e
    and_yes false b e = refl

    go : (b : Bool) → eqb j none ≡ b → (c : Bool) → eqb k none ≡ c
        → same_item (cond b (one f) (two f j)) (cond c (one g) (two g k)) ≡ (eqb f g && eqb j k)
    go true p true q = and_yes (eqb f g) (eqb j k) (eq-eqb j k (eqb-true j none p ∙ sym (eqb-true k none q)))
    go true p false q = none_false (eqb f g) (eqb j k) (ne_eqb j k (λ e. eqb-false k none q (sym e ∙ eqb-true j none p)))
    go false p true q = none_false (eqb f g) (eqb j k) (ne_eqb j k (λ e. eqb-false j none p (e ∙ eqb-true k none q)))
    go false p false q = refl

-- ---- tests of numbers from i on
each_true : (i m : ℕ) → each (λ j. true) i m ≡ true
unfolding each
each_true i zero = refl
each_true i (suc m) = each_true (suc i) m

each_same : (f g : ℕ → Bool) → ((j : ℕ) → f j ≡ g j) → (i m : ℕ) → each f i m ≡ each g i m
unfolding each
each_same f g e i zero = refl
each_same f g e i (suc m) = ap₂ ◌&&◌ (e i) (each_same f g e (suc i) m)

-- One number has a test more.
abbrev one_more : ℕ → Bool → (ℕ → Bool) → ℕ → Bool
one_more k more f j = cond (eqb k j) (more && f j) (f j)

each_past : (k : ℕ) (more : Bool) (f : ℕ → Bool) (i m : ℕ) → k < i → each (one_more k more f) i m ≡ each f i m
unfolding each
each_past k more f i zero h = refl
each_past k more f i (suc m) h =
    ap₂ ◌&&◌ (ap (λ (b : Bool). cond b (more && f i) (f i)) (ne_eqb k i (λ e. omega arith))) (each_past k more f (suc i) m (omega arith))

each_one : (k : ℕ) (more : Bool) (f : ℕ → Bool) (i m : ℕ) → i ≤ k → k < i + m → each (one_more k more f) i m ≡ (more && each f i m)
unfolding each
each_one k more f i zero l h = absurd (omega arith)
each_one k more f i (suc m) l h = go (eqb k i) (eqb-true k i) (eqb-false k i) (λ q. each_one k more f (suc i) m q (omega arith))
  where
    swap : (a b c : Bool) → (a && (b && c)) ≡ (b && (a && c))
    swap true b c = refl
    swap false true c = refl
    swap false false c = refl

    go : (b : Bool) → (b ≡ true → k ≡ i) → (b ≡ false → k ≡ i → ⊥) → (suc i ≤ k → each (one_more k more f) (suc i) m ≡ (more && each f (suc i) m))
        → (cond b (more && f i) (f i) && each (one_more k more f) (suc i) m) ≡ (more && (f i && each f (suc i) m))
    go true same unlike rest =
        ap (λ (b : Bool). (more && f i) && b) (each_past k more f (suc i) m (omega (arith, same refl))) ∙ and_assoc more (f i) (each f (suc i) m)
    go false same unlike rest =
        ap (λ (b : Bool). f i && b) (rest (let z : suc i ≤ k = omega (arith, unlike refl) in z)) ∙ swap (f i) more (each f (suc i) m)

module _ (tables : Tables) where
  -- What a row that fits says of its two actions.
  row_actions : (t : ℕ) → T (codes_fit (transition_at tables t)) → (number tables t 1 ≤ 255) × Second (number tables t 2)
  row_actions t h =
      let codes : T (codes_pass (number tables t 0) (number tables t 1) (number tables t 2)) = subst⁻¹ T (codes_are tables t) h in
      let actions = (and_parts (leb (number tables t 0) 255) (leb (number tables t 1) 255 && (leb (number tables t 2) 255 || eqb (number tables t 2) none)) (and_parts (not (eqb (number tables t 0) 128)) _ codes).1).1 in
      let both = and_parts (leb (number tables t 1) 255) (leb (number tables t 2) 255 || eqb (number tables t 2) none) actions in (
        leb→le (number tables t 1) 255 both.0,
        ⊎_elim (λ e. inr (leb→le (number tables t 2) 255 e)) (λ e. inl (eqb→eq (number tables t 2) none e)) (or_cases (leb (number tables t 2) 255) (eqb (number tables t 2) none) both.1),
      )

  -- The second actions of so many transitions from t on that have first action i.
  seconds : ℕ → ℕ → ℕ → List ℕ
  seconds i t n = map (second_or_256 tables.rows) (with_first tables.rows i t n)

  -- No transition from t on has the item of f and j, said by the chain of f.
  others_are : (f j : ℕ) → Second j → (t n : ℕ) → T (all codes_fit (transitions_from tables t n))
      → all (λ y. not (eqb (min j 256) y)) (seconds f t n) ≡ all (λ u. not (same_item (item_of f j) u.item)) (transitions_from tables t n)
  unfolding all with_first transitions_from seconds
  others_are f j s t zero h = refl
  others_are f j s t (suc n) h =
      let both = and_parts (codes_fit (transition_at tables t)) (all codes_fit (transitions_from tables (suc t) n)) h in
      turn (eqb (number tables t 1) f) refl (row_actions t both.0).1 (others_are f j s (suc t) n both.1)
    where
      Others : List Transition → Bool
      Others = all (λ u. not (same_item (item_of f j) u.item))

      turn : (b : Bool) → eqb (number tables t 1) f ≡ b → Second (number tables t 2)
          → all (λ y. not (eqb (min j 256) y)) (seconds f (suc t) n) ≡ Others (transitions_from tables (suc t) n)
          → all (λ y. not (eqb (min j 256) y)) (map (second_or_256 tables.rows) (keep b t (with_first tables.rows f (suc t) n)))
          ≡ (not (same_item (item_of f j) (item_of (number tables t 1) (number tables t 2))) && Others (transitions_from tables (suc t) n))
      turn true e k rest =
          ap₂ (λ (a b : Bool). not a && b)
          (min_same j (number tables t 2) s k
          ∙ ap (λ (b : Bool). b && eqb j (number tables t 2)) (sym (eqb_swap f (number tables t 1) ∙ e))
          ∙ sym (same_item_is f j (number tables t 1) (number tables t 2)))
          rest
      turn false e k rest =
          rest
          ∙ ap (λ (b : Bool). not b && Others (transitions_from tables (suc t) n))
          (ap (λ (b : Bool). b && eqb j (number tables t 2)) (sym (eqb_swap f (number tables t 1) ∙ e)) ∙ sym (same_item_is f j (number tables t 1) (number tables t 2)))

  -- One transition more: its own chain has a test more.
  chain_more : (t n i : ℕ)
      → differ (seconds i t (suc n))
      ≡ one_more (number tables t 1) (all (λ y. not (eqb (second_or_256 tables.rows t) y)) (seconds (number tables t 1) (suc t) n)) (λ k. differ (seconds k (suc t) n)) i
  unfolding differ with_first seconds
  chain_more t n i = go (eqb (number tables t 1) i) (eqb-true (number tables t 1) i)
    where
      go : (b : Bool) → (b ≡ true → number tables t 1 ≡ i)
          → differ (map (second_or_256 tables.rows) (keep b t (with_first tables.rows i (suc t) n)))
          ≡ cond b (all (λ y. not (eqb (second_or_256 tables.rows t) y)) (seconds (number tables t 1) (suc t) n) && differ (seconds i (suc t) n)) (differ (seconds i (suc t) n))
      go true same =
          ap (λ (k : ℕ). all (λ y. not (eqb (second_or_256 tables.rows t) y)) (seconds k (suc t) n) && differ (seconds i (suc t) n)) (sym (same refl))
      go false same = refl

  chains_are : (t n : ℕ) → T (all codes_fit (transitions_from tables t n)) → each (λ i. differ (seconds i t n)) 0 256 ≡ pairs_differ (transitions_from tables t n)
  unfolding all differ with_first transitions_from pairs_differ seconds
  chains_are t zero h = each_true 0 256
  chains_are t (suc n) h =
      let both = and_parts (codes_fit (transition_at tables t)) (all codes_fit (transitions_from tables (suc t) n)) h in
      let actions = row_actions t both.0 in
      let others = all (λ y. not (eqb (second_or_256 tables.rows t) y)) (seconds (number tables t 1) (suc t) n) in
      each_same (λ i. differ (seconds i t (suc n))) (one_more (number tables t 1) others (λ k. differ (seconds k (suc t) n))) (chain_more t n) 0 256
      ∙ each_one (number tables t 1) others (λ k. differ (seconds k (suc t) n)) 0 256 (omega arith) (omega (arith, actions.0))
      ∙ ap₂ ◌&&◌ (others_are (number tables t 1) (number tables t 2) actions.1 (suc t) n both.1) (chains_are (suc t) n both.1)

  pub pairs_are : (n : ℕ) → T (all codes_fit (transitions_from tables 0 n)) → pairs_pass tables.rows n ≡ pairs_differ (transitions_from tables 0 n)
  unfolding seconds_differ seconds
  pairs_are n h = each_same (seconds_differ tables.rows n) (λ i. differ (seconds i 0 n)) (λ i. refl) 0 256 ∙ chains_are 0 n h
