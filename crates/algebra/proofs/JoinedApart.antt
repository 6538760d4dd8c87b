-- The two actions of a joined transition share no input place and no output place, so its arcs are as many as theirs together.
-- A listed item takes at most one token from every place, and gives at most one.
use Prim.Native.Nat.{ℕ, suc, ◌+◌, ◌≤◌}
use native.Mathlib.Omega.{arith}
use mathlib.Core.Path.{◌≡◌, refl, subst}
use mathlib.Core.Bool.{Bool, true, false, cond, ◌||◌}
use mathlib.Core.List.Memᴰ
use mathlib.Core.List.{List, [], ◌∷◌, Memᴰ}
use lib.ListN.{length}
use Rattle.algebra.specs.Expr.{Expr}
use Rattle.algebra.specs.Item.{Item, two}
use Rattle.algebra.specs.Exclusive.{LoopsExclusive}
use Rattle.algebra.specs.Scopes.{ScopesNamed}
use Rattle.algebra.specs.Places.{Place, places}
use Rattle.algebra.specs.Transitions.{Labelled, transitions}
use Rattle.algebra.specs.Arcs.{consumes, produces, by_item, numbers}
use Rattle.algebra.proofs.Codes.{El}
use Rattle.algebra.proofs.Numbering.{elements, table}
use Rattle.algebra.proofs.PlaceNames.{place_code, name, places_table}
use Rattle.algebra.proofs.Flows.{taken, given}
use Rattle.algebra.proofs.LiveActions.{only}
use Rattle.algebra.proofs.ListedItems.{Listed, listed_of}
use Rattle.algebra.proofs.StepsByItems.{item_times}
use Rattle.algebra.proofs.ItemFlows.{bit, consumes_taken, produces_given, taken_sum, given_sum, item_takes, item_gives}

-- ---- where no place passes both, the numbers add up
abbrev Apart : (Place → Bool) → (Place → Bool) → List Place → Type 0
Apart f g ps = (p : Place) → Memᴰ p ps → bit (f p) + bit (g p) ≤ 1

numbers_apart : (f g : Place → Bool) (k : ℕ) (ps : List Place) → Apart f g ps → length (numbers (λ p. f p || g p) k ps) ≡ length (numbers f k ps) + length (numbers g k ps)
unfolding numbers
numbers_apart f g k [] h = refl
numbers_apart f g k (p ∷ ps) h = go (f p) (g p) (h p (Memᴰ.head refl)) (numbers_apart f g (suc k) ps (λ q m. h q (Memᴰ.tail m)))
  where
    with_this : (Place → Bool) → Bool → List ℕ
    with_this f b = cond b (k ∷ numbers f (suc k) ps) (numbers f (suc k) ps)

    go : (b c : Bool) → bit b + bit c ≤ 1 → length (numbers (λ p. f p || g p) (suc k) ps) ≡ length (numbers f (suc k) ps) + length (numbers g (suc k) ps)
        → length (with_this (λ p. f p || g p) (b || c)) ≡ length (with_this f b) + length (with_this g c)
    go true true few e = absurd (omega arith)
    go true false few e = omega (arith, e)
    go false true few e = omega (arith, e)
    go false false few e = e

-- ---- the two actions of a listed item
-- every place of the list is a typed one
at_places : (E : Expr) (P : Place → Type 0) → ((k : El (place_code E)) → P (name 0 E k)) → (p : Place) → Memᴰ p (places 0 E) → P p
unfolding table
at_places E P h p m = let k = Memᴰ.of_map (name 0 E) (elements (place_code E)) (subst (Memᴰ p) (places_table 0 E) m) in subst P k.2 (h k.0)

bit_at_most : (b : Bool) → bit b ≤ 1
bit_at_most true = omega arith
bit_at_most false = omega arith

-- arcs of one kind, and the tokens that go over them: of one action, of two, and of a listed item
module _ (E : Expr) (arc : ℕ → Place → Bool) (moved : (ℕ → ℕ) → Place → ℕ)
    (alone : (i : ℕ) (p : Place) → moved (only i) p ≤ 1 → bit (arc i p) ≡ moved (only i) p)
    (both : (A B : ℕ → ℕ) (p : Place) → moved (λ k. A k + B k) p ≡ moved A p + moved B p)
    (listed : (t : Item) → Listed 0 E t → (k : El (place_code E)) → bit (by_item arc t (name 0 E k)) ≡ moved (item_times t) (name 0 E k)) where
  joined_arcs : (i j : ℕ) → Listed 0 E (two i j)
      → length (numbers (by_item arc (two i j)) 0 (places 0 E)) ≡ length (numbers (arc i) 0 (places 0 E)) + length (numbers (arc j) 0 (places 0 E))
  joined_arcs i j l = numbers_apart (arc i) (arc j) 0 (places 0 E) (at_places E (λ p. bit (arc i p) + bit (arc j p) ≤ 1) each)
    where
      each : (k : El (place_code E)) → bit (arc i (name 0 E k)) + bit (arc j (name 0 E k)) ≤ 1
      each k =
          let p = name 0 E k in
          let few = bit_at_most (by_item arc (two i j) p) in
          let item = listed (two i j) l k in
          let sum = both (only i) (only j) p in
          omega (arith, few, item, sum, alone i p (omega arith), alone j p (omega arith))

pub joined_inputs : (E : Expr) → LoopsExclusive E → ScopesNamed E → (x : Labelled) → Memᴰ x (transitions 0 E) → (i j : ℕ) → x.item ≡ two i j
    → length (numbers (by_item consumes (two i j)) 0 (places 0 E)) ≡ length (numbers (consumes i) 0 (places 0 E)) + length (numbers (consumes j) 0 (places 0 E))
joined_inputs E g c x m i j e = joined_arcs E consumes taken consumes_taken taken_sum (item_takes 0 E g c) i j (subst (Listed 0 E) e (listed_of 0 E x m))

pub joined_outputs : (E : Expr) → LoopsExclusive E → ScopesNamed E → (x : Labelled) → Memᴰ x (transitions 0 E) → (i j : ℕ) → x.item ≡ two i j
    → length (numbers (by_item produces (two i j)) 0 (places 0 E)) ≡ length (numbers (produces i) 0 (places 0 E)) + length (numbers (produces j) 0 (places 0 E))
joined_outputs E g c x m i j e = joined_arcs E produces given produces_given given_sum (item_gives 0 E g c) i j (subst (Listed 0 E) e (listed_of 0 E x m))
