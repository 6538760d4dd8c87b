-- What a scope joins, over the numbers of the actions: for each action labelled a, the pairs with those labelled a+128 that part from it.
-- True by recursion on the one list, and for each on the other.
use Prim.Native.Nat.{ℕ, ◌+◌}
use mathlib.Core.Path.{◌≡◌, refl, ◌∙◌, ap}
use mathlib.Core.Bool.{Bool, true, false, cond}
use mathlib.Core.List.{List, [], ◌∷◌, ◌++◌, map, map-append}
use Rattle.algebra.specs.Expr.{Expr}
use Rattle.algebra.specs.Item.{first}
use Rattle.algebra.specs.Places.{product}
use Rattle.algebra.specs.Transitions.{Labelled, Pair, paired, silent, select, labelled, joined, part_at_parallel}
use Rattle.transitions.specs.inner.Listing.{firsts, pairs_with, pairs_of, joined_pair}

select_append : {A : Type 0} (ok : A → Bool) (xs ys : List A) → select ok (xs ++ ys) ≡ select ok xs ++ select ok ys
unfolding select
select_append ok [] ys = refl
select_append ok (x ∷ xs) ys = go (ok x) (select_append ok xs ys)
  where
    go : (b : Bool) → select ok (xs ++ ys) ≡ select ok xs ++ select ok ys → cond b (x ∷ select ok (xs ++ ys)) (select ok (xs ++ ys)) ≡ cond b (x ∷ select ok xs) (select ok xs) ++ select ok ys
    go true e = ap (λ l. x ∷ l) e
    go false e = e

abbrev number : Labelled → ℕ
number t = first t.item

module _ (part : ℕ → ℕ → Bool) where
  abbrev parts : Pair → Bool
  parts p = part (number p.t) (number p.u)

  joined_with : (t : Labelled) (us : List Labelled) → map silent (select parts (map (paired t) us)) ≡ pairs_with part (number t) (map number us)
  unfolding select pairs_with
  joined_with t [] = refl
  joined_with t (u ∷ us) = go (part (number t) (number u)) (joined_with t us)
    where
      go : (b : Bool) → map silent (select parts (map (paired t) us)) ≡ pairs_with part (number t) (map number us)
          → map silent (cond b (paired t u ∷ select parts (map (paired t) us)) (select parts (map (paired t) us)))
          ≡ cond b (joined_pair (number t) (number u) ∷ pairs_with part (number t) (map number us)) (pairs_with part (number t) (map number us))
      go true e = ap (λ l. joined_pair (number t) (number u) ∷ l) e
      go false e = e

  joined_of : (ts us : List Labelled) → map silent (select parts (product paired ts us)) ≡ pairs_of part (map number ts) (map number us)
  unfolding product pairs_of select
  joined_of [] us = refl
  joined_of (t ∷ ts) us =
      ap (map silent) (select_append parts (map (paired t) us) (product paired ts us))
      ∙ map-append silent (select parts (map (paired t) us)) (select parts (product paired ts us))
      ∙ ap (λ l. l ++ map silent (select parts (product paired ts us))) (joined_with t us)
      ∙ ap (λ l. pairs_with part (number t) (map number us) ++ l) (joined_of ts us)

pub joined_pairs : (n : ℕ) (E : Expr) (a : ℕ) (ts : List Labelled) → joined n E a ts ≡ pairs_of (part_at_parallel n E) (firsts a ts) (firsts (a + 128) ts)
unfolding joined firsts
joined_pairs n E a ts = joined_of (part_at_parallel n E) (select (labelled a) ts) (select (labelled (a + 128)) ts)
