-- Two lists one behind the other, made one: where the second begins above the end of the first, which rises, they are it as they stand; else they are merged.
-- True because each number of a rising list is at most its last, and a merge into room for both leaves nothing else there.
use Prim.Native.Nat.{ℕ, suc, ◌+◌, ◌-◌, ◌<◌}
use native.Mathlib.Omega.{arith}
use mathlib.Core.Path.{◌≡◌, refl, ◌∙◌, ap}
use mathlib.Core.List.{List, [], ◌∷◌, ◌++◌}
use lib.ListN.{length, get_or, get_or-append}
use lib.Seq.{get_or-append_seam, get_or-append-add}
use lib.Dec.{T, leb, ltb, leb→le}
use borrow.Author.Tests.{lt-ltb}
use Rattle.std.specs.Prelude.{Option, Some, None}
use Rattle.field.proofs.Tests.{and_parts}
use Rattle.net.specs.Check.{rising}
use Rattle.arcs.specs.inner.Merge.{into, union, Below, Merged}
use Rattle.sides.specs.inner.Sides.{InOrder}
use Rattle.sides.proofs.Runs.{all_set}

-- ---- as they stand
union_behind : (b : ℕ) (bs l : List ℕ) → Below b l → union l (b ∷ bs) ≡ l ++ (b ∷ bs)
unfolding union into
union_behind b bs [] h = refl
union_behind b bs (a ∷ l) h = rw (lt-ltb a b h.0) (ap (λ m. a ∷ m) (union_behind b bs l h.1))

below_last : (k n b : ℕ) (l : List ℕ) → T (rising k n l) → ((m : ℕ) → suc m ≡ length l → get_or l m 0 < b) → Below b l
unfolding rising
below_last k n b [] t h = tt
below_last k n b (x ∷ []) t h = (h 0 refl, tt)
below_last k n b (x ∷ (y ∷ l)) t h =
    let r = (and_parts (ltb x n) _ (and_parts (leb k x) _ t).1).1 in
    let rest = below_last (suc x) n b (y ∷ l) r (λ m e. h (suc m) (ap suc e)) in
    (omega (arith, leb→le (suc x) y (and_parts (leb (suc x) y) _ r).0, rest.0), rest)

pub union_in_order : (k n : ℕ) (l m : List ℕ) → T (rising k n l) → InOrder (l ++ m) (length l) → union l m ≡ l ++ m
union_in_order k n l [] t o = let e : length l + 0 ≡ length l = omega arith in absurd (omega (arith, get_or-append-add l [] 0 0, ap (λ i. get_or (l ++ []) i 0) e))
union_in_order k n l (b ∷ bs) t o =
    union_behind b bs l
    (below_last k n b l t (λ i e.
    let f : length l - 1 ≡ i = omega arith in
    omega (arith, get_or-append_seam l b bs 0, get_or-append l (b ∷ bs) 0 i (omega arith), ap (λ i. get_or (l ++ (b ∷ bs)) i 0) f)))

-- ---- merged
pub merged_all : {l part after : List ℕ} {r : Option ℕ} → length l ≡ length part → Merged (length part) r l part after → after ≡ l
merged_all {l} {part} {after} {r} n w = go r w
  where
    go : (r : Option ℕ) → Merged (length part) r l part after → after ≡ l
    go (Some k) w = w.some.2 ∙ all_set l part n
    go None w = absurd (omega (arith, w.none))
