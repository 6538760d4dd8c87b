-- A list that stands in a table, taken apart and put together: a joined list stands where its first part does and its second behind it.
-- True because an element of a joined list is one of the first part, or one of the second.
use Prim.Native.Nat.{ℕ, zero, suc, ◌+◌, ◌*◌, ◌-◌, ◌≤◌, ◌<◌}
use native.Mathlib.Omega.{arith}
use native.Mathlib.Decide.{dec_lt}
use native.Mathlib.Nat.{add_assoc}
use mathlib.Core.Path.{◌≡◌, sym, ◌∙◌, ap, subst}
use mathlib.Core.List.{List, [], ◌∷◌, ◌++◌}
use lib.ListN.{length, get_or, take, drop, length-append, length-drop, length-take, get_or-append}
use lib.Seq.{get_or-append-add, get_or-take, get_or-drop, ext_get_or}
use Rattle.plan.specs.inner.Table.{Stands}

module _ (table : List ℕ) where
  pub stands_first : (at : ℕ) (l m : List ℕ) → Stands table at (l ++ m) → Stands table at l
  stands_first at l m s j h = s j (simp length-append (omega arith)) ∙ get_or-append l m 0 j h

  pub stands_second : (at : ℕ) (l m : List ℕ) → Stands table at (l ++ m) → Stands table (at + length l) m
  stands_second at l m s j h =
      ap (λ p. get_or table p 0) (add_assoc at (length l) j)
      ∙ s (length l + j) (simp length-append (omega arith))
      ∙ get_or-append-add l m j 0

  pub stands_both : (at : ℕ) (l m : List ℕ) → Stands table at l → Stands table (at + length l) m → Stands table at (l ++ m)
  stands_both at l m s u j h = go (dec_lt j (length l))
    where
      go : Dec (j < length l) → get_or table (at + j) 0 ≡ get_or (l ++ m) j 0
      go (yes b) = s j b ∙ sym (get_or-append l m 0 j b)
      go (no b) =
          let p : at + j ≡ at + length l + (j - length l) = omega arith in
          let q : length l + (j - length l) ≡ j = omega arith in
          let r : j - length l < length m = omega (arith, simp length-append at h) in
          ap (λ i. get_or table i 0) p ∙ u (j - length l) r ∙ sym (get_or-append-add l m (j - length l) 0) ∙ ap (λ i. get_or (l ++ m) i 0) q

  pub stands_at : {at place : ℕ} (l : List ℕ) → at ≡ place → Stands table at l → Stands table place l
  stands_at l e s = subst (λ p. Stands table p l) e s

  pub stands_take : (count : ℕ) (l : List ℕ) → take count table ≡ l → Stands table 0 l
  stands_take count l e j h =
      let b : j < count = omega (arith, length-take count table, ap length e) in
      let p : 0 + j ≡ j = omega arith in
      ap (λ i. get_or table i 0) p ∙ sym (get_or-take count table j 0 b) ∙ ap (λ m. get_or m j 0) e

-- One number to a place.
pub stands_one : (table : List ℕ) (k : ℕ) {n : ℕ} → get_or table k 0 ≡ n → Stands table (1 * k) (n ∷ [])
stands_one table k e zero h = let p : 1 * k + 0 ≡ k = omega arith in ap (λ i. get_or table i 0) p ∙ e
stands_one table k e (suc j) h = absurd (omega arith)

-- A list that stands in a table still does in another that agrees with it there and behind.
pub stands_kept : (table other : List ℕ) (at : ℕ) (l : List ℕ) → ((i : ℕ) → at ≤ i → get_or other i 0 ≡ get_or table i 0) → Stands table at l → Stands other at l
stands_kept table other at l same s j h = same (at + j) (omega arith) ∙ s j h

-- A table that holds a list in front and agrees with another behind it is that list before the other's rest.
pub stands_whole : (table other : List ℕ) (l : List ℕ) → length table ≡ length other → length l ≤ length other → Stands table 0 l
    → ((i : ℕ) → length l ≤ i → get_or table i 0 ≡ get_or other i 0) → table ≡ l ++ drop (length l) other
stands_whole table other l long short s same =
    ext_get_or 0 table (l ++ drop (length l) other) (sym (simp (length-append, length-drop) (omega arith))) (λ i h. go i (dec_lt i (length l)))
  where
    go : (i : ℕ) → Dec (i < length l) → get_or table i 0 ≡ get_or (l ++ drop (length l) other) i 0
    go i (yes b) =
        let p : i ≡ 0 + i = omega arith in
        ap (λ j. get_or table j 0) p ∙ s i b ∙ sym (get_or-append l (drop (length l) other) 0 i b)
    go i (no b) =
        let p : i ≡ length l + (i - length l) = omega arith in
        same i (omega arith)
        ∙ ap (λ j. get_or other j 0) p
        ∙ sym (get_or-drop (length l) other (i - length l) 0)
        ∙ sym (get_or-append-add l (drop (length l) other) (i - length l) 0)
        ∙ ap (λ j. get_or (l ++ drop (length l) other) j 0) (sym p)
