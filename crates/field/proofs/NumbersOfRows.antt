-- A table of rows, seen as the numbers of its rows one after another: a number of a row stands where the rows before it end, past the last row
-- there is none, and a row that is stored is a run of stored numbers. True because each row has as many numbers as the next.
use Prim.Native.Nat.{ℕ, zero, suc, ◌+◌, ◌*◌, ◌≤◌, ◌<◌}
use mathlib.Core.Path.{◌≡◌, refl, sym, ap, ◌∙◌}
use mathlib.Core.List.{List, [], ◌∷◌, ◌++◌}
use native.Mathlib.Omega.{arith}
use native.Mathlib.Nat.{add-zero, mul-suc, mul-zero}
use lib.ListN.{length, get_or, set, length-append, get_or-append}
use lib.Seq.{sets, get_or-append-add}
use Rattle.std.specs.List.{flat_map}

pub sets_append : (l : List ℕ) (i : ℕ) (xs ys : List ℕ) → sets l i (xs ++ ys) ≡ sets (sets l i xs) (i + length xs) ys
sets_append l i [] ys = rw add-zero
sets_append l i (x ∷ xs) ys = sets_append (set l i x) (suc i) xs ys ∙ ap (λ (k : ℕ). sets (sets (set l i x) (suc i) xs) k ys) (omega arith)

sets_cons : (x : ℕ) (l : List ℕ) (i : ℕ) (vs : List ℕ) → sets (x ∷ l) (suc i) vs ≡ x ∷ sets l i vs
sets_cons x l i [] = refl
sets_cons x l i (v ∷ vs) = sets_cons x (set l i v) (suc i) vs

-- numbers stored behind a list's first part leave that part
pub sets_behind : (l m : List ℕ) (i : ℕ) (vs : List ℕ) → sets (l ++ m) (length l + i) vs ≡ l ++ sets m i vs
sets_behind [] m i vs = ap (λ j. sets m j vs) (let p : length {A = ℕ} [] + i ≡ i = omega arith in p)
sets_behind (x ∷ l) m i vs =
    let p : length (x ∷ l) + i ≡ suc (length l + i) = omega arith in
    ap (λ j. sets (x ∷ (l ++ m)) j vs) p ∙ sets_cons x (l ++ m) (length l + i) vs ∙ ap (λ (k : List ℕ). x ∷ k) (sets_behind l m i vs)

-- numbers stored over a list's first part, which is as long
pub sets_over : (l m vs : List ℕ) → length l ≡ length vs → sets (l ++ m) 0 vs ≡ vs ++ m
sets_over [] m [] e = refl
sets_over [] m (v ∷ vs) e = absurd (let z : ⊥ = omega arith in z)
sets_over (x ∷ l) m [] e = absurd (let z : ⊥ = omega arith in z)
sets_over (x ∷ l) m (v ∷ vs) e = sets_cons v (l ++ m) 0 vs ∙ ap (λ (k : List ℕ). v ∷ k) (sets_over l m vs (omega arith))

module _ {X : Type 0} (f : X → List ℕ) (w : ℕ) (wide : (x : X) → length (f x) ≡ w) where
  pub length_numbers : (xs : List X) → length (flat_map f xs) ≡ w * length xs
  length_numbers [] = sym (mul-zero w)
  length_numbers (x ∷ xs) =
      let a = length-append (f x) (flat_map f xs) in
      let e = length_numbers xs in
      let m = mul-suc w (length xs) in
      let b = wide x in
      omega arith

  -- number j of row k
  pub number_of_row : (xs : List X) (k j : ℕ) (d : X) → k < length xs → j < w → get_or (flat_map f xs) (w * k + j) 0 ≡ get_or (f (get_or xs k d)) j 0
  number_of_row [] k j d h l = absurd (let z : ⊥ = omega arith in z)
  number_of_row (x ∷ xs) zero j d h l =
      let b = wide x in
      let m = mul-zero w in
      let p : w * 0 + j ≡ j = omega arith in
      ap (λ i. get_or (f x ++ flat_map f xs) i 0) p ∙ get_or-append (f x) (flat_map f xs) 0 j (omega arith)
  number_of_row (x ∷ xs) (suc k) j d h l =
      let b = wide x in
      let m = mul-suc w k in
      let p : w * suc k + j ≡ length (f x) + (w * k + j) = omega arith in
      ap (λ i. get_or (f x ++ flat_map f xs) i 0) p ∙ get_or-append-add (f x) (flat_map f xs) (w * k + j) 0 ∙ number_of_row xs k j d (omega arith) l

  -- past the last row there is no number
  pub number_past_rows : (xs : List X) (k j : ℕ) → length xs ≤ k → get_or (flat_map f xs) (w * k + j) 0 ≡ 0
  number_past_rows [] k j h = refl
  number_past_rows (x ∷ xs) zero j h = absurd (let z : ⊥ = omega arith in z)
  number_past_rows (x ∷ xs) (suc k) j h =
      let b = wide x in
      let m = mul-suc w k in
      let p : w * suc k + j ≡ length (f x) + (w * k + j) = omega arith in
      ap (λ i. get_or (f x ++ flat_map f xs) i 0) p ∙ get_or-append-add (f x) (flat_map f xs) (w * k + j) 0 ∙ number_past_rows xs k j (omega arith)

  -- row k stored
  pub numbers_set : (xs : List X) (k : ℕ) (y : X) → k < length xs → flat_map f (set xs k y) ≡ sets (flat_map f xs) (w * k) (f y)
  numbers_set [] k y h = absurd (let z : ⊥ = omega arith in z)
  numbers_set (x ∷ xs) zero y h =
      let b = wide x in
      let c = wide y in
      sym (ap (λ i. sets (f x ++ flat_map f xs) i (f y)) (mul-zero w) ∙ sets_over (f x) (flat_map f xs) (f y) (omega arith))
  numbers_set (x ∷ xs) (suc k) y h =
      let b = wide x in
      let m = mul-suc w k in
      let p : w * suc k ≡ length (f x) + w * k = omega arith in
      ap (λ (l : List ℕ). f x ++ l) (numbers_set xs k y (omega arith))
      ∙ sym (ap (λ i. sets (f x ++ flat_map f xs) i (f y)) p ∙ sets_behind (f x) (flat_map f xs) (w * k) (f y))
