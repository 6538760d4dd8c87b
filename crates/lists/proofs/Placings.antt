-- The loops that write places: what a turn of each leaves, and which list stands there at the end.
-- Each number is a step more than one that is there already, and where all are of 16 bits `%` changes none.
use Prim.Native.Nat.{ℕ, zero, suc, ◌+◌, ◌*◌, ◌-◌, ◌%◌, ◌≤◌, ◌<◌}
use native.Mathlib.Omega.{arith}
use native.Mathlib.Decide.{dec_lt}
use native.Mathlib.Nat.{mod-eq_of_lt, mod-add-mod, zero-mul, one-mul, mul-one, suc-mul}
use mathlib.Core.Path.{◌≡◌, refl, sym, ◌∙◌, ap, subst}
use mathlib.Core.List.{List, [], ◌∷◌, ◌++◌}
use lib.ListN.{length, get_or, set, take, drop, length-set, length-append, length-drop, get_or-append}
use lib.Seq.{get_or-set_same, get_or-set_other, get_or-append-add, get_or-drop, length-take-le}
use Rattle.plan.specs.inner.Table.{Stands}
use Rattle.arcs.specs.inner.Positions.{stretched, repeated}
use Rattle.arcs.proofs.Positions.{stretched_length, stretched_at, repeated_length, repeated_first, repeated_next}
use Rattle.lists.specs.inner.Placing.{Small, Stepped, CopiedOn}

-- ---- a turn of each loop
pub steps_none : (from step : ℕ) (out : List ℕ) → Stepped from step 0 out out
steps_none from step out = record { long = refl; new = λ j h. absurd (omega arith); rest = λ j h. refl }

pub steps_more : (before out : List ℕ) (from step j x : ℕ) → j < length before → x ≡ from + j * step → Stepped from step j before out
    → Stepped from step (j + 1) before (set out j (x % 65536))
steps_more before out from step j x h e s = record {
  long = length-set out j (x % 65536) ∙ s.long;
  new = λ t l. go t l (dec_lt t j);
  rest = λ t l. get_or-set_other out j t (x % 65536) 0 (omega arith) ∙ s.rest t (omega arith);
}
  where
    go : (t : ℕ) → t < j + 1 → Dec (t < j) → get_or (set out j (x % 65536)) t 0 ≡ (from + t * step) % 65536
    go t l (yes b) = get_or-set_other out j t (x % 65536) 0 (omega arith) ∙ s.new t b
    go t l (no b) =
        let q : t ≡ j = omega arith in
        ap (λ i. get_or (set out j (x % 65536)) i 0) q ∙ get_or-set_same out j (x % 65536) 0 (omega (arith, s.long))
        ∙ ap (λ n. n % 65536) e ∙ ap (λ i. (from + i * step) % 65536) (sym q)

pub copies_none : (step count : ℕ) (out : List ℕ) → CopiedOn step count count out out
copies_none step count out = record { long = refl; first = λ j h. refl; new = λ j l h. absurd (omega arith) }

pub copies_more : (before out : List ℕ) (step count k p : ℕ) → 0 < count → count ≤ k → k < length before → p ≡ get_or out (k - count) 0 → CopiedOn step count k before out
    → CopiedOn step count (k + 1) before (set out k ((p + step) % 65536))
copies_more before out step count k p some l h e s = record {
  long = length-set out k ((p + step) % 65536) ∙ s.long;
  first = λ j b. get_or-set_other out k j ((p + step) % 65536) 0 (omega arith) ∙ s.first j b;
  new = λ j b u. go j b u (dec_lt j k) ∙ ap (λ x. (x + step) % 65536) (sym (get_or-set_other out k (j - count) ((p + step) % 65536) 0 (omega arith)));
}
  where
    go : (j : ℕ) → count ≤ j → j < k + 1 → Dec (j < k) → get_or (set out k ((p + step) % 65536)) j 0 ≡ (get_or out (j - count) 0 + step) % 65536
    go j b u (yes c) = get_or-set_other out k j ((p + step) % 65536) 0 (omega arith) ∙ s.new j b c
    go j b u (no c) =
        let q : j ≡ k = omega arith in
        ap (λ i. get_or (set out k ((p + step) % 65536)) i 0) q ∙ get_or-set_same out k ((p + step) % 65536) 0 (omega (arith, s.long))
        ∙ ap (λ x. (x + step) % 65536) e ∙ ap (λ i. (get_or out (i - count) 0 + step) % 65536) (sym q)

-- A single number is copied on by counting from it.
pub copies_of_steps : (before after : List ℕ) (from step count end : ℕ) → count ≡ 1 → 1 ≤ end → from ≤ 65535 → from ≡ get_or before 0 0 → Stepped from step end before after
    → CopiedOn step count end before after
copies_of_steps before after from step count end one some low e s = subst (λ n. CopiedOn step n end before after) (sym one) (record { long = s.long; first = first; new = new })
  where
    first : (j : ℕ) → j < 1 → get_or after j 0 ≡ get_or before j 0
    first j h =
        let q : j ≡ 0 = omega arith in
        let z : from + 0 * step ≡ from = omega (arith, zero-mul step) in
        ap (λ i. get_or after i 0) q ∙ s.new 0 (omega arith) ∙ ap (λ x. x % 65536) z ∙ mod-eq_of_lt (omega arith) ∙ e ∙ ap (λ i. get_or before i 0) (sym q)

    new : (j : ℕ) → 1 ≤ j → j < end → get_or after j 0 ≡ (get_or after (j - 1) 0 + step) % 65536
    new j l h =
        let q : suc (j - 1) ≡ j = omega arith in
        let z : j * step ≡ (j - 1) * step + step = ap (λ i. i * step) (sym q) ∙ omega (arith, suc-mul (j - 1) step) in
        let y : from + j * step ≡ from + (j - 1) * step + step = omega arith in
        s.new j h ∙ ap (λ x. x % 65536) y ∙ sym (mod-add-mod (from + (j - 1) * step) 65536 step) ∙ ap (λ x. (x + step) % 65536) (sym (s.new (j - 1) (omega arith)))

-- Numbers that are written into a slice's front, which is lent by itself.
pub steps_in_front : {from step n : ℕ} {out after : List ℕ} → n ≤ length out → Stepped from step (length (take n out)) (take n out) after → Stepped from step n out (after ++ drop n out)
steps_in_front {from} {step} {n} {out} {after} h s = record {
  long = length-append after (drop n out) ∙ omega (arith, s.long, front, length-drop n out);
  new = λ j l. get_or-append after (drop n out) 0 j (omega (arith, s.long, front)) ∙ s.new j (omega (arith, front));
  rest = λ j l.
      let p : j ≡ length after + (j - n) = omega (arith, s.long, front) in
      let q : n + (j - n) ≡ j = omega arith in
      ap (λ i. get_or (after ++ drop n out) i 0) p ∙ get_or-append-add after (drop n out) (j - n) 0 ∙ get_or-drop n out (j - n) 0 ∙ ap (λ i. get_or out i 0) q;
}
  where
    front : length (take n out) ≡ n
    front = length-take-le n out h

-- ---- what stands there at the end
-- Counting by one from the base on is the base's run.
pub steps_stand : (before after : List ℕ) (base width : ℕ) → Stepped base 1 width before after → Small (stretched width base (0 ∷ [])) → Stands after 0 (stretched width base (0 ∷ []))
steps_stand before after base width s small j h =
    let l : j < width = omega (arith, stretched_length width base (0 ∷ []), one-mul width) in
    let p : 0 + j ≡ j = omega arith in
    let q : 0 * width + j ≡ j = omega (arith, zero-mul width) in
    let v : get_or (stretched width base (0 ∷ [])) j 0 ≡ base + j * 1 =
    ap (λ i. get_or (stretched width base (0 ∷ [])) i 0) (sym q) ∙ stretched_at width base 0 j (0 ∷ []) (omega arith) l ∙ omega (arith, zero-mul width, mul-one j) in
    ap (λ i. get_or after i 0) p ∙ s.new j l ∙ mod-eq_of_lt (omega (arith, small j h, v)) ∙ sym v

-- Copies of a list, each a step more, are the list repeated.
module _ (before after : List ℕ) (times step count : ℕ) (ps : List ℕ) (turns : 0 < times) (some : 0 < count) (long : length ps ≡ count) (s : Stands before 0 ps)
    (small : Small (repeated times step ps)) (c : CopiedOn step count (times * count) before after) where
  abbrev all : List ℕ
  all = repeated times step ps

  all_length : length all ≡ times * count
  all_length = repeated_length step ps times ∙ ap (λ n. times * n) long

  -- Each number, from those before it.
  next : (j : ℕ) → j < length all → ((i : ℕ) → i < j → get_or after i 0 ≡ get_or all i 0) → Dec (j < count) → get_or after j 0 ≡ get_or all j 0
  next j h low (yes l) =
      let p : j ≡ 0 + j = omega arith in
      c.first j l ∙ ap (λ i. get_or before i 0) p ∙ s j (omega arith) ∙ sym (repeated_first step ps times j turns (omega arith))
  next j h low (no l) =
      let p : j ≡ length ps + (j - count) = omega arith in
      let v : get_or all j 0 ≡ get_or all (j - count) 0 + step = ap (λ i. get_or all i 0) p ∙ repeated_next step ps times (j - count) (omega arith) in
      c.new j (omega arith) (omega (arith, all_length)) ∙ ap (λ x. (x + step) % 65536) (low (j - count) (omega arith)) ∙ mod-eq_of_lt (omega (arith, small j h, v)) ∙ sym v

  upto : (n j : ℕ) → j < n → j < length all → get_or after j 0 ≡ get_or all j 0
  upto zero j b h = absurd (omega arith)
  upto (suc n) j b h = next j h (λ i l. upto n i (omega arith) (omega arith)) (dec_lt j count)

  pub copies_stand : Stands after 0 all
  copies_stand j h = let p : 0 + j ≡ j = omega arith in ap (λ i. get_or after i 0) p ∙ upto (suc j) j (omega arith) h
