-- 36 and the marking afterwards: putting tokens one by one on places that are empty comes to the marking of 01, and stops exactly where
-- a place would hold two. Place by place: what was there less what is taken, plus what is given.
use Prim.Native.Nat.{ℕ, zero, suc, ◌+◌, ◌-◌, ◌≤◌, ◌<◌}
use mathlib.Core.Path.{◌≡◌, refl, sym, ap, subst, ◌∙◌}
use mathlib.Core.List.{List, [], ◌∷◌}
use mathlib.Core.Bool.{Bool, true, false, ◌&&◌}
use mathlib.Core.Logic.{⊎_elim}
use native.Mathlib.Nat.{zero-add}
use native.Mathlib.Omega.{arith}
use borrow.Author.Tests.{eqb-true, eqb-false, eq-eqb, le-leb, ltb-true, ltb-false}
use lib.ListN.{length, get_or, set, length-set, get_or-eq_default}
use lib.Seq.{get_or-set_same, get_or-set_other, ext_get_or}
use lib.Dec.{T, eqb, leb, ltb, leb→le, ltb→lt}
use Rattle.field.specs.Refusals.{input_shared, two_tokens}
use Rattle.field.specs.Answer.{Answer, good, refused, ◌>>◌, check}
use Rattle.field.specs.Lists.{all}
use Rattle.field.proofs.Tests.{and_parts, T_true, true_T}
use Rattle.field.proofs.Alls.{all_of}
use Rattle.algebra.specs.Net.{Transition}
use Rattle.algebra.specs.Firing.{check_marked, count, check_apart, inputs_at, outputs_at, moved}
use Rattle.algebra.proofs.Enough.{count_here, count_other, count_cons, count_append, member_count}
use Rattle.algebra.proofs.Fires.{moved_length, moved_at}
use Rattle.net.specs.Check.{rising, lists_rise}
use Rattle.moving.specs.inner.Moving.{hold, holds_each, filled, shifts, shifts_each, in_one, passed, moves}
use Rattle.field.proofs.Tests.{never, test}
use Rattle.moving.proofs.Filled.{zero_or_more, filled_length, filled_other, filled_here, hold_is_all, holds_all, shifts_all}
use Rattle.moving.proofs.MovesAreFiring.{ins_of, outs_of, Safe, Rising, rising_lists, marked_each, apart_each}

-- A test of every element is a test at every index.
pub all_below : (l : List ℕ) → ((q : ℕ) → q < length l → get_or l q 0 ≤ 1) → all (λ x. leb x 1) l ≡ true
unfolding all
all_below [] h = refl
all_below (x ∷ l) h = rw (le-leb x 1 (h 0 (omega arith)), all_below l (λ q k. h (suc q) (omega arith)))

pub below_all : (l : List ℕ) → all (λ x. leb x 1) l ≡ true → (q : ℕ) → get_or l q 0 ≤ 1
unfolding all
below_all [] e q = omega arith
below_all (x ∷ l) e zero = leb→le x 1 (and_parts (leb x 1) (all (λ y. leb y 1) l) (true_T _ e)).0
below_all (x ∷ l) e (suc q) = below_all l (T_true _ (and_parts (leb x 1) (all (λ y. leb y 1) l) (true_T _ e)).1) q

-- Each place of a list lies in the marking.
abbrev Inside : ℕ → List ℕ → Type 0
Inside places ps = (q : ℕ) → 1 ≤ count q ps → q < places

rising_inside : (places least : ℕ) (ps : List ℕ) → rising least places ps ≡ true → Inside places ps
unfolding rising count
rising_inside places least [] r q h = absurd (omega arith)
rising_inside places least (p ∷ ps) r q h =
    let a = and_parts (leb least p) (ltb p places && rising (suc p) places ps) (true_T _ r) in
    let b = and_parts (ltb p places) (rising (suc p) places ps) a.1 in
    test (eqb p q)
    (λ e. subst (λ (n : ℕ). n < places) (eqb-true p q e) (ltb→lt p places b.0))
    (λ e. rising_inside places (suc p) ps (T_true _ b.1) q (rw e at h))

outs_inside : (places : ℕ) (ts : List Transition) → Rising places ts → Inside places (in_one (outs_of ts))
unfolding in_one all count
outs_inside places [] r q h = absurd (omega arith)
outs_inside places (t ∷ ts) r q h =
    let a = and_parts (lists_rise places t) (all (lists_rise places) ts) r in
    ⊎_elim
    (λ z. outs_inside places ts a.1 q (omega (arith, count_append q t.outputs (in_one (outs_of ts)))))
    (λ k. rising_inside places 0 t.outputs (rising_lists places t a.0).1 q k)
    (zero_or_more (count q t.outputs))

ins_count : (q : ℕ) (ts : List Transition) → count q (in_one (ins_of ts)) ≡ inputs_at q ts
unfolding in_one inputs_at count
ins_count q [] = refl
ins_count q (t ∷ ts) = count_append q t.inputs (in_one (ins_of ts)) ∙ ap (λ (n : ℕ). count q t.inputs + n) (ins_count q ts)

outs_count : (q : ℕ) (ts : List Transition) → count q (in_one (outs_of ts)) ≡ outputs_at q ts
unfolding in_one outputs_at count
outs_count q [] = refl
outs_count q (t ∷ ts) = count_append q t.outputs (in_one (outs_of ts)) ∙ ap (λ (n : ℕ). count q t.outputs + n) (outs_count q ts)

-- With the inputs taken a place holds what it held less what is taken from it.
taken_at : (m ps : List ℕ) → Safe m → (q : ℕ) → get_or (filled 0 m ps) q 0 ≡ get_or m q 0 - count q ps
taken_at m ps safe q =
    ⊎_elim
    (λ z. filled_other 0 m ps q z ∙ omega arith)
    (λ k.
    test (ltb q (length m))
    (λ t. filled_here 0 m ps q k (ltb-true q (length m) t) ∙ omega (arith, safe q))
    (λ t.
    let out : length m ≤ q = ltb-false q (length m) t in
    get_or-eq_default (filled 0 m ps) 0 {n = q} (omega (arith, filled_length 0 m ps)) ∙ sym (ap (λ (n : ℕ). n - count q ps) (get_or-eq_default m 0 {n = q} out) ∙ omega arith)))
    (zero_or_more (count q ps))

-- One token after another on empty places: no place of the list has one, and none is given to twice.
puts_counts : (w ps : List ℕ) → Inside (length w) ps → shifts 0 1 w ps ≡ true → (q : ℕ) → 1 ≤ count q ps → get_or w q 0 + count q ps ≤ 1
unfolding shifts count
puts_counts w [] i s q h = absurd (omega arith)
puts_counts w (p ∷ ps) i s q h =
    let a = and_parts (eqb (get_or w p 0) 0) (shifts 0 1 (set w p 1) ps) (true_T _ s) in
    let empty : get_or w p 0 ≡ 0 = eqb-true (get_or w p 0) 0 (T_true _ a.0) in
    let rest : (q : ℕ) → 1 ≤ count q ps → get_or (set w p 1) q 0 + count q ps ≤ 1
    = puts_counts (set w p 1) ps (λ r k. subst (λ (n : ℕ). r < n) (sym (length-set w p 1)) (i r (more r k))) (T_true _ a.1) in
    test (eqb p q)
    (λ e. rw e (subst (λ (n : ℕ). get_or w n 0 + suc (count n ps) ≤ 1) (eqb-true p q e) (here empty (rest p))))
    (λ e. rw e (subst (λ (n : ℕ). n + count q ps ≤ 1) (get_or-set_other w p q 1 0 (λ f. eqb-false p q e (sym f))) (rest q (rw e at h))))
  where
    more : (r : ℕ) → 1 ≤ count r ps → 1 ≤ count r (p ∷ ps)
    more r k = omega (arith, count_cons r p ps)

    here : get_or w p 0 ≡ 0 → (1 ≤ count p ps → get_or (set w p 1) p 0 + count p ps ≤ 1) → get_or w p 0 + suc (count p ps) ≤ 1
    here e f =
        ⊎_elim
        (λ z. omega arith)
        (λ k. absurd (let g = f k in let same : get_or (set w p 1) p 0 ≡ 1 = get_or-set_same w p 1 0 (i p (omega (arith, count_here p ps))) in let z : ⊥ = omega arith in z))
        (zero_or_more (count p ps))

counts_puts : (w ps : List ℕ) → ((q : ℕ) → 1 ≤ count q ps → get_or w q 0 + count q ps ≤ 1) → shifts 0 1 w ps ≡ true
unfolding shifts
counts_puts w [] h = refl
counts_puts w (p ∷ ps) h =
    let first : get_or w p 0 + count p (p ∷ ps) ≤ 1 = h p (omega (arith, count_here p ps)) in
    let empty : get_or w p 0 ≡ 0 = omega (arith, count_here p ps) in
    rw (eq-eqb (get_or w p 0) 0 empty)
    (counts_puts (set w p 1) ps
    (λ q k.
    let other : q ≡ p → ⊥ = λ e. absurd (let f : count q ps ≡ count p ps = ap (λ (n : ℕ). count n ps) e in let z : ⊥ = omega (arith, count_here p ps) in z) in
    subst (λ (n : ℕ). n + count q ps ≤ 1) (sym (get_or-set_other w p q 1 0 other))
    (subst (λ (n : ℕ). get_or w q 0 + n ≤ 1) (count_other q p ps (λ e. other (sym e))) (h q (subst (λ (n : ℕ). 1 ≤ n) (sym (count_other q p ps (λ e. other (sym e)))) k)))))

hold_of : (w ps : List ℕ) → ((q : ℕ) → 1 ≤ count q ps → get_or w q 0 ≡ 0) → hold 0 w ps ≡ true
hold_of w ps h = hold_is_all 0 w ps ∙ T_true _ (all_of (λ p. eqb (get_or w p 0) 0) ps (λ q i. subst (λ (n : ℕ). T (eqb n 0)) (sym (h q (member_count q ps i))) tt))

module _ (m : List ℕ) (ts : List Transition) (safe : Safe m) (r : Rising (length m) ts) where
  -- the marking with the inputs taken, and the places that are given to
  abbrev bare : List ℕ
  bare = filled 0 m (in_one (ins_of ts))

  abbrev given : List ℕ
  given = in_one (outs_of ts)

  bare_at : (q : ℕ) → get_or bare q 0 ≡ get_or m q 0 - inputs_at q ts
  bare_at q = taken_at m (in_one (ins_of ts)) safe q ∙ ap (λ (n : ℕ). get_or m q 0 - n) (ins_count q ts)

  given_inside : Inside (length bare) given
  given_inside = subst (λ (n : ℕ). Inside n given) (sym (filled_length 0 m (in_one (ins_of ts)))) (outs_inside (length m) ts r)

  fits_at : all (λ x. leb x 1) (moved 0 ts m) ≡ true → (q : ℕ) → 1 ≤ count q given → get_or bare q 0 + count q given ≤ 1
  fits_at e q k =
      let inside : q < length m = outs_inside (length m) ts r q k in
      omega (arith, below_all (moved 0 ts m) e q, moved_at ts m q inside, bare_at q, outs_count q ts)

  fits_held : all (λ x. leb x 1) (moved 0 ts m) ≡ true → hold 0 bare given ≡ true
  fits_held e = hold_of bare given (λ q k. omega (arith, fits_at e q k))

  fits_put : all (λ x. leb x 1) (moved 0 ts m) ≡ true → shifts 0 1 bare given ≡ true
  fits_put e = counts_puts bare given (fits_at e)

  put_at : shifts 0 1 bare given ≡ true → (q : ℕ) → q < length m → get_or (moved 0 ts m) q 0 ≡ get_or (filled 1 bare given) q 0
  put_at e q h =
      moved_at ts m q h
      ∙ ⊎_elim
      (λ z. omega (arith, filled_other 1 bare given q z, bare_at q, outs_count q ts))
      (λ k. omega (arith, filled_here 1 bare given q k (omega (arith, filled_length 0 m (in_one (ins_of ts)))), puts_counts bare given given_inside e q k, bare_at q, outs_count q ts))
      (zero_or_more (count q given))

  put_moved : shifts 0 1 bare given ≡ true → filled 1 bare given ≡ moved 0 ts m
  put_moved e =
      sym (ext_get_or 0 (moved 0 ts m) (filled 1 bare given) (moved_length 0 ts m ∙ sym (filled_length 1 bare given ∙ filled_length 0 m (in_one (ins_of ts))))
      (λ q h. put_at e q (omega (arith, moved_length 0 ts m))))

  put_fits : shifts 0 1 bare given ≡ true → all (λ x. leb x 1) (moved 0 ts m) ≡ true
  put_fits e =
      all_below (moved 0 ts m)
      (λ q h.
      let inside : q < length m = omega (arith, moved_length 0 ts m) in
      ⊎_elim
      (λ z. omega (arith, moved_at ts m q inside, outs_count q ts, safe q))
      (λ k. omega (arith, moved_at ts m q inside, puts_counts bare given given_inside e q k, bare_at q, outs_count q ts))
      (zero_or_more (count q given)))

  -- 36 and the marking afterwards
  outcome : (check (passed (outs_of ts) (holds_each 0 bare (outs_of ts))) two_tokens 0
      >> (check (passed (outs_of ts) (shifts_each 0 1 bare (outs_of ts))) two_tokens 0 >> good (filled 1 bare given)))
      ≡ (check (all (λ x. leb x 1) (moved 0 ts m)) two_tokens 0 >> good (moved 0 ts m))
  outcome =
      rw (holds_all 0 bare (outs_of ts), shifts_all 0 1 bare (outs_of ts))
      (test (all (λ x. leb x 1) (moved 0 ts m))
      (λ e. rw (e, fits_held e, fits_put e) (ap good (put_moved (fits_put e))))
      (λ e. rw e (go (hold 0 bare given) (shifts 0 1 bare given) (λ s. never (sym e ∙ put_fits s)))))
    where
      go : (a b : Bool) → (b ≡ true → ⊥) → (check a two_tokens 0 >> (check b two_tokens 0 >> good (filled 1 bare given))) ≡ refused two_tokens 0
      go false b h = refl
      go true false h = refl
      go true true h = absurd (h refl)

  pub moves_are : moves m (ins_of ts) (outs_of ts)
      ≡ (check_marked m 0 ts >> (check_apart [] 0 ts >> (check (all (λ x. leb x 1) (moved 0 ts m)) two_tokens 0 >> good (moved 0 ts m))))
  unfolding moves filled
  moves_are =
      rw (marked_each m safe 0 ts, zero-add (holds_each 1 m (ins_of ts)))
      (test (passed (ins_of ts) (holds_each 1 m (ins_of ts)))
      (λ e.
      rw (e, apart_each (length m) m [] 0 ts r (sym (holds_all 1 m (ins_of ts)) ∙ e), zero-add (shifts_each 1 0 m (ins_of ts)))
      (ap (λ (x : Answer (List ℕ)). check (passed (ins_of ts) (shifts_each 1 0 m (ins_of ts))) input_shared (shifts_each 1 0 m (ins_of ts)) >> x) outcome))
      (λ e. rw e))
