-- Merging two rising lists: the union of the numbers of the places that pass one test or another, and the turns of the loop that writes it.
-- Both lists are written down while the places are walked once, so the numbers of one below the next of the other come first in the union.
use Prim.Native.Nat.{ℕ, suc, ◌+◌, ◌-◌, ◌≤◌, ◌<◌}
use native.Mathlib.Omega.{arith}
use native.Mathlib.Numerals.{add-one}
use mathlib.Core.Path.{◌≡◌, refl, sym, ◌∙◌, ap, ap₂}
use mathlib.Core.Bool.{Bool, true, false, cond, ◌||◌}
use mathlib.Core.List.{List, [], ◌∷◌, ◌++◌, append-nil}
use lib.ListN.{length, get_or, take, drop, set, length-append, length-drop, take-append-drop, drop_of_length-le}
use lib.Dec.{ltb}
use lib.Seq.{sets, length-sets, length-take-le, take-suc, drop-cons, drop-drop, take_all}
use borrow.Author.Tests.{lt-ltb, le-ltb}
use Rattle.algebra.specs.Places.{Place}
use Rattle.algebra.specs.Arcs.{numbers}
use Rattle.field.proofs.NumbersOfRows.{sets_append}
use Rattle.field.proofs.NumbersOfRows as rows
use borrow.Rule.Slice.PartMut.{put_mid}
use Rattle.std.specs.Prelude.{Option, Some, None, IfSome, IfNone}
use Rattle.arcs.specs.inner.Merge.{into, union, Below, Run, Merged}

into_low : (a : ℕ) (rest : List ℕ → List ℕ) (b : ℕ) (bs : List ℕ) → a < b → into a rest (b ∷ bs) ≡ a ∷ rest (b ∷ bs)
unfolding into
into_low a rest b bs h = rw (lt-ltb a b h) refl

into_high : (a : ℕ) (rest : List ℕ → List ℕ) (b : ℕ) (bs : List ℕ) → b < a → into a rest (b ∷ bs) ≡ b ∷ into a rest bs
unfolding into
into_high a rest b bs h = rw (le-ltb a b (omega arith), lt-ltb b a h) refl

into_same : (a : ℕ) (rest : List ℕ → List ℕ) (b : ℕ) (bs : List ℕ) → a ≡ b → into a rest (b ∷ bs) ≡ a ∷ rest bs
unfolding into
into_same a rest b bs h = rw (le-ltb a b (omega arith), le-ltb b a (omega arith)) refl

-- The first number, if there is one, is at least b.
abbrev From : ℕ → List ℕ → Type 0
From b [] = Unit {0}
From b (a ∷ cs) = b ≤ a

lower : (b c : ℕ) (cs : List ℕ) → b ≤ c → From c cs → From b cs
lower b c [] h f = tt
lower b c (a ∷ cs) h f = omega arith

numbers_from : (f : Place → Bool) (k : ℕ) (ps : List Place) → From k (numbers f k ps)
unfolding numbers
numbers_from f k [] = tt
numbers_from f k (p ∷ ps) = go (f p) (numbers_from f (suc k) ps)
  where
    go : (b : Bool) → From (suc k) (numbers f (suc k) ps) → From k (cond b (k ∷ numbers f (suc k) ps) (numbers f (suc k) ps))
    go true r = omega arith
    go false r = lower k (suc k) (numbers f (suc k) ps) (omega arith) r

low_first : (b : ℕ) (cs bs : List ℕ) → From (suc b) bs → union (b ∷ cs) bs ≡ b ∷ union cs bs
unfolding union
low_first b cs [] h = refl
low_first b cs (x ∷ bs) h = into_low b (union cs) x bs h

low_second : (b : ℕ) (cs bs : List ℕ) → From (suc b) cs → union cs (b ∷ bs) ≡ b ∷ union cs bs
unfolding union
low_second b [] bs h = refl
low_second b (x ∷ cs) bs h = into_high x (union cs) b bs h

-- The numbers below the first of the other list come before the rest of the union.
run_first : (b : ℕ) (l cs bs : List ℕ) → Below b l → From b bs → union (l ++ cs) bs ≡ l ++ union cs bs
run_first b [] cs bs h f = refl
run_first b (a ∷ l) cs bs h f = low_first a (l ++ cs) bs (lower (suc a) b bs h.0 f) ∙ ap (λ m. a ∷ m) (run_first b l cs bs h.1 f)

run_second : (b : ℕ) (l cs bs : List ℕ) → Below b l → From b cs → union cs (l ++ bs) ≡ l ++ union cs bs
run_second b [] cs bs h f = refl
run_second b (a ∷ l) cs bs h f = low_second a cs (l ++ bs) (lower (suc a) b cs h.0 f) ∙ ap (λ m. a ∷ m) (run_second b l cs bs h.1 f)

same_first : (x : ℕ) (ms ns : List ℕ) → union (x ∷ ms) (x ∷ ns) ≡ x ∷ union ms ns
unfolding union
same_first x ms ns = into_same x (union ms) x ns refl

none_first : (ns : List ℕ) → union [] ns ≡ ns
unfolding union
none_first ns = refl

-- The numbers of the places that pass one test, and those that pass another, are together those that pass either.
pub union_numbers : (f g : Place → Bool) (k : ℕ) (ps : List Place) → union (numbers f k ps) (numbers g k ps) ≡ numbers (λ p. f p || g p) k ps
unfolding numbers
union_numbers f g k [] = none_first []
union_numbers f g k (p ∷ ps) = go (f p) (g p) (union_numbers f g (suc k) ps)
  where
    rest : (Place → Bool) → List ℕ
    rest h = numbers h (suc k) ps

    go : (b c : Bool) → union (rest f) (rest g) ≡ rest (λ p. f p || g p)
        → union (cond b (k ∷ rest f) (rest f)) (cond c (k ∷ rest g) (rest g)) ≡ cond (b || c) (k ∷ rest (λ p. f p || g p)) (rest (λ p. f p || g p))
    go true true e = same_first k (rest f) (rest g) ∙ ap (λ l. k ∷ l) e
    go true false e = low_first k (rest f) (rest g) (numbers_from g (suc k) ps) ∙ ap (λ l. k ∷ l) e
    go false true e = low_second k (rest f) (rest g) (numbers_from f (suc k) ps) ∙ ap (λ l. k ∷ l) e
    go false false e = e

head : (A : List ℕ) (i : ℕ) → i < length A → drop i A ≡ get_or A i 0 ∷ drop (i + 1) A
head A i h = drop-cons A i 0 h ∙ ap (λ k. get_or A i 0 ∷ drop k A) (sym (add-one i))

-- ---- parts of a slice
-- What `&s[i..]` holds.
abbrev pub part : List ℕ → ℕ → List ℕ
part l i = take (length l - i) (drop i l)

pub part_is : (l : List ℕ) (i : ℕ) → part l i ≡ drop i l
part_is l i = take_all (length l - i) (drop i l) (omega (arith, length-drop i l))

-- What a list holds once its part from n on is this.
abbrev pub put : List ℕ → ℕ → List ℕ → List ℕ
put out n after = put_mid n (length out - n) out after

put_is : (out : List ℕ) (n : ℕ) (after : List ℕ) → put out n after ≡ take n out ++ after
put_is out n after =
    let none : drop (length out - n) (drop n out) ≡ [] = drop_of_length-le (drop n out) (omega (arith, length-drop n out)) in
    ap (λ l. take n out ++ (after ++ l)) none ∙ ap (λ l. take n out ++ l) (append-nil after)

-- One more number of a rest is stored behind those before it.
pub copied_next : (out rest : List ℕ) (at n : ℕ) → n < length rest → set (sets out at (take n rest)) (at + n) (get_or rest n 0) ≡ sets out at (take (n + 1) rest)
copied_next out rest at n h =
    let x = get_or rest n 0 in
    let one_more : take n rest ++ (x ∷ []) ≡ take (n + 1) rest = sym (ap (λ m. take m rest) (add-one n) ∙ take-suc rest n 0 h) in
    let long : at + n ≡ at + length (take n rest) = omega (arith, length-take-le n rest (omega arith)) in
    ap (λ k. sets (sets out at (take n rest)) k (x ∷ [])) long ∙ sym (sets_append out at (take n rest) (x ∷ [])) ∙ ap (sets out at) one_more

-- ---- the run: the numbers below a bound
below_snoc : (b : ℕ) (l : List ℕ) (x : ℕ) → Below b l → x < b → Below b (l ++ (x ∷ []))
below_snoc b [] x h k = (k, tt)
below_snoc b (a ∷ l) x h k = (h.0, below_snoc b l x h.1 k)

module _ {list : List ℕ} {bound : ℕ} {before : List ℕ} {n : ℕ} {out : List ℕ} (g : Run list bound before n out) where
  run_long : length (take n list) ≡ n
  run_long = length-take-le n list g.there

  pub run_next : n < length list → n < length before → get_or list n 0 < bound → Run list bound before (n + 1) (set out n (get_or list n 0))
  run_next h k l =
      let v : ℕ = get_or list n 0 in
      let so_far : List ℕ = take n list in
      let next : take (n + 1) list ≡ so_far ++ (v ∷ []) = ap (λ m. take m list) (add-one n) ∙ take-suc list n 0 h in
      record {
        there = omega arith;
        room = omega arith;
        below = rw next (below_snoc bound so_far v g.below l);
        written = ap (λ o. set o n v) g.written ∙ sym (ap (sets before 0) next ∙ sets_append before 0 so_far (v ∷ []) ∙ ap (λ m. set (sets before 0 so_far) m v) (let p : 0 + length so_far ≡ n = omega (arith, run_long) in p));
      }

-- What is left is the run and what comes behind it.
run_parts : (A : List ℕ) (i r : ℕ) → drop i A ≡ take r (drop i A) ++ drop (i + r) A
run_parts A i r = sym (take-append-drop r (drop i A)) ∙ ap (λ l. take r (drop i A) ++ l) (drop-drop r i A)

-- ---- the loop: what is written, and what is left
pub record Merging (A B before out : List ℕ) (i j n : ℕ) : Type 0 where
  pub first : i ≤ length A
  pub second : j ≤ length B
  pub long : length out ≡ length before
  pub room : n ≤ length out
  pub all : length (union A B) ≡ n + length (union (drop i A) (drop j B))
  pub is : sets before 0 (union A B) ≡ sets out n (union (drop i A) (drop j B))

some_into : (a : ℕ) (rest : List ℕ → List ℕ) (bs : List ℕ) → 0 < length (into a rest bs)
unfolding into
some_into a rest [] = omega arith
some_into a rest (b ∷ bs) = go (ltb a b) (ltb b a)
  where
    go : (c d : Bool) → 0 < length (cond c (a ∷ rest (b ∷ bs)) (cond d (b ∷ into a rest bs) (a ∷ rest bs)))
    go true d = omega arith
    go false true = omega arith
    go false false = omega arith

some_union : (x : ℕ) (ms ns : List ℕ) → 0 < length (union (x ∷ ms) ns)
unfolding union
some_union x ms ns = some_into x (union ms) ns

none_second : (ms : List ℕ) → union ms [] ≡ ms
unfolding union into
none_second [] = refl
none_second (x ∷ ms) = ap (λ l. x ∷ l) (none_second ms)

module _ {A B before out : List ℕ} {i j n : ℕ} (g : Merging A B before out i j n) where
  -- The next numbers are written.
  wrote : {i' j' r : ℕ} {after : List ℕ} (l : List ℕ) → length l ≡ r → n + r ≤ length out → after ≡ sets out n l → i' ≤ length A → j' ≤ length B
      → union (drop i A) (drop j B) ≡ l ++ union (drop i' A) (drop j' B) → Merging A B before after i' j' (n + r)
  wrote {i'} {j'} {r} {after} l q h w a b e =
      let left : List ℕ = union (drop i' A) (drop j' B) in
      let long : length after ≡ length out = ap length w ∙ length-sets out n l in
      record {
        first = a;
        second = b;
        long = long ∙ g.long;
        room = omega arith;
        all = omega (arith, g.all, ap length e, length-append l left);
        is = g.is ∙ ap (sets out n) e ∙ sets_append out n l left ∙ ap₂ (λ o k. sets o (n + k) left) (sym w) q;
      }

  -- A run written in the room that is left.
  ran : {r bound : ℕ} {list after : List ℕ} → Run list bound (part out n) r after → put out n after ≡ sets out n (take r list)
  ran {r} {bound} {list} {after} run =
      let l = take r list in
      let long : length (take n out) ≡ n = length-take-le n out g.room in
      let place : length (take n out) + 0 ≡ n = omega arith in
      put_is out n after
      ∙ ap (λ m. take n out ++ m) (run.written ∙ ap (λ m. sets m 0 l) (part_is out n))
      ∙ sym (rows.sets_behind (take n out) (drop n out) 0 l)
      ∙ ap₂ (λ o k. sets o k l) (take-append-drop n out) place

  fits : {list after : List ℕ} {r bound : ℕ} → Run list bound (part out n) r after → n + r ≤ length out
  fits run = omega (arith, run.room, g.room, ap length (part_is out n), length-drop n out)

  pub turn_first : {r : ℕ} {after : List ℕ} → Run (part A i) (get_or B j 0) (part out n) r after → j < length B → Merging A B before (put out n after) (i + r) j (n + r)
  turn_first {r} {after} run k =
      let low : From (get_or B j 0) (drop j B) = rw (head B j k) (omega arith) in
      let ahead : drop i A ≡ take r (part A i) ++ drop (i + r) A = run_parts A i r ∙ ap (λ l. take r l ++ drop (i + r) A) (sym (part_is A i)) in
      wrote (take r (part A i)) (run_long run) (fits run) (ran run) (omega (arith, run.there, g.first, ap length (part_is A i), length-drop i A)) (omega (arith, g.second))
      (ap (λ l. union l (drop j B)) ahead ∙ run_first (get_or B j 0) (take r (part A i)) (drop (i + r) A) (drop j B) run.below low)

  pub turn_second : {r : ℕ} {after : List ℕ} → Run (part B j) (get_or A i 0) (part out n) r after → i < length A → Merging A B before (put out n after) i (j + r) (n + r)
  turn_second {r} {after} run k =
      let low : From (get_or A i 0) (drop i A) = rw (head A i k) (omega arith) in
      let ahead : drop j B ≡ take r (part B j) ++ drop (j + r) B = run_parts B j r ∙ ap (λ l. take r l ++ drop (j + r) B) (sym (part_is B j)) in
      wrote (take r (part B j)) (run_long run) (fits run) (ran run) (omega (arith, g.first)) (omega (arith, run.there, g.second, ap length (part_is B j), length-drop j B))
      (ap (union (drop i A)) ahead ∙ run_second (get_or A i 0) (take r (part B j)) (drop i A) (drop (j + r) B) run.below low)

  pub turn_both : i < length A → j < length B → n < length out → get_or B j 0 ≤ get_or A i 0 → get_or A i 0 ≤ get_or B j 0 → Merging A B before (set out n (get_or A i 0)) (i + 1) (j + 1) (n + 1)
  turn_both h k m l p =
      let s : get_or B j 0 ≡ get_or A i 0 = omega arith in
      wrote (get_or A i 0 ∷ []) refl (omega arith) refl (omega arith) (omega arith) (rw (head A i h, head B j k, s) (same_first (get_or A i 0) (drop (i + 1) A) (drop (j + 1) B)))

  -- The room ends before the lists do.
  pub merge_full : i < length A → length out ≤ n → length before < length (union A B)
  merge_full h f =
      let left : 0 < length (union (drop i A) (drop j B)) = rw (head A i h) (some_union _ _ _) in
      omega (arith, g.all, g.long, g.room)

  -- One list has ended, and so the rest of the other is all that is left.
  pub left_of_first : length B ≤ j → {rest : List ℕ} → rest ≡ part A i → union (drop i A) (drop j B) ≡ rest
  left_of_first h e = ap (union (drop i A)) (drop_of_length-le B h) ∙ none_second (drop i A) ∙ sym (e ∙ part_is A i)

  pub left_of_second : length A ≤ i → {rest : List ℕ} → rest ≡ part B j → union (drop i A) (drop j B) ≡ rest
  left_of_second h e = ap (λ l. union l (drop j B)) (drop_of_length-le A h) ∙ none_first (drop j B) ∙ sym (e ∙ part_is B j)

  -- It is copied.
  pub rest_copied : {rest : List ℕ} → union (drop i A) (drop j B) ≡ rest → (r : Option ℕ) {after : List ℕ}
      → IfSome r (λ end. (end ≡ n + length rest) × (end ≤ length out) × (after ≡ sets out n rest)) → IfNone r (length out < n + length rest)
      → Merged (length before) r (union A B) before after
  rest_copied {rest} e (Some end) c d =
      record { some = (omega (arith, c, g.long), omega (arith, c, g.all, ap length e), c.2 ∙ sym (g.is ∙ ap (sets out n) e)); none = tt }
  rest_copied {rest} e None c d = record { some = tt; none = omega (arith, d, g.all, g.long, ap length e) }
