-- 32 and 33 over all items: neither is given exactly when at every place the items together take no more tokens than are there.
-- Where a place holds at most one token, "every input is marked" and "no input is shared" say just this.
use Prim.Native.Nat.{ℕ, zero, suc, ◌+◌, ◌≤◌}
use native.Mathlib.Omega.{arith}
use mathlib.Core.Path.{◌≡◌, refl, sym, ap, subst}
use mathlib.Core.Bool.{Bool, true, false, cond}
use mathlib.Core.List.Memᴰ
use mathlib.Core.List.{List, [], ◌∷◌, ◌++◌, Memᴰ}
use mathlib.Core.Logic.{◌⊎◌, inl, inr}
use lib.ListN.{get_or}
use lib.Dec.{T, eqb, leb, eqb→eq, eqb_refl, leb→le, le→leb}
use Rattle.field.specs.Answer.{good}
use Rattle.field.specs.Refusals.{input_empty, input_shared}
use Rattle.field.proofs.Answers.{check_good}
use Rattle.field.proofs.Tests.{T_true, true_T}
use Rattle.algebra.specs.Net.{Transition}
use Rattle.field.specs.Lists.{all}
use Rattle.field.proofs.Alls.{all_of, all_at}
use Rattle.algebra.specs.Firing.{marked, check_marked, count, check_apart, inputs_at}

-- how often a number stands in a list
pub count_here : (p : ℕ) (l : List ℕ) → count p (p ∷ l) ≡ suc (count p l)
unfolding count
count_here p l = go (eqb p p) (eqb_refl p)
  where
    go : (b : Bool) → T b → cond b (suc (count p l)) (count p l) ≡ suc (count p l)
    go true t = refl
    go false t = absurd t

pub count_other : (p x : ℕ) (l : List ℕ) → (x ≡ p → ⊥) → count p (x ∷ l) ≡ count p l
unfolding count
count_other p x l h = go (eqb x p) (eqb→eq x p)
  where
    go : (b : Bool) → (T b → x ≡ p) → cond b (suc (count p l)) (count p l) ≡ count p l
    go true f = absurd (h (f tt))
    go false f = refl

pub count_cons : (p x : ℕ) (l : List ℕ) → count p l ≤ count p (x ∷ l)
unfolding count
count_cons p x l = go (eqb x p)
  where
    go : (b : Bool) → count p l ≤ cond b (suc (count p l)) (count p l)
    go true = omega arith
    go false = omega arith

pub member_count : (p : ℕ) (l : List ℕ) → Memᴰ p l → 1 ≤ count p l
member_count p [] m = absurd (Memᴰ.not-nil m)
member_count p (x ∷ l) m = go (Memᴰ.cases_cons m) (member_count p l)
  where
    go : (p ≡ x) ⊎ Memᴰ p l → (Memᴰ p l → 1 ≤ count p l) → 1 ≤ count p (x ∷ l)
    go (inl e) f = subst (λ y. 1 ≤ count p (y ∷ l)) e (omega (arith, count_here p l))
    go (inr m) f = omega (arith, f m, count_cons p x l)

pub count_member : (p : ℕ) (l : List ℕ) → 1 ≤ count p l → Memᴰ p l
unfolding count
count_member p [] h = absurd (omega arith)
count_member p (x ∷ l) h = go (eqb x p) (eqb→eq x p) h (count_member p l)
  where
    go : (b : Bool) → (T b → x ≡ p) → 1 ≤ cond b (suc (count p l)) (count p l) → (1 ≤ count p l → Memᴰ p l) → Memᴰ p (x ∷ l)
    go true f h r = Memᴰ.head (sym (f tt))
    go false f h r = Memᴰ.tail (r h)

pub count_append : (p : ℕ) (l k : List ℕ) → count p (l ++ k) ≡ count p l + count p k
unfolding count
count_append p [] k = omega arith
count_append p (x ∷ l) k = go (eqb x p) (count_append p l k)
  where
    go : (b : Bool) → count p (l ++ k) ≡ count p l + count p k → cond b (suc (count p (l ++ k))) (count p (l ++ k)) ≡ cond b (suc (count p l)) (count p l) + count p k
    go true e = omega arith
    go false e = omega arith

-- No list of inputs has a place twice.
abbrev pub OnceEach : List Transition → Type 0
OnceEach ts = (t : Transition) → Memᴰ t ts → (p : ℕ) → count p t.inputs ≤ 1

-- 32 is not given exactly when every input is marked.
abbrev pub AllMarked : List ℕ → List Transition → Type 0
AllMarked m ts = (t : Transition) → Memᴰ t ts → (p : ℕ) → 1 ≤ count p t.inputs → 1 ≤ get_or m p 0

pub marked_at : (m : List ℕ) (t : Transition) → T (marked m t) → (p : ℕ) → 1 ≤ count p t.inputs → 1 ≤ get_or m p 0
unfolding marked
marked_at m t h p c = leb→le 1 (get_or m p 0) (all_at (λ q. leb 1 (get_or m q 0)) t.inputs h p (count_member p t.inputs c))

pub at_marked : (m : List ℕ) (t : Transition) → ((p : ℕ) → 1 ≤ count p t.inputs → 1 ≤ get_or m p 0) → T (marked m t)
unfolding marked
at_marked m t f = all_of (λ q. leb 1 (get_or m q 0)) t.inputs (λ p i. le→leb 1 (get_or m p 0) (f p (member_count p t.inputs i)))

pub checked_marked : (m : List ℕ) (at : ℕ) (ts : List Transition) → check_marked m at ts ≡ good tt → AllMarked m ts
unfolding check_marked
checked_marked m at [] e t i = absurd (Memᴰ.not-nil i)
checked_marked m at (u ∷ ts) e t i = go (Memᴰ.cases_cons i) (check_good (marked m u) input_empty at _ tt e) (λ f. checked_marked m (suc at) ts f t)
  where
    go : (t ≡ u) ⊎ Memᴰ t ts → (marked m u ≡ true) × (check_marked m (suc at) ts ≡ good tt) → (check_marked m (suc at) ts ≡ good tt → Memᴰ t ts → (p : ℕ) → 1 ≤ count p t.inputs → 1 ≤ get_or m p 0)
        → (p : ℕ) → 1 ≤ count p t.inputs → 1 ≤ get_or m p 0
    go (inl q) c r = marked_at m t (subst (λ v. T (marked m v)) (sym q) (true_T (marked m u) c.0))
    go (inr i) c r = r c.1 i

pub marked_checked : (m : List ℕ) (at : ℕ) (ts : List Transition) → AllMarked m ts → check_marked m at ts ≡ good tt
unfolding check_marked
marked_checked m at [] f = refl
marked_checked m at (u ∷ ts) f =
    let h = T_true (marked m u) (at_marked m u (f u (Memᴰ.head refl))) in
    rw h (marked_checked m (suc at) ts (λ t i. f t (Memᴰ.tail i)))

-- 33 is not given: what was taken before is not taken again, and nothing is taken twice.
pub record Apart (taken : List ℕ) (ts : List Transition) (p : ℕ) : Type 0 where
  pub not_again : 1 ≤ count p taken → inputs_at p ts ≡ 0
  pub once : inputs_at p ts ≤ 1

none_counted : (taken : List ℕ) (t : Transition) → T (all (λ q. eqb (count q taken) 0) t.inputs) → (p : ℕ) → 1 ≤ count p t.inputs → count p taken ≡ 0
none_counted taken t h p c = eqb→eq (count p taken) 0 (all_at (λ q. eqb (count q taken) 0) t.inputs h p (count_member p t.inputs c))

zero_or_more : (n : ℕ) → (n ≡ 0) ⊎ (1 ≤ n)
zero_or_more zero = inl refl
zero_or_more (suc n) = inr (omega arith)

pub checked_apart : (taken : List ℕ) (at : ℕ) (ts : List Transition) → OnceEach ts → check_apart taken at ts ≡ good tt → (p : ℕ) → Apart taken ts p
unfolding check_apart inputs_at
checked_apart taken at [] o e p = record { not_again = λ h. refl; once = omega arith }
checked_apart taken at (u ∷ ts) o e p =
    let c = check_good (all (λ q. eqb (count q taken) 0) u.inputs) input_shared at _ tt e in
    let r = checked_apart (taken ++ u.inputs) (suc at) ts (λ t i. o t (Memᴰ.tail i)) c.1 p in
    go (zero_or_more (count p u.inputs)) (true_T _ c.0) r
  where
    go : (count p u.inputs ≡ 0) ⊎ (1 ≤ count p u.inputs) → T (all (λ q. eqb (count q taken) 0) u.inputs) → Apart (taken ++ u.inputs) ts p → Apart taken (u ∷ ts) p
    go (inl z) h r = record {
      not_again = λ k. omega (arith, r.not_again (omega (arith, count_append p taken u.inputs)));
      once = omega (arith, r.once);
    }
    go (inr s) h r =
        let n = r.not_again (omega (arith, count_append p taken u.inputs)) in
        let z = none_counted taken u h p s in
        record { not_again = λ k. absurd (omega arith); once = omega (arith, o u (Memᴰ.head refl) p) }

pub apart_checked : (taken : List ℕ) (at : ℕ) (ts : List Transition) → ((p : ℕ) → 1 ≤ inputs_at p ts → count p taken + inputs_at p ts ≤ 1) → check_apart taken at ts ≡ good tt
unfolding check_apart inputs_at
apart_checked taken at [] f = refl
apart_checked taken at (u ∷ ts) f =
    let none : T (all (λ q. eqb (count q taken) 0) u.inputs) = all_of (λ q. eqb (count q taken) 0) u.inputs first in
    rw (T_true (all (λ q. eqb (count q taken) 0) u.inputs) none)
    (apart_checked (taken ++ u.inputs) (suc at) ts (λ p h. omega (arith, count_append p taken u.inputs, f p (omega arith))))
  where
    first : (q : ℕ) → Memᴰ q u.inputs → T (eqb (count q taken) 0)
    first q i =
        let c = member_count q u.inputs i in
        let z : 0 ≡ count q taken = omega (arith, f q (omega arith)) in
        subst (λ n. T (eqb n 0)) z (eqb_refl 0)

-- Together: enough tokens at every place.
inputs_some : (p : ℕ) (ts : List Transition) → 1 ≤ inputs_at p ts → (t : Transition) × Memᴰ t ts × (1 ≤ count p t.inputs)
unfolding inputs_at
inputs_some p [] h = absurd (omega arith)
inputs_some p (u ∷ ts) h = go (zero_or_more (count p u.inputs)) (inputs_some p ts)
  where
    go : (count p u.inputs ≡ 0) ⊎ (1 ≤ count p u.inputs) → (1 ≤ inputs_at p ts → (t : Transition) × Memᴰ t ts × (1 ≤ count p t.inputs)) → (t : Transition) × Memᴰ t (u ∷ ts) × (1 ≤ count p t.inputs)
    go (inl z) r = let s = r (omega arith) in (s.0, Memᴰ.tail s.1, s.2)
    go (inr k) r = (u, Memᴰ.head refl, k)

inputs_one : (p : ℕ) (ts : List Transition) (t : Transition) → Memᴰ t ts → count p t.inputs ≤ inputs_at p ts
unfolding inputs_at
inputs_one p [] t i = absurd (Memᴰ.not-nil i)
inputs_one p (u ∷ ts) t i = go (Memᴰ.cases_cons i) (inputs_one p ts t)
  where
    go : (t ≡ u) ⊎ Memᴰ t ts → (Memᴰ t ts → count p t.inputs ≤ inputs_at p ts) → count p t.inputs ≤ count p u.inputs + inputs_at p ts
    go (inl e) r = omega (arith, ap (λ v. count p v.inputs) e)
    go (inr i) r = omega (arith, r i)

pub checked_enough : (m : List ℕ) (ts : List Transition) → OnceEach ts → check_marked m 0 ts ≡ good tt → check_apart [] 0 ts ≡ good tt → (p : ℕ) → inputs_at p ts ≤ get_or m p 0
checked_enough m ts o e f p = go (zero_or_more (inputs_at p ts))
  where
    go : (inputs_at p ts ≡ 0) ⊎ (1 ≤ inputs_at p ts) → inputs_at p ts ≤ get_or m p 0
    go (inl z) = omega arith
    go (inr h) = let s = inputs_some p ts h in omega (arith, checked_marked m 0 ts e s.0 s.1 p s.2, (checked_apart [] 0 ts o f p).once)

pub enough_checked : (m : List ℕ) (ts : List Transition) → ((p : ℕ) → get_or m p 0 ≤ 1) → ((p : ℕ) → inputs_at p ts ≤ get_or m p 0) → (check_marked m 0 ts ≡ good tt) × (check_apart [] 0 ts ≡ good tt)
unfolding count
enough_checked m ts safe f = (
  marked_checked m 0 ts (λ t i p c. omega (arith, f p, inputs_one p ts t i)),
  apart_checked [] 0 ts (λ p h. omega (arith, f p, safe p)),
)
