-- Which number a refused firing gives: 31, 32, 33, or, where the items pass those, 36.
-- Each check gives its own number only.
use Prim.Native.Nat.{ℕ, suc}
use mathlib.Core.Path.{◌≡◌, refl, sym}
use mathlib.Core.Logic.{◌⊎◌, inl, inr}
use mathlib.Core.Bool.{Bool, true, false, cond}
use mathlib.Core.List.{List, [], ◌∷◌, ◌++◌}
use lib.Dec.{leb, eqb}
use Rattle.field.specs.Answer.{Answer, good, refused, ◌>>=◌, check}
use Rattle.field.specs.Refusals.{no_transition, input_empty, input_shared, two_tokens}
use Rattle.field.proofs.Answers.{good_not_refused, bind_refused, refused_number, check_refused}
use Rattle.algebra.specs.Item.{Item}
use Rattle.algebra.specs.Net.{Transition}
use Rattle.field.specs.Lists.{all}
use Rattle.algebra.specs.Firing.{names, named_by, transitions_named, marked, check_marked, count, check_apart, moved, fire_items}

named_by_refused : (at : ℕ) (i : Item) (net : List Transition) (n c : ℕ) → named_by at i net ≡ refused n c → n ≡ no_transition
unfolding named_by
named_by_refused at i [] n c e = refused_number {A = Transition} n c no_transition at (sym e)
named_by_refused at i (t ∷ net) n c e = go (names i t) e (named_by_refused at i net n c)
  where
    go : (b : Bool) → cond b (good t) (named_by at i net) ≡ refused n c → (named_by at i net ≡ refused n c → n ≡ no_transition) → n ≡ no_transition
    go true e f = good_not_refused (good t) t n c refl e
    go false e f = f e

named_refused : (net : List Transition) (at : ℕ) (is : List Item) (n c : ℕ) → transitions_named net at is ≡ refused n c → n ≡ no_transition
unfolding transitions_named
named_refused net at [] n c e = good_not_refused (good []) [] n c refl e
named_refused net at (i ∷ is) n c e = go (bind_refused (named_by at i net) _ n c e) (named_refused net (suc at) is n c)
  where
    rest : Transition → Answer (List Transition)
    rest t = transitions_named net (suc at) is >>= (λ us. good (t ∷ us))

    later : (t : Transition) → (transitions_named net (suc at) is ≡ refused n c) ⊎ ((us : List Transition) × (transitions_named net (suc at) is ≡ good us) × (good (t ∷ us) ≡ refused n c))
        → (transitions_named net (suc at) is ≡ refused n c → n ≡ no_transition) → n ≡ no_transition
    later t (inl e) f = f e
    later t (inr r) f = good_not_refused (good (t ∷ r.0)) (t ∷ r.0) n c refl r.2

    go : (named_by at i net ≡ refused n c) ⊎ ((t : Transition) × (named_by at i net ≡ good t) × (rest t ≡ refused n c)) → (transitions_named net (suc at) is ≡ refused n c → n ≡ no_transition) → n ≡ no_transition
    go (inl e) f = named_by_refused at i net n c e
    go (inr r) f = later r.0 (bind_refused (transitions_named net (suc at) is) _ n c r.2) f

marked_refused : (m : List ℕ) (at : ℕ) (ts : List Transition) (n c : ℕ) → check_marked m at ts ≡ refused n c → n ≡ input_empty
unfolding check_marked
marked_refused m at [] n c e = good_not_refused (good tt) tt n c refl e
marked_refused m at (t ∷ ts) n c e = go (bind_refused (check (marked m t) input_empty at) _ n c e) (marked_refused m (suc at) ts n c)
  where
    go : (check (marked m t) input_empty at ≡ refused n c) ⊎ ((u : Unit {0}) × (check (marked m t) input_empty at ≡ good u) × (check_marked m (suc at) ts ≡ refused n c))
        → (check_marked m (suc at) ts ≡ refused n c → n ≡ input_empty) → n ≡ input_empty
    go (inl e) f = sym (check_refused (marked m t) input_empty at n c e).1
    go (inr r) f = f r.2

apart_refused : (taken : List ℕ) (at : ℕ) (ts : List Transition) (n c : ℕ) → check_apart taken at ts ≡ refused n c → n ≡ input_shared
unfolding check_apart
apart_refused taken at [] n c e = good_not_refused (good tt) tt n c refl e
apart_refused taken at (t ∷ ts) n c e = go (bind_refused (check none input_shared at) _ n c e) (apart_refused (taken ++ t.inputs) (suc at) ts n c)
  where
    none : Bool
    none = all (λ p. eqb (count p taken) 0) t.inputs

    go : (check none input_shared at ≡ refused n c) ⊎ ((u : Unit {0}) × (check none input_shared at ≡ good u) × (check_apart (taken ++ t.inputs) (suc at) ts ≡ refused n c))
        → (check_apart (taken ++ t.inputs) (suc at) ts ≡ refused n c → n ≡ input_shared) → n ≡ input_shared
    go (inl e) f = sym (check_refused none input_shared at n c e).1
    go (inr r) f = f r.2

-- The refusal of a firing.
pub data FireRefused (net : List Transition) (m : List ℕ) (is : List Item) (n : ℕ) : Type 0 where
  of_31 : n ≡ no_transition → FireRefused net m is n
  of_32 : n ≡ input_empty → FireRefused net m is n
  of_33 : n ≡ input_shared → FireRefused net m is n
  of_36 : n ≡ two_tokens → (ts : List Transition) → transitions_named net 0 is ≡ good ts → check_marked m 0 ts ≡ good tt → check_apart [] 0 ts ≡ good tt → all (λ x. leb x 1) (moved 0 ts m) ≡ false
      → FireRefused net m is n

pub fire_refused : (net : List Transition) (m : List ℕ) (is : List Item) (n c : ℕ) → fire_items net m is ≡ refused n c → FireRefused net m is n
unfolding fire_items
fire_refused net m is n c e = first (bind_refused (transitions_named net 0 is) _ n c e)
  where
    fits : List Transition → Bool
    fits ts = all (λ x. leb x 1) (moved 0 ts m)

    fourth : (ts : List Transition) → transitions_named net 0 is ≡ good ts → check_marked m 0 ts ≡ good tt → check_apart [] 0 ts ≡ good tt
        → (check (fits ts) two_tokens 0 ≡ refused n c) ⊎ ((u : Unit {0}) × (check (fits ts) two_tokens 0 ≡ good u) × (good (moved 0 ts m) ≡ refused n c)) → FireRefused net m is n
    fourth ts a b d (inl e) = let r = check_refused (fits ts) two_tokens 0 n c e in of_36 (sym r.1) ts a b d r.0
    fourth ts a b d (inr r) = good_not_refused (good (moved 0 ts m)) (moved 0 ts m) n c refl r.2

    third : (ts : List Transition) → transitions_named net 0 is ≡ good ts → check_marked m 0 ts ≡ good tt
        → (check_apart [] 0 ts ≡ refused n c) ⊎ ((u : Unit {0}) × (check_apart [] 0 ts ≡ good u) × ((check (fits ts) two_tokens 0 >>= (λ u. good (moved 0 ts m))) ≡ refused n c)) → FireRefused net m is n
    third ts a b (inl e) = of_33 (apart_refused [] 0 ts n c e)
    third ts a b (inr r) = fourth ts a b r.1 (bind_refused (check (fits ts) two_tokens 0) _ n c r.2)

    second : (ts : List Transition) → transitions_named net 0 is ≡ good ts
        → (check_marked m 0 ts ≡ refused n c) ⊎ ((u : Unit {0}) × (check_marked m 0 ts ≡ good u) × ((check_apart [] 0 ts >>= (λ u. check (fits ts) two_tokens 0 >>= (λ u. good (moved 0 ts m)))) ≡ refused n c)) → FireRefused net m is n
    second ts a (inl e) = of_32 (marked_refused m 0 ts n c e)
    second ts a (inr r) = third ts a r.1 (bind_refused (check_apart [] 0 ts) _ n c r.2)

    first : (transitions_named net 0 is ≡ refused n c)
        ⊎ ((ts : List Transition) × (transitions_named net 0 is ≡ good ts) × ((check_marked m 0 ts >>= (λ u. check_apart [] 0 ts >>= (λ u. check (fits ts) two_tokens 0 >>= (λ u. good (moved 0 ts m))))) ≡ refused n c))
        → FireRefused net m is n
    first (inl e) = of_31 (named_refused net 0 is n c e)
    first (inr r) = second r.0 r.1 (bind_refused (check_marked m 0 r.0) _ n c r.2)
