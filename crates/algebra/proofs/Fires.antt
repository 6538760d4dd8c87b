-- What a good firing says, and when a firing is good: the definition of `fire_items` taken apart and put together.
-- The marking afterwards is, place by place, what was there less what the items take plus what they give.
use Prim.Native.Nat.{ℕ, zero, suc, ◌+◌, ◌-◌, ◌<◌}
use native.Mathlib.Omega.{arith}
use mathlib.Core.Path.{◌≡◌, refl, ap}
use mathlib.Core.List.{List, [], ◌∷◌}
use lib.ListN.{length, get_or}
use lib.Dec.{T, leb}
use Rattle.field.specs.Answer.{good}
use Rattle.field.specs.Refusals.{two_tokens}
use Rattle.field.proofs.Answers.{bind_good, check_good, good_same}
use Rattle.field.proofs.Tests.{T_true, true_T}
use Rattle.algebra.specs.Item.{Item}
use Rattle.algebra.specs.Net.{Transition}
use Rattle.field.specs.Lists.{all}
use Rattle.algebra.specs.Firing.{transitions_named, check_marked, check_apart, inputs_at, outputs_at, moved, fire_items}

pub moved_length : (k : ℕ) (ts : List Transition) (m : List ℕ) → length (moved k ts m) ≡ length m
unfolding moved
moved_length k ts [] = refl
moved_length k ts (x ∷ m) = ap suc (moved_length (suc k) ts m)

moved_from : (k : ℕ) (ts : List Transition) (m : List ℕ) (p q : ℕ) → k + p ≡ q → p < length m → get_or (moved k ts m) p 0 ≡ get_or m p 0 - inputs_at q ts + outputs_at q ts
unfolding moved
moved_from k ts [] p q e h = absurd (omega arith)
moved_from k ts (x ∷ m) zero q e h = let f : k ≡ q = omega arith in ap (λ j. x - inputs_at j ts + outputs_at j ts) f
moved_from k ts (x ∷ m) (suc p) q e h = moved_from (suc k) ts m p q (omega arith) (omega arith)

pub moved_at : (ts : List Transition) (m : List ℕ) (p : ℕ) → p < length m → get_or (moved 0 ts m) p 0 ≡ get_or m p 0 - inputs_at p ts + outputs_at p ts
moved_at ts m p h = moved_from 0 ts m p p (omega arith) h

-- A good firing passed every test, and its marking is the moved one.
pub record Fires (net : List Transition) (m : List ℕ) (is : List Item) (m' : List ℕ) : Type 0 where
  pub ts : List Transition
  pub named : transitions_named net 0 is ≡ good ts
  pub marked : check_marked m 0 ts ≡ good tt
  pub apart : check_apart [] 0 ts ≡ good tt
  pub fits : T (all (λ x. leb x 1) (moved 0 ts m))
  pub after : moved 0 ts m ≡ m'

pub fires_of : (net : List Transition) (m : List ℕ) (is : List Item) (m' : List ℕ) → fire_items net m is ≡ good m' → Fires net m is m'
unfolding fire_items
fires_of net m is m' e =
    let a = bind_good (transitions_named net 0 is) _ m' e in
    let b = bind_good (check_marked m 0 a.0) _ m' a.2 in
    let c = bind_good (check_apart [] 0 a.0) _ m' b.2 in
    let d = check_good (all (λ x. leb x 1) (moved 0 a.0 m)) two_tokens 0 _ m' c.2 in
    record { ts = a.0; named = a.1; marked = b.1; apart = c.1; fits = true_T _ d.0; after = good_same _ m' d.1 }

pub of_fires : (net : List Transition) (m : List ℕ) (is : List Item) (ts : List Transition) → transitions_named net 0 is ≡ good ts → check_marked m 0 ts ≡ good tt → check_apart [] 0 ts ≡ good tt
    → T (all (λ x. leb x 1) (moved 0 ts m)) → fire_items net m is ≡ good (moved 0 ts m)
unfolding fire_items
of_fires net m is ts e f g h = rw e (rw f (rw g (rw (T_true (all (λ x. leb x 1) (moved 0 ts m)) h) refl)))
