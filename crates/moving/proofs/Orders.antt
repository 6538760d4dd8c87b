-- What a net in order gives each of its transitions: its row and its lists lie in the tables, its place numbers are places, and its lists rise.
-- A test of all transitions holds of each, and a rising list is below the number of places.
use Prim.Native.Nat.{ℕ, zero, suc, ◌+◌, ◌≤◌, ◌<◌}
use mathlib.Core.Path.{◌≡◌, refl, ap, ap₂, subst}
use mathlib.Core.List.{List, [], ◌∷◌, map}
use mathlib.Core.Bool.{Bool, true}
use native.Mathlib.Omega.{arith}
use borrow.Author.Tests.{eqb-true, eqb-false}
use lib.Dec.{T, eqb, leb, ltb, ltb→lt}
use Rattle.std.specs.Prelude.{All}
use Rattle.field.specs.Lists.{all}
use Rattle.field.proofs.Tests.{and_parts, parts_and, T_true, true_T}
use Rattle.algebra.specs.Net.{Transition}
use Rattle.net.specs.Tables.{transition_at, transitions_from}
use Rattle.net.specs.Check.{rising, lists_rise}
use Rattle.net.specs.declared.Side.{Side}
use Rattle.net.specs.declared.Side.TheVariants.{Inputs, Outputs}
use Rattle.moving.specs.inner.Moving.{side_of, sides}
use Rattle.moving.specs.inner.InOrder.{rows_and_arcs, transition_in, InOrder}
use Rattle.field.proofs.Tests.{test}
use Rattle.moving.proofs.MovesAreFiring.{ins_of, outs_of, Rising, rising_lists}

all_within : (rows arcs : List ℕ) (f : Transition → Bool) (n t k : ℕ) → T (all f (transitions_from (rows_and_arcs rows arcs) t n)) → t ≤ k → k < t + n → T (f (transition_in rows arcs k))
unfolding all transitions_from
all_within rows arcs f zero t k h a b = absurd (omega arith)
all_within rows arcs f (suc n) t k h a b =
    let p = and_parts (f (transition_in rows arcs t)) (all f (transitions_from (rows_and_arcs rows arcs) (suc t) n)) h in
    test (eqb t k)
    (λ e. subst (λ (x : ℕ). T (f (transition_in rows arcs x))) (eqb-true t k e) p.0)
    (λ e. all_within rows arcs f n (suc t) k p.1 (next t k a (eqb-false t k e)) (omega arith))
  where
    next : (t k : ℕ) → t ≤ k → (t ≡ k → ⊥) → suc t ≤ k
    next zero zero a o = absurd (o refl)
    next zero (suc k) a o = omega arith
    next (suc t) zero a o = absurd (omega arith)
    next (suc t) (suc k) a o = let z = next t k (omega arith) (λ e. o (ap suc e)) in omega arith

rising_below : (places least : ℕ) (ps : List ℕ) → rising least places ps ≡ true → All (λ p. p < places) ps
unfolding rising
rising_below places least [] r i d h = absurd (omega arith)
rising_below places least (p ∷ ps) r zero d h = ltb→lt p places (and_parts (ltb p places) (rising (suc p) places ps) (and_parts (leb least p) _ (true_T _ r)).1).0
rising_below places least (p ∷ ps) r (suc i) d h =
    rising_below places (suc p) ps (T_true _ (and_parts (ltb p places) (rising (suc p) places ps) (and_parts (leb least p) _ (true_T _ r)).1).1) i d (omega arith)

-- the two sides of a transition are its inputs and its outputs
sides_ins : (rows arcs ts : List ℕ) → ins_of (map (transition_in rows arcs) ts) ≡ sides Inputs rows arcs ts
unfolding transition_at side_of
sides_ins rows arcs [] = refl
sides_ins rows arcs (t ∷ ts) = ap (λ (l : List (List ℕ)). side_of Inputs rows arcs t ∷ l) (sides_ins rows arcs ts)

sides_outs : (rows arcs ts : List ℕ) → outs_of (map (transition_in rows arcs) ts) ≡ sides Outputs rows arcs ts
unfolding transition_at side_of
sides_outs rows arcs [] = refl
sides_outs rows arcs (t ∷ ts) = ap (λ (l : List (List ℕ)). side_of Outputs rows arcs t ∷ l) (sides_outs rows arcs ts)

pub both_sides : (rows arcs ts : List ℕ) {A : Type 0} (f : List (List ℕ) → List (List ℕ) → A)
    → f (ins_of (map (transition_in rows arcs) ts)) (outs_of (map (transition_in rows arcs) ts)) ≡ f (sides Inputs rows arcs ts) (sides Outputs rows arcs ts)
both_sides rows arcs ts f = ap₂ f (sides_ins rows arcs ts) (sides_outs rows arcs ts)

module _ (rows arcs : List ℕ) (transitions places : ℕ) (o : InOrder rows arcs transitions places) where
  rise_at : (t : ℕ) → t < transitions → T (lists_rise places (transition_in rows arcs t))
  rise_at t h = all_within rows arcs (lists_rise places) transitions 0 t o.rise (omega arith) (omega arith)

  pub below_at : (t : ℕ) → t < transitions → (side : Side) → All (λ p. p < places) (side_of side rows arcs t)
  unfolding side_of transition_at
  below_at t h Inputs = rising_below places 0 _ (rising_lists places (transition_in rows arcs t) (rise_at t h)).0
  below_at t h Outputs = rising_below places 0 _ (rising_lists places (transition_in rows arcs t) (rise_at t h)).1

  pub transitions_rise : (ts : List ℕ) → All (λ t. t < transitions) ts → Rising places (map (transition_in rows arcs) ts)
  unfolding all
  transitions_rise [] f = tt
  transitions_rise (t ∷ ts) f =
      parts_and (lists_rise places (transition_in rows arcs t)) (all (lists_rise places) (map (transition_in rows arcs) ts)) (rise_at t (f 0 0 (omega arith)))
      (transitions_rise ts (λ i d h. f (suc i) d (omega arith)))
