-- Each transition's arcs are strictly rising and below the place count.
-- The numbers are written down while the list of places is walked once, and each is the position of its place.
use Prim.Native.Nat.{ℕ, suc, ◌+◌, ◌≤◌}
use native.Mathlib.Omega.{arith}
use mathlib.Core.Bool.{Bool, true, false, cond, ◌&&◌}
use mathlib.Core.List.{List, [], ◌∷◌}
use lib.ListN.{length}
use lib.Dec.{T, leb, ltb, leb→le, le→leb, lt→ltb}
use Rattle.algebra.specs.Expr.{Expr}
use Rattle.net.specs.Check.{rising}
use Rattle.algebra.specs.Places.{Place, places}
use Rattle.algebra.specs.Transitions.{Labelled}
use Rattle.algebra.specs.Arcs.{consumes, produces, by_item, numbers, transition_of}
use Rattle.field.proofs.Tests.{parts_and, and_parts}

-- a list that rises from a number on also rises from a smaller one on
rising_lower : (k l places : ℕ) (ns : List ℕ) → k ≤ l → T (rising l places ns) → T (rising k places ns)
unfolding rising
rising_lower k l places [] h t = tt
rising_lower k l places (n ∷ ns) h t =
    let r = and_parts (leb l n) (ltb n places && rising (suc n) places ns) t in
    parts_and (leb k n) (ltb n places && rising (suc n) places ns) (le→leb k n (omega (arith, leb→le l n r.0))) r.1

numbers_rise_below : (f : Place → Bool) (k places : ℕ) (ps : List Place) → k + length ps ≤ places → T (rising k places (numbers f k ps))
unfolding rising numbers
numbers_rise_below f k places [] h = tt
numbers_rise_below f k places (p ∷ ps) h = go (f p) (numbers_rise_below f (suc k) places ps (omega arith))
  where
    rest : List ℕ
    rest = numbers f (suc k) ps

    go : (b : Bool) → T (rising (suc k) places rest) → T (rising k places (cond b (k ∷ rest) rest))
    go true t =
        parts_and (leb k k) (ltb k places && rising (suc k) places rest) (le→leb k k (omega arith))
        (parts_and (ltb k places) (rising (suc k) places rest) (lt→ltb k places (omega arith)) t)
    go false t = rising_lower k (suc k) places rest (omega arith) t

pub numbers_rise : (f : Place → Bool) (k : ℕ) (ps : List Place) → T (rising k (k + length ps) (numbers f k ps))
numbers_rise f k ps = numbers_rise_below f k (k + length ps) ps (omega arith)

-- as net's check wants it
pub inputs_rise : (E : Expr) (t : Labelled) → T (rising 0 (length (places 0 E)) (transition_of (places 0 E) t).inputs)
unfolding transition_of
inputs_rise E t = numbers_rise_below (by_item consumes t.item) 0 (length (places 0 E)) (places 0 E) (omega arith)

pub outputs_rise : (E : Expr) (t : Labelled) → T (rising 0 (length (places 0 E)) (transition_of (places 0 E) t).outputs)
unfolding transition_of
outputs_rise E t = numbers_rise_below (by_item produces t.item) 0 (length (places 0 E)) (places 0 E) (omega arith)
