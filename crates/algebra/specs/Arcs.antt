-- 01, "Box construction": which places a transition consumes from and produces into, and the net of an expression.
use Rattle.std.specs.Prelude.{ℕ, suc, List, [], ◌∷◌, map, Bool, false, cond, ◌||◌, length, eqb}
use Rattle.algebra.specs.Expr.{Expr}
use Rattle.algebra.specs.Item.{Item, one, two}
use Rattle.algebra.specs.Net.{Transition, Net}
use Rattle.algebra.specs.Places.{Place, entry, exit, sequence_place, choice_entry, choice_exit, loop_place, entries, internals, exits, places}
use Rattle.algebra.specs.Transitions.{Labelled, transitions}

-- "A transition consumes from each new place that has one of its old input places as the entry part":
-- an action's own entry, however often it has become a part.
unfoldable pub consumes : ℕ → Place → Bool
consumes i (entry j) = eqb i j
consumes i (exit j) = false
consumes i (sequence_place x e) = consumes i e
consumes i (choice_entry e f) = consumes i e || consumes i f
consumes i (choice_exit x y) = false
consumes i (loop_place x y e g) = consumes i e || consumes i g

-- "and produces into each that has one of its old output places as the exit part"
unfoldable pub produces : ℕ → Place → Bool
produces i (entry j) = false
produces i (exit j) = eqb i j
produces i (sequence_place x e) = produces i x
produces i (choice_entry e f) = false
produces i (choice_exit x y) = produces i x || produces i y
produces i (loop_place x y e g) = produces i x || produces i y

-- A joined one: "It has both input sets and both output sets."
abbrev pub by_item : (ℕ → Place → Bool) → Item → Place → Bool
by_item f (one i) p = f i p
by_item f (two i j) p = f i p || f j p

-- The numbers, from k on, of the places that pass: they rise.
unfoldable pub numbers : (Place → Bool) → ℕ → List Place → List ℕ
numbers f k [] = []
numbers f k (p ∷ ps) = cond (f p) (k ∷ numbers f (suc k) ps) (numbers f (suc k) ps)

unfoldable pub transition_of : List Place → Labelled → Transition
unfolding numbers consumes produces
transition_of ps t = record {
  label = t.label;
  item = t.item;
  inputs = numbers (by_item consumes t.item) 0 ps;
  outputs = numbers (by_item produces t.item) 0 ps;
}

-- The net of an expression.
unfoldable pub net_of : Expr → Net
unfolding transition_of entries internals exits places transitions
net_of E = record {
  entries = length (entries 0 E);
  internals = length (internals 0 E);
  exits = length (exits 0 E);
  transitions = map (transition_of (places 0 E)) (transitions 0 E);
}
