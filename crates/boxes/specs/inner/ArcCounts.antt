-- How many arcs a list of transitions has, added up from what each action has; and what an action has in the net of an expression.
use Rattle.std.specs.Prelude.{ℕ, ◌+◌, List, [], ◌∷◌, length}
use Rattle.algebra.specs.Expr.{Expr}
use Rattle.algebra.specs.Item.{Item, one, two}
use Rattle.algebra.specs.Places.{places}
use Rattle.algebra.specs.Transitions.{Labelled}
use Rattle.algebra.specs.Arcs.{consumes, produces, numbers}

-- What an item has, from what each action has.
abbrev pub item_arcs : (ℕ → ℕ) → Item → ℕ
item_arcs w (one i) = w i
item_arcs w (two i j) = w i + w j

unfoldable pub listed_arcs : (ℕ → ℕ) → List Labelled → ℕ
listed_arcs w [] = 0
listed_arcs w (t ∷ ts) = item_arcs w t.item + listed_arcs w ts

-- How many arcs an action has in the net of E.
abbrev pub action_arcs : Expr → ℕ → ℕ
action_arcs E i = length (numbers (consumes i) 0 (places 0 E)) + length (numbers (produces i) 0 (places 0 E))
