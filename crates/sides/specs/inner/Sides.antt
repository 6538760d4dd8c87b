-- The places of a transition on each side: what is asked of the work tables, and what is left in a part of the arcs.
use Rattle.std.specs.Prelude.{ℕ, ◌+◌, ◌*◌, ◌-◌, ◌≤◌, ◌<◌, ◌≡◌, List, ◌++◌, length, get_or}
use Rattle.field.specs.Limits.{place_limit}
use Rattle.algebra.specs.Expr.{Expr, actions}
use Rattle.algebra.specs.Exclusive.{LoopsExclusive}
use Rattle.algebra.specs.Scopes.{ScopesNamed}
use Rattle.algebra.specs.Item.{Item, one, two}
use Rattle.algebra.specs.Places.{places}
use Rattle.algebra.specs.Arcs.{numbers, by_item}
use Rattle.boxes.specs.inner.ArcCounts.{item_arcs}
use Rattle.arcs.specs.inner.Moves.{passes}
use Rattle.net.specs.declared.Side.{Side}
use Rattle.net.specs.declared.Side.TheVariants.{Inputs, Outputs}
use Rattle.spread.specs.declared.Told as declared
use Rattle.spread.specs.inner.Spread.{count_of, Told}

-- What the index tells of action i; past the end zeros.
abbrev pub told_row : List ℕ → ℕ → declared.Told
told_row index i = record { node = get_or index (3 * i) 0; inputs = get_or index (3 * i + 1) 0; outputs = get_or index (3 * i + 2) 0 }

-- How many places the index tells of an action: on one side, and on both.
abbrev pub told_count : List ℕ → Side → ℕ → ℕ
told_count index side i = get_or index (count_of side i) 0

abbrev pub told_arcs : List ℕ → ℕ → ℕ
told_arcs index i = get_or index (3 * i + 1) 0 + get_or index (3 * i + 2) 0

-- The places of an item on one side in the box of E.
abbrev pub item_places : Expr → Side → Item → List ℕ
item_places E side item = numbers (by_item (passes side) item) 0 (places 0 E)

-- The work tables are those of an expression: the index tells each action's places, and they are few.
pub record Drafted (lists index : List ℕ) (E : Expr) : Type 0 where
  pub told : (i : ℕ) → i < actions E → Told lists index E i
  pub few : length (places 0 E) ≤ place_limit
  pub loops : LoopsExclusive E
  pub scopes : ScopesNamed E

-- Each action of an item is below a number.
abbrev pub Below : ℕ → Item → Type 0
Below n (one i) = i < n
Below n (two i j) = (i < n) × (j < n)

-- A part of the arcs that is as long as an item's places on one side became these, whatever expression the work tables are of.
abbrev pub Placed : List ℕ → List ℕ → Side → Item → List ℕ → List ℕ → Type 0
Placed lists index side item before after =
    (E : Expr) → Drafted lists index E → Below (actions E) item → length before ≡ length (item_places E side item) → after ≡ item_places E side item

-- And a part became an item's inputs and behind them its outputs, where the index tells how many these are.
abbrev pub PlacedBoth : List ℕ → List ℕ → Item → List ℕ → Type 0
PlacedBoth lists index item after =
    (E : Expr) → Drafted lists index E → Below (actions E) item → ((side : Side) → item_arcs (told_count index side) item ≡ length (item_places E side item))
    → after ≡ item_places E Inputs item ++ item_places E Outputs item

-- A part became the places of two actions on one side, one list behind the other, whatever expression the work tables are of.
abbrev pub PlacedPair : List ℕ → List ℕ → Side → ℕ → ℕ → List ℕ → Type 0
PlacedPair lists index side i j after =
    (E : Expr) → Drafted lists index E → Below (actions E) (two i j) → after ≡ item_places E side (one i) ++ item_places E side (one j)

-- The number before place m is below the one there.
abbrev pub InOrder : List ℕ → ℕ → Type 0
InOrder l m = (0 < m) × (get_or l (m - 1) 0 < get_or l m 0)
