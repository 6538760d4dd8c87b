-- What is asked of the tables of an expression, and what is told of each of its actions: where its places stand, and how many they are.
use Rattle.std.specs.Prelude.{ℕ, ◌+◌, ◌*◌, ◌≤◌, ◌<◌, ◌≡◌, List, [], ◌∷◌, length, get_or, take}
use Rattle.field.specs.Limits.{place_limit}
use Rattle.algebra.specs.Expr.{Expr}
use Rattle.algebra.specs.Places.{places}
use Rattle.algebra.specs.Arcs.{numbers}
use Rattle.plan.specs.inner.Table.{Table}
use Rattle.boxes.specs.inner.NodeCounts.{node_counts}
use Rattle.arcs.specs.inner.Moves.{passes}
use Rattle.arcs.specs.inner.Spreads.{Spread, placed}
use Rattle.net.specs.declared.Side.{Side}
use Rattle.net.specs.declared.Side.TheVariants.{Inputs, Outputs}
use Rattle.lists.specs.inner.Lists.{list_row, place_of, Means}

-- The rows begin with the node table of an expression and the counts with those of its nodes; its places are within the limit.
pub record Of (rows : List ℕ) (nodes : ℕ) (counts : List ℕ) (E : Expr) : Type 0 where
  pub table : Table rows nodes E
  pub counted : take (3 * nodes) counts ≡ node_counts E
  pub few : length (places 0 E) ≤ place_limit

-- The list of node k on one side places its first position at these numbers.
pub record Listed (lists : List ℕ) (side : Side) (k : ℕ) (l : List ℕ) : Type 0 where
  pub spread : Spread
  pub wide : 0 < spread.width
  pub inside : 11 * k + 11 ≤ length lists
  pub means : Means lists side k (list_row lists (place_of side k)) spread
  pub is : l ≡ placed spread (0 ∷ [])

-- Where the index has the number of an action's places on one side, behind the number of its node.
abbrev pub count_of : Side → ℕ → ℕ
count_of Inputs i = 3 * i + 1
count_of Outputs i = 3 * i + 2

-- The index tells the node of action i, whose lists are the action's places in the box of E, and how many these are.
pub record Told (lists index : List ℕ) (E : Expr) (i : ℕ) : Type 0 where
  pub listed : (side : Side) → Listed lists side (get_or index (3 * i) 0) (numbers (passes side i) 0 (places 0 E))
  pub counted : (side : Side) → get_or index (count_of side i) 0 ≡ length (numbers (passes side i) 0 (places 0 E))
