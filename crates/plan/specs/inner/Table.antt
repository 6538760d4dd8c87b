-- What it is for rows to hold the node table of an expression, and for a table beside it to hold a value of every node.
use Rattle.std.specs.Prelude.{ℕ, ◌+◌, ◌*◌, ◌≤◌, ◌<◌, ◌≡◌, List, ◌++◌, length, get_or, take}
use Rattle.algebra.specs.Expr.{Expr, action, sequence, choice, parallel, loop, scope}
use Rattle.plan.specs.inner.Nodes.{numbers, nodes, node_count, node_table}

-- The rows begin with the node table of an expression, which has so many nodes.
pub record Table (rows : List ℕ) (count : ℕ) (E : Expr) : Type 0 where
  pub nodes : count ≡ node_count E
  pub rows_of : take (6 * count) rows ≡ node_table E

-- A list stands in a table from a place on.
abbrev pub Stands : List ℕ → ℕ → List ℕ → Type 0
Stands table at l = (j : ℕ) → j < length l → get_or table (at + j) 0 ≡ get_or l j 0

-- Node k of the rows, which have so many, is an expression whose first action has the number i and whose field stands at an offset.
pub record Node (rows : List ℕ) (count k i at : ℕ) (E : Expr) : Type 0 where
  pub inside : k + node_count E ≤ count
  pub rows_of : Stands rows (6 * k) (numbers (nodes k i at E))

-- The tag of node k, and the number of the node after its subtree.
abbrev pub tag_at : List ℕ → ℕ → ℕ
tag_at rows k = get_or rows (6 * k + 0) 0

abbrev pub after_at : List ℕ → ℕ → ℕ
after_at rows k = get_or rows (6 * k + 3) 0

-- The values of an expression and its parts, in the order of the nodes.
unfoldable pub values : (Expr → List ℕ) → Expr → List ℕ
values f (action l) = f (action l)
values f (sequence E F) = f (sequence E F) ++ (values f E ++ values f F)
values f (choice E F) = f (choice E F) ++ (values f E ++ values f F)
values f (parallel E F) = f (parallel E F) ++ (values f E ++ values f F)
values f (loop E F G) = f (loop E F G) ++ (values f E ++ (values f F ++ values f G))
values f (scope a E) = f (scope a E) ++ values f E

-- From node k on a table holds the value of each node, so many numbers wide.
abbrev pub Known : List ℕ → ℕ → ℕ → (Expr → List ℕ) → ℕ → List ℕ → Type 0
Known rows count width f k table = (m i at : ℕ) (E : Expr) → k ≤ m → Node rows count m i at E → Stands table (width * m) (f E)
