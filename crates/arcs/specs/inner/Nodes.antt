-- A node of the node table with the counts of its places.
use Rattle.std.specs.Prelude.{ℕ, ◌+◌, ◌*◌, List, get_or}
use Rattle.algebra.specs.Expr.{Expr}
use Rattle.plan.specs.inner.Table.{Stands, Node, values}
use Rattle.boxes.specs.inner.NodeCounts.{box_counts}

-- The number of the first action of node k.
abbrev pub first_at : List ℕ → ℕ → ℕ
first_at rows k = get_or rows (6 * k + 4) 0

-- Node k is an expression whose first action has the number n, and the table has the counts of its nodes.
pub record At (rows table : List ℕ) (count k n : ℕ) (E : Expr) : Type 0 where
  pub offset : ℕ
  pub node : Node rows count k n offset E
  pub counted : Stands table (3 * k) (values box_counts E)
