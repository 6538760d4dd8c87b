-- The counts of the places of every node of a plan, cut off as in Counts: three numbers to a node, in the order of the nodes.
use Rattle.std.specs.Prelude.{ℕ, List, [], ◌∷◌}
use Rattle.algebra.specs.Expr.{Expr}
use Rattle.plan.specs.inner.Table.{values}
use Rattle.boxes.specs.Counts.{entry_count, internal_count, exit_count}

unfoldable pub box_counts : Expr → List ℕ
unfolding entry_count internal_count exit_count
box_counts E = entry_count E ∷ (internal_count E ∷ (exit_count E ∷ []))

unfoldable pub node_counts : Expr → List ℕ
unfolding values box_counts
node_counts E = values box_counts E
