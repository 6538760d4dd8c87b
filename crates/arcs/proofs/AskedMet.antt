-- What the calls ask is met by the tables of every expression whose places are within the limit, and by what the counting of the nodes leaves.
-- True because the node table and the counts are as long as their nodes say, so the beginnings of the tables are the whole lists.
use Prim.Native.Nat.{ℕ, ◌*◌}
use mathlib.Core.Path.{◌≡◌, sym, ◌∙◌, ap}
use mathlib.Core.List.{List, ◌++◌}
use lib.ListN.{length, take}
use lib.Seq.{take_at}
use Rattle.algebra.specs.Expr.{Expr}
use Rattle.plan.specs.inner.Nodes.{node_count, node_table}
use Rattle.plan.proofs.NodeTable.{rows_length}
use Rattle.boxes.specs.inner.NodeCounts.{node_counts}
use Rattle.arcs.proofs.Sizes.{values_length}

counts_length : (E : Expr) → length (node_counts E) ≡ 3 * node_count E
unfolding node_counts
counts_length E = values_length E

pub table_length : (E : Expr) → length (node_table E) ≡ 6 * node_count E
unfolding node_table
table_length E = rows_length 0 0 0 E

-- As the counting of the nodes leaves them: the counts in front, and what was there behind them.
pub counted_in_front : (E : Expr) (nodes : ℕ) (rest : List ℕ) → nodes ≡ node_count E → take (3 * nodes) (node_counts E ++ rest) ≡ node_counts E
counted_in_front E nodes rest e = take_at (node_counts E) rest (3 * nodes) (counts_length E ∙ ap (λ n. 3 * n) (sym e))
