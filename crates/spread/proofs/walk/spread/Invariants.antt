use Prim.Native.Nat.{◌≤◌}
use lib.ListN.{length}
use Rattle.algebra.specs.Expr.{Expr, actions}
use Rattle.plan.specs.inner.Numbers.{table_numbers}
use Rattle.boxes.specs.inner.Counted.{counts_numbers}
use Rattle.lists.specs.inner.Numbers.{node_table}
use Rattle.spread.specs.inner.Numbers.{told_table}
use Rattle.spread.specs.inner.Spread.{Of}
use Rattle.spread.proofs.Passes.{Reached}
use Rattle.spread.proofs.walk.spread.Given as goal

abbrev pub invariant-loop-k : goal.invariant-loop-k
invariant-loop-k l = (E : Expr) → Of (table_numbers l.rows) (length l.rows) (counts_numbers l.counts) E → actions E ≤ length l.initial.index
    → Reached (table_numbers l.rows) (counts_numbers l.counts) (length l.rows) E (node_table l.lists) (told_table l.index) l.k
