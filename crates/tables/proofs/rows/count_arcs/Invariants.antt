use Prim.Native.Nat.{◌*◌, ◌≤◌}
use lib.ListN.{length}
use Rattle.transitions.specs.inner.Numbers.{list_numbers}
use Rattle.spread.specs.inner.Numbers.{told_table}
use Rattle.sides.specs.inner.Sides.{told_arcs}
use Rattle.tables.proofs.Counted.{Counts}
use Rattle.tables.proofs.rows.count_arcs.Given as goal

abbrev pub invariant-loop-t : goal.invariant-loop-t
invariant-loop-t l = Counts (told_arcs (told_table l.index)) (list_numbers l.list) l.t-index (length l.list) l.count × (l.count ≤ 262140 * l.t-index)
