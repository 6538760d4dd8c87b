use lib.ListN.{length}
use Rattle.transitions.specs.inner.Numbers.{list_numbers}
use Rattle.lists.specs.inner.Numbers.{node_table}
use Rattle.spread.specs.inner.Numbers.{told_table}
use Rattle.tables.proofs.Puts.{Putting}
use Rattle.tables.proofs.rows.put_transitions.Given as goal

abbrev pub invariant-loop-k : goal.invariant-loop-k
invariant-loop-k l = Putting (node_table l.draft.lists.now) (told_table l.draft.index.now) (list_numbers l.list) (length l.list) l.k l.at l.initial.rows l.rows l.initial.arcs l.arcs
