-- `put_transitions` meets its contract. The loop's invariant: what is left to be put leaves what all transitions leave.
-- Assumes nothing.
use borrow.Author.Rules.{rules}
use lib.ListN.{length}
use Rattle.transitions.specs.inner.Numbers.{list_numbers}
use Rattle.lists.specs.inner.Numbers.{node_table}
use Rattle.spread.specs.inner.Numbers.{told_table}
use Rattle.tables.proofs.Puts.{none_put, room, one_put, all_rows, all_arcs}
use Rattle.tables.proofs.rows.put_transitions.Goals as goal

pub loop-k-init : goal.loop-k-init
loop-k-init c =
    let a = c.args in none_put (node_table a.draft.lists.now) (told_table a.draft.index.now) (list_numbers a.list.now) (length a.list.now) a.rows.now a.arcs.now

pub put_transition-at-requires : goal.put_transition-at-requires
put_transition-at-requires c =
    room c.loop-k.invariant c.requires c.loop-k-test.true

pub loop-k-preserved : goal.loop-k-preserved
loop-k-preserved c =
    one_put c.loop-k.invariant c.loop-k-test.true c.put_transition-at.ensures.ends c.put_transition-at.ensures.puts (search rules) (search rules)

pub returns-clause-rows : goal.returns-clause-rows
returns-clause-rows c =
    all_rows c.loop-k.invariant c.loop-k-test.false

pub returns-clause-arcs : goal.returns-clause-arcs
returns-clause-arcs c =
    all_arcs c.loop-k.invariant c.loop-k-test.false
