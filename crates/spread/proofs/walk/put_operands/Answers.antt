-- `put_operands` meets its contract: each tag has its operands' rows, by the counts that the table has of them.
-- Assumes nothing.
use mathlib.Core.Path.{◌≡◌, sym, ◌∙◌}
use Rattle.std.proofs.Common.{rules}
use Rattle.lists.specs.inner.Numbers.{node_table, no_node}
use Rattle.lists.proofs.NodeRows.{node_of_row}
use Rattle.spread.specs.inner.Walk.{one_put}
use Rattle.spread.proofs.OperandsPut.{entries_kept, exits_kept, internal_kept, one_told}
use Rattle.spread.proofs.walk.put_operands.Goals as goal

pub returns-in-Ok-Scope : goal.returns-in-Ok-Scope
returns-in-Ok-Scope c =
    let a = c.args in
    let l = node_table a.lists.now in
    let n = c.wide-node.ensures.same ∙ sym (node_of_row a.lists.now a.k no_node c.requires) in
    let put : node_table c.put_node.new.lists ≡ one_put l a.k = one_told l a.k (entries_kept l a.k n) (exits_kept l a.k n) (internal_kept l a.k n) c.put_node.ensures in
    search rules
