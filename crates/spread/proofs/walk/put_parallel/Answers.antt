-- `put_parallel` meets its contract: the second operand's lists stand behind the first's in the node's own.
-- Assumes nothing.
use Prim.Native.Nat.{◌+◌}
use mathlib.Core.Path.{sym, ◌∙◌}
use Rattle.arcs.specs.inner.Moves.{parallel_move}
use Rattle.lists.specs.inner.Lists.{lower_by}
use Rattle.lists.specs.inner.Numbers.{node_table, no_node}
use Rattle.lists.proofs.NodeRows.{node_of_row}
use Rattle.spread.proofs.OperandsPut.{entries_kept, exits_kept, internal_kept, internal_behind, of_entries, of_exits, two_told}
use Rattle.spread.proofs.walk.put_parallel.Goals as goal

pub returns : goal.returns
returns c =
    let a = c.args in
    let l = node_table a.lists.now in
    let node = c.wide-node.result in
    let n = c.wide-node.ensures.same ∙ sym (node_of_row a.lists.now a.k no_node c.requires) in
    two_told l a.k a.second (λ o kind e f. parallel_move o kind e) a.e a.f
    (entries_kept l a.k n) (exits_kept l a.k n) (internal_kept l a.k n)
    (of_entries l a.k n 1 1 0 a.e.entries (c.lowered-entries.ensures ∙ (λ t. lower_by 1 1 0 (c.from.ensures t) a.k node.entries)))
    (of_exits l a.k n 1 1 0 a.e.exits (c.lowered-exits.ensures ∙ (λ t. lower_by 1 1 0 (c.from-2.ensures t) a.k node.exits)))
    (internal_behind l a.k n (node.internal + c.from-3.result) a.e.internals (λ t. node.internal + c.from-3.ensures t))
    c.put_node.ensures c.put_node-2.ensures
