-- `put_choice` meets its contract: each list is lowered from the node's by the definition's factors.
-- Assumes nothing.
use Prim.Native.Nat.{◌+◌}
use mathlib.Core.Path.{sym, ◌∙◌}
use Rattle.arcs.specs.inner.Moves.{choice_move}
use Rattle.lists.specs.inner.Lists.{lower_by}
use Rattle.lists.specs.inner.Numbers.{node_table, no_node}
use Rattle.lists.proofs.NodeRows.{node_of_row}
use Rattle.spread.proofs.OperandsPut.{internal_kept, internal_behind, of_entries, of_exits, two_told}
use Rattle.spread.proofs.walk.put_choice.Goals as goal

pub returns : goal.returns
returns c =
    let a = c.args in
    let l = node_table a.lists.now in
    let node = c.wide-node.result in
    let n = c.wide-node.ensures.same ∙ sym (node_of_row a.lists.now a.k no_node c.requires) in
    two_told l a.k a.second choice_move a.e a.f
    (of_entries l a.k n 1 a.f.entries 0 0 (c.lowered-entries.ensures ∙ (λ t. lower_by 1 (c.from-f_entries.ensures t) 0 0 a.k node.entries)))
    (of_exits l a.k n 1 a.f.exits 0 0 (c.lowered-exits.ensures ∙ (λ t. lower_by 1 (c.from-f_exits.ensures t) 0 0 a.k node.exits)))
    (internal_kept l a.k n)
    (of_entries l a.k n a.e.entries 1 a.f.entries 0 (c.lowered-entries-2.ensures ∙ (λ t. lower_by (c.from-e_entries.ensures t) 1 (c.from-f_entries.ensures t) 0 a.k node.entries)))
    (of_exits l a.k n a.e.exits 1 a.f.exits 0 (c.lowered-exits-2.ensures ∙ (λ t. lower_by (c.from-e_exits.ensures t) 1 (c.from-f_exits.ensures t) 0 a.k node.exits)))
    (internal_behind l a.k n (node.internal + c.from.result) a.e.internals (λ t. node.internal + c.from.ensures t))
    c.put_node.ensures c.put_node-2.ensures
