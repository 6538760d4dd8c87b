-- `put_sequence` meets its contract: each list is lowered from the node's by the definition's factors.
-- Assumes nothing.
use Prim.Native.Nat.{◌+◌}
use mathlib.Core.Path.{sym, ◌∙◌}
use Rattle.arcs.specs.inner.Moves.{sequence_move}
use Rattle.lists.specs.inner.Lists.{lower_by}
use Rattle.lists.specs.inner.Numbers.{node_table, no_node}
use Rattle.lists.proofs.NodeRows.{node_of_row}
use Rattle.spread.proofs.OperandsPut.{entries_kept, exits_kept, internal_kept, internal_behind, of_internals, two_told}
use Rattle.spread.proofs.walk.put_sequence.Goals as goal

pub returns : goal.returns
returns c =
    let a = c.args in
    let l = node_table a.lists.now in
    let node = c.wide-node.result in
    let n = c.wide-node.ensures.same ∙ sym (node_of_row a.lists.now a.k no_node c.requires) in
    let i = c.places_from-internals in
    let off = a.e.internals + a.f.internals in
    let exits = of_internals l a.k n 1 a.f.entries 0 off i.ensures
    (c.lowered-exits.ensures ∙ (λ t. lower_by 1 (c.from-f_entries.ensures t) 0 (c.from.ensures t + c.from-2.ensures t) a.k i.result)) in
    let entries = of_internals l a.k n a.e.exits 1 a.f.entries off i.ensures
    (c.lowered-entries.ensures ∙ (λ t. lower_by (c.from-e_exits.ensures t) 1 (c.from-f_entries.ensures t) (c.from.ensures t + c.from-2.ensures t) a.k i.result)) in
    two_told l a.k a.second sequence_move a.e a.f
    (entries_kept l a.k n) exits (internal_kept l a.k n)
    entries (exits_kept l a.k n) (internal_behind l a.k n (node.internal + c.from-3.result) a.e.internals (λ t. node.internal + c.from-3.ensures t))
    c.put_node.ensures c.put_node-2.ensures
