-- `put_loop` meets its contract: each list is lowered from the node's by the definition's factors, which are products of at most three counts.
-- Assumes nothing.
use Prim.Native.Nat.{◌+◌, ◌*◌}
use native.Mathlib.Nat.{add_assoc}
use mathlib.Core.Path.{◌≡◌, sym, ◌∙◌}
use Rattle.lists.specs.inner.Lists.{lower_by}
use Rattle.lists.specs.inner.Numbers.{node_table, no_node}
use Rattle.lists.proofs.NodeRows.{node_of_row}
use Rattle.spread.proofs.OperandsPut.{entries_kept, exits_kept, internal_kept, internal_behind, of_internals, three_told}
use Rattle.spread.proofs.walk.put_loop.Goals as goal

pub returns : goal.returns
returns c =
    let a = c.args in
    let l = node_table a.lists.now in
    let node = c.wide-node.result in
    let n = c.wide-node.ensures.same ∙ sym (node_of_row a.lists.now a.k no_node c.requires) in
    let i = c.places_from-internals in
    let x = c.from-e_exits.ensures in
    let y = c.from-f_exits.ensures in
    let f = c.from-f_entries.ensures in
    let g = c.from-g_entries.ensures in
    let off = a.e.internals + a.f.internals + a.g.internals in
    let off_is : c.from.result + c.from-2.result + c.from-3.result ≡ off = λ t. c.from.ensures t + c.from-2.ensures t + c.from-3.ensures t in
    let before = a.e.exits * a.f.exits in
    let behind = a.f.entries * a.g.entries in
    let inner = node.internal + c.from-4.result in
    let last : inner + c.from-5.result ≡ node.internal + (a.e.internals + a.f.internals) =
    (λ t. node.internal + c.from-4.ensures t + c.from-5.ensures t) ∙ add_assoc node.internal a.e.internals a.f.internals in
    three_told l a.k a.second a.third a.e a.f a.g
    (entries_kept l a.k n)
    (of_internals l a.k n 1 (a.f.exits * behind) 0 off i.ensures (c.lowered-exits.ensures ∙ (λ t. lower_by 1 (y t * (f t * g t)) 0 (off_is t) a.k i.result)))
    (internal_kept l a.k n)
    (of_internals l a.k n before a.g.entries behind off i.ensures (c.lowered-entries.ensures ∙ (λ t. lower_by (x t * y t) (g t) (f t * g t) (off_is t) a.k i.result)))
    (of_internals l a.k n a.e.exits behind (a.f.exits * behind) off i.ensures (c.lowered-exits-2.ensures ∙ (λ t. lower_by (x t) (f t * g t) (y t * (f t * g t)) (off_is t) a.k i.result)))
    (internal_behind l a.k n inner a.e.internals (λ t. node.internal + c.from-4.ensures t))
    (of_internals l a.k n (before * a.f.entries) 1 a.g.entries off i.ensures (c.lowered-entries-2.ensures ∙ (λ t. lower_by (x t * y t * f t) 1 (g t) (off_is t) a.k i.result)))
    (exits_kept l a.k n)
    (internal_behind l a.k n (inner + c.from-5.result) (a.e.internals + a.f.internals) last)
    c.put_node.ensures c.put_node-2.ensures c.put_node-3.ensures
