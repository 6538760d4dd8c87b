-- `first_place` meets its contract: the list of the action's node begins with it.
-- Assumes nothing.
use Prim.Native.Nat.{ℕ, ◌*◌}
use mathlib.Core.Path.{◌≡◌, sym, ◌∙◌, ap}
use lib.ListN.{get_or}
use Rattle.lists.specs.declared.List as declared
use Rattle.lists.specs.inner.Lists.{place_of}
use Rattle.lists.specs.inner.Numbers.{node_table, no_node}
use Rattle.lists.proofs.NodeRows.{list_of_row, past_rows}
use Rattle.spread.specs.declared.Told.{Told}
use Rattle.spread.specs.inner.Numbers.{told_table}
use Rattle.sides.proofs.first_place.Goals as goal

pub returns-then-node-draft : goal.returns-then-node-draft
returns-then-node-draft c =
    let a = c.args in
    let node : c.from-node.result ≡ get_or (told_table a.draft.index.now) (3 * a.i) 0 = c.from-node.ensures ∙ ap (λ (t : Told). t.node) c.told_at.ensures in
    ap (λ (l : declared.List ℕ). l.base) (c.on.ensures ∙ sym (list_of_row a.draft.lists.now c.from-node.result no_node c.if-node-draft.true a.side))
    ∙ ap (λ k. get_or (node_table a.draft.lists.now) (place_of a.side k) 0) node

pub returns-else-node-draft : goal.returns-else-node-draft
returns-else-node-draft c =
    let a = c.args in
    let node : c.from-node.result ≡ get_or (told_table a.draft.index.now) (3 * a.i) 0 = c.from-node.ensures ∙ ap (λ (t : Told). t.node) c.told_at.ensures in
    sym (past_rows a.draft.lists.now a.side c.from-node.result c.if-node-draft.false)
    ∙ ap (λ k. get_or (node_table a.draft.lists.now) (place_of a.side k) 0) node
