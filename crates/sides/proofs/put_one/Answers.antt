-- `put_one` meets its contract: the node that the index tells has the action's places.
-- Assumes nothing.
use mathlib.Core.Path.{◌∙◌, ap}
use Rattle.spread.specs.declared.Told.{Told}
use Rattle.sides.proofs.Sides.{one_placed}
use Rattle.lists.specs.inner.Numbers.{node_table}
use Rattle.spread.specs.inner.Numbers.{told_table}
use Rattle.sides.proofs.put_one.Goals as goal

pub returns : goal.returns
returns c =
    let a = c.args in one_placed (node_table a.draft.lists.now) (told_table a.draft.index.now) a.side a.i a.part.now _ (c.from.ensures ∙ ap (λ (t : Told). t.node) c.told_at-node.ensures) c.put_places.ensures
