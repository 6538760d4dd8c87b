-- `put_arcs` meets its contract: the part is cut where the inputs end.
-- Assumes nothing.
use native.Mathlib.Omega.{arith}
use mathlib.Core.Path.{sym, ◌∙◌}
use lib.Seq.{length-take-le}
use Rattle.net.specs.Tables.{item_of}
use Rattle.sides.proofs.Sides.{sides_placed}
use Rattle.lists.specs.inner.Numbers.{node_table}
use Rattle.spread.specs.inner.Numbers.{told_table}
use Rattle.sides.proofs.put_arcs.Goals as goal

pub slice_bounds-put_side-end-2 : goal.slice_bounds-put_side-end-2
slice_bounds-put_side-end-2 c =
    sym (length-take-le c.args.inputs c.args.part.now (omega arith))

pub put_side-requires : goal.put_side-requires
put_side-requires c =
    let e = length-take-le c.args.inputs c.args.part.now (omega arith) in (e ∙ c.requires.0, omega arith)

pub returns : goal.returns
returns c =
    sides_placed (node_table c.args.draft.lists.now) (told_table c.args.draft.index.now) (item_of c.args.t.first c.args.t.second) c.args.part.now c.requires.0 c.requires.1 c.put_side.ensures c.put_side-2.ensures
