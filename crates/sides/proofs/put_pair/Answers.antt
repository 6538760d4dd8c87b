-- `put_pair` meets its contract: the part is cut where the first list ends.
-- Assumes nothing.
use native.Mathlib.Omega.{arith}
use mathlib.Core.Path.{sym}
use lib.Seq.{length-take-le}
use Rattle.sides.proofs.Sides.{pair_placed}
use Rattle.lists.specs.inner.Numbers.{node_table}
use Rattle.spread.specs.inner.Numbers.{told_table}
use Rattle.sides.proofs.put_pair.Goals as goal

pub slice_bounds-put_one-end-2 : goal.slice_bounds-put_one-end-2
slice_bounds-put_one-end-2 c =
    sym (length-take-le c.args.m c.args.part.now (omega arith))

pub put_one-requires : goal.put_one-requires
put_one-requires c =
    omega (arith, length-take-le c.args.m c.args.part.now (omega arith))

pub returns : goal.returns
returns c =
    pair_placed (node_table c.args.draft.lists.now) (told_table c.args.draft.index.now) c.args.side c.args.i c.args.j c.args.part.now c.requires.0 c.requires.1 c.put_one.ensures c.put_one-2.ensures
