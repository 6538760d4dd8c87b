-- `put_merged` meets its contract: the two lists stand one behind the other in the room, and are merged from there.
-- Assumes nothing.
use native.Mathlib.Omega.{arith}
use mathlib.Core.Path.{sym}
use lib.Seq.{length-take-le}
use Rattle.sides.proofs.Sides.{pair_merged}
use Rattle.lists.specs.inner.Numbers.{node_table}
use Rattle.spread.specs.inner.Numbers.{told_table}
use Rattle.sides.proofs.put_merged.Goals as goal

pub slice_bounds-merge-end : goal.slice_bounds-merge-end
slice_bounds-merge-end c =
    sym (length-take-le c.args.m _ (omega (arith, c.room-1.given)))

pub returns : goal.returns
returns c =
    pair_merged (node_table c.args.draft.lists.now) (told_table c.args.draft.index.now) c.args.side c.args.i c.args.j c.args.part.now c.requires.0 c.put_pair.ensures c.merge.ensures
