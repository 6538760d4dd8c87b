-- `put_both` meets its contract: the two lists stand one behind the other, in order or merged.
-- Assumes nothing.
use Prim.Native.Nat.{ℕ}
use native.Mathlib.Omega.{arith}
use mathlib.Core.Path.{sym, ◌∙◌}
use lib.ListN.{length, replicate}
use lib.Seq.{length-take-le}
use Rattle.sides.proofs.Sides.{pair_in_order}
use Rattle.lists.specs.inner.Numbers.{node_table}
use Rattle.spread.specs.inner.Numbers.{told_table}
use Rattle.sides.proofs.put_both.Goals as goal

pub returns-then-is_in_order : goal.returns-then-is_in_order
returns-then-is_in_order c =
    pair_in_order (node_table c.args.draft.lists.now) (told_table c.args.draft.index.now) c.args.side c.args.i c.args.j c.args.part.now c.count_of-m.ensures.0 c.put_pair.ensures (c.is_in_order.ensures c.if-is_in_order.true)

pub slice_bounds-put_merged-end-then-n-spare : goal.slice_bounds-put_merged-end-then-n-spare
slice_bounds-put_merged-end-then-n-spare c =
    sym (length-take-le _ _ (omega arith))

pub put_merged-requires : goal.put_merged-requires
put_merged-requires c =
    omega (arith, length-take-le _ c.args.spare.now c.if-n-spare.true)

pub returns-then-n-spare : goal.returns-then-n-spare
returns-then-n-spare c =
    λ E d r n. c.put_merged.ensures E d r (c.part-1.given ∙ n)

pub slice_bounds-put_merged-end-2 : goal.slice_bounds-put_merged-end-2
slice_bounds-put_merged-end-2 c =
    sym (length-take-le _ _ (omega arith))

pub put_merged-requires-2 : goal.put_merged-requires-2
put_merged-requires-2 c =
    omega (arith, length-take-le {A = ℕ} (length c.put_pair.new.part) (replicate 2048 0) (omega arith))

pub returns : goal.returns
returns c =
    λ E d r n. c.put_merged-2.ensures E d r (c.part-1.given ∙ n)
