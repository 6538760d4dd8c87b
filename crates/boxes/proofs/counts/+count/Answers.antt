-- `count` meets its contract, the node number falling: one node is counted, or four, and then those below.
use Rattle.std.proofs.Common.{arith}
use Rattle.boxes.proofs.CountsEachNode.{moved}
use Rattle.boxes.proofs.counts.+count.Goals as goal

pub returns-then-high-eq0 : goal.returns-then-high-eq0
returns-then-high-eq0 t c =
    λ count before j. moved c.if-high-eq0.true j

pub returns-then-high-lt4 : goal.returns-then-high-lt4
returns-then-high-lt4 t c =
    λ count before j. c.count.ensures count before (c.count_node.ensures count before (moved (omega arith) j))

pub returns : goal.returns
returns t c =
    λ count before j. c.count-2.ensures count before (c.count_four.ensures count before (moved (omega arith) j))
