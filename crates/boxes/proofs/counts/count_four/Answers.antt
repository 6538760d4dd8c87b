-- `count_four` meets its contract: each node is counted where the one behind it left off.
use Rattle.std.proofs.Common.{arith}
use Rattle.boxes.proofs.CountsEachNode.{moved}
use Rattle.boxes.proofs.counts.count_four.Goals as goal

pub returns : goal.returns
returns c =
    λ count before j.
    c.count_node-4.ensures count before
    (c.count_node-3.ensures count before
    (moved (omega arith) (c.count_node-2.ensures count before
    (moved (omega arith) (c.count_node.ensures count before (moved (omega arith) j))))))
