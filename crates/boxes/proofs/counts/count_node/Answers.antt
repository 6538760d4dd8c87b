-- `count_node` meets its contract: its counts are stored, its operands' being known.
use Rattle.boxes.proofs.CountsEachNode.{one_counted}
use Rattle.boxes.proofs.counts.count_node.Goals as goal

pub returns : goal.returns
returns c = one_counted c.args.counts.now c.requires.1 c.counts_of.ensures
