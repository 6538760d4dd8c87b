-- `count_places` meets its contract: once all nodes are counted the table begins with their counts.
use Rattle.std.proofs.Common.{arith}
use Rattle.boxes.proofs.CountRows.{counts_length}
use Rattle.boxes.proofs.CountsEachNode.{none_counted, all_counted}
use Rattle.boxes.proofs.counts.count_places.Goals as goal

pub returns : goal.returns
returns c = λ E t. all_counted (omega (arith, counts_length c.args.counts.now)) (c.count.ensures _ _ (none_counted _ _ _)) E t
