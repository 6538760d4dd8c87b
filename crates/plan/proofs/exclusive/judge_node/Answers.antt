-- `judge_node` meets its contract: a node is judged, and then those below it.
-- Assumes nothing.
use Rattle.plan.specs.inner.Numbers.{table_numbers}
use Rattle.plan.proofs.Judges.{turn}
use Rattle.plan.proofs.exclusive.judge_node.Goals as goal

pub returns : goal.returns
returns c =
    λ after answer j.
    turn (table_numbers c.args.rows.now) after c.args.k c.args.exclusive.now c.args.later c.fault_of.result c.is_exclusive.result answer c.requires.2
    c.is_exclusive.ensures c.fault_of.ensures (rw c.or.ensures at j)
