-- `judge_four` meets its contract: each node is judged where the one behind it left off.
-- Assumes nothing.
use native.Mathlib.Omega.{arith}
use Rattle.plan.proofs.Judges.{moved}
use Rattle.plan.proofs.exclusive.judge_four.Goals as goal

pub returns : goal.returns
returns c =
    λ after answer j.
    moved (omega arith) (c.judge_node-fourth.ensures after answer
    (moved (omega arith) (c.judge_node-third.ensures after answer
    (moved (omega arith) (c.judge_node-second.ensures after answer (c.judge_node.ensures after answer j))))))
