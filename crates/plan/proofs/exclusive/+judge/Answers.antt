-- `judge` meets its contract, the node number falling: one node is judged, or four, and then those below.
-- Assumes nothing.
use native.Mathlib.Omega.{arith}
use mathlib.Core.Path.{sym}
use Rattle.plan.proofs.Judges.{moved}
use Rattle.plan.proofs.exclusive.+judge.Goals as goal

pub returns-then-high-eq0 : goal.returns-then-high-eq0
returns-then-high-eq0 t c =
    λ after answer j. moved (sym c.if-high-eq0.true) j

pub returns-then-high-lt4 : goal.returns-then-high-lt4
returns-then-high-lt4 t c =
    λ after answer j. moved (omega arith) (c.judge_node-found.ensures after answer (c.judge.ensures after answer j))

pub returns : goal.returns
returns t c =
    λ after answer j. moved (omega arith) (c.judge_four-found.ensures after answer (c.judge-2.ensures after answer j))
