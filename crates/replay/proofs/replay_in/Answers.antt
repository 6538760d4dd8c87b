-- `replay_in`: a refused plan is refused, and of one that is fine it is known what the judgement has told.
-- Assumes nothing.
use native.Mathlib.Omega.{arith}
use Rattle.judging.proofs.FinePlans.{not_fine}
use Rattle.replay.proofs.WorkRoom.{told_by, its_net}
use Rattle.replay.proofs.ReplayCall.{plan_refused}
use Rattle.replay.proofs.replay_in.Goals as goal

pub replay_put-requires-else-net-le-FEW_TRANSITIONS-clause-in_bounds : goal.replay_put-requires-else-net-le-FEW_TRANSITIONS-clause-in_bounds
replay_put-requires-else-net-le-FEW_TRANSITIONS-clause-in_bounds g c =
    let w = its_net (told_by c.judge.ensures.says c.judge.ensures.drawn c.in-Ok.is) in
    (omega (arith, w.few_transitions), omega (arith, w.few_arcs))

pub returns-in-Err : goal.returns-in-Err
returns-in-Err g c = plan_refused c.args.plan.now c.args.«record».now c.args.marking.now c.in-Err.refusal (not_fine c.args.plan.now c.judge.result c.judge.ensures.says c.in-Err.is)
