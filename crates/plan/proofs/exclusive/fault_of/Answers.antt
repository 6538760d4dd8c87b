-- `fault_of` meets its contract: each return answers one case of `fault_by`.
-- Assumes nothing.
use Rattle.plan.proofs.JudgedByTag.{no_loop, loop_fine, loop_faulty}
use Rattle.plan.proofs.exclusive.fault_of.Goals as goal
use Rattle.plan.proofs.exclusive.fault_of.Goals.{else-is_loop-via-then-is_loop+else-not-is_judged_exclusive, else-is_loop-via-else-is_loop}

pub returns-then-not-is_judged_exclusive : goal.returns-then-not-is_judged_exclusive
returns-then-not-is_judged_exclusive c =
    loop_faulty c.args.rows.now c.args.exclusive.now c.args.k _ c.requires.0 c.is_loop.ensures c.if-is_loop.true c.after.ensures.number
    c.is_judged_exclusive.ensures c.if-not-is_judged_exclusive.true c.from.ensures

pub returns-else-is_loop : goal.returns-else-is_loop
returns-else-is_loop c =
    elim c.else-is_loop.branch [
      | else-is_loop-via-then-is_loop+else-not-is_judged_exclusive w ↦ loop_fine c.args.rows.now c.args.exclusive.now c.args.k _ c.requires.0 c.is_loop.ensures w.after.ensures.number w.is_judged_exclusive.ensures w.if-not-is_judged_exclusive.false
      | else-is_loop-via-else-is_loop w ↦ no_loop c.args.rows.now c.args.exclusive.now c.args.k _ c.requires.0 c.is_loop.ensures w.if-is_loop.false
    ]
