-- `is_exclusive` meets its contract: each return answers one case of `exclusive_by`.
-- Assumes nothing.
use Rattle.std.proofs.Common.{ap, ◌∙◌, Ok}
use Rattle.plan.specs.inner.Judged.{bit}
use Rattle.plan.proofs.JudgedByTag.{judged_as, always, choice_first, choice_second}
use Rattle.plan.proofs.exclusive.is_exclusive.Goals as goal

pub returns-in_default : goal.returns-in_default
returns-in_default c = judged_as c.args.rows.now c.args.exclusive.now c.args.k _ c.requires.0 c.tag.ensures c.in_default.is

pub returns-in-Action : goal.returns-in-Action
returns-in-Action c = always c.args.rows.now c.args.exclusive.now c.args.k _ c.requires.0 c.tag.ensures c.in-Ok.is c.in-Action.is

pub returns-then-is_judged_exclusive : goal.returns-then-is_judged_exclusive
returns-then-is_judged_exclusive c =
    choice_second c.args.rows.now c.args.exclusive.now c.args.k _ c.requires.0 c.tag.ensures (c.in-Ok.is ∙ ap Ok c.in-Choice.is)
    c.is_judged_exclusive.ensures c.if-is_judged_exclusive.true c.after.ensures.number c.is_judged_exclusive-then-is_judged_exclusive.ensures

pub returns-else-is_judged_exclusive : goal.returns-else-is_judged_exclusive
returns-else-is_judged_exclusive c =
    choice_first c.args.rows.now c.args.exclusive.now c.args.k _ c.requires.0 c.tag.ensures (c.in-Ok.is ∙ ap Ok c.in-Choice.is)
    c.is_judged_exclusive.ensures c.if-is_judged_exclusive.false

pub returns-in-Parallel : goal.returns-in-Parallel
returns-in-Parallel c = judged_as c.args.rows.now c.args.exclusive.now c.args.k _ c.requires.0 c.tag.ensures (c.in-Ok.is ∙ ap Ok c.in-Parallel.is)

pub returns-in-Scope : goal.returns-in-Scope
returns-in-Scope c =
    ap bit c.is_judged_exclusive-in-Scope.ensures
    ∙ judged_as c.args.rows.now c.args.exclusive.now c.args.k _ c.requires.0 c.tag.ensures (c.in-Ok.is ∙ ap Ok c.in-Scope.is)
