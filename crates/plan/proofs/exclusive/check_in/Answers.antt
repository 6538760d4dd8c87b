-- `check_in` meets its contract: once all nodes are judged the answer is that of the check for loops.
-- Assumes nothing.
use Rattle.std.proofs.Common.{sym, ap, ◌∙◌}
use Rattle.field.specs.Answer.{refused}
use Rattle.field.specs.Says.{number_of}
use Rattle.plan.specs.Loops.{no_fault}
use Rattle.plan.specs.inner.Judged.{fault_told}
use Rattle.plan.specs.inner.Numbers.{table_numbers}
use Rattle.plan.proofs.Judges.{check_answered}
use Rattle.plan.proofs.exclusive.check_in.Goals as goal

pub returns-in-Some : goal.returns-in-Some
returns-in-Some c =
    let j = c.judge in
    λ E t.
    ap (λ f. refused (number_of f) c.at.result.carried) c.at.ensures.0
    ∙ ap (refused 10) c.at.ensures.1
    ∙ sym (ap (λ f. no_fault (fault_told f)) c.in-Some.is)
    ∙ check_answered (table_numbers c.args.rows.now) _ _ _ j.result j.ensures E t

pub returns-in-None : goal.returns-in-None
returns-in-None c =
    let j = c.judge in
    λ E t. sym (ap (λ f. no_fault (fault_told f)) c.in-None.is) ∙ check_answered (table_numbers c.args.rows.now) _ _ _ j.result j.ensures E t
