-- `plan::read_plan_in` meets its contract: `read_operands` at the whole plan, one operand and no node yet, by the laws of `WholePlan`.
-- Assumes nothing.
use Rattle.std.proofs.Common.{arith, ap, Err}
use Rattle.field.specs.Says.{number_of}
use Rattle.plan.specs.inner.Numbers.{table_numbers}
use Rattle.plan.proofs.NodeRows.{table_length}
use Rattle.plan.proofs.WholePlan.{plan_over_limit, plan_read}
use Rattle.plan.proofs.read_plan_in.Goals as goal

pub returns-then-plan-gt-PLAN_LIMIT : goal.returns-then-plan-gt-PLAN_LIMIT
returns-then-plan-gt-PLAN_LIMIT c =
    let a = c.args in
    let law =
    plan_over_limit a.plan.now (table_numbers a.rows.now) (table_numbers a.rows.now) (Err c.at.result) (ap number_of c.at.ensures.0, c.at.ensures.1)
    c.if-plan-gt-PLAN_LIMIT.true in
    record { answer = law.0; rows = law.1 }

pub returns : goal.returns
returns c =
    let o = c.read_operands in
    let short = c.if-plan-gt-PLAN_LIMIT.false in
    let law =
    plan_read c.args.plan.now (table_numbers c.args.rows.now) (table_numbers o.new.rows) o.result short
    (λ n h. omega (arith, table_length c.args.rows.now, c.requires short)) o.ensures.fits o.ensures.are in
    record { answer = law.0; rows = law.1 }
