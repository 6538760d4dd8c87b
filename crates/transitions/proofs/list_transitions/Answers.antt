-- `list_transitions` meets its contract: the plan is listed as the one operand of the table.
-- Assumes nothing.
use Rattle.std.proofs.Common.{length}
use Rattle.plan.specs.inner.Numbers.{table_numbers}
use Rattle.plan.proofs.Scopes.{named_scopes}
use Rattle.transitions.specs.inner.Numbers.{list_numbers}
use Rattle.transitions.proofs.WholeLists.{plan_listed, plan_too_many, plan_over}
use Rattle.transitions.proofs.list_transitions.Goals as goal
use Rattle.transitions.proofs.list_transitions.Goals.{in_default-via-in-Some+else-n-le-TRANSITION_LIMIT, in_default-via-in_default}

pub returns-in-Some-clause-lists : goal.returns-in-Some-clause-lists
returns-in-Some-clause-lists c =
    let a = c.args in
    λ E t few named. plan_listed (table_numbers a.rows.now) (length a.rows.now) E t (named_scopes E named) few (list_numbers a.list.now) (list_numbers c.list_nodes.new.list) c.in-Some.ensures.lists

pub returns-in_default-clause-lists : goal.returns-in_default-clause-lists
returns-in_default-clause-lists c =
    let a = c.args in
    λ E t few named.
    elim c.in_default.branch [
      | in_default-via-in-Some+else-n-le-TRANSITION_LIMIT w ↦
          plan_too_many (table_numbers a.rows.now) (length a.rows.now) E t (named_scopes E named) few (list_numbers a.list.now) (list_numbers c.list_nodes.new.list) w.in-Some.ensures.lists w.if-n-le-TRANSITION_LIMIT.false
      | in_default-via-in_default w ↦
          plan_over (table_numbers a.rows.now) (length a.rows.now) E t (named_scopes E named) few (list_numbers a.list.now) (list_numbers c.list_nodes.new.list) w.in_default.ensures.lists
    ]
