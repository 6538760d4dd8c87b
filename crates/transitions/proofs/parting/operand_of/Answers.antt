-- `operand_of` meets its contract: each return answers one case of `by_tag`.
-- Assumes nothing.
use Rattle.std.proofs.Common.{◌∙◌, Ok, arith, sym, ap}
use Rattle.plan.specs.inner.Numbers.{table_numbers}
use Rattle.plan.proofs.NodeRows.{table_length}
use Rattle.transitions.proofs.OperandByTag.{tag_told, by_its_tag, tagged_within, first_operand, second_operand, begin_operand, body_operand, end_operand}
use Rattle.transitions.proofs.parting.operand_of.Goals as goal

pub returns-in_default-clause-operand : goal.returns-in_default-clause-operand
returns-in_default-clause-operand c =
    let rows = table_numbers c.args.rows.now in
    sym (by_its_tag rows c.args.k c.args.i (tag_told rows c.args.k c.row_at.ensures c.tag.ensures ∙ c.in_default.is))

pub returns-in-Action-clause-operand : goal.returns-in-Action-clause-operand
returns-in-Action-clause-operand c =
    let rows = table_numbers c.args.rows.now in
    sym (by_its_tag rows c.args.k c.args.i (tag_told rows c.args.k c.row_at.ensures c.tag.ensures ∙ c.in-Ok.is ∙ ap Ok c.in-Action.is))

pub returns-in-Scope-clause-operand : goal.returns-in-Scope-clause-operand
returns-in-Scope-clause-operand c =
    let rows = table_numbers c.args.rows.now in
    sym (by_its_tag rows c.args.k c.args.i (tag_told rows c.args.k c.row_at.ensures c.tag.ensures ∙ c.in-Ok.is ∙ ap Ok c.in-Scope.is))

pub returns-in-Scope-clause-fits : goal.returns-in-Scope-clause-fits
returns-in-Scope-clause-fits c =
    let rows = table_numbers c.args.rows.now in
    omega (arith, table_length c.args.rows.now, tagged_within rows c.args.k _ (tag_told rows c.args.k c.row_at.ensures c.tag.ensures ∙ c.in-Ok.is))

-- A loop.
pub returns-then-i-first-clause-operand : goal.returns-then-i-first-clause-operand
returns-then-i-first-clause-operand c =
    let rows = table_numbers c.args.rows.now in
    begin_operand rows c.args.k c.args.i c.after-second.ensures.number c.first.ensures.number
    (tag_told rows c.args.k c.row_at.ensures c.tag.ensures ∙ c.in-Ok.is ∙ ap Ok c.in-Loop.is) c.if-i-first.true

pub returns-then-i-first-clause-fits : goal.returns-then-i-first-clause-fits
returns-then-i-first-clause-fits c =
    let rows = table_numbers c.args.rows.now in
    omega (arith, table_length c.args.rows.now, tagged_within rows c.args.k _ (tag_told rows c.args.k c.row_at.ensures c.tag.ensures ∙ c.in-Ok.is))

pub returns-then-i-first-2-clause-operand : goal.returns-then-i-first-2-clause-operand
returns-then-i-first-2-clause-operand c =
    let rows = table_numbers c.args.rows.now in
    body_operand rows c.args.k c.args.i c.after-second.ensures.number c.first.ensures.number
    (tag_told rows c.args.k c.row_at.ensures c.tag.ensures ∙ c.in-Ok.is ∙ ap Ok c.in-Loop.is) c.if-i-first.false
    c.after-third.ensures.number c.first-in-Loop.ensures.number c.if-i-first-2.true

pub returns-else-i-first-2-clause-operand : goal.returns-else-i-first-2-clause-operand
returns-else-i-first-2-clause-operand c =
    let rows = table_numbers c.args.rows.now in
    end_operand rows c.args.k c.args.i c.after-second.ensures.number c.first.ensures.number
    (tag_told rows c.args.k c.row_at.ensures c.tag.ensures ∙ c.in-Ok.is ∙ ap Ok c.in-Loop.is) c.if-i-first.false
    c.after-third.ensures.number c.first-in-Loop.ensures.number c.if-i-first-2.false

-- An operator with two operands.
pub returns-then-i-first-3-clause-operand : goal.returns-then-i-first-3-clause-operand
returns-then-i-first-3-clause-operand c =
    let rows = table_numbers c.args.rows.now in
    first_operand rows c.args.k c.args.i c.after-second-in-Sequence.ensures.number c.first-in-Sequence.ensures.number c.in-Ok.tag
    (tag_told rows c.args.k c.row_at.ensures c.tag.ensures ∙ c.in-Ok.is) c.in-Sequence.is c.if-i-first-3.true

pub returns-then-i-first-3-clause-fits : goal.returns-then-i-first-3-clause-fits
returns-then-i-first-3-clause-fits c =
    let rows = table_numbers c.args.rows.now in
    omega (arith, table_length c.args.rows.now, tagged_within rows c.args.k _ (tag_told rows c.args.k c.row_at.ensures c.tag.ensures ∙ c.in-Ok.is))

pub returns-else-i-first-3-clause-operand : goal.returns-else-i-first-3-clause-operand
returns-else-i-first-3-clause-operand c =
    let rows = table_numbers c.args.rows.now in
    second_operand rows c.args.k c.args.i c.after-second-in-Sequence.ensures.number c.first-in-Sequence.ensures.number c.in-Ok.tag
    (tag_told rows c.args.k c.row_at.ensures c.tag.ensures ∙ c.in-Ok.is) c.in-Sequence.is c.if-i-first-3.false
