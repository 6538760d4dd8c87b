-- `operand_end` meets its contract: each return ends before the first action of the next operand.
-- Assumes nothing.
use Rattle.plan.specs.inner.Numbers.{table_numbers}
use Rattle.transitions.proofs.OperandByTag.{same_first, same_second, same_last}
use Rattle.transitions.proofs.parting.operand_end.Goals as goal

pub returns-then-j-begin-clause-same : goal.returns-then-j-begin-clause-same
returns-then-j-begin-clause-same c =
    let a = c.args in
    same_first (table_numbers a.rows.now) a.k a.j c.after-second.ensures.number c.first-begin.ensures.number c.if-j-begin.true

pub returns-then-j-last-clause-same : goal.returns-then-j-last-clause-same
returns-then-j-last-clause-same c =
    let a = c.args in
    same_second (table_numbers a.rows.now) a.k a.j c.after-second.ensures.number c.first-begin.ensures.number c.if-j-begin.false c.after.ensures.number c.first-last.ensures.number c.if-j-last.true

pub returns-else-j-last-clause-same : goal.returns-else-j-last-clause-same
returns-else-j-last-clause-same c =
    let a = c.args in
    same_last (table_numbers a.rows.now) a.k a.j c.after-second.ensures.number c.first-begin.ensures.number c.if-j-begin.false c.after.ensures.number c.first-last.ensures.number c.if-j-last.false 65536
