-- Each call reads fewer bytes than its caller was lent, or as many on the way from the operands to a field: the measure is twice the bytes
-- left, and one more for `read_operands`. At its loop the operands so far are read.
use Rattle.std.proofs.Common.{◌+◌, ◌*◌, ◌-◌, length}
use Rattle.plan.specs.inner.Numbers.{table_numbers}
use Rattle.plan.proofs.Readers.{Left}
use Rattle.plan.proofs.+read_field_read_operands.Given as goal

abbrev pub decreases-read_field : goal.decreases-read_field
decreases-read_field l = 2 * length l.s.now

abbrev pub decreases-read_operands : goal.decreases-read_operands
decreases-read_operands l = 2 * length l.s.now + 1

abbrev pub invariant-read_operands-loop : goal.invariant-read_operands-loop
invariant-read_operands-loop l =
    Left l.levels l.members l.s l.at l.fn.so_far.actions l.fn.so_far.nodes (table_numbers l.initial.rows) (table_numbers l.rows) (l.members - l.counter) l.from l.read
