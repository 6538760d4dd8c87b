use Rattle.std.proofs.Common.{sym, ◌∙◌}
use Rattle.plan.proofs.NodeRows.{row_of_row, row_past_rows}
use Rattle.plan.proofs.table.row_at.Goals as goal

pub returns-then-k-rows : goal.returns-then-k-rows
returns-then-k-rows c = sym (row_of_row c.args.rows.now c.args.k _ c.if-k-rows.true)

pub returns-else-k-rows : goal.returns-else-k-rows
returns-else-k-rows c =
    let e = c.default.ensures in
    (λ i. record { tag = e.0 i; byte = e.1.0 i; members = e.1.1.0 i; after = e.1.1.1.0 i; first = e.1.1.1.1.0 i; at = e.1.1.1.1.1 i }) ∙ sym (row_past_rows c.args.rows.now c.args.k c.if-k-rows.false)
