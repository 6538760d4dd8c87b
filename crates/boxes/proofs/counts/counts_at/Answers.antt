-- `counts_at` meets its contract: the row's three numbers, or zeros past the last row.
use Rattle.std.proofs.Common.{sym, ◌∙◌}
use Rattle.boxes.proofs.CountRows.{same_counts, counts_of_row, counts_past_rows}
use Rattle.boxes.proofs.counts.counts_at.Goals as goal

pub returns-then-k-counts : goal.returns-then-k-counts
returns-then-k-counts c = sym (counts_of_row c.args.counts.now c.args.k _ c.if-k-counts.true)

pub returns-else-k-counts : goal.returns-else-k-counts
returns-else-k-counts c =
    let e = c.default.ensures in
    same_counts e.0 e.1.0 e.1.1 ∙ sym (counts_past_rows c.args.counts.now c.args.k c.if-k-counts.false)
