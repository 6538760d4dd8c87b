-- `put_row` meets its contract: the part that the row is copied into is the row.
-- Assumes nothing.
use Prim.Native.Nat.{◌*◌, ◌+◌, ◌-◌}
use native.Mathlib.Omega.{arith}
use mathlib.Core.Path.{◌∙◌, ap}
use lib.ListN.{length}
use lib.Seq.{sets}
use Rattle.tables.proofs.Puts.{part_set}
use Rattle.tables.proofs.rows.put_row.Goals as goal

pub returns : goal.returns
returns c =
    let a = c.args in
    let row = c.copy_from_slice.ensures.after in
    part_set a.rows.now c.copy_from_slice.new.self (6 * a.k) (6 * a.k + 6 - 6 * a.k) (ap length row ∙ omega arith) (omega arith) ∙ ap (sets a.rows.now (6 * a.k)) row
