-- `told_at` meets its contract: row i of the index is three of its numbers.
-- Assumes nothing.
use Prim.Native.Nat.{◌+◌, ◌*◌}
use native.Mathlib.Omega.{arith}
use mathlib.Core.Path.{refl, sym, ◌∙◌}
use Rattle.net.specs.declared.Side.TheVariants.{Inputs, Outputs}
use Rattle.spread.specs.inner.Numbers.{no_told}
use Rattle.spread.proofs.ToldRows.{node_of_row, count_of_row, past_rows}
use Rattle.sides.proofs.told_at.Goals as goal

pub returns-then-i-index : goal.returns-then-i-index
returns-then-i-index c =
    let a = c.args in
    let h = c.if-i-index.true in
    sym (λ t. record { node = node_of_row a.index.now a.i no_told h t; inputs = count_of_row a.index.now a.i no_told h Inputs t; outputs = count_of_row a.index.now a.i no_told h Outputs t })

pub returns-else-i-index : goal.returns-else-i-index
returns-else-i-index c =
    let a = c.args in
    let h = c.if-i-index.false in
    let e = c.default.ensures in
    let x = e.0 ∙ sym (past_rows a.index.now a.i 0 (3 * a.i) h (omega arith)) in
    let y = e.1.0 ∙ sym (past_rows a.index.now a.i 1 (3 * a.i + 1) h refl) in
    let z = e.1.1 ∙ sym (past_rows a.index.now a.i 2 (3 * a.i + 2) h refl) in
    λ t. record { node = x t; inputs = y t; outputs = z t }
