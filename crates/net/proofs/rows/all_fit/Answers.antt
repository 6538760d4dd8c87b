-- `all_fit`: the whole is what is left, from the row at which the loop stands and the number at which its arcs must start. Assumes nothing.
use mathlib.Core.Path.{sym, ap, ◌∙◌}
use native.Mathlib.Omega.{arith}
use Rattle.net.specs.declared.tables.Row.{Row}
use Rattle.net.proofs.Turns.{goes_on, stops}
use Rattle.net.proofs.RowTurns.{rows_turn, rows_end, row_within}
use Rattle.net.proofs.rows.all_fit.Goals as goal

pub loop-t-preserved : goal.loop-t-preserved
loop-t-preserved c =
    let l = c.loop-t in
    let ins = c.from.ensures ∙ ap (λ (r : Row). r.inputs) c.at-row.ensures in
    let outs = c.from-in-loop-t.ensures ∙ ap (λ (r : Row). r.outputs) c.at-row.ensures in
    let fits = sym c.row_fits.ensures ∙ c.if-not-row_fits.false in (
      omega (arith, row_within _ _ _ _ _ l.t fits, ins, outs),
      goes_on _ _ l.invariant.1 (rows_turn _ _ _ _ _ l.t _ (omega arith)) fits ∙ rw (ins, outs),
    )

pub returns-then-not-row_fits : goal.returns-then-not-row_fits
returns-then-not-row_fits c =
    let l = c.loop-t in stops _ _ l.invariant.1 (rows_turn _ _ _ _ _ l.t _ (omega arith)) (sym c.row_fits.ensures ∙ c.if-not-row_fits.true)

pub returns : goal.returns
returns c =
    let l = c.loop-t in sym (l.invariant.1 ∙ rows_end _ _ _ _ _ l.t _ c.loop-t-test.false)
