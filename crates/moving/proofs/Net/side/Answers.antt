-- `side`: the part of the arcs that the row tells, whose numbers are places in a net that is in order.
use Rattle.std.proofs.Common.{All, ◌<◌, sym, subst, ◌∙◌, ap}
use Rattle.net.specs.declared.Side.{Side}
use Rattle.net.specs.declared.tables.Row.{Row}
use Rattle.net.specs.declared.Side.TheVariants.{Inputs, Outputs}
use Rattle.moving.specs.inner.Moving.{side_of}
use Rattle.moving.proofs.MoveTurns.{side_inputs, side_outputs}
use Rattle.moving.proofs.Orders.{below_at}
use Rattle.moving.proofs.Net.side.Goals as goal

pub returns-in-Inputs : goal.returns-in-Inputs
returns-in-Inputs c =
    let s = c.args.self in
    let same = side_inputs s.rows.now s.arcs.now c.args.t _ _ (c.from-start.ensures ∙ ap (λ (r : Row). r.start) c.at-row.ensures) (c.from.ensures ∙ ap (λ (r : Row). r.inputs) c.at-row.ensures) in
    record {
      value = same ∙ ap (λ (x : Side). side_of x s.rows.now s.arcs.now c.args.t) (sym c.in-Inputs.is);
      below = subst (All (λ p. p < s.places)) (sym same) (below_at s.rows.now s.arcs.now s.transitions s.places s.in_order c.args.t c.requires Inputs);
    }

pub returns-in-Outputs : goal.returns-in-Outputs
returns-in-Outputs c =
    let s = c.args.self in
    let same = side_outputs s.rows.now s.arcs.now c.args.t _ _ (c.from-start.ensures ∙ ap (λ (r : Row). r.start) c.at-row.ensures) (c.from.ensures ∙ ap (λ (r : Row). r.inputs) c.at-row.ensures)
    _ (c.from-in-Outputs.ensures ∙ ap (λ (r : Row). r.outputs) c.at-row.ensures) in
    record {
      value = same ∙ ap (λ (x : Side). side_of x s.rows.now s.arcs.now c.args.t) (sym c.in-Outputs.is);
      below = subst (All (λ p. p < s.places)) (sym same) (below_at s.rows.now s.arcs.now s.transitions s.places s.in_order c.args.t c.requires Outputs);
    }
