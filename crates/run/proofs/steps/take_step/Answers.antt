-- `take_step`: each answer, with the marking that it leaves, is a law of `StepsTaken` at the step that was read.
use Rattle.std.proofs.Common.{refl, ap, ◌∙◌, drop}
use mathlib.Core.Path.{ap₂}
use Rattle.std.proofs.lemmas.Result.{err_from_is_err_and}
use Rattle.field.specs.Answer.{refused}
use Rattle.field.specs.Says.{number_of}
use Rattle.moving.specs.inner.InOrder.{transitions_within}
use Rattle.run.proofs.StepsTaken.{no_step_taken, step_taken, step_not_taken}
use Rattle.run.proofs.steps.take_step.Goals as goal

pub returns-in-Err : goal.returns-in-Err
returns-in-Err c =
    let n = c.args.indexed.net in
    record {
      says = ap₂ refused (ap number_of c.at.ensures.0) c.at.ensures.1
          ∙ no_step_taken (transitions_within n.rows.now n.arcs.now n.transitions) c.args.marking.now (drop c.args.at c.args.«record».now) c.args.at (number_of c.in-Err.fault) c.args.at c.in-Err.ensures.says;
      leaves = refl;
    }

pub returns-in_err-fire_items-in-Ok : goal.returns-in_err-fire_items-in-Ok
returns-in_err-fire_items-in-Ok c =
    let n = c.args.indexed.net in
    let p = err_from_is_err_and c.from_residual.result c.from_residual.ensures.1 in
    rw (p.1, p.2)
    (step_not_taken (transitions_within n.rows.now n.arcs.now n.transitions) c.args.marking.now (drop c.args.at c.args.«record».now) c.args.at c.step_at.new.items c.in-Ok.step.items c.in-Ok.step.bytes
    c.in-Ok.ensures.says c.fire_items.result c.fire_items.new.marking c.fire_items.ensures _ c.in_err-fire_items-in-Ok.was)

pub returns-in_ok-fire_items-in-Ok : goal.returns-in_ok-fire_items-in-Ok
returns-in_ok-fire_items-in-Ok c =
    let n = c.args.indexed.net in
    record {
      some = c.in-Ok.ensures.fits.0;
      within = c.in-Ok.ensures.fits.1;
      takes = step_taken (transitions_within n.rows.now n.arcs.now n.transitions) c.args.marking.now (drop c.args.at c.args.«record».now) c.args.at c.step_at.new.items c.in-Ok.step.items c.in-Ok.step.bytes
          c.in-Ok.ensures.says c.fire_items.result c.fire_items.new.marking c.fire_items.ensures c.in_ok-fire_items-in-Ok.was;
    }
