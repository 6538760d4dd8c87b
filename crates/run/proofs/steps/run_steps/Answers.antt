-- `run_steps`: the whole run ends as the run from the place reached on does. Each turn and each answer is a law of `RunEnds`.
-- Every step takes bytes, so the number of steps stays at most the offset, and what is left of the record falls.
use Rattle.std.proofs.Common.{arith, ap, leb, refl, ◌∙◌, drop}
use lib.ListN.{length-drop}
use Rattle.std.specs.List.{list_all}
use Rattle.form.specs.Form.{read_steps}
use Rattle.form.proofs.ItemForms.{rest_part}
use Rattle.moving.specs.inner.InOrder.{transitions_within}
use Rattle.run.proofs.StepsTaken.{marking_after}
use Rattle.run.proofs.RunEnds.{ends_finished, ends_unfinished, ends_refused, goes_on}
use Rattle.run.proofs.steps.run_steps.Goals as goal

pub loop-place-init : goal.loop-place-init
loop-place-init c = record { long = refl; safe = c.requires.marking_value; steps_fit = omega arith; within = omega arith; same = λ N g. refl }

pub returns-in-Err : goal.returns-in-Err
returns-in-Err c =
    let n = c.args.indexed.net in let l = c.loop-place in
    ends_refused n.rows.now n.arcs.now n.transitions c.args.exits_from 0 c.args.marking.now (read_steps 0 0 c.args.«record».now) c.args.«record».now l.place.at l.place.steps l.marking l.invariant.same
    c.loop-place-test.true c.take_step.new.marking c.in-Err.refusal c.in-Err.ensures

pub loop-place-smaller : goal.loop-place-smaller
loop-place-smaller c =
    omega (arith, c.in-Ok.ensures.some, c.in-Ok.ensures.within, length-drop c.loop-place.place.at c.args.«record».now)

pub loop-place-preserved : goal.loop-place-preserved
loop-place-preserved c =
    let n = c.args.indexed.net in
    let l = c.loop-place in
    let left = length-drop l.place.at c.args.«record».now in
    let after = marking_after (transitions_within n.rows.now n.arcs.now n.transitions) l.marking (drop l.place.at c.args.«record».now) l.place.at c.in-Ok.bytes c.take_step.new.marking c.in-Ok.ensures.takes in
    record {
      long = after.0 ∙ l.invariant.long;
      safe = after.1;
      steps_fit = omega (arith, c.in-Ok.ensures.some);
      within = omega (arith, c.in-Ok.ensures.within, left);
      same = goes_on n.rows.now n.arcs.now n.transitions c.args.exits_from 0 c.args.marking.now (read_steps 0 0 c.args.«record».now) c.args.«record».now l.place.at l.place.steps l.marking l.invariant.same
          c.loop-place-test.true c.take_step.new.marking c.in-Ok.bytes _ c.in-Ok.ensures;
    }

pub returns-then-all_marked : goal.returns-then-all_marked
returns-then-all_marked c =
    let n = c.args.indexed.net in let l = c.loop-place in
    ends_finished n.rows.now n.arcs.now n.transitions c.args.exits_from 0 c.args.marking.now (read_steps 0 0 c.args.«record».now) c.args.«record».now l.place.at l.place.steps l.marking l.invariant.same
    c.loop-place-test.false c.all_marked.result (c.all_marked.ensures ∙ ap (list_all (λ x. leb 1 x)) (rest_part l.marking c.args.exits_from)) c.if-all_marked.true

pub returns-else-all_marked : goal.returns-else-all_marked
returns-else-all_marked c =
    let n = c.args.indexed.net in let l = c.loop-place in
    ends_unfinished n.rows.now n.arcs.now n.transitions c.args.exits_from 0 c.args.marking.now (read_steps 0 0 c.args.«record».now) c.args.«record».now l.place.at l.place.steps l.marking l.invariant.same
    c.loop-place-test.false c.all_marked.result (c.all_marked.ensures ∙ ap (list_all (λ x. leb 1 x)) (rest_part l.marking c.args.exits_from)) c.if-all_marked.false
