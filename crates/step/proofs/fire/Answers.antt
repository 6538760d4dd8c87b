-- `fire`: each answer, with the marking that it leaves, is a law of `FireCall` at what the checks so far have told.
use Rattle.std.proofs.Common.{refl, sym, ◌∙◌}
use lib.Seq.{length-take-le}
use Rattle.net.specs.Lent.{tables_lent}
use Rattle.moving.proofs.Checked.{marking_good}
use Rattle.step.proofs.FireCall.{no_net_lent, no_marking_lent, step_lent}
use Rattle.step.proofs.fire.Goals as goal

pub returns-then-not-is_net_with_index : goal.returns-then-not-is_net_with_index
returns-then-not-is_net_with_index c =
    let n = c.is_net_with_index in
    let a = c.args in
    let law = no_net_lent (tables_lent a.lent.now) a.marking.now a.step.now n.result n.ensures.value c.if-not-is_net_with_index.true _ c.at.ensures in
    record { answer = law.0; marking = law.1 }

pub returns-then-not-is_marking : goal.returns-then-not-is_marking
returns-then-not-is_marking c =
    let n = c.is_net_with_index in
    let a = c.args in
    let law = no_marking_lent (tables_lent a.lent.now) a.marking.now a.step.now n.result n.ensures.value c.if-not-is_net_with_index.false
    c.is_marking.result c.is_marking.ensures c.if-not-is_marking.true _ c.at-then-not-is_marking.ensures in
    record { answer = law.0; marking = law.1 }

pub slice_bounds-read_and_fire-end : goal.slice_bounds-read_and_fire-end
slice_bounds-read_and_fire-end c =
    (marking_good c.args.lent.now.places c.args.marking.now c.is_marking.result c.is_marking.ensures c.if-not-is_marking.false).0

pub slice_bounds-read_and_fire-end-2 : goal.slice_bounds-read_and_fire-end-2
slice_bounds-read_and_fire-end-2 c =
    sym (length-take-le _ _ (marking_good c.args.lent.now.places c.args.marking.now c.is_marking.result c.is_marking.ensures c.if-not-is_marking.false).0)

pub read_and_fire-requires : goal.read_and_fire-requires
read_and_fire-requires c =
    let good = marking_good c.args.lent.now.places c.args.marking.now c.is_marking.result c.is_marking.ensures c.if-not-is_marking.false in
    record { marking_length = length-take-le _ _ good.0 ∙ sym c.lent.ensures.counts.0; marking_value = good.1 }

pub returns : goal.returns
returns c =
    let n = c.is_net_with_index in
    let a = c.args in
    let law = step_lent (tables_lent a.lent.now) a.marking.now a.step.now n.result n.ensures.value c.if-not-is_net_with_index.false
    c.is_marking.result c.is_marking.ensures c.if-not-is_marking.false _ c.lent.ensures.transitions c.read_and_fire.result _ _ c.read_and_fire.ensures refl in
    record { answer = law.0; marking = law.1 }
