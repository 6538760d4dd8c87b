-- `read_and_fire`: a step that is not read is refused, and `fire_items` fires one that is, with room for as many transitions as there are items.
use Rattle.std.proofs.Common.{sym, ap, ◌∙◌}
use Rattle.form.specs.inner.FormSays.{says_at, items_in}
use Rattle.step.proofs.FireAnswers.{step_fired, good_before}
use Rattle.step.proofs.firing.Indexed.read_and_fire.Goals as goal

pub returns : goal.returns
returns c =
    let read = good_before _ c.read_lent_step.result c.in_ok-count.count _ c.in_ok-count.ensures.cases c.in_ok-count.ensures.variant in
    step_fired _ c.args.marking.now c.args.step.now c.read_lent_step.new.items c.in_ok-count.count (sym (ap (says_at 0 (λ n. items_in n c.read_lent_step.new.items)) read) ∙ c.read_lent_step.ensures.says) _ _ c.fire_items.ensures
