-- `plan::look` meets its contract: each way out is a law of `Heads`, and a body's own tests say of the field what they say of the body.
-- Assumes nothing.
use Rattle.std.proofs.Common.{arith, ap, ◌∙◌, Ok}
use Rattle.std.proofs.lemmas.Result.{err_from_is_err_and}
use Rattle.plan.specs.inner.Numbers.{spelt}
use Rattle.plan.specs.declared.table.Tag.TheVariants.{Action, Scope}
use Rattle.plan.proofs.Heads.{header_cut, tag_unknown, length_cut, body_head, loop_head, two_operands_head}
use Rattle.plan.proofs.look.Goals as goal

pub returns-then-s-lt3-clause-is : goal.returns-then-s-lt3-clause-is
returns-then-s-lt3-clause-is c = λ at. header_cut c.args.s.now at c.args.actions c.if-s-lt3.true

pub returns-in_err-tag-clause-is : goal.returns-in_err-tag-clause-is
returns-in_err-tag-clause-is c =
    λ at.
    let p = err_from_is_err_and c.from_residual.result c.from_residual.ensures.1 in
    rw (p.1, p.2) (tag_unknown c.args.s.now at c.args.actions c.if-s-lt3.false (c.try_from.ensures ∙ ap spelt c.from.ensures) c.in_err-tag.was)

pub returns-then-s-len-clause-is : goal.returns-then-s-len-clause-is
returns-then-s-len-clause-is c =
    λ at.
    length_cut c.args.s.now at c.args.actions c.if-s-lt3.false (c.try_from.ensures ∙ ap spelt c.from.ensures) c.in_ok-tag.was
    (omega (arith, c.from-len.ensures, c.from_be_bytes.ensures))

pub returns-in-Action-clause-is : goal.returns-in-Action-clause-is
returns-in-Action-clause-is c =
    λ at.
    body_head c.args.s.now at c.args.actions c.if-s-lt3.false (omega (arith, c.from-len.ensures, c.from_be_bytes.ensures))
    (c.try_from.ensures ∙ ap spelt c.from.ensures) Action c.look_action.result (c.in_ok-tag.was ∙ ap Ok c.in-Action.is) (c.look_action.ensures.is at)

pub returns-in-Scope-clause-is : goal.returns-in-Scope-clause-is
returns-in-Scope-clause-is c =
    λ at.
    body_head c.args.s.now at c.args.actions c.if-s-lt3.false (omega (arith, c.from-len.ensures, c.from_be_bytes.ensures))
    (c.try_from.ensures ∙ ap spelt c.from.ensures) Scope c.look_scope.result (c.in_ok-tag.was ∙ ap Ok c.in-Scope.is) (c.look_scope.ensures.is at c.args.actions)

pub returns-in-Sequence-clause-is : goal.returns-in-Sequence-clause-is
returns-in-Sequence-clause-is c =
    λ at.
    rw (c.from-len.ensures, c.from_be_bytes.ensures)
    (two_operands_head c.args.s.now at c.args.actions c.if-s-lt3.false (omega (arith, c.from-len.ensures, c.from_be_bytes.ensures))
    (c.try_from.ensures ∙ ap spelt c.from.ensures) c.in_ok-tag.was c.in-Sequence.is)

pub returns-in-Loop-clause-is : goal.returns-in-Loop-clause-is
returns-in-Loop-clause-is c =
    λ at.
    rw (c.from-len.ensures, c.from_be_bytes.ensures)
    (loop_head c.args.s.now at c.args.actions c.if-s-lt3.false (omega (arith, c.from-len.ensures, c.from_be_bytes.ensures))
    (c.try_from.ensures ∙ ap spelt c.from.ensures) c.in_ok-tag.was c.in-Loop.is)
