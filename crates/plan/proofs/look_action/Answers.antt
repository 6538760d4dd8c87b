-- `plan::look_action` meets its contract: each way out is a law of `Heads`. Assumes nothing.
use Rattle.std.proofs.Common.{arith}
use Rattle.plan.proofs.Heads.{action_wrong_body, action_wrong_label, action_beyond_limit, action_read}
use Rattle.plan.proofs.look_action.Goals as goal

pub returns-then-len-ne1-clause-is : goal.returns-then-len-ne1-clause-is
returns-then-len-ne1-clause-is c =
    let a = c.args in
    λ at read. action_wrong_body a.s.now at a.len a.actions c.requires read c.if-len-ne1.true

pub returns-then-label-clause-is : goal.returns-then-label-clause-is
returns-then-label-clause-is c =
    let a = c.args in
    λ at read. action_wrong_label a.s.now at a.len a.actions c.requires read c.if-len-ne1.false (omega arith)

pub returns-then-actions-ge-ACTION_LIMIT-clause-is : goal.returns-then-actions-ge-ACTION_LIMIT-clause-is
returns-then-actions-ge-ACTION_LIMIT-clause-is c =
    let a = c.args in
    λ at read.
    action_beyond_limit a.s.now at a.len a.actions c.requires read c.if-len-ne1.false c.if-label.false (omega (arith, c.type_inv.s 3))
    (omega arith)

pub returns-clause-is : goal.returns-clause-is
returns-clause-is c =
    let a = c.args in
    λ at read.
    action_read a.s.now at a.len a.actions c.requires read c.if-len-ne1.false c.if-label.false (omega (arith, c.type_inv.s 3))
    (omega arith)
