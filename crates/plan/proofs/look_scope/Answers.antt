-- `plan::look_scope` meets its contract: each way out is a law of `Heads`. Assumes nothing.
use Rattle.std.proofs.Common.{arith}
use Rattle.plan.proofs.Heads.{scope_wrong_body, scope_zero, scope_high, scope_read}
use Rattle.plan.proofs.look_scope.Goals as goal
use Rattle.plan.proofs.look_scope.Goals.{then-name-eq0-via-then-name-eq0, then-name-eq0-via-else-name-eq0+then-name-gt127}

pub returns-then-len-eq0-clause-is : goal.returns-then-len-eq0-clause-is
returns-then-len-eq0-clause-is c =
    let a = c.args in
    λ at n read. scope_wrong_body a.s.now at a.len n c.requires read c.if-len-eq0.true

pub returns-then-name-eq0-clause-is : goal.returns-then-name-eq0-clause-is
returns-then-name-eq0-clause-is c =
    let a = c.args in
    λ at n.
    elim c.then-name-eq0.branch [
      | then-name-eq0-via-then-name-eq0 w ↦ scope_zero a.s.now at a.len n c.requires c.if-len-eq0.false w.if-name-eq0.true
      | then-name-eq0-via-else-name-eq0+then-name-gt127 w ↦ scope_high a.s.now at a.len n c.requires c.if-len-eq0.false (omega arith)
    ]

pub returns-clause-is : goal.returns-clause-is
returns-clause-is c =
    let a = c.args in
    λ at n. scope_read a.s.now at a.len n c.requires c.if-len-eq0.false c.if-name-eq0.false (omega arith)
