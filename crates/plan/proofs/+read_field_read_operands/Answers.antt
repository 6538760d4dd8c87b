-- The proof of the cycle of calls {read_field, read_operands}: each return and each turn of the loop is a law of `Readers`, at what the callees answer.
-- Assumes nothing.
use Rattle.std.proofs.Common.{◌≡◌, ◌+◌, ◌<◌, ◌-◌, length, arith, ap, ◌∙◌, Ok}
use Rattle.std.proofs.lemmas.Result.{err_from_is_err_and}
use Rattle.field.specs.Says.{number_of}
use Rattle.plan.specs.declared.Head.TheVariants.{Action, Operator}
use Rattle.plan.specs.inner.Fields.{HeadFits}
use Rattle.plan.proofs.Readers.{field_too_deep, field_refused, field_action, field_operands_refused, field_operator, left_over, all_read, one_missing, one_refused, one_read}
use Rattle.plan.proofs.Stores.{row_stored, tag_stored}
use Rattle.plan.proofs.+read_field_read_operands.Goals as goal
use Rattle.plan.proofs.+read_field_read_operands.Goals.{read_field-in-Action, read_field-in-Operator+in_ok-read-in-Operator}

-- the ways out of read_field

pub read_field-returns-then-levels-eq0-clause-is : goal.read_field-returns-then-levels-eq0-clause-is
read_field-returns-then-levels-eq0-clause-is t c =
    let a = c.args in
    field_too_deep a.levels a.s.now a.at a.so_far.actions a.so_far.nodes _ _ _ c.if-levels-eq0.true (ap number_of c.at.ensures.0, c.at.ensures.1)

pub read_field-returns-in-Err-clause-is : goal.read_field-returns-in-Err-clause-is
read_field-returns-in-Err-clause-is t c =
    let a = c.args in
    field_refused a.levels a.s.now a.at a.so_far.actions a.so_far.nodes _ _ c.look.result c.if-levels-eq0.false (c.look.ensures.is a.at)
    _ c.in-Err.fault c.in-Err.is (ap number_of c.at-in-Err.ensures.0, c.at-in-Err.ensures.1)

pub read_field-returns-in_err-read-in-Operator-clause-is : goal.read_field-returns-in_err-read-in-Operator-clause-is
read_field-returns-in_err-read-in-Operator-clause-is t c =
    let a = c.args in
    let o = c.read_operands in
    let g = c.in-Operator in
    let p = err_from_is_err_and c.from_residual.result c.from_residual.ensures.1 in
    rw (p.1, p.2)
    (field_operands_refused a.levels a.s.now a.at a.so_far.actions a.so_far.nodes _ _ c.look.result c.if-levels-eq0.false (c.look.ensures.is a.at)
    g.tag g.byte g.members g.start g.len (c.in-Ok.is ∙ ap Ok g.is) o.result o.ensures.are _ c.in_err-read-in-Operator.was)

pub read_field-returns-clause-is : goal.read_field-returns-clause-is
read_field-returns-clause-is t c =
    let a = c.args in
    elim c.match-head.branch [
      | read_field-in-Action w ↦
          let g = w.in-Action in
          let e : c.look.result ≡ Ok (Action g.label) = c.in-Ok.is ∙ ap Ok g.is in
          let fits : HeadFits (Ok (Action g.label)) (length a.s.now) a.so_far.actions = rw e at c.look.ensures.fits in
          let room : a.so_far.nodes < length a.rows.now = omega (arith, c.requires.in_rows) in
          rw (c.from.ensures, w.rows-is, w.tag-is)
          (field_action a.levels a.s.now a.at a.so_far.actions a.so_far.nodes _ _ c.look.result c.if-levels-eq0.false (c.look.ensures.is a.at)
          g.label e (row_stored a.rows.now a.so_far.nodes _ room))
      | read_field-in-Operator+in_ok-read-in-Operator w ↦
          let o = w.read_operands in
          let g = w.in-Operator in
          let n = w.in_ok-read-in-Operator in
          let e : c.look.result ≡ Ok (Operator g.tag g.byte g.members g.start g.len) = c.in-Ok.is ∙ ap Ok g.is in
          let fits : HeadFits (Ok (Operator g.tag g.byte g.members g.start g.len)) (length a.s.now) a.so_far.actions = rw e at c.look.ensures.fits in
          let room : a.so_far.nodes < length o.new.rows = omega (arith, c.requires.in_rows, o.auto.rows) in
          rw (c.from.ensures, w.rows-is, w.tag-is, tag_stored g.tag)
          (field_operator a.levels a.s.now a.at a.so_far.actions a.so_far.nodes _ _ c.look.result c.if-levels-eq0.false (c.look.ensures.is a.at)
          g.tag g.byte g.members g.start g.len e o.result o.ensures.are n.read _ n.was (row_stored o.new.rows a.so_far.nodes _ room))
    ]

-- the ways out of read_operands, and a turn of its loop

pub read_operands-returns-then-from-s-clause-are : goal.read_operands-returns-then-from-s-clause-are
read_operands-returns-then-from-s-clause-are t c =
    one_missing c.loop.invariant _ (omega (arith, c.loop-test.true)) c.if-from-s.true (ap number_of c.at.ensures.0, c.at.ensures.1)

pub read_operands-returns-in_err-field-clause-are : goal.read_operands-returns-in_err-field-clause-are
read_operands-returns-in_err-field-clause-are t c =
    let f = c.read_field in
    let p = err_from_is_err_and c.from_residual.result c.from_residual.ensures.1 in
    rw (p.1, p.2) (one_refused c.loop.invariant (omega (arith, c.loop-test.true)) c.if-from-s.false f.result _ f.ensures.is _ c.in_err-field.was)

pub read_operands-loop-preserved : goal.read_operands-loop-preserved
read_operands-loop-preserved t c =
    let f = c.read_field in
    let one_less : c.args.members - c.loop.counter - 1 ≡ c.args.members - (c.loop.counter + 1) = omega arith in
    rw (← one_less) (one_read c.loop.invariant (omega (arith, c.loop-test.true)) c.if-from-s.false f.result _ f.ensures.is c.in_ok-field.field c.in_ok-field.was f.ensures.fits)

pub read_operands-returns-then-from-s-2-clause-are : goal.read_operands-returns-then-from-s-2-clause-are
read_operands-returns-then-from-s-2-clause-are t c =
    left_over c.loop.invariant _ (omega (arith, c.loop-test.false)) c.if-from-s-2.true (ap number_of c.at-then-from-s-2.ensures.0, c.at-then-from-s-2.ensures.1)

pub read_operands-returns-clause-are : goal.read_operands-returns-clause-are
read_operands-returns-clause-are t c = all_read c.loop.invariant (omega (arith, c.loop-test.false)) c.if-from-s-2.false
