-- `front` meets its contract: a plan that is read is judged by its table, and one that is not is refused as the reader says.
-- Assumes nothing.
use native.Mathlib.Omega.{arith}
use mathlib.Core.Path.{sym}
use lib.Seq.{length-take-le}
use Rattle.std.proofs.lemmas.Result.{err_from_is_err_and}
use Rattle.judging.proofs.FrontRows.{front_table}
use Rattle.judging.proofs.Judges.{is_read, unread, front_answer, front_tables}
use Rattle.judging.proofs.front.front.Goals as goal

pub returns-in_err-sizes-clause-answer : goal.returns-in_err-sizes-clause-answer
returns-in_err-sizes-clause-answer c =
    let p = err_from_is_err_and c.from_residual.result c.from_residual.ensures.1 in
    rw (p.1, p.2) (unread c.args.plan.now c.in_err-sizes.field-0.0 c.read_plan_in.result c.read_plan_in.ensures.answer c.in_err-sizes.was)

pub slice_bounds-judge-end : goal.slice_bounds-judge-end
slice_bounds-judge-end c =
    let o = c.read_plan_in in
    let w = is_read c.args.plan.now c.in_ok-sizes.sizes _ _ o.result o.ensures.answer o.ensures.rows c.in_ok-sizes.was in
    omega (arith, w.three_bytes, c.requires.plan_in_bounds w.short, o.auto.rows)

pub slice_bounds-judge-end-2 : goal.slice_bounds-judge-end-2
slice_bounds-judge-end-2 c =
    let o = c.read_plan_in in
    let w = is_read c.args.plan.now c.in_ok-sizes.sizes _ _ o.result o.ensures.answer o.ensures.rows c.in_ok-sizes.was in
    sym (length-take-le c.in_ok-sizes.sizes.nodes o.new.rows (omega (arith, w.three_bytes, c.requires.plan_in_bounds w.short, o.auto.rows)))

pub judge-requires : goal.judge-requires
judge-requires c =
    let o = c.read_plan_in in
    let w = is_read c.args.plan.now c.in_ok-sizes.sizes _ _ o.result o.ensures.answer o.ensures.rows c.in_ok-sizes.was in
    let b = c.requires.plan_in_bounds w.short in
    let l = length-take-le c.in_ok-sizes.sizes.nodes o.new.rows (omega (arith, w.three_bytes, b, o.auto.rows)) in
    (omega (arith, l, w.room), omega (arith, l, w.three_bytes, b), c.requires.most_in_bounds)

pub returns-clause-answer : goal.returns-clause-answer
returns-clause-answer c =
    let o = c.read_plan_in in
    let w = is_read c.args.plan.now c.in_ok-sizes.sizes _ _ o.result o.ensures.answer o.ensures.rows c.in_ok-sizes.was in
    let t = front_table c.in_ok-sizes.sizes.nodes o.new.rows w.expr (omega (arith, w.three_bytes, c.requires.plan_in_bounds w.short, o.auto.rows)) w.holds in
    front_answer c.args.plan.now _ _ _ _ _ _ w c.judge.result (c.judge.ensures w.expr t w.few w.labelled)

pub returns-clause-tables : goal.returns-clause-tables
returns-clause-tables c =
    let o = c.read_plan_in in
    let w = is_read c.args.plan.now c.in_ok-sizes.sizes _ _ o.result o.ensures.answer o.ensures.rows c.in_ok-sizes.was in
    let t = front_table c.in_ok-sizes.sizes.nodes o.new.rows w.expr (omega (arith, w.three_bytes, c.requires.plan_in_bounds w.short, o.auto.rows)) w.holds in
    front_tables c.args.plan.now _ _ _ _ _ _ w c.judge.result (c.judge.ensures w.expr t w.few w.labelled)
