-- `judge` meets its contract: a plan that is ready is judged by its arcs, and one that is not is refused as it was judged before.
-- Assumes nothing.
use Prim.Native.Nat.{ℕ, ◌*◌, ◌≤◌}
use native.Mathlib.Omega.{arith}
use mathlib.Core.Path.{◌≡◌, refl, sym, subst, ◌∙◌}
use mathlib.Core.List.{List}
use lib.ListN.{length, take}
use lib.Seq.{length-take-le}
use Rattle.std.proofs.lemmas.Result.{err_from_is_err_and}
use Rattle.field.specs.Answer.{refused}
use Rattle.field.specs.Says.{number_of}
use Rattle.algebra.specs.Expr.{Expr}
use Rattle.plan.specs.declared.table.Row.{Row}
use Rattle.plan.specs.inner.Numbers.{table_numbers}
use Rattle.boxes.specs.inner.ArcCounts.{listed_arcs}
use Rattle.transitions.specs.declared.Transition.{Transition}
use Rattle.transitions.specs.inner.Numbers.{list_numbers}
use Rattle.transitions.proofs.FlatNumbers.{list_take}
use Rattle.spread.specs.inner.Spread.{Of}
use Rattle.sides.specs.inner.Sides.{told_arcs}
use Rattle.tables.specs.inner.Rows.{listed_from}
use Rattle.judging.proofs.FrontRows.{front_rows}
use Rattle.judging.proofs.Drawings.{is_ready, not_ready, too_many, fine_says, fine_drawn}
use Rattle.judging.proofs.judge.Goals as goal

-- The rows at the front of the table, and the transitions at the front of the list, are those that are told of.
front_of : (n : ℕ) (rows : List Row) (counts : List ℕ) (E : Expr) → n ≤ length rows → Of (take (6 * n) (table_numbers rows)) n counts E → Of (table_numbers (take n rows)) (length (take n rows)) counts E
front_of n rows counts E h o = subst (λ k. Of (table_numbers (take n rows)) k counts E) (sym (length-take-le n rows h)) (subst (λ l. Of l n counts E) (sym (front_rows n rows)) o)

front_arcs : (index : List ℕ) (m : ℕ) (list : List Transition) {arcs : ℕ} → m ≤ length list → arcs ≡ listed_arcs (told_arcs index) (listed_from (list_numbers (take m list)) 0 (length (take m list)))
    → arcs ≡ listed_arcs (told_arcs index) (listed_from (take (3 * m) (list_numbers list)) 0 m)
front_arcs index m list h e = e ∙ (λ i. listed_arcs (told_arcs index) (listed_from (list_take m list i) 0 (length-take-le m list h i)))

pub returns-in_err-ready-clause-says : goal.returns-in_err-ready-clause-says
returns-in_err-ready-clause-says c =
    let p = err_from_is_err_and c.from_residual.result c.from_residual.ensures.1 in
    rw (p.1, p.2) (not_ready c.args.plan.now c.in_err-ready.field-0.0 c.front.result c.front.ensures.answer c.in_err-ready.was)

pub slice_bounds-spread-end : goal.slice_bounds-spread-end
slice_bounds-spread-end c =
    let o = c.front in
    let w = is_ready c.args.plan.now c.in_ok-ready.ready _ _ _ _ _ o.result o.ensures.answer o.ensures.tables c.in_ok-ready.was in
    omega (arith, w.three_bytes, c.requires.plan_in_bounds w.short, o.auto.table)

pub slice_bounds-spread-end-2 : goal.slice_bounds-spread-end-2
slice_bounds-spread-end-2 c =
    let o = c.front in
    let w = is_ready c.args.plan.now c.in_ok-ready.ready _ _ _ _ _ o.result o.ensures.answer o.ensures.tables c.in_ok-ready.was in
    sym (length-take-le c.in_ok-ready.ready.nodes o.new.table (omega (arith, w.three_bytes, c.requires.plan_in_bounds w.short, o.auto.table)))

pub spread-requires : goal.spread-requires
spread-requires c =
    let o = c.front in
    let w = is_ready c.args.plan.now c.in_ok-ready.ready _ _ _ _ _ o.result o.ensures.answer o.ensures.tables c.in_ok-ready.was in
    let b = c.requires.plan_in_bounds w.short in
    omega (arith, length-take-le c.in_ok-ready.ready.nodes o.new.table (omega (arith, w.three_bytes, b, o.auto.table)), w.three_bytes, w.short)

pub slice_bounds-count_arcs-end : goal.slice_bounds-count_arcs-end
slice_bounds-count_arcs-end c =
    let o = c.front in
    let w = is_ready c.args.plan.now c.in_ok-ready.ready _ _ _ _ _ o.result o.ensures.answer o.ensures.tables c.in_ok-ready.was in
    omega (arith, w.few, c.requires.in_bounds.1, o.auto.list)

pub slice_bounds-count_arcs-end-2 : goal.slice_bounds-count_arcs-end-2
slice_bounds-count_arcs-end-2 c =
    let o = c.front in
    let w = is_ready c.args.plan.now c.in_ok-ready.ready _ _ _ _ _ o.result o.ensures.answer o.ensures.tables c.in_ok-ready.was in
    sym (length-take-le c.in_ok-ready.ready.transitions o.new.list (omega (arith, w.few, c.requires.in_bounds.1, o.auto.list)))

pub count_arcs-arcs-requires : goal.count_arcs-arcs-requires
count_arcs-arcs-requires c =
    let o = c.front in
    let w = is_ready c.args.plan.now c.in_ok-ready.ready _ _ _ _ _ o.result o.ensures.answer o.ensures.tables c.in_ok-ready.was in
    omega (arith, length-take-le c.in_ok-ready.ready.transitions o.new.list (omega (arith, w.few, c.requires.in_bounds.1, o.auto.list)), w.few)

pub returns-then-arcs-gt-ARC_LIMIT-clause-says : goal.returns-then-arcs-gt-ARC_LIMIT-clause-says
returns-then-arcs-gt-ARC_LIMIT-clause-says c =
    let o = c.front in
    let w = is_ready c.args.plan.now c.in_ok-ready.ready _ _ _ _ _ o.result o.ensures.answer o.ensures.tables c.in_ok-ready.was in
    let b = c.requires.plan_in_bounds w.short in
    let f = front_of c.in_ok-ready.ready.nodes o.new.table _ w.expr (omega (arith, w.three_bytes, b, o.auto.table)) w.of in
    let l = length-take-le c.in_ok-ready.ready.nodes o.new.table (omega (arith, w.three_bytes, b, o.auto.table)) in
    let t = c.spread.ensures w.expr f (omega (arith, b, w.three_bytes, l)) (omega (arith, c.requires.in_bounds, w.few_actions)) in
    let n = front_arcs _ c.in_ok-ready.ready.transitions o.new.list (omega (arith, w.few, c.requires.in_bounds.1, o.auto.list)) c.count_arcs-arcs.ensures in
    (λ i. refused (number_of (c.at.ensures.0 i)) (c.at.ensures.1 i)) ∙ too_many c.args.plan.now _ _ _ _ _ w _ _ t n c.if-arcs-gt-ARC_LIMIT.true

pub returns-clause-says : goal.returns-clause-says
returns-clause-says c =
    let o = c.front in
    let w = is_ready c.args.plan.now c.in_ok-ready.ready _ _ _ _ _ o.result o.ensures.answer o.ensures.tables c.in_ok-ready.was in
    let b = c.requires.plan_in_bounds w.short in
    let f = front_of c.in_ok-ready.ready.nodes o.new.table _ w.expr (omega (arith, w.three_bytes, b, o.auto.table)) w.of in
    let l = length-take-le c.in_ok-ready.ready.nodes o.new.table (omega (arith, w.three_bytes, b, o.auto.table)) in
    let t = c.spread.ensures w.expr f (omega (arith, b, w.three_bytes, l)) (omega (arith, c.requires.in_bounds, w.few_actions)) in
    let n = front_arcs _ c.in_ok-ready.ready.transitions o.new.list (omega (arith, w.few, c.requires.in_bounds.1, o.auto.list)) c.count_arcs-arcs.ensures in
    fine_says c.args.plan.now _ _ _ _ _ w _ _ t n (omega (arith, c.if-arcs-gt-ARC_LIMIT.false)) c.told.result c.told.ensures

pub returns-clause-drawn : goal.returns-clause-drawn
returns-clause-drawn c =
    let o = c.front in
    let w = is_ready c.args.plan.now c.in_ok-ready.ready _ _ _ _ _ o.result o.ensures.answer o.ensures.tables c.in_ok-ready.was in
    let b = c.requires.plan_in_bounds w.short in
    let f = front_of c.in_ok-ready.ready.nodes o.new.table _ w.expr (omega (arith, w.three_bytes, b, o.auto.table)) w.of in
    let l = length-take-le c.in_ok-ready.ready.nodes o.new.table (omega (arith, w.three_bytes, b, o.auto.table)) in
    let t = c.spread.ensures w.expr f (omega (arith, b, w.three_bytes, l)) (omega (arith, c.requires.in_bounds, w.few_actions)) in
    let n = front_arcs _ c.in_ok-ready.ready.transitions o.new.list (omega (arith, w.few, c.requires.in_bounds.1, o.auto.list)) c.count_arcs-arcs.ensures in
    fine_drawn c.args.plan.now _ _ _ _ _ w _ _ t n (omega (arith, c.if-arcs-gt-ARC_LIMIT.false)) c.told.result c.told.ensures _ refl
