-- `compile_in` meets its contract: each answer, with the tables that it leaves, is a law of `CompileCall` at what was judged.
-- Assumes nothing.
use Prim.Native.Nat.{ℕ, ◌*◌}
use native.Mathlib.Omega.{arith}
use mathlib.Core.Path.{◌≡◌, refl, sym, ◌∙◌, subst}
use mathlib.Core.Bool.{◌&&◌}
use mathlib.Core.List.{List}
use lib.ListN.{length}
use lib.Seq.{length-take-le}
use lib.Dec.{leb}
use Rattle.std.proofs.lemmas.Result.{err_from_is_err_and}
use Rattle.field.specs.Answer.{Answer, refused}
use Rattle.field.specs.Refusals.{table_too_short}
use Rattle.field.specs.Says.{number_of}
use Rattle.net.specs.Check.{tables_reach}
use Rattle.net.specs.Lent.{lent}
use Rattle.boxes.specs.Compile.{Counts}
use Rattle.lists.specs.inner.Numbers.{node_table}
use Rattle.spread.specs.inner.Numbers.{told_table}
use Rattle.tables.specs.inner.Rows.{Whole, Asked}
use Rattle.judging.proofs.FrontRows.{front_list}
use Rattle.judging.proofs.FinePlans.{is_fine, not_fine, asked}
use Rattle.compile.specs.Says.{three_lent}
use Rattle.compile.specs.inner.Leaves.{Leaves}
use Rattle.compile.proofs.CompileCall.{plan_refused, too_short, reaches, written}
use Rattle.compile.proofs.compile_in.Goals as goal

reach_is : (kinds rows arcs : List ℕ) (p t a : ℕ) → tables_reach (lent kinds rows arcs p t a) ≡ (leb p (length kinds) && (leb (6 * t) (length rows) && leb a (length arcs)))
unfolding tables_reach
reach_is kinds rows arcs p t a = refl

pub returns-in_err-net : goal.returns-in_err-net
returns-in_err-net g c =
    let a = c.args in
    let p = err_from_is_err_and c.from_residual.result c.from_residual.ensures.1 in
    rw (p.1, p.2) (plan_refused a.plan.now _ _ (three_lent a.kinds.now a.rows.now a.arcs.now) (not_fine a.plan.now c.judge.result c.judge.ensures.says c.in_err-net.was))

pub tables_reach-requires : goal.tables_reach-requires
tables_reach-requires g c = (is_fine c.args.plan.now _ _ _ c.judge.result c.judge.ensures.says c.judge.ensures.drawn c.in_ok-net.was).few_transitions

pub returns-then-not-tables_reach : goal.returns-then-not-tables_reach
returns-then-not-tables_reach g c =
    let a = c.args in
    let n = c.in_ok-net.net in
    let w = is_fine a.plan.now _ _ _ c.judge.result c.judge.ensures.says c.judge.ensures.drawn c.in_ok-net.was in
    let short = sym (reach_is a.kinds.now a.rows.now a.arcs.now n.places n.transitions n.arcs) ∙ sym c.tables_reach.ensures ∙ c.if-not-tables_reach.true in
    let at : ◌≡◌ {A = Answer Counts} (refused (number_of c.at.result.fault) c.at.result.carried) (refused table_too_short 0) = λ i. refused (number_of (c.at.ensures.0 i)) (c.at.ensures.1 i) in
    subst (λ x. Leaves a.plan.now (three_lent a.kinds.now a.rows.now a.arcs.now) x a.kinds.now a.rows.now a.arcs.now) (sym at)
    (too_short a.plan.now n _ _ _ w (three_lent a.kinds.now a.rows.now a.arcs.now) short)

pub overflow_sub-exits : goal.overflow_sub-exits
overflow_sub-exits g c = let w = is_fine c.args.plan.now _ _ _ c.judge.result c.judge.ensures.says c.judge.ensures.drawn c.in_ok-net.was in omega (arith, w.parts)

pub overflow_sub-exits-2 : goal.overflow_sub-exits-2
overflow_sub-exits-2 g c = let w = is_fine c.args.plan.now _ _ _ c.judge.result c.judge.ensures.says c.judge.ensures.drawn c.in_ok-net.was in omega (arith, w.parts)

pub write_kinds-requires : goal.write_kinds-requires
write_kinds-requires g c =
    let a = c.args in
    let n = c.in_ok-net.net in
    let w = is_fine a.plan.now _ _ _ c.judge.result c.judge.ensures.says c.judge.ensures.drawn c.in_ok-net.was in
    let fits = sym (reach_is a.kinds.now a.rows.now a.arcs.now n.places n.transitions n.arcs) ∙ sym c.tables_reach.ensures ∙ c.if-not-tables_reach.false in
    let l = reaches a.plan.now n _ _ _ w (three_lent a.kinds.now a.rows.now a.arcs.now) fits in
    (omega (arith, w.parts, l.0), omega (arith, w.parts, w.few_places))

pub slice_bounds-list-end : goal.slice_bounds-list-end
slice_bounds-list-end g c =
    let w = is_fine c.args.plan.now _ _ _ c.judge.result c.judge.ensures.says c.judge.ensures.drawn c.in_ok-net.was in
    omega (arith, w.few_transitions, c.judge.auto.list)

pub slice_bounds-put_net-end : goal.slice_bounds-put_net-end
slice_bounds-put_net-end g c =
    let w = is_fine c.args.plan.now _ _ _ c.judge.result c.judge.ensures.says c.judge.ensures.drawn c.in_ok-net.was in
    sym (length-take-le c.in_ok-net.net.transitions c.judge.new.list (omega (arith, w.few_transitions, c.judge.auto.list)))

pub put_net-requires : goal.put_net-requires
put_net-requires g c =
    let a = c.args in
    let n = c.in_ok-net.net in
    let w = is_fine a.plan.now _ _ _ c.judge.result c.judge.ensures.says c.judge.ensures.drawn c.in_ok-net.was in
    let fits = sym (reach_is a.kinds.now a.rows.now a.arcs.now n.places n.transitions n.arcs) ∙ sym c.tables_reach.ensures ∙ c.if-not-tables_reach.false in
    let l = reaches a.plan.now n _ _ _ w (three_lent a.kinds.now a.rows.now a.arcs.now) fits in
    front_list n.transitions c.judge.new.list (omega (arith, w.few_transitions, c.judge.auto.list)) (λ list many. Asked (node_table c.judge.new.lists) (told_table c.judge.new.index) list many a.rows.now a.arcs.now) (asked a.plan.now n _ _ _ w l.1 l.2)

pub returns : goal.returns
returns g c =
    let a = c.args in
    let n = c.in_ok-net.net in
    let w = is_fine a.plan.now _ _ _ c.judge.result c.judge.ensures.says c.judge.ensures.drawn c.in_ok-net.was in
    let fits = sym (reach_is a.kinds.now a.rows.now a.arcs.now n.places n.transitions n.arcs) ∙ sym c.tables_reach.ensures ∙ c.if-not-tables_reach.false in
    let whole = front_list n.transitions c.judge.new.list (omega (arith, w.few_transitions, c.judge.auto.list)) (λ list many. Whole (node_table c.judge.new.lists) (told_table c.judge.new.index) list many w.expr) w.whole in
    let t = c.put_net.ensures in
    written a.plan.now n _ _ _ w (three_lent a.kinds.now a.rows.now a.arcs.now) fits c.write_kinds.ensures (t.rows w.expr whole) (t.arcs w.expr whole)
