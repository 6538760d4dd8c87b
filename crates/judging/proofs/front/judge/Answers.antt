-- `judge` meets its contract: the tests in their order, each by its law.
-- Assumes nothing.
use mathlib.Core.Path.{sym}
use lib.ListN.{length}
use Rattle.std.proofs.lemmas.Result.{err_from_is_err_and}
use Rattle.judging.proofs.Judges.{loops_stop, places_stop, transitions_stop, all_fine}
use Rattle.judging.proofs.front.judge.Goals as goal

pub returns-in_err-check_loops : goal.returns-in_err-check_loops
returns-in_err-check_loops c =
    let p = err_from_is_err_and c.from_residual.result c.from_residual.ensures.1 in
    rw (p.1, p.2) (λ E t few named. loops_stop E c.in_err-check_loops.field-0.0 _ _ _ (c.in_err-check_loops.ensures E t))

pub returns-then-not-places_fit : goal.returns-then-not-places_fit
returns-then-not-places_fit c =
    λ E t few named.
    places_stop E (length c.args.rows.now) _ _ _ (c.in_ok-check_loops.ensures E t) t.nodes (c.count_places.ensures E t) c.at.result
    (λ i. record { fault = c.at.ensures.0 i; carried = c.at.ensures.1 i }) (sym c.if-not-places_fit.ensures)

pub returns-in_err-transitions : goal.returns-in_err-transitions
returns-in_err-transitions c =
    let p = err_from_is_err_and c.from_residual-in_err-transitions.result c.from_residual-in_err-transitions.ensures.1 in
    let l = c.in_err-transitions.ensures in
    rw (p.1, p.2) (λ E t few named.
    transitions_stop E (length c.args.rows.now) _ _ _ (c.in_ok-check_loops.ensures E t) t.nodes (c.count_places.ensures E t) (sym c.if-not-places_fit.ensures)
    c.in_err-transitions.field-0.0 l.fits (l.lists E t few named))

pub returns : goal.returns
returns c =
    let l = c.in_ok-transitions.ensures in
    λ E t few named.
    all_fine E (length c.args.rows.now) _ _ _ (c.in_ok-check_loops.ensures E t) t.nodes (c.count_places.ensures E t) (sym c.if-not-places_fit.ensures)
    c.in_ok-transitions.transitions l.fits (l.lists E t few named)
