-- `list_fits`: a list with nothing in it does not fit; one with something fits by its neighbours and its last number. Assumes nothing.
use mathlib.Core.Path.{refl, sym, ap, ◌∙◌}
use native.Mathlib.Omega.{arith}
use lib.Dec.{ltb}
use Rattle.net.proofs.Turns.{goes_on, stops}
use Rattle.net.proofs.Neighbours.{list_none, list_some}
use Rattle.net.proofs.rows.list_fits.Goals as goal

pub returns-in-empty : goal.returns-in-empty
returns-in-empty c =
    list_none c.args.list.now _ (omega arith)

pub returns-then-rise : goal.returns-then-rise
returns-then-rise c =
    let a = c.args in
    ap (λ n. ltb n a.places) c.from.ensures
    ∙ sym (goes_on _ _ refl (list_some a.list.now a.places (λ e. omega arith)) (sym c.rise.ensures ∙ c.if-rise.true))

pub returns-else-rise : goal.returns-else-rise
returns-else-rise c =
    let a = c.args in
    c.if-rise.false ∙ stops _ _ refl (list_some a.list.now a.places (λ e. omega arith)) (sym c.rise.ensures ∙ c.if-rise.false)
