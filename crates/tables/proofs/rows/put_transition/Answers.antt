-- `put_transition` meets its contract: the arcs of the item that the list has, in their part, and the row.
-- How long that part is is told of the item's two sides. Assumes nothing.
use Prim.Native.Nat.{◌+◌, ◌-◌, ◌*◌}
use native.Mathlib.Omega.{arith}
use mathlib.Core.Path.{refl, ◌∙◌}
use mathlib.Core.List.{[], ◌∷◌}
use lib.ListN.{drop, length-drop}
use lib.Seq.{sets, length-take-le}
use Rattle.net.specs.declared.Side.TheVariants.{Inputs, Outputs}
use Rattle.transitions.specs.inner.Numbers.{list_numbers}
use Rattle.lists.specs.inner.Numbers.{node_table}
use Rattle.spread.specs.inner.Numbers.{told_table}
use Rattle.tables.proofs.Counted.{inside, label_is, first_is, second_is, side_is, arcs_are}
use Rattle.tables.proofs.Puts.{transition_put}
use Rattle.tables.proofs.rows.put_transition.Goals as goal

pub bounds-list-k : goal.bounds-list-k
bounds-list-k c =
    inside (told_table c.args.draft.index.now) c.args.list.now c.args.k c.requires.list_long

pub slice_bounds-put_arcs-end : goal.slice_bounds-put_arcs-end
slice_bounds-put_arcs-end c =
    let a = c.args in
    omega (arith, c.requires.arcs_long, arcs_are (told_table a.draft.index.now) a.list.now a.k c.requires.list_long c.count_item-inputs.ensures.0 c.count_item-outputs.ensures.0)

pub put_arcs-requires : goal.put_arcs-requires
put_arcs-requires c =
    let a = c.args in
    let x = told_table a.draft.index.now in
    let ins = c.count_item-inputs in
    let outs = c.count_item-outputs in
    let room = c.requires.list_long in
    let few = c.requires.side_few in
    let end = arcs_are x a.list.now a.k room ins.ensures.0 outs.ensures.0 in
    let long = length-take-le (a.at + ins.result + outs.result - a.at) (drop a.at a.arcs.now) (omega (arith, c.requires.arcs_long, end, length-drop a.at a.arcs.now)) in
    let f = side_is x a.list.now a.k room Inputs ins.ensures.0 in
    let g = side_is x a.list.now a.k room Outputs outs.ensures.0 in
    (ins.ensures.0, omega (arith, long, outs.ensures.0), omega (arith, f, few Inputs), omega (arith, long, g, few Outputs))

pub overflow_cast-inputs : goal.overflow_cast-inputs
overflow_cast-inputs c =
    let a = c.args in
    let end = arcs_are (told_table a.draft.index.now) a.list.now a.k c.requires.list_long c.count_item-inputs.ensures.0 c.count_item-outputs.ensures.0 in
    record { fits = omega (arith, end, c.requires.arcs_few) }

pub overflow_cast-outputs : goal.overflow_cast-outputs
overflow_cast-outputs c =
    let a = c.args in
    let end = arcs_are (told_table a.draft.index.now) a.list.now a.k c.requires.list_long c.count_item-inputs.ensures.0 c.count_item-outputs.ensures.0 in
    record { fits = omega (arith, end, c.requires.arcs_few) }

pub returns-clause-ends : goal.returns-clause-ends
returns-clause-ends c =
    let a = c.args in
    omega (arith, arcs_are (told_table a.draft.index.now) a.list.now a.k c.requires.list_long c.count_item-inputs.ensures.0 c.count_item-outputs.ensures.0)

pub returns-clause-puts : goal.returns-clause-puts
returns-clause-puts c =
    let a = c.args in
    let x = told_table a.draft.index.now in
    let ins = c.count_item-inputs in
    let outs = c.count_item-outputs in
    let room = c.requires.list_long in
    let label = label_is x a.list.now a.k room in
    let first = first_is x a.list.now a.k room in
    let second = second_is x a.list.now a.k room in
    let end = arcs_are x a.list.now a.k room ins.ensures.0 outs.ensures.0 in
    transition_put (node_table a.draft.lists.now) x (list_numbers a.list.now) a.k a.at first second ins.ensures.0 outs.ensures.0 refl (omega (arith, c.requires.arcs_long, end))
    (c.put_row.ensures ∙ (λ q. sets a.rows.now (6 * a.k) (label q ∷ (first q ∷ (second q ∷ (a.at ∷ (ins.result ∷ (outs.result ∷ []))))))))
    c.put_arcs.ensures
