-- `list_nodes` and `list_scope` meet their contracts, the nodes left falling. The loop's invariant: what is held and what the fields that are
-- left list are all transitions. Every return and turn is one law on plain values. Assumes nothing.
use Rattle.std.proofs.Common.{◌<◌, length, Ok, arith, rules, refl, sym, ap, ◌∙◌}
use Rattle.plan.specs.declared.table.Row.{Row}
use Rattle.plan.specs.declared.table.Tag.TheVariants.{Action, Scope}
use Rattle.plan.specs.inner.Numbers.{table_numbers}
use Rattle.plan.proofs.NodeRows.{tag_of_row, byte_of_row, after_of_row, first_of_row}
use Rattle.transitions.specs.inner.Numbers.{list_numbers}
use Rattle.transitions.specs.inner.Listing.{all_actions, all_transitions}
use Rattle.transitions.proofs.FlatNumbers.{list_length, transition_stored}
use Rattle.transitions.proofs.OperandByTag.{spelt_of, same_tag, no_action, no_scope, number_spelt}
use Rattle.transitions.proofs.NodeTurns.{all_listed, no_room_listed, action_listed, operator_passed, scope_inside, scope_listed, scope_over}
use Rattle.transitions.proofs.WholeLists.{operand_over, scope_closed}
use Rattle.transitions.proofs.+list_nodes_list_scope.Goals as goal
use Rattle.transitions.proofs.+list_nodes_list_scope.Goals.{list_nodes-then-after-at-via-then-after-at, list_nodes-then-after-at-via-else-after-at+then-end-after}

abbrev none : Row
none = record { tag = 0; byte = 0; members = 0; after = 0; first = 0; at = 0 }

-- An action.
pub list_nodes-returns-in_err-so_far-in-Action-clause-lists : goal.list_nodes-returns-in_err-so_far-in-Action-clause-lists
list_nodes-returns-in_err-so_far-in-Action-clause-lists t c =
    let a = c.args in
    let l = c.loop-at in
    let rows = table_numbers a.rows.now in
    λ count i Es o named few.
    let g = l.invariant.3 count i Es o named few in
    rw c.from_residual.ensures
    (no_room_listed rows count a.end (list_numbers a.list.now) a.n (all_actions Es) (all_transitions i Es) l.at (list_numbers l.list) l.so_far c.loop-at-test.true
    (sym (tag_of_row a.rows.now l.at none (omega arith))) g.0 g.1 g.2 (c.in_err-so_far-in-Action.ensures.full refl))

pub list_nodes-loop-at-preserved-in-Action : goal.list_nodes-loop-at-preserved-in-Action
list_nodes-loop-at-preserved-in-Action t c =
    let a = c.args in
    let l = c.loop-at in
    let rows = table_numbers a.rows.now in
    let here : l.at < length a.rows.now = omega arith in
    let e = c.in_ok-so_far-in-Action.ensures.added in (
      omega arith,
      omega (arith, e),
      omega (arith, e),
      λ count i Es o named few.
          let g = l.invariant.3 count i Es o named few in
          rw (e.0, e.2)
          (action_listed rows count a.end (list_numbers a.list.now) a.n (all_actions Es) (all_transitions i Es) l.at (list_numbers l.list) l.so_far c.loop-at-test.true
          (sym (tag_of_row a.rows.now l.at none here)) g.0 g.1 g.2 (number_spelt _ Action (sym c.tag.ensures ∙ c.in-Ok.is ∙ ap Ok c.in-Action.is))
          (sym (byte_of_row a.rows.now l.at none here)) (sym (first_of_row a.rows.now l.at none here)) (transition_stored l.list l.so_far _ (omega (arith, l.auto.list, e)))),
    )

-- A scope.
pub list_nodes-returns-then-after-at-clause-lists : goal.list_nodes-returns-then-after-at-clause-lists
list_nodes-returns-then-after-at-clause-lists t c =
    let a = c.args in
    let l = c.loop-at in
    let rows = table_numbers a.rows.now in
    let here : l.at < length a.rows.now = omega arith in
    λ count i Es o named few.
    let g = l.invariant.3 count i Es o named few in
    let inside = scope_inside rows count a.end (list_numbers a.list.now) a.n (all_actions Es) (all_transitions i Es) l.at (list_numbers l.list) l.so_far c.loop-at-test.true
    (sym (tag_of_row a.rows.now l.at none here)) (c.from-after.ensures ∙ sym (after_of_row a.rows.now l.at none here)) g.0 g.1 g.2 in
    absurd
    (elim c.then-after-at.branch [
      | list_nodes-then-after-at-via-then-after-at w ↦ omega (arith, w.if-after-at.true, inside)
      | list_nodes-then-after-at-via-else-after-at+then-end-after w ↦ omega (arith, w.if-end-after.true, inside)
    ])

pub list_nodes-returns-in_err-so_far-in-Scope-clause-lists : goal.list_nodes-returns-in_err-so_far-in-Scope-clause-lists
list_nodes-returns-in_err-so_far-in-Scope-clause-lists t c =
    let a = c.args in
    let l = c.loop-at in
    let rows = table_numbers a.rows.now in
    let here : l.at < length a.rows.now = omega arith in
    λ count i Es o named few.
    let g = l.invariant.3 count i Es o named few in
    rw c.from_residual-in_err-so_far-in-Scope.ensures
    (scope_over rows count a.end (list_numbers a.list.now) a.n (all_actions Es) (all_transitions i Es) l.at (list_numbers l.list) l.so_far c.loop-at-test.true
    (sym (tag_of_row a.rows.now l.at none here)) (c.from-after.ensures ∙ sym (after_of_row a.rows.now l.at none here)) g.0 g.1 g.2
    (number_spelt _ Scope (sym c.tag.ensures ∙ c.in-Ok.is ∙ ap Ok c.in-Scope.is)) (list_numbers c.list_scope.new.list) c.in_err-so_far-in-Scope.ensures.lists)

pub list_nodes-loop-at-preserved-in-Scope : goal.list_nodes-loop-at-preserved-in-Scope
list_nodes-loop-at-preserved-in-Scope t c =
    let a = c.args in
    let l = c.loop-at in
    let rows = table_numbers a.rows.now in
    let here : l.at < length a.rows.now = omega arith in
    let e = c.in_ok-so_far-in-Scope.ensures in (
      omega arith,
      omega (arith, e.fits),
      omega (arith, e.fits),
      λ count i Es o named few.
          let g = l.invariant.3 count i Es o named few in
          scope_listed rows count a.end (list_numbers a.list.now) a.n (all_actions Es) (all_transitions i Es) l.at (list_numbers l.list) l.so_far c.loop-at-test.true
          (sym (tag_of_row a.rows.now l.at none here)) (c.from-after.ensures ∙ sym (after_of_row a.rows.now l.at none here)) g.0 g.1 g.2
          (number_spelt _ Scope (sym c.tag.ensures ∙ c.in-Ok.is ∙ ap Ok c.in-Scope.is)) c.in_ok-so_far-in-Scope.so_far (list_numbers c.list_scope.new.list) e.lists,
    )

-- An operator.
pub list_nodes-loop-at-preserved : goal.list_nodes-loop-at-preserved
list_nodes-loop-at-preserved t c =
    let a = c.args in
    let l = c.loop-at in
    let rows = table_numbers a.rows.now in
    let here : l.at < length a.rows.now = omega arith in (
      omega arith,
      search rules,
      search rules,
      λ count i Es o named few.
          let g = l.invariant.3 count i Es o named few in
          operator_passed rows count a.end (list_numbers a.list.now) a.n (all_actions Es) (all_transitions i Es) l.at (list_numbers l.list) l.so_far c.loop-at-test.true
          (sym (tag_of_row a.rows.now l.at none here)) g.0 g.1 g.2
          (λ e. no_action c.in-Sequence.is (same_tag (sym c.in-Ok.is ∙ c.tag.ensures ∙ spelt_of Action e)))
          (λ e. no_scope c.in-Sequence.is (same_tag (sym c.in-Ok.is ∙ c.tag.ensures ∙ spelt_of Scope e))),
    )

-- A row that is no plan's.
pub list_nodes-loop-at-preserved-in_default : goal.list_nodes-loop-at-preserved-in_default
list_nodes-loop-at-preserved-in_default t c =
    let a = c.args in
    let l = c.loop-at in
    let rows = table_numbers a.rows.now in
    let here : l.at < length a.rows.now = omega arith in (
      omega arith,
      search rules,
      search rules,
      λ count i Es o named few.
          let g = l.invariant.3 count i Es o named few in
          operator_passed rows count a.end (list_numbers a.list.now) a.n (all_actions Es) (all_transitions i Es) l.at (list_numbers l.list) l.so_far c.loop-at-test.true
          (sym (tag_of_row a.rows.now l.at none here)) g.0 g.1 g.2
          (λ e. c.in_default.not-Ok Action (c.tag.ensures ∙ spelt_of Action e))
          (λ e. c.in_default.not-Ok Scope (c.tag.ensures ∙ spelt_of Scope e)),
    )

pub list_nodes-returns-clause-lists : goal.list_nodes-returns-clause-lists
list_nodes-returns-clause-lists t c =
    let a = c.args in
    let l = c.loop-at in
    λ count i Es o named few.
    let g = l.invariant.3 count i Es o named few in
    all_listed (table_numbers a.rows.now) count a.end (list_numbers a.list.now) a.n (all_actions Es) (all_transitions i Es) l.at (list_numbers l.list) l.so_far g.0 g.1 g.2 c.loop-at-test.false

-- the ways out of list_scope
pub list_scope-returns-in_err-end-clause-lists : goal.list_scope-returns-in_err-end-clause-lists
list_scope-returns-in_err-end-clause-lists t c =
    let a = c.args in
    λ count i at b E w e named few.
    rw c.from_residual.ensures
    (operand_over (table_numbers a.rows.now) count a.k i at b E w e named few a.n (list_numbers a.list.now) (list_numbers c.list_nodes.new.list) c.in_err-end.ensures.lists)

pub list_scope-returns-clause-lists : goal.list_scope-returns-clause-lists
list_scope-returns-clause-lists t c =
    let a = c.args in
    λ count i at b E w e named few.
    scope_closed (table_numbers a.rows.now) count a.k i at b E w e named few a.n (list_numbers a.list.now) (list_numbers c.list_nodes.new.list) c.in_ok-end.ensures.lists
    (omega (arith, list_length a.list.now)) c.close.result (list_numbers c.close.new.list) c.close.ensures.lists
