-- `spread` meets its contract. The loop's invariant: whatever expression the tables are of, the pass has reached node k.
-- Assumes nothing.
use native.Mathlib.Omega.{arith}
use mathlib.Core.Path.{◌≡◌, sym, ◌∙◌, ap, subst}
use Prim.Native.Nat.{◌+◌}
use borrow.Author.Rules.{rules}
use lib.ListN.{length}
use Rattle.plan.proofs.NodeValues.{node_count_positive}
use Rattle.std.specs.Prelude.{Ok}
use Rattle.plan.specs.declared.table.Row.{Row}
use Rattle.plan.specs.declared.table.Tag.TheVariants.{Action}
use Rattle.plan.specs.inner.Numbers.{table_numbers, spelt}
use Rattle.plan.proofs.NodeRows.{tag_of_row, first_of_row}
use Rattle.boxes.specs.inner.Counted.{counts_numbers}
use Rattle.lists.specs.inner.Numbers.{node_table}
use Rattle.lists.proofs.NodeRows.{table_length}
use Rattle.spread.specs.inner.Numbers.{told_table}
use Rattle.spread.specs.inner.Walk.{operands_put, ActionPut}
use Rattle.spread.proofs.ActionTag.{spelt_action}
use Rattle.spread.proofs.ToldRows.{index_length}
use Rattle.spread.proofs.Passes.{Reached, begins, action_step, operator_step, all_told}
use Rattle.spread.proofs.walk.spread.Goals as goal
use Rattle.spread.proofs.walk.spread.Goals.{in-Ok-Action, in_default, in_default-via-in-Ok+in_default, in_default-via-in_default}

abbrev no_row : Row
no_row = record { tag = 0; byte = 0; members = 0; after = 0; first = 0; at = 0 }

pub returns-then-lists-rows : goal.returns-then-lists-rows
returns-then-lists-rows c =
    λ E o room. absurd (omega (arith, c.if-lists-rows.true))

pub loop-k-init : goal.loop-k-init
loop-k-init c =
    let a = c.args in
    λ E o long.
    subst (λ l. Reached (table_numbers a.rows.now) (counts_numbers a.counts.now) (length a.rows.now) E l (told_table a.index.now) 0) (sym c.put_root.ensures)
    (begins (table_numbers a.rows.now) (counts_numbers a.counts.now) (length a.rows.now) E o (node_table a.lists.now) (omega (arith, table_length a.lists.now)) (omega (arith, o.table.nodes, node_count_positive E))
    (told_table a.index.now) (omega (arith, index_length a.index.now)))

pub loop-k-preserved : goal.loop-k-preserved
loop-k-preserved c =
    let a = c.args in
    let rows = table_numbers a.rows.now in
    let counts = counts_numbers a.counts.now in
    let l = c.loop-k in
    λ E o long.
    let r = l.invariant E o long in
    elim c.match-tag.branch [
      | in-Ok-Action w ↦
          let tag : c.tag-tag.result ≡ Ok Action = search rules in
          subst (λ i. Reached rows counts (length a.rows.now) E (node_table c.match-tag.lists) (told_table i) (l.k + 1)) (sym w.index-is)
          (subst (λ x. Reached rows counts (length a.rows.now) E (node_table x) (told_table w.put_action.new.index) (l.k + 1)) (sym w.lists-is)
          (action_step rows counts (length a.rows.now) E o.few c.requires (node_table l.lists) (told_table l.index) (told_table w.put_action.new.index) l.k c.loop-k-test.true
          (tag_of_row a.rows.now l.k no_row c.loop-k-test.true ∙ spelt_action (sym c.tag-tag.ensures ∙ tag))
          (subst (λ n. ActionPut n (node_table l.lists) l.k (told_table l.index) (told_table w.put_action.new.index)) (sym (first_of_row a.rows.now l.k no_row c.loop-k-test.true)) w.put_action.ensures)
          r.n r.parts r.ahead r.rooted r.room r.long r.passed))
      | in_default w ↦
          let other : c.tag-tag.result ≡ Ok Action → ⊥ =
          elim w.in_default.branch [ in_default-via-in-Ok+in_default w' ↦ (λ e. search rules) | in_default-via-in_default w' ↦ (λ e. search rules) ] in
          subst (λ i. Reached rows counts (length a.rows.now) E (node_table c.match-tag.lists) (told_table i) (l.k + 1)) (sym w.index-is)
          (subst (λ x. Reached rows counts (length a.rows.now) E (node_table x) (told_table l.index) (l.k + 1)) (sym w.lists-is)
          (operator_step rows counts (length a.rows.now) E o.few c.requires (node_table l.lists) (node_table w.put_operands.new.lists) (told_table l.index) l.k c.loop-k-test.true
          (λ e. other (c.tag-tag.ensures ∙ ap spelt (sym (tag_of_row a.rows.now l.k no_row c.loop-k-test.true) ∙ e)))
          (w.put_operands.ensures ∙ ap (λ t. operands_put rows counts l.k t (node_table l.lists)) (c.tag-tag.ensures ∙ ap spelt (sym (tag_of_row a.rows.now l.k no_row c.loop-k-test.true))))
          r.n r.parts r.ahead r.rooted r.room r.long r.passed))
    ]

pub returns : goal.returns
returns c =
    let a = c.args in
    let l = c.loop-k in
    λ E o room long.
    let r = l.invariant E o long in
    all_told (table_numbers a.rows.now) (counts_numbers a.counts.now) (length a.rows.now) E o.few c.requires (node_table l.lists) (told_table l.index) l.k c.loop-k-test.false r.n r.parts r.ahead r.passed
