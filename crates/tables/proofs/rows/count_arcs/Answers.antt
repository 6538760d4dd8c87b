-- `count_arcs` meets its contract. The loop's invariant: what is counted, and the arcs of the transitions that are left, are all arcs.
-- Assumes nothing.
use Prim.Native.Nat.{◌+◌}
use native.Mathlib.Omega.{arith}
use mathlib.Core.Path.{sym, ◌∙◌, ap}
use lib.ListN.{length}
use Rattle.transitions.specs.inner.Numbers.{list_numbers}
use Rattle.transitions.proofs.FlatNumbers.{first_of, second_of}
use Rattle.net.specs.Tables.{item_of}
use Rattle.boxes.specs.inner.ArcCounts.{item_arcs}
use Rattle.spread.specs.inner.Numbers.{told_table}
use Rattle.sides.specs.inner.Sides.{told_arcs}
use Rattle.tables.specs.inner.Rows.{no_transition}
use Rattle.tables.proofs.Counted.{none_counted, next_counted, all_counted}
use Rattle.tables.proofs.rows.count_arcs.Goals as goal

pub loop-t-init : goal.loop-t-init
loop-t-init c =
    (none_counted (told_arcs (told_table c.args.index.now)) (list_numbers c.args.list.now) (length c.args.list.now), omega arith)

pub overflow_add-count : goal.overflow_add-count
overflow_add-count c =
    omega (arith, c.loop-t.invariant.1)

pub loop-t-preserved : goal.loop-t-preserved
loop-t-preserved c =
    let l = c.loop-t in
    let list = c.args.list.now in
    let w = told_arcs (told_table c.args.index.now) in
    let first = sym (first_of list l.t-index no_transition c.loop-t-test.true) in
    let second = sym (second_of list l.t-index no_transition c.loop-t-test.true) in
    (next_counted l.invariant.0 c.loop-t-test.true (ap (λ n. l.count + n) (c.count_transition-count.ensures.0 ∙ (λ q. item_arcs w (item_of (first q) (second q))))), omega arith)

pub returns : goal.returns
returns c =
    all_counted c.loop-t.invariant.0 (omega arith)
