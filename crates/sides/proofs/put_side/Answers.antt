-- `put_side` meets its contract: one place, or the places of one action, or of two, and these in either order.
-- Assumes nothing.
use Prim.Native.Nat.{ℕ}
use native.Mathlib.Omega.{arith}
use mathlib.Core.Path.{sym, ◌∙◌, ap}
use mathlib.Core.Logic.{inl, inr}
use Rattle.algebra.specs.Item.{one}
use Rattle.net.specs.Tables.{item_of}
use Rattle.boxes.specs.inner.ArcCounts.{item_arcs}
use Rattle.arcs.proofs.Transitions.{item_of_one}
use Rattle.lists.specs.inner.Numbers.{node_table}
use Rattle.spread.specs.inner.Numbers.{told_table}
use Rattle.sides.specs.inner.Sides.{told_count}
use Rattle.sides.proofs.Sides.{as_item, in_some_order}
use Rattle.sides.proofs.SinglePlaces.{one_place, two_places}
use Rattle.sides.proofs.Told.{its_numbers, its_pair}
use Rattle.sides.proofs.put_side.Goals as goal
use Rattle.sides.proofs.put_side.Goals.{then-q-p, else-q-p}

pub returns-then-part-eq1 : goal.returns-then-part-eq1
returns-then-part-eq1 c =
    let a = c.args in
    one_place (node_table a.draft.lists.now) (told_table a.draft.index.now) a.side a.part.now (item_of a.t.first a.t.second) ((its_numbers a.t.first a.t.second).0 ∙ sym c.from-first.ensures) c.first_place-p.ensures c.requires.0 c.if-part-eq1.true

pub returns-then-second-eq-NO_SECOND : goal.returns-then-second-eq-NO_SECOND
returns-then-second-eq-NO_SECOND c =
    let a = c.args in
    as_item (node_table a.draft.lists.now) (told_table a.draft.index.now) a.side a.part.now _
    (item_of_one a.t.first a.t.second (sym c.from-second.ensures ∙ c.if-second-eq-NO_SECOND.true) ∙ ap one (sym c.from-first.ensures)) c.put_one.ensures

pub returns-then-part-eq2 : goal.returns-then-part-eq2
returns-then-part-eq2 c =
    let a = c.args in
    let l = node_table a.draft.lists.now in
    let x = told_table a.draft.index.now in
    let first = c.from-first in
    let second = c.from-second in
    let e = its_pair c.from-first.ensures c.from-second.ensures c.if-second-eq-NO_SECOND.false in
    as_item l x a.side a.part.now _ e
    (λ E d r n. c.put_two.ensures ∙ two_places l x a.side a.part.now first.result second.result c.first_place-p.ensures c.first_place-q.ensures (c.requires.0 ∙ ap (item_arcs (told_count x a.side)) e) c.if-part-eq2.true E d r n)

pub put_both-requires : goal.put_both-requires
put_both-requires c =
    let a = c.args in
    let t = told_count (told_table a.draft.index.now) a.side in
    let e = its_pair c.from-first.ensures c.from-second.ensures c.if-second-eq-NO_SECOND.false in
    let n = c.requires.0 ∙ ap (item_arcs t) e in
    elim c.if-q-p.branch [
      | then-q-p w ↦ (omega (arith, n, ap (λ (p : ℕ × ℕ). t p.0) w.low-is, ap (λ (p : ℕ × ℕ). t p.1) w.low-is), c.requires.1)
      | else-q-p w ↦ (omega (arith, n, ap (λ (p : ℕ × ℕ). t p.0) w.low-is, ap (λ (p : ℕ × ℕ). t p.1) w.low-is), c.requires.1)
    ]

pub returns : goal.returns
returns c =
    let a = c.args in
    let l = node_table a.draft.lists.now in
    let x = told_table a.draft.index.now in
    let e = its_pair c.from-first.ensures c.from-second.ensures c.if-second-eq-NO_SECOND.false in
    as_item l x a.side a.part.now _ e
    (in_some_order l x a.side a.part.now _ c.from-first.result c.from-second.result
    (elim c.if-q-p.branch [
      | then-q-p w ↦ inr (ap (λ (p : ℕ × ℕ). p.0) w.low-is, ap (λ (p : ℕ × ℕ). p.1) w.low-is)
      | else-q-p w ↦ inl (ap (λ (p : ℕ × ℕ). p.0) w.low-is, ap (λ (p : ℕ × ℕ). p.1) w.low-is)
    ]) c.put_both.ensures)
