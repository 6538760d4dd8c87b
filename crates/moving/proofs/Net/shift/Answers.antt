-- `shift`: the items passed so far, the marking so far, and what both come to over what is left; only places of the items are touched.
use Rattle.std.proofs.Common.{sym, ◌∙◌}
use Rattle.moving.proofs.MoveTurns.{shifting_more, shifting_no, filling_turn, filling_end, agree_turn}
use Rattle.moving.proofs.Net.shift.Goals as goal

pub returns-then-not-shift-clause-value : goal.returns-then-not-shift-clause-value
returns-then-not-shift-clause-value c =
    let a = c.args in let s = a.self in let l = c.loop-i in
    (shifting_no s.rows.now s.arcs.now a.ts.now a.side l.i _ c.loop-i-test.true c.from.ensures _ c.side.ensures.value a.from a.to l.marking _ l.invariant.passed (sym c.shift.ensures.value ∙ c.if-not-shift.true), c.loop-i-test.true)

pub returns-then-not-shift-clause-by_index : goal.returns-then-not-shift-clause-by_index
returns-then-not-shift-clause-by_index c =
    let a = c.args in let s = a.self in let l = c.loop-i in
    agree_turn s.rows.now s.arcs.now a.ts.now a.side l.i _ c.loop-i-test.true c.from.ensures _ c.side.ensures.value a.marking.now l.marking c.shift.new.marking l.invariant.others c.shift.ensures.by_index

pub loop-i-preserved : goal.loop-i-preserved
loop-i-preserved c =
    let a = c.args in
    let s = a.self in
    let l = c.loop-i in
    let here = c.loop-i-test.true in
    let moved = c.shift.ensures.marking_after c.if-not-shift.false in
    record {
      passed = shifting_more s.rows.now s.arcs.now a.ts.now a.side l.i _ here c.from.ensures _ c.side.ensures.value a.from a.to l.marking _ l.invariant.passed (sym c.shift.ensures.value ∙ c.if-not-shift.false) ∙ rw moved;
      marking = l.invariant.marking ∙ filling_turn s.rows.now s.arcs.now a.ts.now a.side l.i _ here c.from.ensures _ c.side.ensures.value a.to l.marking ∙ rw moved;
      others = agree_turn s.rows.now s.arcs.now a.ts.now a.side l.i _ here c.from.ensures _ c.side.ensures.value a.marking.now l.marking c.shift.new.marking l.invariant.others c.shift.ensures.by_index;
    }

pub returns-clause-marking_after : goal.returns-clause-marking_after
returns-clause-marking_after c =
    let a = c.args in let s = a.self in let l = c.loop-i in
    sym (l.invariant.marking ∙ filling_end s.rows.now s.arcs.now a.ts.now a.side l.i c.loop-i-test.false a.to l.marking)
