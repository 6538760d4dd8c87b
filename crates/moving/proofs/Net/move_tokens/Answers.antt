-- `move_tokens`: each answer, with the marking that it leaves, is a law of `MoveAnswers` at what the passes so far have told.
use Rattle.std.proofs.Common.{sym, ap, is_some}
use Rattle.moving.proofs.MoveAnswers.{item_found, none_found, some_found, item_shared, no_item_shared, on_ok, input_empty, input_shared, output_full, output_twice, moved_on}
use Rattle.moving.proofs.Net.move_tokens.Goals as goal

pub returns-in-Some : goal.returns-in-Some
returns-in-Some c =
    let a = c.args in input_empty a.self.rows.now a.self.arcs.now a.marking.now a.ts.now _ (item_found _ _ _ _ _ _ _ _ c.first_unlike.ensures c.in-Some.is) _ c.at.ensures

pub returns-in-Err : goal.returns-in-Err
returns-in-Err c =
    let a = c.args in
    input_shared a.self.rows.now a.self.arcs.now a.marking.now a.ts.now (none_found _ _ _ _ _ _ _ c.first_unlike.ensures (ap is_some c.in_default.is)) c.shift.new.marking _ c.in-Err.ensures.value c.shift.auto.marking c.shift.ensures.by_index
    _ c.fill.ensures _ c.at-in-Err.ensures

pub returns-then-is_some : goal.returns-then-is_some
returns-then-is_some c =
    let a = c.args in let s = c.in_default-shift.ensures in
    output_full a.self.rows.now a.self.arcs.now a.marking.now a.ts.now (none_found _ _ _ _ _ _ _ c.first_unlike.ensures (ap is_some c.in_default.is)) c.shift.new.marking s.value s.marking_after
    (some_found _ _ _ _ _ _ _ c.first_unlike-2.ensures (sym c.if-is_some.ensures)) _ c.fill-then-is_some.ensures _ c.at-then-is_some.ensures

pub returns-then-is_err : goal.returns-then-is_err
returns-then-is_err c =
    let a = c.args in let s = c.in_default-shift.ensures in let p = c.shift-2 in
    output_twice a.self.rows.now a.self.arcs.now a.marking.now a.ts.now (none_found _ _ _ _ _ _ _ c.first_unlike.ensures (ap is_some c.in_default.is)) c.shift.new.marking s.value s.marking_after
    (none_found _ _ _ _ _ _ _ c.first_unlike-2.ensures (sym c.if-is_some.ensures))
    (item_shared _ _ _ p.ensures.value (sym c.if-is_err.ensures.value)) p.new.marking c.fill-then-is_err.new.marking _ p.auto.marking p.ensures.by_index c.fill-then-is_err.ensures
    c.fill-then-is_err-2.ensures _ c.at-then-is_err.ensures

pub returns : goal.returns
returns c =
    let a = c.args in let s = c.in_default-shift.ensures in let p = c.shift-2 in let passed = sym c.if-is_err.ensures.value in
    moved_on a.self.rows.now a.self.arcs.now a.marking.now a.ts.now (none_found _ _ _ _ _ _ _ c.first_unlike.ensures (ap is_some c.in_default.is)) c.shift.new.marking s.value s.marking_after
    (none_found _ _ _ _ _ _ _ c.first_unlike-2.ensures (sym c.if-is_some.ensures))
    (no_item_shared _ _ _ p.ensures.value passed) _ (on_ok _ p.ensures.marking_after passed)
