-- `find`: the search of all transitions is that of what lies ahead on the chain of the first action.
use Rattle.std.proofs.Common.{sym, ap, ◌∙◌, arith, get_or}
use Rattle.net.specs.declared.tables.Row.{Row}
use Rattle.step.proofs.Names.{seek_starts, seek_here, seek_on, walk_on, seek_ends, found_some, found_none}
use Rattle.step.proofs.firing.Indexed.find.Goals as goal

pub loop-t-init : goal.loop-t-init
loop-t-init c =
    let s = c.args.self in
    let e = seek_starts s.net.rows.now s.index.now.nexts c.args.item.first c.second_number-second.result s.net.transitions (omega (arith, s.net.in_order.few)) s.index.now.heads s.chains (omega arith) _
    (c.from-t.ensures ∙ ap (λ k. get_or s.index.now.heads k 0) c.from.ensures) in
    record { stands = e.0; rest = e.1 }

pub returns-then-from-second : goal.returns-then-from-second
returns-then-from-second c =
    let s = c.args.self in
    let here = seek_here s.net.rows.now s.index.now.nexts c.args.item.first c.second_number-second.result s.net.transitions (omega (arith, s.net.in_order.few)) c.loop-t.t c.loop-t-test.true c.loop-t.invariant.stands
    _ (c.from-in-loop-t.ensures ∙ ap (λ (r : Row). r.second) c.at.ensures) (sym c.if-from-second.true) in
    found_some s.net.rows.now s.net.arcs.now s.net.transitions c.args.item.first c.second_number-second.result _ c.second_number-second.ensures c.loop-t.t (sym (c.loop-t.invariant.rest ∙ here)) c.loop-t-test.true

pub loop-t-smaller : goal.loop-t-smaller
loop-t-smaller c =
    let s = c.args.self in
    let on = walk_on s.net.rows.now s.index.now.nexts c.args.item.first c.second_number-second.result s.net.transitions (omega (arith, s.net.in_order.few)) c.loop-t.t c.loop-t-test.true c.loop-t.invariant.stands
    _ (c.from-in-loop-t.ensures ∙ ap (λ (r : Row). r.second) c.at.ensures) _ c.from-t-in-loop-t.ensures in
    omega (arith, on.0, s.net.in_order.few)

pub loop-t-preserved : goal.loop-t-preserved
loop-t-preserved c =
    let s = c.args.self in
    let second = c.from-in-loop-t.ensures ∙ ap (λ (r : Row). r.second) c.at.ensures in
    let on = walk_on s.net.rows.now s.index.now.nexts c.args.item.first c.second_number-second.result s.net.transitions (omega (arith, s.net.in_order.few)) c.loop-t.t c.loop-t-test.true c.loop-t.invariant.stands
    _ second _ c.from-t-in-loop-t.ensures in
    record {
      stands = on.1;
      rest = c.loop-t.invariant.rest
          ∙ seek_on s.net.rows.now s.index.now.nexts c.args.item.first c.second_number-second.result s.net.transitions (omega (arith, s.net.in_order.few)) c.loop-t.t c.loop-t-test.true c.loop-t.invariant.stands
          _ second (λ e. c.if-from-second.false (sym e)) _ c.from-t-in-loop-t.ensures;
    }

pub returns : goal.returns
returns c =
    let s = c.args.self in
    let end = seek_ends s.net.rows.now s.index.now.nexts c.args.item.first c.second_number-second.result s.net.transitions (omega (arith, s.net.in_order.few)) c.loop-t.t c.loop-t-test.false in
    found_none s.net.rows.now s.net.arcs.now s.net.transitions c.args.item.first c.second_number-second.result _ c.second_number-second.ensures s.net.transitions (sym (c.loop-t.invariant.rest ∙ end)) (omega arith)
