-- `write`: the list with all enabled ones written is the one so far with those of what is left written behind, and as many are told.
use Rattle.std.proofs.Common.{sym, ap, ◌∙◌, arith, length}
use native.Mathlib.Numerals.{add-one}
use Rattle.std.proofs.lemmas.List.Edits.{sets}
use Rattle.enabling.proofs.EnabledTurns.{enabled_all, enabled_end, enabled_here, enabled_not}
use Rattle.enabling.proofs.listing.Marked.write.Goals as goal
use Rattle.enabling.proofs.listing.Marked.write.Goals.{then-is_enabled, else-is_enabled}

pub loop-t-init : goal.loop-t-init
loop-t-init c =
    let s = c.args.self in
    let e = enabled_all s.net.rows.now s.net.arcs.now s.tokens.now s.net.transitions in
    record { told = omega (arith, ap length e); list = ap (sets c.args.out.now 0) e }

pub bounds-out-many : goal.bounds-out-many
bounds-out-many c =
    let s = c.args.self in
    omega (arith, ap length (enabled_here s.net.rows.now s.net.arcs.now s.tokens.now s.net.transitions c.loop-t.t c.loop-t-test.true c.is_enabled.result c.is_enabled.ensures c.if-is_enabled.true))

pub loop-t-preserved : goal.loop-t-preserved
loop-t-preserved c =
    let s = c.args.self in
    let l = c.loop-t in
    elim c.if-is_enabled.branch [
      | then-is_enabled w ↦
          let e = enabled_here s.net.rows.now s.net.arcs.now s.tokens.now s.net.transitions l.t c.loop-t-test.true c.is_enabled.result c.is_enabled.ensures w.if-is_enabled.true in
          record { told = omega (arith, ap length e); list = l.invariant.list ∙ ap (sets l.out l.many) e ∙ rw (w.out-is, w.many-is, add-one l.many) }
      | else-is_enabled w ↦
          let e = enabled_not s.net.rows.now s.net.arcs.now s.tokens.now s.net.transitions l.t c.loop-t-test.true c.is_enabled.result c.is_enabled.ensures w.if-is_enabled.false in
          record { told = omega (arith, ap length e); list = l.invariant.list ∙ ap (sets l.out l.many) e ∙ rw (w.out-is, w.many-is) }
    ]

pub returns : goal.returns
returns c =
    let s = c.args.self in
    let l = c.loop-t in
    let e = enabled_end s.net.rows.now s.net.arcs.now s.tokens.now s.net.transitions l.t c.loop-t-test.false in
    record { many = omega (arith, ap length e); list = sym (l.invariant.list ∙ ap (sets l.out l.many) e) }
