use Prim.Native.Nat.{◌≤◌, ◌-◌}
use mathlib.Core.Path.{◌≡◌}
use Rattle.net.specs.inner.Passes.{rows_pass}
use Rattle.net.proofs.rows.all_fit.Given as goal

abbrev pub invariant-loop-t : goal.invariant-loop-t
invariant-loop-t l =
    (l.start ≤ l.lent.arc_count)
    × (rows_pass l.lent.rows.now l.lent.arcs.now l.lent.places l.lent.arc_count 0 0 l.lent.transitions
    ≡ rows_pass l.lent.rows.now l.lent.arcs.now l.lent.places l.lent.arc_count l.start l.t (l.lent.transitions - l.t))
