use Prim.Native.Nat.{ℕ, ◌≤◌}
use Rattle.algebra.specs.Expr.{Expr}
use Rattle.algebra.specs.Transitions.{part_at_parallel}
use Rattle.plan.specs.inner.Numbers.{table_numbers}
use Rattle.plan.specs.inner.Table.{Node}
use Rattle.transitions.specs.inner.Numbers.{most, list_numbers}
use Rattle.transitions.specs.inner.Parting.{Parts}
use Rattle.transitions.proofs.JoinTurns.{Joining}
use Rattle.transitions.proofs.scope.join_one.Given as goal

abbrev pub invariant-loop-j : goal.invariant-loop-j
invariant-loop-j l = (l.n ≤ l.so_far)
    × (l.so_far ≤ most)
    × Parts (table_numbers l.rows) l.k l.i l.parting
    × ((nodes f at : ℕ) (E : Expr) → Node (table_numbers l.rows) nodes l.k f at E → Joining (part_at_parallel f E) (list_numbers l.initial.list) l.n l.i l.others (list_numbers l.list) l.so_far l.j-index)
