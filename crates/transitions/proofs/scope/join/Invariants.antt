use Prim.Native.Nat.{ℕ, ◌≤◌}
use Rattle.algebra.specs.Expr.{Expr}
use Rattle.algebra.specs.Transitions.{part_at_parallel}
use Rattle.plan.specs.inner.Numbers.{table_numbers}
use Rattle.plan.specs.inner.Table.{Node}
use Rattle.transitions.specs.inner.Numbers.{most, list_numbers}
use Rattle.transitions.proofs.JoinTurns.{JoiningAll}
use Rattle.transitions.proofs.scope.join.Given as goal

abbrev pub invariant-loop-i : goal.invariant-loop-i
invariant-loop-i l = (l.n ≤ l.so_far)
    × (l.so_far ≤ most)
    × ((nodes f at : ℕ) (E : Expr) → Node (table_numbers l.rows) nodes l.k f at E → JoiningAll (part_at_parallel f E) (list_numbers l.initial.list) l.n l.left l.right (list_numbers l.list) l.so_far l.i-index)
