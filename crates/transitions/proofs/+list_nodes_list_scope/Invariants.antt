use Prim.Native.Nat.{ℕ, ◌+◌, ◌*◌, ◌-◌, ◌≤◌}
use mathlib.Core.List.{List}
use Rattle.algebra.specs.Expr.{Expr}
use Rattle.plan.specs.inner.Numbers.{table_numbers}
use Rattle.transitions.specs.inner.Numbers.{most, list_numbers}
use Rattle.transitions.specs.inner.Listing.{Operands, AllNamed, all_actions, all_transitions}
use Rattle.transitions.proofs.NodeTurns.{Listing}
use Rattle.transitions.proofs.+list_nodes_list_scope.Given as goal

abbrev pub decreases-list_nodes : goal.decreases-list_nodes
decreases-list_nodes l = 2 * (l.end - l.k) + 1

abbrev pub invariant-list_nodes-loop-at : goal.invariant-list_nodes-loop-at
invariant-list_nodes-loop-at l = (l.k ≤ l.at)
    × (l.n ≤ l.so_far)
    × (l.so_far ≤ most)
    × ((count i : ℕ) (Es : List Expr) → Operands (table_numbers l.rows) count l.k l.end i Es → AllNamed Es → all_actions Es ≤ 256 → Listing (table_numbers l.rows) count l.end (list_numbers l.initial.list) l.n (all_actions Es) (all_transitions i Es) l.at (list_numbers l.list) l.so_far)

abbrev pub decreases-list_nodes-loop-at : goal.decreases-list_nodes-loop-at
decreases-list_nodes-loop-at l = l.end - l.at

abbrev pub decreases-list_scope : goal.decreases-list_scope
decreases-list_scope l = 2 * (l.after - l.k)
