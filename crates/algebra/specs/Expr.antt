-- 01, "Plan bytes", the table of fields: what a plan is once it is read. The operators stand in the table's order, here and everywhere.
use Rattle.std.specs.Prelude.{ℕ, ◌+◌, cond, ltb}

pub data Expr : Type 0 where
  action : ℕ → Expr
  sequence choice parallel : Expr → Expr → Expr
  loop : Expr → Expr → Expr → Expr
  scope : ℕ → Expr → Expr

-- "Actions are numbered from 0 as they stand in the bytes": an operand's first action has the number of those before it.
unfoldable pub actions : Expr → ℕ
actions (action l) = 1
actions (sequence E F) = actions E + actions F
actions (choice E F) = actions E + actions F
actions (parallel E F) = actions E + actions F
actions (loop E F G) = actions E + actions F + actions G
actions (scope a E) = actions E

-- The label of action i of an expression whose first action has the number n.
unfoldable pub label : ℕ → Expr → ℕ → ℕ
unfolding actions
label n (action l) i = l
label n (sequence E F) i = cond (ltb i (n + actions E)) (label n E i) (label (n + actions E) F i)
label n (choice E F) i = cond (ltb i (n + actions E)) (label n E i) (label (n + actions E) F i)
label n (parallel E F) i = cond (ltb i (n + actions E)) (label n E i) (label (n + actions E) F i)
label n (loop E F G) i =
    cond (ltb i (n + actions E)) (label n E i)
    (cond (ltb i (n + actions E + actions F)) (label (n + actions E) F i) (label (n + actions E + actions F) G i))
label n (scope a E) i = label n E i
