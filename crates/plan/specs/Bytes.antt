-- 01, "Plan bytes", the table of fields read the other way: the bytes of an expression, and which expressions have bytes that are accepted.
use Rattle.std.specs.Prelude.{ℕ, ◌+◌, max, List, [], ◌∷◌, ◌++◌, Bool, ◌&&◌, length, leb}
use Rattle.field.specs.Limits.{plan_limit, depth_limit, action_limit}
use Rattle.field.specs.Field.{field}
use Rattle.algebra.specs.Expr.{Expr, action, sequence, choice, parallel, loop, scope, actions}
use Rattle.plan.specs.Reading.{is_label, is_name}

unfoldable pub encode : Expr → List ℕ
unfolding field
encode (action l) = field 1 (l ∷ [])
encode (sequence E F) = field 2 (encode E ++ encode F)
encode (choice E F) = field 3 (encode E ++ encode F)
encode (parallel E F) = field 4 (encode E ++ encode F)
encode (loop E F G) = field 5 (encode E ++ (encode F ++ encode G))
encode (scope a E) = field 6 (a ∷ encode E)

-- "The outermost field has depth 1."
unfoldable pub depth : Expr → ℕ
depth (action l) = 1
depth (sequence E F) = 1 + max (depth E) (depth F)
depth (choice E F) = 1 + max (depth E) (depth F)
depth (parallel E F) = 1 + max (depth E) (depth F)
depth (loop E F G) = 1 + max (depth E) (max (depth F) (depth G))
depth (scope a E) = 1 + depth E

-- Labels are labels, and scope bytes are names.
unfoldable pub named : Expr → Bool
named (action l) = is_label l
named (sequence E F) = named E && named F
named (choice E F) = named E && named F
named (parallel E F) = named E && named F
named (loop E F G) = named E && (named F && named G)
named (scope a E) = is_name a && named E

-- Within the limits of a plan.
unfoldable pub within_limits : Expr → Bool
unfolding encode depth named actions
within_limits E = leb (length (encode E)) plan_limit && (leb (depth E) depth_limit && (leb (actions E) action_limit && named E))
