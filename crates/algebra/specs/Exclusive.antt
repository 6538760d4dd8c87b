-- 01, "Box construction": "A loop body must be exclusive".
use Rattle.std.specs.Prelude.{Bool, true, false, ◌&&◌, T}
use Rattle.algebra.specs.Expr.{Expr, action, sequence, choice, parallel, loop, scope}

-- "an action; any sequence; any loop; a choice of two exclusive ones; a scope of an exclusive one. A parallel is not."
unfoldable pub exclusive : Expr → Bool
exclusive (action l) = true
exclusive (sequence E F) = true
exclusive (choice E F) = exclusive E && exclusive F
exclusive (parallel E F) = false
exclusive (loop E F G) = true
exclusive (scope a E) = exclusive E

-- Every loop of the expression has an exclusive body.
abbrev pub LoopsExclusive : Expr → Type 0
LoopsExclusive (action l) = Unit {0}
LoopsExclusive (sequence E F) = LoopsExclusive E × LoopsExclusive F
LoopsExclusive (choice E F) = LoopsExclusive E × LoopsExclusive F
LoopsExclusive (parallel E F) = LoopsExclusive E × LoopsExclusive F
LoopsExclusive (loop E F G) = LoopsExclusive E × LoopsExclusive F × LoopsExclusive G × T (exclusive F)
LoopsExclusive (scope a E) = LoopsExclusive E
