-- 01, "Plan bytes": a scope's byte is "outside 1..127" refused, so no scope takes away what is silent. Here only that it is not 0.
use Rattle.std.specs.Prelude.{◌≤◌}
use Rattle.algebra.specs.Expr.{Expr, action, sequence, choice, parallel, loop, scope}

abbrev pub ScopesNamed : Expr → Type 0
ScopesNamed (action l) = Unit {0}
ScopesNamed (sequence E F) = ScopesNamed E × ScopesNamed F
ScopesNamed (choice E F) = ScopesNamed E × ScopesNamed F
ScopesNamed (parallel E F) = ScopesNamed E × ScopesNamed F
ScopesNamed (loop E F G) = ScopesNamed E × ScopesNamed F × ScopesNamed G
ScopesNamed (scope a E) = (1 ≤ a) × ScopesNamed E
