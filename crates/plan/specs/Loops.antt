-- 01, "Refusal numbers", 10: "loop body not exclusive", which carries "first such loop".
use Rattle.std.specs.Prelude.{ℕ, ◌+◌, List, [], ◌∷◌, ◌++◌, cond}
use Rattle.field.specs.Refusals.{body_not_exclusive}
use Rattle.field.specs.Answer.{Answer, good, refused}
use Rattle.algebra.specs.Expr.{Expr, action, sequence, choice, parallel, loop, scope}
use Rattle.algebra.specs.Exclusive.{exclusive}

-- The bytes of an expression's field: the header, its own byte, its operands.
unfoldable pub bytes : Expr → ℕ
bytes (action l) = 4
bytes (sequence E F) = 3 + bytes E + bytes F
bytes (choice E F) = 3 + bytes E + bytes F
bytes (parallel E F) = 3 + bytes E + bytes F
bytes (loop E F G) = 3 + bytes E + bytes F + bytes G
bytes (scope a E) = 4 + bytes E

-- The offsets, in byte order, of the loops whose body is not exclusive; the expression's own field stands at the first number.
unfoldable pub faulty_loops : ℕ → Expr → List ℕ
unfolding exclusive bytes
faulty_loops at (action l) = []
faulty_loops at (sequence E F) = faulty_loops (at + 3) E ++ faulty_loops (at + 3 + bytes E) F
faulty_loops at (choice E F) = faulty_loops (at + 3) E ++ faulty_loops (at + 3 + bytes E) F
faulty_loops at (parallel E F) = faulty_loops (at + 3) E ++ faulty_loops (at + 3 + bytes E) F
faulty_loops at (loop E F G) =
    cond (exclusive F) [] (at ∷ [])
    ++ (faulty_loops (at + 3) E ++ (faulty_loops (at + 3 + bytes E) F ++ faulty_loops (at + 3 + bytes E + bytes F) G))
faulty_loops at (scope a E) = faulty_loops (at + 4) E

abbrev pub no_fault : List ℕ → Answer (Unit {0})
no_fault [] = good tt
no_fault (at ∷ ats) = refused body_not_exclusive at

-- "10 after all reading".
unfoldable pub check_loops : Expr → Answer (Unit {0})
unfolding faulty_loops
check_loops E = no_fault (faulty_loops 0 E)
