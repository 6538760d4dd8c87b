-- 01, "Calculus rules, with no net": "Over- and underbars mark started and finished parts", and ≡, "the least congruence" with its equations.
-- Nothing here knows of a place, a marking or a number of a place.
use Rattle.std.specs.Prelude.{ℕ}
use Rattle.algebra.specs.Expr.{Expr, sequence, choice, parallel, loop, scope}

-- A dynamic expression: the whole is started or finished, or one operand is active, and of a parallel both are.
pub data Dynamic : Expr → Type 0 where
  started finished : {E : Expr} → Dynamic E
  sequence_first : {E F : Expr} → Dynamic E → Dynamic (sequence E F)
  sequence_second : {E F : Expr} → Dynamic F → Dynamic (sequence E F)
  choice_first : {E F : Expr} → Dynamic E → Dynamic (choice E F)
  choice_second : {E F : Expr} → Dynamic F → Dynamic (choice E F)
  parallel_both : {E F : Expr} → Dynamic E → Dynamic F → Dynamic (parallel E F)
  loop_first : {E F G : Expr} → Dynamic E → Dynamic (loop E F G)
  loop_body : {E F G : Expr} → Dynamic F → Dynamic (loop E F G)
  loop_last : {E F G : Expr} → Dynamic G → Dynamic (loop E F G)
  scope_inside : {a : ℕ} {E : Expr} → Dynamic E → Dynamic (scope a E)

-- "≡ is the least congruence with:"
pub data Equal : (E : Expr) → Dynamic E → Dynamic E → Type 0 where
  -- an equivalence
  same : {E : Expr} {D : Dynamic E} → Equal E D D
  back : {E : Expr} {D D' : Dynamic E} → Equal E D D' → Equal E D' D
  then : {E : Expr} {D D' D'' : Dynamic E} → Equal E D D' → Equal E D' D'' → Equal E D D''
  -- in every part
  in_sequence_first : {E F : Expr} {D D' : Dynamic E} → Equal E D D' → Equal (sequence E F) (sequence_first D) (sequence_first D')
  in_sequence_second : {E F : Expr} {D D' : Dynamic F} → Equal F D D' → Equal (sequence E F) (sequence_second D) (sequence_second D')
  in_choice_first : {E F : Expr} {D D' : Dynamic E} → Equal E D D' → Equal (choice E F) (choice_first D) (choice_first D')
  in_choice_second : {E F : Expr} {D D' : Dynamic F} → Equal F D D' → Equal (choice E F) (choice_second D) (choice_second D')
  in_parallel : {E F : Expr} {D D' : Dynamic E} {C C' : Dynamic F} → Equal E D D' → Equal F C C' → Equal (parallel E F) (parallel_both D C) (parallel_both D' C')
  in_loop_first : {E F G : Expr} {D D' : Dynamic E} → Equal E D D' → Equal (loop E F G) (loop_first D) (loop_first D')
  in_loop_body : {E F G : Expr} {D D' : Dynamic F} → Equal F D D' → Equal (loop E F G) (loop_body D) (loop_body D')
  in_loop_last : {E F G : Expr} {D D' : Dynamic G} → Equal G D D' → Equal (loop E F G) (loop_last D) (loop_last D')
  in_scope : {a : ℕ} {E : Expr} {D D' : Dynamic E} → Equal E D D' → Equal (scope a E) (scope_inside D) (scope_inside D')
  -- "a started sequence or loop starts its first operand; in E;F a finished E starts F and a finished F finishes the sequence"
  sequence_starts : {E F : Expr} → Equal (sequence E F) started (sequence_first started)
  sequence_goes_on : {E F : Expr} → Equal (sequence E F) (sequence_first finished) (sequence_second started)
  sequence_finishes : {E F : Expr} → Equal (sequence E F) (sequence_second finished) finished
  -- "a started choice starts either side, and a finished side finishes it"
  choice_starts_first : {E F : Expr} → Equal (choice E F) started (choice_first started)
  choice_starts_second : {E F : Expr} → Equal (choice E F) started (choice_second started)
  choice_first_finishes : {E F : Expr} → Equal (choice E F) (choice_first finished) finished
  choice_second_finishes : {E F : Expr} → Equal (choice E F) (choice_second finished) finished
  -- "parallel starts and finishes with both sides"
  parallel_starts : {E F : Expr} → Equal (parallel E F) started (parallel_both started started)
  parallel_finishes : {E F : Expr} → Equal (parallel E F) (parallel_both finished finished) finished
  -- "In a loop, finished E, finished F, started F and started G are one state; finished G finishes the loop."
  loop_starts : {E F G : Expr} → Equal (loop E F G) started (loop_first started)
  loop_enters : {E F G : Expr} → Equal (loop E F G) (loop_first finished) (loop_body started)
  loop_repeats : {E F G : Expr} → Equal (loop E F G) (loop_body finished) (loop_body started)
  loop_leaves : {E F G : Expr} → Equal (loop E F G) (loop_body started) (loop_last started)
  loop_finishes : {E F G : Expr} → Equal (loop E F G) (loop_last finished) finished
  -- "scope passes both bars through"
  scope_starts : {a : ℕ} {E : Expr} → Equal (scope a E) started (scope_inside started)
  scope_finishes : {a : ℕ} {E : Expr} → Equal (scope a E) (scope_inside finished) finished
