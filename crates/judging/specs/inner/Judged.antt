-- The compile call's judgement as far as 12: reading, loops, places, transitions. What is left of it, 13, is asked once the arcs are made.
use Rattle.std.specs.Prelude.{ℕ, List, leb}
use Rattle.field.specs.Limits.{place_limit, transition_limit, arc_limit}
use Rattle.field.specs.Refusals.{too_many_places, too_many_transitions, too_many_arcs}
use Rattle.field.specs.Answer.{Answer, good, ◌>>=◌, ◌>>◌, check}
use Rattle.algebra.specs.Expr.{Expr}
use Rattle.plan.specs.Reading.{read_plan}
use Rattle.plan.specs.Loops.{check_loops}
use Rattle.boxes.specs.Counts.{places_cut_off, transition_count, arc_count}

-- "too many places .. in the whole net", "too many .. transitions": the first two tests of the size.
unfoldable pub check_places : Expr → Answer (Unit {0})
unfolding places_cut_off
check_places E = check (leb (places_cut_off E) place_limit) too_many_places 0

unfoldable pub check_transitions : Expr → Answer (Unit {0})
unfolding transition_count
check_transitions E = check (leb (transition_count E) transition_limit) too_many_transitions 0

-- "arcs", the last test of the size
unfoldable pub check_arcs : Expr → Answer (Unit {0})
unfolding arc_count
check_arcs E = check (leb (arc_count E) arc_limit) too_many_arcs 0

-- What is asked of an expression that was read.
unfoldable pub judge : Expr → Answer Expr
unfolding check_loops check_places check_transitions
judge E = do
  check_loops E
  check_places E
  check_transitions E
  good E

unfoldable pub judged : List ℕ → Answer Expr
unfolding read_plan judge
judged plan = read_plan plan >>= judge
