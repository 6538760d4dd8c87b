-- 01, "Refusal numbers", 11, 12, 13: "too many places, transitions, arcs in the whole net". The counts are cut off at one above the limit,
-- so that they are found for every plan, also one whose net would be too large to write down.
use Rattle.std.specs.Prelude.{ℕ, ◌+◌, ◌*◌, min, List, [], ◌∷◌, length, leb}
use Rattle.field.specs.Limits.{place_limit, transition_limit, arc_limit}
use Rattle.field.specs.Refusals.{too_many_places, too_many_transitions, too_many_arcs}
use Rattle.field.specs.Answer.{Answer, ◌>>◌, check}
use Rattle.algebra.specs.Expr.{Expr, action, sequence, choice, parallel, loop, scope}
use Rattle.algebra.specs.Net.{Transition}
use Rattle.algebra.specs.Transitions.{transitions}
use Rattle.algebra.specs.Arcs.{net_of}

-- at most one above the limit
abbrev pub cut : ℕ → ℕ → ℕ
cut limit n = min n (limit + 1)

-- the lengths of the three lists of places, as "Box construction" makes them, each cut off
unfoldable pub entry_count : Expr → ℕ
entry_count (action l) = 1
entry_count (sequence E F) = entry_count E
entry_count (choice E F) = cut place_limit (entry_count E * entry_count F)
entry_count (parallel E F) = cut place_limit (entry_count E + entry_count F)
entry_count (loop E F G) = entry_count E
entry_count (scope a E) = entry_count E

unfoldable pub exit_count : Expr → ℕ
exit_count (action l) = 1
exit_count (sequence E F) = exit_count F
exit_count (choice E F) = cut place_limit (exit_count E * exit_count F)
exit_count (parallel E F) = cut place_limit (exit_count E + exit_count F)
exit_count (loop E F G) = exit_count G
exit_count (scope a E) = exit_count E

unfoldable pub internal_count : Expr → ℕ
unfolding entry_count exit_count
internal_count (action l) = 0
internal_count (sequence E F) = cut place_limit (internal_count E + (internal_count F + exit_count E * entry_count F))
internal_count (choice E F) = cut place_limit (internal_count E + internal_count F)
internal_count (parallel E F) = cut place_limit (internal_count E + internal_count F)
internal_count (loop E F G) =
    cut place_limit (internal_count E + (internal_count F + (internal_count G + exit_count E * exit_count F * (entry_count F * entry_count G))))
internal_count (scope a E) = internal_count E

unfoldable pub places_cut_off : Expr → ℕ
unfolding entry_count internal_count exit_count
places_cut_off E = cut place_limit (entry_count E + (internal_count E + exit_count E))

unfoldable pub transition_count : Expr → ℕ
unfolding transitions
transition_count E = cut transition_limit (length (transitions 0 E))

-- the arcs of the transitions, added up as far as one above the limit
unfoldable pub arcs_up_to : ℕ → List Transition → ℕ
arcs_up_to limit [] = 0
arcs_up_to limit (t ∷ ts) = cut limit (length t.inputs + length t.outputs + arcs_up_to limit ts)

unfoldable pub arc_count : Expr → ℕ
unfolding arcs_up_to net_of
arc_count E = arcs_up_to arc_limit (net_of E).transitions

-- "then 11, 12, 13": each is asked only where the one before is not given, so the net is written down only where its places are few
unfoldable pub check_size : Expr → Answer (Unit {0})
unfolding places_cut_off transition_count arc_count
check_size E = do
  check (leb (places_cut_off E) place_limit) too_many_places 0
  check (leb (transition_count E) transition_limit) too_many_transitions 0
  check (leb (arc_count E) arc_limit) too_many_arcs 0
