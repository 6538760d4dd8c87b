-- 01's numbers as numbers: its table of refusals and its limits.
-- By computation; everywhere else they have names, and a name that stood for another number would be seen here.
use mathlib.Core.Path.{◌≡◌, refl}
use mathlib.Core.List.{[], ◌∷◌}
use Rattle.field.specs.Limits.{plan_limit, depth_limit, action_limit, place_limit, transition_limit, arc_limit, record_limit}
use Rattle.field.specs.Refusals.{plan_too_long, field_cut, unknown_tag, wrong_body, too_deep, wrong_label, too_many_actions, operand_due, bytes_after, body_not_exclusive, too_many_places, too_many_transitions, too_many_arcs, table_too_short, record_too_long, record_field_cut, wrong_tag, wrong_length, not_rising, no_net, no_transition, input_empty, input_shared, no_marking, two_tokens}

-- "Refusal numbers", in the table's order.
pub known_refusals :
    (plan_too_long ∷ field_cut ∷ unknown_tag ∷ wrong_body ∷ too_deep ∷ wrong_label ∷ too_many_actions ∷ operand_due ∷ bytes_after ∷ body_not_exclusive ∷ too_many_places ∷ too_many_transitions ∷ too_many_arcs ∷ table_too_short
    ∷ record_too_long ∷ record_field_cut ∷ wrong_tag ∷ wrong_length ∷ not_rising ∷ no_net ∷ no_transition ∷ input_empty ∷ input_shared ∷ no_marking ∷ two_tokens ∷ [])
    ≡ (1 ∷ 2 ∷ 3 ∷ 4 ∷ 5 ∷ 6 ∷ 7 ∷ 8 ∷ 9 ∷ 10 ∷ 11 ∷ 12 ∷ 13 ∷ 14 ∷ 20 ∷ 21 ∷ 22 ∷ 23 ∷ 24 ∷ 30 ∷ 31 ∷ 32 ∷ 33 ∷ 35 ∷ 36 ∷ [])
known_refusals = refl

-- "Limits: plan 4,096 bytes; depth 32; 256 actions; 2,048 places; 1,024 transitions; 16,384 arcs", and a record of 16,384 bytes.
pub known_limits : (plan_limit ∷ depth_limit ∷ action_limit ∷ place_limit ∷ transition_limit ∷ arc_limit ∷ record_limit ∷ []) ≡ (4096 ∷ 32 ∷ 256 ∷ 2048 ∷ 1024 ∷ 16384 ∷ 16384 ∷ [])
known_limits = refl
