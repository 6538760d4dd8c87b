-- 01, "Refusal numbers", the paragraph on 30: what makes tables no net, test by test in its order.
use Rattle.std.specs.Prelude.{ℕ, zero, suc, ◌+◌, ◌*◌, List, [], ◌∷◌, Bool, true, false, not, ◌&&◌, length, take, eqb, leb, ltb}
use Rattle.field.specs.Limits.{place_limit, transition_limit, arc_limit}
use Rattle.field.specs.Refusals.{no_net}
use Rattle.field.specs.Answer.{Answer, check}
use Rattle.algebra.specs.Item.{Item, one, two, same_item}
use Rattle.algebra.specs.Net.{Transition}
use Rattle.field.specs.Lists.{all}
use Rattle.net.specs.Tables.{Tables, number, transitions_in}

-- "a count over its limit"
unfoldable pub counts_fit : Tables → Bool
counts_fit T = leb T.places place_limit && (leb T.transitions transition_limit && leb T.arc_count arc_limit)

-- "a lent table shorter than its count"
unfoldable pub tables_reach : Tables → Bool
tables_reach T = leb T.places (length T.kinds) && (leb (6 * T.transitions) (length T.rows) && leb T.arc_count (length T.arcs))

-- "kinds not 1s then 2s then 3s with a 1 and a 3": after a kind that is at most the next, and the last is 3
unfoldable pub kinds_after : ℕ → List ℕ → Bool
kinds_after last [] = eqb last 3
kinds_after last (k ∷ ks) = leb last k && (leb k 3 && kinds_after k ks)

unfoldable pub kinds_ordered : List ℕ → Bool
unfolding kinds_after
kinds_ordered [] = false
kinds_ordered (k ∷ ks) = eqb k 1 && kinds_after 1 ks

-- "a place number too large, a list empty or not strictly rising": from a least number on, below the places
unfoldable pub rising : ℕ → ℕ → List ℕ → Bool
rising least places [] = true
rising least places (p ∷ ps) = leb least p && (ltb p places && rising (suc p) places ps)

unfoldable pub lists_rise : ℕ → Transition → Bool
unfolding rising
lists_rise places t = leb 1 (length t.inputs) && (rising 0 places t.inputs && (leb 1 (length t.outputs) && rising 0 places t.outputs))

-- "starts with a gap or overlap or not ending at the arc count": so many transitions from t on, the first of which must start at a number
unfoldable pub starts_meet : Tables → ℕ → ℕ → ℕ → Bool
starts_meet T start t zero = eqb start T.arc_count
starts_meet T start t (suc n) = eqb (number T t 3) start && starts_meet T (start + (number T t 4 + number T t 5)) (suc t) n

-- "a label that is 128 or above 255, an action above 255 (65,535 as second aside)"
abbrev pub actions_fit : Item → Bool
actions_fit (one i) = leb i 255
actions_fit (two i j) = leb i 255 && leb j 255

unfoldable pub codes_fit : Transition → Bool
codes_fit t = not (eqb t.label 128) && (leb t.label 255 && actions_fit t.item)

-- "or two transitions of the same action pair"
unfoldable pub pairs_differ : List Transition → Bool
unfolding same_item all
pairs_differ [] = true
pairs_differ (t ∷ ts) = all (λ u. not (same_item t.item u.item)) ts && pairs_differ ts

unfoldable pub is_net : Tables → Bool
unfolding counts_fit tables_reach kinds_ordered all lists_rise starts_meet codes_fit pairs_differ transitions_in
is_net T =
    counts_fit T
    && (tables_reach T
    && (kinds_ordered (take T.places T.kinds)
    && (all (lists_rise T.places) (transitions_in T)
    && (starts_meet T 0 0 T.transitions
    && (all codes_fit (transitions_in T)
    && pairs_differ (transitions_in T))))))

-- "tables are no net", which carries 0
unfoldable pub check_net : Tables → Answer (Unit {0})
unfolding is_net
check_net T = check (is_net T) no_net 0
