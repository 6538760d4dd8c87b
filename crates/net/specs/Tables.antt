-- 01, "Net tables": the three tables of a net, and what three lent tables with their three counts say.
use Rattle.std.specs.Prelude.{ℕ, zero, suc, ◌+◌, ◌*◌, List, [], ◌∷◌, ◌++◌, cond, length, get_or, take, drop, replicate, eqb}
use Rattle.algebra.specs.Item.{Item, one, two, first}
use Rattle.algebra.specs.Net.{Transition, Net, place_count}

-- "a byte per place (1 entry, 2 internal, 3 exit)"
unfoldable pub kinds_of : Net → List ℕ
kinds_of N = replicate N.entries 1 ++ (replicate N.internals 2 ++ replicate N.exits 3)

-- "second action or 65,535"
abbrev pub none : ℕ
none = 65535

abbrev pub second : Item → ℕ
second (one i) = none
second (two i j) = j

-- "six 16-bit numbers per transition (label, first action, second action or 65,535, start in the arc list, input count, output count)"
unfoldable pub rows_from : ℕ → List Transition → List ℕ
rows_from start [] = []
rows_from start (t ∷ ts) =
    t.label ∷ (first t.item ∷ (second t.item ∷ (start ∷ (length t.inputs ∷ (length t.outputs
    ∷ rows_from (start + (length t.inputs + length t.outputs)) ts)))))

unfoldable pub rows_of : Net → List ℕ
unfolding rows_from
rows_of N = rows_from 0 N.transitions

-- "arcs, 16-bit place numbers, inputs then outputs, each rising, transition after transition with no gap"
unfoldable pub arcs_from : List Transition → List ℕ
arcs_from [] = []
arcs_from (t ∷ ts) = t.inputs ++ (t.outputs ++ arcs_from ts)

unfoldable pub arcs_of : Net → List ℕ
unfolding arcs_from
arcs_of N = arcs_from N.transitions

-- "The compiler's answer counts places, transitions and arcs; later calls are handed these counts."
pub record Tables : Type 0 where
  pub kinds : List ℕ
  pub rows : List ℕ
  pub arcs : List ℕ
  pub places : ℕ
  pub transitions : ℕ
  pub arc_count : ℕ

unfoldable pub tables_of : Net → Tables
unfolding kinds_of rows_of arcs_of
tables_of N = record {
  kinds = kinds_of N;
  rows = rows_of N;
  arcs = arcs_of N;
  places = place_count N;
  transitions = length N.transitions;
  arc_count = length (arcs_of N);
}

-- One of the six numbers of a transition.
abbrev pub number : Tables → ℕ → ℕ → ℕ
number T t k = get_or T.rows (6 * t + k) 0

-- The item of a first action and a second or 65,535.
abbrev pub item_of : ℕ → ℕ → Item
item_of i j = cond (eqb j none) (one i) (two i j)

-- Transition t, as the tables have it.
unfoldable pub transition_at : Tables → ℕ → Transition
transition_at T t = record {
  label = number T t 0;
  item = item_of (number T t 1) (number T t 2);
  inputs = take (number T t 4) (drop (number T t 3) T.arcs);
  outputs = take (number T t 5) (drop (number T t 3 + number T t 4) T.arcs);
}

-- So many transitions from t on.
unfoldable pub transitions_from : Tables → ℕ → ℕ → List Transition
unfolding transition_at
transitions_from T t zero = []
transitions_from T t (suc n) = transition_at T t ∷ transitions_from T (suc t) n

unfoldable pub transitions_in : Tables → List Transition
unfolding transitions_from
transitions_in T = transitions_from T 0 T.transitions
