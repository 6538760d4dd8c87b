-- The transitions of rows and arcs, and the places on their sides.
use Rattle.std.specs.Prelude.{ℕ, ◌+◌, List, [], map, take, drop}
use Rattle.algebra.specs.Net.{Transition}
use Rattle.net.specs.Rows.{in_row}
use Rattle.net.specs.Tables.{Tables, transition_at, transitions_from}
use Rattle.net.specs.declared.Side.{Side}
use Rattle.net.specs.declared.Side.TheVariants.{Inputs, Outputs}

-- The tables of which only rows and arcs are looked at.
abbrev pub rows_and_arcs : List ℕ → List ℕ → Tables
rows_and_arcs rows arcs = record { kinds = []; rows = rows; arcs = arcs; places = 0; transitions = 0; arc_count = 0 }

-- Transition t, and so many transitions, of rows and arcs.
abbrev pub transition_in : List ℕ → List ℕ → ℕ → Transition
transition_in rows arcs t = transition_at (rows_and_arcs rows arcs) t

abbrev pub transitions_within : List ℕ → List ℕ → ℕ → List Transition
transitions_within rows arcs n = transitions_from (rows_and_arcs rows arcs) 0 n

-- The places on one side of a transition: those that it consumes from, or those that it produces into.
unfoldable pub side_of : Side → List ℕ → List ℕ → ℕ → List ℕ
side_of Inputs rows arcs t = take (in_row rows t 4) (drop (in_row rows t 3) arcs)
side_of Outputs rows arcs t = take (in_row rows t 5) (drop (in_row rows t 3 + in_row rows t 4) arcs)

abbrev pub sides : Side → List ℕ → List ℕ → List ℕ → List (List ℕ)
sides side rows arcs ts = map (side_of side rows arcs) ts
