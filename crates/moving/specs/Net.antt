-- What a net in order has: its transitions, and the places on one side of some of them.
use Rattle.std.specs.Prelude.{ℕ, List}
use Rattle.algebra.specs.Net.{Transition}
use Rattle.net.specs.declared.Side.{Side}
use Rattle.moving.specs.Transitions.{transitions_within, side_of, sides}
use Rattle.moving.specs.declared.Net.{Net}

abbrev pub transitions_of : Net → List Transition
transitions_of net = transitions_within net.rows.now net.arcs.now net.transitions

abbrev pub places_of : Net → Side → ℕ → List ℕ
places_of net side t = side_of side net.rows.now net.arcs.now t

abbrev pub item_places : Net → Side → List ℕ → List (List ℕ)
item_places net side ts = sides side net.rows.now net.arcs.now ts
