-- A net as mathematics: how many places of each kind, and the transitions in order.
use Rattle.std.specs.Prelude.{ℕ, ◌+◌, List}
use Rattle.algebra.specs.Item.{Item}

-- Its label, its one or two actions, and the place numbers that it consumes from and produces into.
pub record Transition : Type 0 where
  pub label : ℕ
  pub item : Item
  pub inputs : List ℕ
  pub outputs : List ℕ

-- 01, "Box construction": "Final numbers: entries from 0, then internals, then exits."
pub record Net : Type 0 where
  pub entries : ℕ
  pub internals : ℕ
  pub exits : ℕ
  pub transitions : List Transition

abbrev pub place_count : Net → ℕ
place_count N = N.entries + (N.internals + N.exits)
