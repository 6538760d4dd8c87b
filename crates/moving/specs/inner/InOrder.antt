-- Rows and arcs that are in order.
use Rattle.std.specs.Prelude.{ℕ, ◌+◌, ◌*◌, ◌≤◌, ◌<◌, List, length, T}
use Rattle.field.specs.Lists.{all}
use Rattle.net.specs.Check.{lists_rise}
use Rattle.net.specs.Rows.{in_row}
pub use Rattle.moving.specs.Transitions.{rows_and_arcs, transition_in, transitions_within}

-- Rows and arcs of so many transitions between so many places, as check 30 leaves them.
pub record InOrder (rows arcs : List ℕ) (transitions places : ℕ) : Type 0 where
  pub few : transitions ≤ 1024
  pub reach : 6 * transitions ≤ length rows
  pub ends : (t : ℕ) → t < transitions → in_row rows t 3 + (in_row rows t 4 + in_row rows t 5) ≤ length arcs
  pub rise : T (all (lists_rise places) (transitions_within rows arcs transitions))
