use Prim.Native.Nat.{◌≤◌}
use mathlib.Core.Path.{◌≡◌}
use mathlib.Core.List.{List}
use lib.ListN.{length}
use Rattle.algebra.specs.Transitions.{Labelled}
use Rattle.transitions.specs.inner.Numbers.{flat, list_numbers}
use Rattle.transitions.specs.inner.Listing.{firsts}
use Rattle.transitions.proofs.ScopeTurns.{Gathering}
use Rattle.transitions.proofs.scope.gather.Given as goal

abbrev pub invariant-loop-transition : goal.invariant-loop-transition
invariant-loop-transition l = (l.count ≤ 256)
    × ((ts : List Labelled) → list_numbers l.part ≡ flat ts → length (firsts l.label ts) ≤ 256 → Gathering (list_numbers l.part) l.transition-index (length l.part) l.label l.found l.count (firsts l.label ts))
