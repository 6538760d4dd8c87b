use Prim.Native.Nat.{◌≤◌}
use mathlib.Core.Path.{◌≡◌}
use mathlib.Core.List.{List}
use lib.ListN.{length}
use Rattle.algebra.specs.Transitions.{Labelled}
use Rattle.transitions.specs.inner.Numbers.{flat, list_numbers}
use Rattle.transitions.proofs.ScopeTurns.{Keeping}
use Rattle.transitions.proofs.scope.keep.Given as goal

abbrev pub invariant-loop-t : goal.invariant-loop-t
invariant-loop-t l = (l.so_far ≤ l.t)
    × ((ts : List Labelled) → list_numbers l.initial.part ≡ flat ts → Keeping (list_numbers l.initial.part) 0 (list_numbers l.part) l.t (length l.initial.part) l.name l.so_far ts)
