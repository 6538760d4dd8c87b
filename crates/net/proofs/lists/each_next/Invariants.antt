use Prim.Native.Nat.{◌-◌}
use mathlib.Core.Path.{◌≡◌}
use mathlib.Core.Bool.{Bool, ◌&&◌}
use lib.ListN.{drop}
use Rattle.net.specs.inner.Passes.{each_next}
use Rattle.net.proofs.lists.each_next.Given as goal

abbrev pub invariant-loop-i : goal.invariant-loop-i
invariant-loop-i g l = (test : _ → _ → Bool) → ((x y : _) (r : Bool) → goal.F-post g l.passes x y r → r ≡ test x y)
    → each_next test l.list ≡ (l.all && each_next test (drop (l.i - 1) l.list))
