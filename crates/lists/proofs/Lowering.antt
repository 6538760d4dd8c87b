-- A move that changes nothing lowers a list to itself. True by arithmetic.
use Prim.Native.Nat.{ℕ, ◌+◌, ◌*◌}
use native.Mathlib.Omega.{arith}
use native.Mathlib.Nat.{zero-mul, one-mul}
use mathlib.Core.Path.{◌≡◌}
use Rattle.lists.specs.inner.Lists.{OneList, one_list, lower_by}

pub lower_same : (k : ℕ) (s : OneList) → s ≡ lower_by 1 1 0 0 k s
lower_same k s =
    let b : s.base ≡ s.base + 0 * s.width = omega (arith, zero-mul s.width) in
    let w : s.width ≡ 1 * s.width = omega (arith, one-mul s.width) in
    λ i. one_list (b i) (w i) s.times s.step s.up
