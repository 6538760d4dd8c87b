-- The lengths of the three lists of places by formula, and every box has at least one entry and one exit place.
-- The formulas are "Box construction" with the product for × and the sum for joined lists; each factor is at least 1.
use Prim.Native.Nat.{ℕ, ◌+◌, ◌*◌, ◌≤◌}
use native.Mathlib.Omega.{arith}
use native.Mathlib.Nat.{mul-le-mul}
use mathlib.Core.Path.{◌≡◌, refl}
use lib.ListN.{length, length-append}
use Rattle.algebra.specs.Expr.{Expr, action, sequence, choice, parallel, loop, scope, actions}
use Rattle.algebra.specs.Places.{entries, exits, internals, places}
use Rattle.algebra.proofs.Products.{product_length}

-- how many entry, exit and internal places
unfoldable pub entries_of : Expr → ℕ
entries_of (action l) = 1
entries_of (sequence E F) = entries_of E
entries_of (choice E F) = entries_of E * entries_of F
entries_of (parallel E F) = entries_of E + entries_of F
entries_of (loop E F G) = entries_of E
entries_of (scope a E) = entries_of E

unfoldable pub exits_of : Expr → ℕ
exits_of (action l) = 1
exits_of (sequence E F) = exits_of F
exits_of (choice E F) = exits_of E * exits_of F
exits_of (parallel E F) = exits_of E + exits_of F
exits_of (loop E F G) = exits_of G
exits_of (scope a E) = exits_of E

unfoldable pub internals_of : Expr → ℕ
unfolding entries_of exits_of
internals_of (action l) = 0
internals_of (sequence E F) = internals_of E + (internals_of F + exits_of E * entries_of F)
internals_of (choice E F) = internals_of E + internals_of F
internals_of (parallel E F) = internals_of E + internals_of F
internals_of (loop E F G) = internals_of E + (internals_of F + (internals_of G + exits_of E * exits_of F * (entries_of F * entries_of G)))
internals_of (scope a E) = internals_of E

pub entries_length : (n : ℕ) (E : Expr) → length (entries n E) ≡ entries_of E
unfolding entries entries_of
entries_length n (action l) = refl
entries_length n (sequence E F) = entries_length n E
entries_length n (choice E F) = simp (product_length, entries_length n E, entries_length (n + actions E) F)
entries_length n (parallel E F) = simp (length-append, entries_length n E, entries_length (n + actions E) F)
entries_length n (loop E F G) = entries_length n E
entries_length n (scope a E) = entries_length n E

pub exits_length : (n : ℕ) (E : Expr) → length (exits n E) ≡ exits_of E
unfolding exits exits_of
exits_length n (action l) = refl
exits_length n (sequence E F) = exits_length (n + actions E) F
exits_length n (choice E F) = simp (product_length, exits_length n E, exits_length (n + actions E) F)
exits_length n (parallel E F) = simp (length-append, exits_length n E, exits_length (n + actions E) F)
exits_length n (loop E F G) = exits_length (n + actions E + actions F) G
exits_length n (scope a E) = exits_length n E

pub internals_length : (n : ℕ) (E : Expr) → length (internals n E) ≡ internals_of E
unfolding internals internals_of
internals_length n (action l) = refl
internals_length n (sequence E F) = simp (length-append, product_length, exits_length, entries_length, internals_length n E, internals_length (n + actions E) F)
internals_length n (choice E F) = simp (length-append, internals_length n E, internals_length (n + actions E) F)
internals_length n (parallel E F) = simp (length-append, internals_length n E, internals_length (n + actions E) F)
internals_length n (loop E F G) =
    simp (length-append, product_length, exits_length, entries_length, internals_length n E, internals_length (n + actions E) F, internals_length (n + actions E + actions F) G)
internals_length n (scope a E) = internals_length n E

pub places_length : (n : ℕ) (E : Expr) → length (places n E) ≡ entries_of E + (internals_of E + exits_of E)
unfolding places
places_length n E = simp (length-append, entries_length, internals_length, exits_length)

-- every box has an entry and an exit
pub entries_some : (E : Expr) → 1 ≤ entries_of E
unfolding entries_of
entries_some (action l) = omega arith
entries_some (sequence E F) = entries_some E
entries_some (choice E F) = let p : 1 * 1 ≤ entries_of E * entries_of F = mul-le-mul (entries_some E) (entries_some F) in omega arith
entries_some (parallel E F) = omega (arith, entries_some E)
entries_some (loop E F G) = entries_some E
entries_some (scope a E) = entries_some E

pub exits_some : (E : Expr) → 1 ≤ exits_of E
unfolding exits_of
exits_some (action l) = omega arith
exits_some (sequence E F) = exits_some F
exits_some (choice E F) = let p : 1 * 1 ≤ exits_of E * exits_of F = mul-le-mul (exits_some E) (exits_some F) in omega arith
exits_some (parallel E F) = omega (arith, exits_some E)
exits_some (loop E F G) = exits_some G
exits_some (scope a E) = exits_some E
