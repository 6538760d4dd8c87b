-- The definitions compute also where the net would be far too large to write down: a plan whose net would have more than 10 ^ 20 places is refused with 11 at 0.
-- The counts are cut off as they are made, and the net is asked for only where its places fit.
use Prim.Native.Nat.{◌^◌, ◌≤◌, ◌<◌}
use native.Mathlib.Omega.{arith}
use native.Mathlib.Nat.{le_trans}
use mathlib.Core.Path.{◌≡◌, refl}
use lib.ListN.{length}
use lib.Dec.{lit<, lit≤}
use Rattle.field.specs.Answer.{refused}
use Rattle.algebra.specs.Expr.{Expr, action, choice, parallel}
use Rattle.plan.specs.Bytes.{encode}
use Rattle.plan.proofs.AtTheLimits.{tree}
use Rattle.algebra.specs.Places.{places}
use Rattle.boxes.specs.Compile.{accept}
use Rattle.algebra.proofs.Lengths.{entries_of, places_length}

-- a choice among 64 times four actions side by side
abbrev pub wide : Expr
wide = tree choice 6 (tree parallel 2 (action 1))

pub astronomical_short : length (encode wide) ≤ 4096
unfolding encode
astronomical_short = lit≤ tt

pub astronomical_entries : entries_of wide ≡ 4 ^ 64
unfolding entries_of
astronomical_entries = refl

entries_beyond : 10 ^ 20 < entries_of wide
unfolding entries_of
entries_beyond = lit< tt

entries_inside : (E : Expr) → entries_of E ≤ length (places 0 E)
entries_inside E = omega (arith, places_length 0 E)

pub astronomical_places : 10 ^ 20 < length (places 0 wide)
astronomical_places = le_trans entries_beyond (entries_inside wide)

pub astronomical_refused : accept (encode wide) ≡ refused 11 0
unfolding accept encode
astronomical_refused = refl
