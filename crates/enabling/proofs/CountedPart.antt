-- What lies past the net's part, in a marking too, is not looked at by the enabled list.
-- What is asked behind 30 and 35 is asked of the net's part, and so is whether every exit holds a token.
use Prim.Native.Nat.{ℕ}
use mathlib.Core.Path.{◌≡◌, ap, ap₂, ◌∙◌}
use mathlib.Core.List.{List}
use lib.ListN.{length, take}
use lib.Dec.{leb}
use Rattle.field.specs.Answer.{good, ◌>>◌, check}
use Rattle.field.specs.Refusals.{table_too_short}
use Rattle.algebra.specs.Firing.{enabled_from}
use Rattle.net.specs.Tables.{Tables}
use Rattle.net.proofs.CountedPart.{Agree}
use Rattle.moving.proofs.CountedPart.{behind_checks}
use Rattle.enabling.specs.Enabled.{list_enabled, listed, exits_hold, enabled}

module _ (T T' : Tables) (agree : Agree T T') (m m' : List ℕ) (same : take T.places m ≡ take T.places m') where
  list_same : (out : List ℕ) → list_enabled T m out ≡ list_enabled T' m' out
  unfolding list_enabled
  list_same out = behind_checks T T' agree m m' same (λ ts l. check (leb (length (enabled_from 0 l ts)) (length out)) table_too_short 0 >> good (enabled_from 0 l ts))

pub enabled_same : (T T' : Tables) → Agree T T' → (m m' out : List ℕ) → take T.places m ≡ take T.places m' → enabled T m out ≡ enabled T' m' out
unfolding enabled
enabled_same T T' agree m m' out same =
    ap₂ (λ b a. listed b out a)
    (ap₂ exits_hold (agree.kinds ∙ ap (λ n. take n T'.kinds) agree.places) (same ∙ ap (λ n. take n m') agree.places))
    (list_same T T' agree m m' same out)
