-- A call's refusals are known where those behind checks 30 and 35 are.
-- Each check gives its own number, and where it is passed the rest is asked.
use Prim.Native.Nat.{ℕ}
use mathlib.Core.Path.{refl}
use mathlib.Core.Bool.{Bool, true, false}
use mathlib.Core.List.{List}
use lib.ListN.{length, take}
use lib.Dec.{leb}
use Rattle.field.specs.Answer.{Answer, ◌>>◌, check}
use Rattle.field.specs.Lists.{all}
use Rattle.field.specs.Refusals.{no_net, no_marking}
use Rattle.field.proofs.Faults.{IsKnown, check_known}
use Rattle.net.specs.Tables.{Tables}
use Rattle.net.specs.Check.{is_net, check_net}
use Rattle.net.specs.Marking.{check_marking}

pub net_known : {A : Type 0} (T : Tables) (rest : Answer A) → IsKnown rest → IsKnown (check_net T >> rest)
unfolding check_net
net_known T rest k = check_known (is_net T) no_net 0 rest refl k

pub marking_known : {A : Type 0} (places : ℕ) (m : List ℕ) (rest : Answer A) → IsKnown rest → IsKnown (check_marking places m >> rest)
unfolding check_marking
marking_known places m rest k = go (leb places (length m)) (all (λ x. leb x 1) (take places m))
  where
    go : (a b : Bool) → IsKnown ((check a no_marking 0 >> check b no_marking 0) >> rest)
    go true true = k
    go true false = refl
    go false b = refl
