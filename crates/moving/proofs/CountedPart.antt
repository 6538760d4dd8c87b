-- What firing and the enabled list ask behind 30 and 35 is asked of the net's part of the tables and of the marking.
-- Check 30, the transitions and check 35 are the same for tables and markings that agree on that part.
use Prim.Native.Nat.{ℕ}
use mathlib.Core.Path.{◌≡◌, ap, ap₂, ◌∙◌}
use mathlib.Core.List.{List}
use mathlib.Core.Bool.{Bool}
use lib.ListN.{take}
use lib.Dec.{leb}
use Rattle.field.specs.Answer.{Answer, ◌>>◌, check}
use Rattle.field.specs.Refusals.{no_net, no_marking}
use Rattle.field.specs.Lists.{all}
use Rattle.field.proofs.Tests.{test}
use Rattle.algebra.specs.Net.{Transition}
use Rattle.net.specs.Tables.{Tables, transitions_in}
use Rattle.net.specs.Check.{is_net, check_net}
use Rattle.net.specs.Marking.{check_marking}
use Rattle.net.proofs.CountedPart.{Agree, reaches_same, net_same, transitions_same}

-- Check 35 asks of a marking only its first bytes.
marking_same : (places : ℕ) (m m' : List ℕ) → take places m ≡ take places m' → check_marking places m ≡ check_marking places m'
unfolding check_marking
marking_same places m m' same =
    ap₂ (λ (b : Bool) (l : List ℕ). check b no_marking 0 >> check (all (λ x. leb x 1) l) no_marking 0) (reaches_same places m m' same) same

module _ (T T' : Tables) (agree : Agree T T') (m m' : List ℕ) (same : take T.places m ≡ take T.places m') where
  -- What is asked of the transitions and of the net's part of the marking, behind 30 and 35, is asked of the same.
  pub behind_checks : {A : Type 0} (rest : List Transition → List ℕ → Answer A)
      → (check_net T >> (check_marking T.places m >> rest (transitions_in T) (take T.places m)))
      ≡ (check_net T' >> (check_marking T'.places m' >> rest (transitions_in T') (take T'.places m')))
  unfolding check_net
  behind_checks {A} rest =
      test (is_net T)
      (λ e. ap₂ ◌>>◌ nets (ap₂ ◌>>◌ markings (ap₂ rest (transitions_same T T' agree e) part)))
      (λ e. rw (← net_same T T' agree, e))
    where
      nets : check (is_net T) no_net 0 ≡ check (is_net T') no_net 0
      nets = ap (λ (b : Bool). check b no_net 0) (net_same T T' agree)

      markings : check_marking T.places m ≡ check_marking T'.places m'
      markings = marking_same T.places m m' same ∙ ap (λ (n : ℕ). check_marking n m') agree.places

      part : take T.places m ≡ take T'.places m'
      part = same ∙ ap (λ (n : ℕ). take n m') agree.places
