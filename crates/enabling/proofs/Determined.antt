-- `enabled` asks nothing, and its contract determines its answer and what it leaves in the list.
-- The contract equates both with a function of the input, no two answers of the code say the same, and each answer of the function is said.
use Prim.Native.Nat.{ℕ}
use mathlib.Core.Path.{◌≡◌, refl, sym, ◌∙◌}
use mathlib.Core.List.{List}
use mathlib.Core.Bool.{Bool}
use lib.ListN.{length, take}
use lib.Dec.{leb}
use contract.Lifetimes.{Lfts}
use borrow.Fn.Kinds.{Dens}
use Rattle.std.specs.Prelude.{Result}
use Rattle.field.specs.Answer.{Answer, good, refused}
use Rattle.field.specs.declared.Refusal.{Refusal}
use Rattle.field.proofs.OneResult.{One, Allowed, Answered}
use Rattle.algebra.specs.Firing.{enabled_from}
use Rattle.net.specs.Tables.{Tables, transitions_in}
use Rattle.net.specs.Lent.{tables_lent}
use Rattle.field.proofs.Faults.{said_once, known_said, IsKnown, check_known}
use Rattle.moving.proofs.KnownChecks.{net_known, marking_known}
use Rattle.enabling.specs.Enabled.{list_enabled, listed, exits_hold, enabled}
use Rattle.enabling.specs.Enabled as spec
use Rattle.enabling.specs.Says.{enabling_told, enabling_says}
use Rattle.enabling.specs.declared.Enabling.{Enabling}
use Rattle.enabling.specs.declared.Enabling.TheVariants.{Many, Stuck}
use Rattle.enabling.proofs.enabled.Kinds as enabled-kinds
use Rattle.enabling.proofs.enabled.Reads as enabled-reads

told_once : (x y : Enabling) → enabling_told x ≡ enabling_told y → x ≡ y
told_once (Many n) (Many k) e = let same : n ≡ k = cc in λ i. Many (same i)
told_once (Many n) Stuck e = absurd (cc)
told_once Stuck (Many k) e = absurd (cc)
told_once Stuck Stuck e = refl

pub enabling_once : (r q : Result Enabling Refusal) → enabling_says r ≡ enabling_says q → r ≡ q
enabling_once r q e = said_once enabling_told told_once r q e

each_told : (y : spec.Enabling) → (x : Enabling) × (enabling_told x ≡ y)
each_told (spec.enabling n) = (Many n, refl)
each_told spec.stuck = (Stuck, refl)

-- what `enabled` answers is said by the code
list_known : (T : Tables) (m out : List ℕ) → IsKnown (list_enabled T m out)
unfolding list_enabled
list_known T m out = net_known T _ (marking_known T.places m _ (check_known (leb (length (enabled_from 0 (take T.places m) (transitions_in T))) (length out)) 14 0 _ refl tt))

listed_known : (b : Bool) (out : List ℕ) (a : Answer (List ℕ)) → IsKnown a → IsKnown (listed b out a).answer
listed_known b out (good ts) k = tt
listed_known b out (refused n c) k = k

enabling_said : (T : Tables) (m out : List ℕ) → (r : Result Enabling Refusal) × (enabling_says r ≡ (enabled T m out).answer)
unfolding enabled
enabling_said T m out =
    known_said enabling_told each_told (listed (exits_hold (take T.places T.kinds) (take T.places m)) out (list_enabled T m out)).answer
    (listed_known (exits_hold (take T.places T.kinds) (take T.places m)) out (list_enabled T m out) (list_known T m out))

pub enabled_answered : Answered 4 enabled-kinds.ps enabled-kinds.r enabled-reads.Asked enabled-reads.Post
enabled_answered = record { free = λ κs a. tt; one = one }
  where
    one : (κs : Lfts 4) (a : Dens κs enabled-kinds.ps) → One (Allowed 4 enabled-kinds.ps enabled-kinds.r enabled-reads.Post κs a)
    one κs a =
        let T = tables_lent a.0.now in
        let e = enabled T a.1.0.now a.1.1.0.now in
        let r = enabling_said T a.1.0.now a.1.1.0.now in
        record {
          some = ((r.0, (tt, (tt, (e.list, tt)))), (r.1, refl));
          only = λ x y p q.
              let r = enabling_once x.0 y.0 (p.0 ∙ sym q.0) in
              let l = p.1 ∙ sym q.1 in
              λ i. (r i, (tt, (tt, (l i, tt))));
        }
