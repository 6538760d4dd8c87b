-- The answers of `enabled`, each with the list that goes with it, for every input.
-- Each is what `list_enabled` gives after the checks so far; on refusal nothing is written, and what lies behind the list stays.
use Prim.Native.Nat.{ℕ, ◌≤◌}
use mathlib.Core.Path.{◌≡◌, refl, sym, ap, ap₂, ◌∙◌}
use mathlib.Core.List.{List, [], ◌∷◌, ◌++◌}
use mathlib.Core.Bool.{Bool, true, false}
use native.Mathlib.Nat.{zero-add}
use native.Mathlib.Omega.{arith}
use borrow.Author.Tests.{leb-true}
use lib.ListN.{length, take, drop}
use lib.Dec.{leb}
use lib.Seq.{sets, sets-eq}
use Rattle.field.specs.Answer.{good, refused, check}
use Rattle.field.specs.Refusals.{no_marking}
use Rattle.algebra.specs.Firing.{enabled_from}
use Rattle.net.specs.Tables.{Tables, transitions_in}
use Rattle.net.specs.Check.{is_net, check_net}
use Rattle.net.specs.Marking.{check_marking}
use Rattle.enabling.specs.Enabled.{list_enabled, exits_hold, how_many, enabled, enabling}
use Rattle.algebra.specs.Net.{Transition}
use Rattle.std.specs.Prelude.{Result, Ok, Err}
use Rattle.field.specs.Says.{number_of}
use Rattle.field.specs.declared.Fault.{Fault}
use Rattle.field.specs.declared.Fault.TheVariants.{NoNet, NoMarking, TableTooShort}
use Rattle.field.specs.declared.Refusal.{Refusal}
use Rattle.std.specs.List.{list_all, zip}
use lib.Seq.{length-take-le}
use Rattle.net.proofs.NetTests.{net_reaches}
use Rattle.moving.proofs.Checked.{marking_good}
use Rattle.enabling.proofs.ExitsHold.{ExitHolds, exits_paired}
use Rattle.enabling.specs.Says.{enabling_told, enabling_says}
use Rattle.enabling.specs.declared.Enabling.{Enabling}
use Rattle.enabling.specs.declared.Enabling.TheVariants.{Many, Stuck}

abbrev pub Lists : Result Enabling Refusal → List ℕ → Tables → List ℕ → List ℕ → Type 0
Lists r exit tables m out = (enabling_says r ≡ (enabled tables m out).answer) × (exit ≡ (enabled tables m out).list)

sets_front : (vs l : List ℕ) → length vs ≤ length l → sets l 0 vs ≡ vs ++ drop (length vs) l
sets_front vs l h = sets-eq vs l 0 (omega arith) ∙ rw (zero-add (length vs))

-- A net's kinds and its part of a marking are as long.
pub kinds_long : (tables : Tables) (m : List ℕ) (b : Bool) → b ≡ is_net tables → b ≡ true → (d : Bool) → check_marking tables.places m ≡ check d no_marking 0 → d ≡ true
    → length (take tables.places tables.kinds) ≡ length (take tables.places m)
kinds_long tables m b e t d f u =
    length-take-le _ _ (net_reaches tables (sym e ∙ t)).0 ∙ sym (length-take-le _ _ (marking_good tables.places m d f u).0)

-- The exits of a net and its part of a marking, place by place.
pub exits_told : (tables : Tables) (m : List ℕ) (b : Bool) → b ≡ is_net tables → b ≡ true → (d : Bool) → check_marking tables.places m ≡ check d no_marking 0 → d ≡ true
    → (h : Bool) → h ≡ list_all ExitHolds (zip (take tables.places tables.kinds) (take tables.places m)) → exits_hold (take tables.places tables.kinds) (take tables.places m) ≡ h
exits_told tables m b e t d f u h x = sym (x ∙ exits_paired (take tables.places tables.kinds) (take tables.places m) (kinds_long tables m b e t d f u))

module _ (tables : Tables) (m out : List ℕ) where
  refuses : (fault : Fault) (r : Refusal) → (r.fault ≡ fault) × (r.carried ≡ 0) → refused (number_of fault) 0 ≡ list_enabled tables m out → Lists (Err r) out tables m out
  unfolding enabled
  refuses fault r is e = (ap₂ refused (ap number_of is.0) is.1 ∙ rw (← e), rw (← e))

  pub no_net_lent : (b : Bool) → b ≡ is_net tables → b ≡ false → (r : Refusal) → (r.fault ≡ NoNet) × (r.carried ≡ 0) → Lists (Err r) out tables m out
  no_net_lent b e f r is = refuses NoNet r is (unfold list_enabled check_net in rw (← e, f))

  module _ (b : Bool) (e : b ≡ is_net tables) (t : b ≡ true) (d : Bool) (f : check_marking tables.places m ≡ check d no_marking 0) where
    pub no_marking_lent : d ≡ false → (r : Refusal) → (r.fault ≡ NoMarking) × (r.carried ≡ 0) → Lists (Err r) out tables m out
    no_marking_lent g r is = refuses NoMarking r is (unfold list_enabled check_net in rw (← e, t, f, g))

    module _ (u : d ≡ true) (ts : List Transition) (of : ts ≡ transitions_in tables) (room : Bool) (k : room ≡ leb (length (enabled_from 0 (take tables.places m) ts)) (length out)) where
      abbrev numbers : List ℕ
      numbers = enabled_from 0 (take tables.places m) (transitions_in tables)

      same : enabled_from 0 (take tables.places m) ts ≡ numbers
      same = ap (enabled_from 0 (take tables.places m)) of

      room_is : room ≡ leb (length numbers) (length out)
      room_is = k ∙ ap (λ (l : List ℕ). leb (length l) (length out)) same

      pub no_room_lent : room ≡ false → (r : Refusal) → (r.fault ≡ TableTooShort) × (r.carried ≡ 0) → Lists (Err r) out tables m out
      no_room_lent h r is = refuses TableTooShort r is (unfold list_enabled check_net in rw (← e, t, f, u, ← room_is, h))

      module _ (h : room ≡ true) (many : ℕ) (exit : List ℕ) (n : many ≡ length (enabled_from 0 (take tables.places m) ts)) (w : exit ≡ sets out 0 (enabled_from 0 (take tables.places m) ts)) where
        many_is : many ≡ length numbers
        many_is = n ∙ ap length same

        good_list : good numbers ≡ list_enabled tables m out
        unfolding list_enabled check_net
        good_list = rw (← e, t, f, u, ← room_is, h)

        written : exit ≡ numbers ++ drop (length numbers) out
        written = w ∙ ap (sets out 0) same ∙ sets_front numbers out (leb-true (length numbers) (length out) (sym room_is ∙ h))

        abbrev exits : Bool
        exits = exits_hold (take tables.places tables.kinds) (take tables.places m)

        list_told : (r : Enabling) → good (enabling_told r) ≡ good (how_many exits numbers) → Lists (Ok r) exit tables m out
        unfolding enabled
        list_told r x = (x ∙ rw (← good_list), written ∙ rw (← good_list))

        -- none is enabled: what is answered then
        pub none_lent : many ≡ 0 → (r : Enabling) → enabling_told r ≡ how_many exits [] → Lists (Ok r) exit tables m out
        none_lent z r x = list_told r (ap good (x ∙ go numbers (sym many_is ∙ z)))
          where
            go : (l : List ℕ) → length l ≡ 0 → how_many exits [] ≡ how_many exits l
            go [] y = refl
            go (x ∷ l) y = absurd (omega arith)

        pub stuck_lent : many ≡ 0 → exits ≡ false → Lists (Ok Stuck) exit tables m out
        stuck_lent z e = none_lent z Stuck (ap (λ (b : Bool). how_many b []) (sym e))

        pub many_lent : (many ≡ 0 → ⊥) → Lists (Ok (Many many)) exit tables m out
        many_lent n = list_told (Many many) (ap good (go numbers many_is))
          where
            go : (l : List ℕ) → many ≡ length l → enabling many ≡ how_many exits l
            go [] y = absurd (n y)
            go (x ∷ l) y = ap enabling y
