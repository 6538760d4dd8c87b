-- The answers of `fire`, each with the marking that goes with it, for every input.
-- Each is what `fire_step` gives after the checks so far; on refusal the marking is as it was, and what lies past the net's part stays.
use Prim.Native.Nat.{ℕ}
use mathlib.Core.Path.{◌≡◌, ap, ap₂, subst, ◌∙◌}
use mathlib.Core.List.{List, ◌++◌}
use mathlib.Core.Bool.{Bool, true, false}
use lib.ListN.{take, drop, take-append-drop}
use Rattle.std.specs.Prelude.{Result, Err}
use Rattle.field.specs.Says.{number_of}
use Rattle.field.specs.declared.Fault.{Fault}
use Rattle.field.specs.declared.Fault.TheVariants.{NoNet, NoMarking}
use Rattle.field.specs.declared.Refusal.{Refusal}
use Rattle.field.specs.Answer.{Answer, good, refused, check}
use Rattle.field.specs.Refusals.{no_marking}
use Rattle.algebra.specs.Net.{Transition}
use Rattle.net.specs.Tables.{Tables, transitions_in}
use Rattle.net.specs.Check.{is_net, check_net}
use Rattle.net.specs.Marking.{check_marking}
use Rattle.step.specs.Fire.{fire_step, fire}
use Rattle.moving.specs.Says.{fired_says}
use Rattle.moving.specs.inner.Moves.{Moves}
use Rattle.step.specs.inner.Reads.{read_and_fire}

-- What the code answers and leaves is what the call says.
abbrev pub Says : Result (Unit {0}) Refusal → List ℕ → Tables → List ℕ → List ℕ → Type 0
Says r exit tables m s = (fired_says r ≡ (fire tables m s).answer) × (exit ≡ (fire tables m s).marking)

module _ (tables : Tables) (m s : List ℕ) where
  refuses : (fault : Fault) (r : Refusal) → (r.fault ≡ fault) × (r.carried ≡ 0) → refused (number_of fault) 0 ≡ fire_step tables m s → Says (Err r) m tables m s
  unfolding fire
  refuses fault r is e = (ap₂ refused (ap number_of is.0) is.1 ∙ rw (← e), rw (← e))

  pub no_net_lent : (b : Bool) → b ≡ is_net tables → b ≡ false → (r : Refusal) → (r.fault ≡ NoNet) × (r.carried ≡ 0) → Says (Err r) m tables m s
  no_net_lent b e f r is = refuses NoNet r is (unfold fire_step check_net in rw (← e, f))

  module _ (b : Bool) (e : b ≡ is_net tables) (t : b ≡ true) (d : Bool) (f : check_marking tables.places m ≡ check d no_marking 0) where
    pub no_marking_lent : d ≡ false → (r : Refusal) → (r.fault ≡ NoMarking) × (r.carried ≡ 0) → Says (Err r) m tables m s
    no_marking_lent g r is = refuses NoMarking r is (unfold fire_step check_net in rw (← e, t, f, g))

    module _ (u : d ≡ true) where
      step_form : read_and_fire (transitions_in tables) (take tables.places m) s ≡ fire_step tables m s
      unfolding fire_step check_net
      step_form = rw (← e, t, f, u)

      pub step_lent : (ts : List Transition) → ts ≡ transitions_in tables → (r : Result (Unit {0}) Refusal) (part exit : List ℕ)
          → Moves r (take tables.places m) part (read_and_fire ts (take tables.places m) s) → exit ≡ part ++ drop tables.places m → Says r exit tables m s
      step_lent ts of r part exit moves x =
          go (read_and_fire (transitions_in tables) (take tables.places m) s) step_form
          (subst (λ (ts : List Transition). Moves r (take tables.places m) part (read_and_fire ts (take tables.places m) s)) of moves)
        where
          go : (a : Answer (List ℕ)) → a ≡ fire_step tables m s → Moves r (take tables.places m) part a → Says r exit tables m s
          go (good m') e v = unfold fire in (v.says ∙ rw (← e), x ∙ ap (λ (l : List ℕ). l ++ drop tables.places m) v.leaves ∙ rw (← e))
          go (refused n c) e v =
              unfold fire in (v.says ∙ rw (← e), x ∙ ap (λ (l : List ℕ). l ++ drop tables.places m) v.leaves ∙ take-append-drop tables.places m ∙ rw (← e))
