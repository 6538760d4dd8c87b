-- 01, "Known nets": "Those with P are proved together": the nets of the plans, and what replay answers to the records.
-- The full_room marking holds 9s beforehand, so a row also shows what of it is written.
use Prim.Native.Nat.{ℕ}
use mathlib.Core.Path.{◌≡◌, refl}
use mathlib.Core.List.{List, [], ◌∷◌, ◌++◌, map}
use lib.ListN.{replicate}
use Rattle.boxes.specs.Compile.{compile}
use Rattle.boxes.proofs.KnownNets.{Known, known, full_room, known_nets, ab_then_c, a_alone}
use Rattle.run.specs.Run.{Verdict, finished, unfinished, refusal}
use Rattle.replay.specs.Replay.{Replayed, replay}

abbrev buffer : List ℕ
buffer = replicate 6 9

-- the steps {a,b} and {c} of (a‖b);c
abbrev step_ab : List ℕ
step_ab = 0x20 ∷ 0x00 ∷ 0x08 ∷ 0x21 ∷ 0x00 ∷ 0x01 ∷ 0x00 ∷ 0x21 ∷ 0x00 ∷ 0x01 ∷ 0x01 ∷ []

abbrev step_c : List ℕ
step_c = 0x20 ∷ 0x00 ∷ 0x04 ∷ 0x21 ∷ 0x00 ∷ 0x01 ∷ 0x02 ∷ []

record KnownRun : Type 0 where
  plan : List ℕ
  steps : List ℕ
  replayed : Replayed

abbrev answer : Verdict → List ℕ → Replayed
answer v m = record { verdict = v; buffer = m }

abbrev known_runs : List KnownRun
known_runs =
    -- {a,b},{c} finished
    record { plan = ab_then_c; steps = step_ab ++ step_c; replayed = answer (finished 2) (0 ∷ 0 ∷ 0 ∷ 0 ∷ 1 ∷ 9 ∷ []) }
    -- {c} first is 32 after 0 steps
    ∷ record { plan = ab_then_c; steps = step_c; replayed = answer (refusal 32 0 0) (1 ∷ 1 ∷ 0 ∷ 0 ∷ 0 ∷ 9 ∷ []) }
    -- a sc a: its empty record is unfinished
    ∷ record { plan = a_alone; steps = []; replayed = answer (unfinished 0) (1 ∷ 0 ∷ 9 ∷ 9 ∷ 9 ∷ 9 ∷ []) }
    ∷ []

pub record KnownNets : Type 0 where
  nets : map (λ (k : Known). compile k.plan full_room) known ≡ map (λ (k : Known). k.compiled) known
  runs : map (λ (k : KnownRun). replay k.plan k.steps buffer) known_runs ≡ map (λ (k : KnownRun). k.replayed) known_runs

pub known_cases : KnownNets
unfolding replay
known_cases = record { nets = known_nets; runs = refl }
