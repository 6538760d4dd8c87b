-- The answers of a run's code and the verdicts of its definition are the same.
-- No two answers of the code say the same, and each verdict is said whose refusal has one of 01's numbers.
use Prim.Native.Nat.{ℕ}
use mathlib.Core.Path.{◌≡◌, refl, ap}
use Rattle.std.specs.Prelude.{Result, Ok, Err}
use Rattle.field.specs.Says.{number_of}
use Rattle.field.proofs.Faults.{fault_numbered, IsNumbered, one_refusal}
use Rattle.run.specs.Run.{Verdict, finished, unfinished, refusal}
use Rattle.run.specs.Says.{ran_says}
use Rattle.run.specs.declared.Ran.{Ran}
use Rattle.run.specs.declared.Ran.TheVariants.{Finished, Unfinished}
use Rattle.run.specs.declared.Stopped.{Stopped}

pub ran_once : (r q : Result Ran Stopped) → ran_says r ≡ ran_says q → r ≡ q
ran_once (Ok (Finished k)) (Ok (Finished j)) e = let p : k ≡ j = cc in λ i. Ok (Finished (p i))
ran_once (Ok (Finished k)) (Ok (Unfinished j)) e = absurd (cc)
ran_once (Ok (Finished k)) (Err y) e = absurd (cc)
ran_once (Ok (Unfinished k)) (Ok (Finished j)) e = absurd (cc)
ran_once (Ok (Unfinished k)) (Ok (Unfinished j)) e = let p : k ≡ j = cc in λ i. Ok (Unfinished (p i))
ran_once (Ok (Unfinished k)) (Err y) e = absurd (cc)
ran_once (Err x) (Ok (Finished j)) e = absurd (cc)
ran_once (Err x) (Ok (Unfinished j)) e = absurd (cc)
ran_once (Err x) (Err y) e =
    let n : number_of x.refusal.fault ≡ number_of y.refusal.fault = cc in
    let c : x.refusal.carried ≡ y.refusal.carried = cc in
    let k : x.steps ≡ y.steps = cc in
    let r = one_refusal x.refusal y.refusal n c in
    λ i. Err (record { refusal = r i; steps = k i })

-- A verdict's number, if it refuses, is one of 01's.
abbrev pub IsSayable : Verdict → Type 0
IsSayable (finished k) = Unit {0}
IsSayable (unfinished k) = Unit {0}
IsSayable (refusal n c k) = IsNumbered n

pub ran_said : (v : Verdict) → IsSayable v → (r : Result Ran Stopped) × (ran_says r ≡ v)
ran_said (finished k) s = (Ok (Finished k), refl)
ran_said (unfinished k) s = (Ok (Unfinished k), refl)
ran_said (refusal n c k) s = (Err (record { refusal = record { fault = fault_numbered n; carried = c }; steps = k }), ap (λ (m : ℕ). refusal m c k) s)
