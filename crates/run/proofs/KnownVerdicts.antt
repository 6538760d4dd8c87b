-- A run's refusals have 01's numbers: they are those of a step's form or of firing.
-- By recursion on the record, step by step.
use Prim.Native.Nat.{ℕ, zero, suc, ◌-◌}
use mathlib.Core.List.{List, [], ◌∷◌}
use mathlib.Core.Bool.{Bool, true, false, cond}
use Rattle.field.specs.Answer.{Answer, good, refused}
use Rattle.algebra.specs.Net.{Net}
use Rattle.algebra.specs.Marking.{exits_marked}
use Rattle.algebra.specs.Firing.{fire_items}
use Rattle.form.specs.Form.{Recorded, ends, step, no_step, StepRead, read_step, one_more, read_steps}
use Rattle.field.proofs.Faults.{IsNumbered, IsKnown}
use Rattle.step.proofs.KnownRefusals.{step_known, fire_known}
use Rattle.run.specs.Run.{finished, unfinished, Run, go_on, run}
use Rattle.run.proofs.Determined.{IsSayable}

abbrev pub StepsKnown : Recorded → Type 0
StepsKnown ends = Unit {0}
StepsKnown (step is rest) = StepsKnown rest
StepsKnown (no_step n c) = IsNumbered n

one_known : (a : Answer StepRead) (rest : ℕ → Recorded) → IsKnown a → ((bytes : ℕ) → StepsKnown (rest bytes)) → StepsKnown (one_more a rest)
one_known (good r) rest k h = h r.bytes
one_known (refused n c) rest k h = k

pub steps_known : (at passed : ℕ) (s : List ℕ) → StepsKnown (read_steps at passed s)
unfolding read_steps
steps_known at passed [] = tt
steps_known at zero (x ∷ s) = one_known (read_step at (x ∷ s)) (λ bytes. read_steps (suc at) (bytes - 1) s) (step_known at (x ∷ s)) (λ bytes. steps_known (suc at) (bytes - 1) s)
steps_known at (suc k) (x ∷ s) = steps_known (suc at) k s

gone_on : (a : Answer (List ℕ)) (steps : ℕ) (m : List ℕ) (rest : List ℕ → Run) → IsKnown a → ((m' : List ℕ) → IsSayable (rest m').verdict) → IsSayable (go_on a steps m rest).verdict
gone_on (good m') steps m rest k h = h m'
gone_on (refused n c) steps m rest k h = k

pub run_sayable : (N : Net) (steps : ℕ) (m : List ℕ) (R : Recorded) → StepsKnown R → IsSayable (run N steps m R).verdict
unfolding run
run_sayable N steps m ends k = either (exits_marked N m)
  where
    either : (b : Bool) → IsSayable (cond b (finished steps) (unfinished steps))
    either true = tt
    either false = tt
run_sayable N steps m (step is ends) k = gone_on (fire_items N.transitions m is) steps m _ (fire_known N.transitions m is) (λ m'. run_sayable N (suc steps) m' ends k)
run_sayable N steps m (step is (step S R)) k = gone_on (fire_items N.transitions m is) steps m _ (fire_known N.transitions m is) (λ m'. run_sayable N (suc steps) m' (step S R) k)
run_sayable N steps m (step is (no_step n c)) k = gone_on (fire_items N.transitions m is) steps m _ (fire_known N.transitions m is) (λ m'. k)
run_sayable N steps m (no_step n c) k = k
