-- What the functions that take a step and run a record's steps answer and leave in the marking.
use Rattle.std.specs.Prelude.{ℕ, ◌+◌, ◌≤◌, ◌≡◌, List, Result}
use Rattle.field.specs.Answer.{Answer, refused}
use Rattle.field.specs.Says.{number_of}
use Rattle.field.specs.declared.Refusal.{Refusal}
use Rattle.algebra.specs.Net.{Net}
use Rattle.form.specs.Form.{Recorded}
use Rattle.moving.specs.inner.InOrder.{transitions_within}
use Rattle.run.specs.Run.{run}
use Rattle.run.specs.Says.{ran_says}
use Rattle.run.specs.inner.Steps.{StepTaken, step_of}
use Rattle.run.specs.declared.Ran.{Ran}
use Rattle.run.specs.declared.Stopped.{Stopped}

-- A step that fired lies in the bytes that are left, and the marking is the one that it leaves.
pub record StepFired (left : ℕ) (answer : Answer StepTaken) (exit : List ℕ) (bytes : ℕ) : Type 0 where
  pub some : 1 ≤ bytes
  pub within : bytes ≤ left
  pub takes : step_of bytes exit ≡ answer

-- A refusal leaves the marking as it was.
pub record StepRefused (answer : Answer StepTaken) (entry exit : List ℕ) (r : Refusal) : Type 0 where
  pub says : refused (number_of r.fault) r.carried ≡ answer
  pub leaves : exit ≡ entry

-- The code's answer and the marking that it leaves are those of a record's steps, from a number of steps and a marking on, in every net that
-- has these transitions and these places before its exits.
abbrev pub Ends : Result Ran Stopped → List ℕ → List ℕ → List ℕ → ℕ → ℕ → ℕ → List ℕ → Recorded → Type 0
Ends r exit rows arcs transitions exits_from steps entry recorded =
    (N : Net) → N.transitions ≡ transitions_within rows arcs transitions → N.entries + N.internals ≡ exits_from
    → (ran_says r ≡ (run N steps entry recorded).verdict) × (exit ≡ (run N steps entry recorded).marking)
