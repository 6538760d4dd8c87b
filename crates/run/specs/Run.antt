-- 01, "Refusal numbers", the paragraph on replay: "each step in turn; form is judged as a step is reached", and how a record's steps end.
use Rattle.std.specs.Prelude.{ℕ, suc, List, cond}
use Rattle.field.specs.Answer.{Answer, good, refused}
use Rattle.algebra.specs.Net.{Net}
use Rattle.algebra.specs.Marking.{exits_marked}
use Rattle.form.specs.Form.{Recorded, ends, step, no_step}
use Rattle.algebra.specs.Firing.{fire_items}

-- "An accepted record is finished if all exit places are marked, else unfinished; its number of steps is told too."
-- A refusal tells its number, what it carries, and the number of accepted steps.
pub data Verdict : Type 0 where
  finished unfinished : ℕ → Verdict
  refusal : ℕ → ℕ → ℕ → Verdict

-- The verdict and the marking of the net's places.
pub record Run : Type 0 where
  pub verdict : Verdict
  pub marking : List ℕ

-- "A refusal leaves the marking after the accepted steps and tells their number."
abbrev pub refuse : ℕ → ℕ → ℕ → List ℕ → Run
refuse n c steps m = record { verdict = refusal n c steps; marking = m }

abbrev pub go_on : Answer (List ℕ) → ℕ → List ℕ → (List ℕ → Run) → Run
go_on (good m') steps m rest = rest m'
go_on (refused n c) steps m rest = refuse n c steps m

-- "each step in turn", from a marking and a number of accepted steps on
unfoldable pub run : Net → ℕ → List ℕ → Recorded → Run
unfolding fire_items exits_marked
run N steps m ends = record { verdict = cond (exits_marked N m) (finished steps) (unfinished steps); marking = m }
run N steps m (step is rest) = go_on (fire_items N.transitions m is) steps m (λ m'. run N (suc steps) m' rest)
run N steps m (no_step n c) = refuse n c steps m
