-- One step of a record, its form and then its firing, as the code takes it: "each step in turn; form is judged as a step is reached".
use Rattle.std.specs.Prelude.{ℕ, List}
use Rattle.field.specs.Answer.{Answer, good, ◌>>=◌}
use Rattle.algebra.specs.Net.{Transition}
use Rattle.algebra.specs.Firing.{fire_items}
use Rattle.form.specs.Form.{read_step}

-- The bytes that a step takes, and the marking after it.
pub record StepTaken : Type 0 where
  pub bytes : ℕ
  pub marking : List ℕ

abbrev pub step_of : ℕ → List ℕ → Answer StepTaken
step_of bytes m = good (record { bytes = bytes; marking = m })

unfoldable pub take_step : List Transition → List ℕ → ℕ → List ℕ → Answer StepTaken
unfolding read_step fire_items
take_step net m at s = do
  r ← read_step at s
  m' ← fire_items net m r.items
  step_of r.bytes m'
