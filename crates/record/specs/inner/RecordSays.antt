-- What the code's answer of a step in a record stands for.
use Rattle.std.specs.Prelude.{ℕ, ◌≤◌, List}
use Rattle.form.specs.declared.Item as code
use Rattle.form.specs.inner.FormSays.{items_in, ItemsFit}
use Rattle.form.specs.Form.{StepRead}
use Rattle.record.specs.declared.StepRead as code_read

abbrev pub step_read : List code.Item → code_read.StepRead → StepRead
step_read items r = record { items = items_in r.items items; bytes = r.bytes }

-- The step lies in the bytes, and the list holds its items.
abbrev pub StepFits : ℕ → List code.Item → code_read.StepRead → Type 0
StepFits left items r = (1 ≤ r.bytes) × (r.bytes ≤ left) × ItemsFit items r.items
