-- The words in which demand 3 speaks of a record: its leading steps, and what is recorded after them.
use Rattle.std.specs.Prelude.{ℕ, zero, suc, List, [], ◌∷◌}
use Rattle.algebra.specs.Item.{Item}
use Rattle.form.specs.Form.{Recorded, ends, step, no_step}

-- All steps of a record, up to its end or to the first field that is no step.
unfoldable pub steps_of : Recorded → List (List Item)
steps_of ends = []
steps_of (step S R) = S ∷ steps_of R
steps_of (no_step n c) = []

-- A record whose every field is a step.
abbrev pub Whole : Recorded → Type 0
Whole ends = Unit {0}
Whole (step S R) = Whole R
Whole (no_step n c) = ⊥

-- k steps, and then what is left of the record.
pub data After : ℕ → Recorded → List (List Item) → Recorded → Type 0 where
  now : {R : Recorded} → After zero R [] R
  later : {k : ℕ} {S : List Item} {R Q : Recorded} {Ss : List (List Item)} → After k R Ss Q → After (suc k) (step S R) (S ∷ Ss) Q
