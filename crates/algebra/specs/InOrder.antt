-- Steps fired in order, each at the marking after the one before, up to the first refusal (01, "Refusal numbers": replay takes "each step in turn").
use Rattle.std.specs.Prelude.{ℕ, List, [], ◌∷◌}
use Rattle.field.specs.Answer.{Answer, good, ◌>>=◌}
use Rattle.algebra.specs.Item.{Item}
use Rattle.algebra.specs.Net.{Transition}
use Rattle.algebra.specs.Firing.{fire_items}

unfoldable pub fire_in_order : List Transition → List ℕ → List (List Item) → Answer (List ℕ)
unfolding fire_items
fire_in_order net m [] = good m
fire_in_order net m (S ∷ R) = do
  m' ← fire_items net m S
  fire_in_order net m' R
