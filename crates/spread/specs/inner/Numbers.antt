-- What is told of the actions as numbers, three to an action.
use Rattle.std.specs.Prelude.{ℕ, List, [], ◌∷◌}
use Rattle.std.specs.List.{flat_map}
use Rattle.net.specs.declared.Side.{Side}
use Rattle.net.specs.declared.Side.TheVariants.{Inputs, Outputs}
use Rattle.spread.specs.declared.Told.{Told}

abbrev pub told_numbers : Told → List ℕ
told_numbers t = t.node ∷ (t.inputs ∷ (t.outputs ∷ []))

abbrev pub told_table : List Told → List ℕ
told_table index = flat_map told_numbers index

-- What stands past the index's end.
abbrev pub no_told : Told
no_told = record { node = 0; inputs = 0; outputs = 0 }

-- How many places the action has on one side.
abbrev pub told_on : Side → Told → ℕ
told_on Inputs t = t.inputs
told_on Outputs t = t.outputs
