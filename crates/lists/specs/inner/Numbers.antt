-- The table of lists as numbers, eleven to a node: what the theory of lists speaks of.
use Rattle.std.specs.Prelude.{ℕ, List, [], ◌∷◌}
use Rattle.std.specs.List.{flat_map}
use Rattle.net.specs.declared.Side.{Side}
use Rattle.net.specs.declared.Side.TheVariants.{Inputs, Outputs}
use Rattle.lists.specs.declared.List as declared
use Rattle.lists.specs.declared.Node.{Node}

abbrev pub numbers_of : declared.List ℕ → List ℕ → List ℕ
numbers_of s l = s.base ∷ (s.width ∷ (s.times ∷ (s.step ∷ (s.up ∷ l))))

abbrev pub node_numbers : Node ℕ → List ℕ
node_numbers n = numbers_of n.entries (numbers_of n.exits (n.internal ∷ []))

abbrev pub node_table : List (Node ℕ) → List ℕ
node_table nodes = flat_map node_numbers nodes

-- What stands past the table's end.
abbrev pub no_list : declared.List ℕ
no_list = record { base = 0; width = 0; times = 0; step = 0; up = 0 }

abbrev pub no_node : Node ℕ
no_node = record { entries = no_list; exits = no_list; internal = 0 }

-- "Inputs" of an action are its entries, its outputs its exits.
abbrev pub list_on : Side → Node ℕ → declared.List ℕ
list_on Inputs n = n.entries
list_on Outputs n = n.exits
