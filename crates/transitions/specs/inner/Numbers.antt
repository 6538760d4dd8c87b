-- 01, "Net tables": a transition's "label, first action, second action or 65,535"; and what the list of a plan's transitions is to be.
use Rattle.std.specs.Prelude.{ℕ, ◌+◌, ◌*◌, ◌≤◌, ◌<◌, ◌≡◌, List, [], ◌∷◌, length, take, Result, Ok, Err}
use Rattle.std.specs.List.{flat_map}
use Rattle.field.specs.declared.Fault.TheVariants.{TooManyTransitions}
use Rattle.field.specs.declared.Refusal.{Refusal}
use Rattle.field.specs.Limits.{action_limit, transition_limit}
use Rattle.algebra.specs.Item.{Item, one, two, first}
use Rattle.algebra.specs.Transitions.{Labelled}
use Rattle.transitions.specs.declared.Transition.{Transition}

-- "second action or 65,535"
abbrev pub second : Item → ℕ
second (one i) = 65535
second (two i j) = j

-- Three numbers to a transition.
unfoldable pub flat : List Labelled → List ℕ
flat [] = []
flat (t ∷ ts) = t.label ∷ (first t.item ∷ (second t.item ∷ flat ts))

-- The numbers of a list of transitions, three to each: what the theory of transitions speaks of.
abbrev pub transition_numbers : Transition → List ℕ
transition_numbers t = t.label ∷ (t.first ∷ (t.second ∷ []))

abbrev pub list_numbers : List Transition → List ℕ
list_numbers list = flat_map transition_numbers list

-- The transitions are listed from the front, and what lies behind them is work room; or there are too many of them.
abbrev pub ListIs : Result ℕ Refusal → List Labelled → List ℕ → Type 0
ListIs (Ok n) ts exit = (n ≡ length ts) × (take (3 * n) exit ≡ flat ts)
ListIs (Err e) ts exit = transition_limit < length ts

-- A list needs room for so many while it is made.
abbrev pub most : ℕ
most = action_limit + transition_limit

-- 01, "Refusal numbers": 12 carries 0.
abbrev pub too_many : Refusal
too_many = record { fault = TooManyTransitions; carried = 0 }

-- No more are listed than a net may have, and nothing else is refused.
abbrev pub Fits : Result ℕ Refusal → Type 0
Fits (Ok n) = n ≤ transition_limit
Fits (Err e) = e ≡ too_many
