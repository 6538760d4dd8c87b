-- 01, "Box construction": "A box has ordered lists of entry, internal and exit places." A place is named by the places that it was made of.
use Rattle.std.specs.Prelude.{ℕ, ◌+◌, List, [], ◌∷◌, ◌++◌, map}
use Rattle.algebra.specs.Expr.{Expr, action, sequence, choice, parallel, loop, scope, actions}

pub data Place : Type 0 where
  -- the entry and the exit of an action's own box
  entry exit : ℕ → Place
  -- an exit of E with an entry of F
  sequence_place : Place → Place → Place
  -- an entry of E with one of F, an exit of E with one of F
  choice_entry choice_exit : Place → Place → Place
  -- an exit of E, an exit of F, an entry of F, an entry of G
  loop_place : Place → Place → Place → Place → Place

-- "A×B runs over A, and for each over B."
unfoldable pub product : {A B C : Type 0} → (A → B → C) → List A → List B → List C
product f [] ys = []
product f (x ∷ xs) ys = map (f x) ys ++ product f xs ys

-- two places of a product of four
abbrev pub pair : Place → Place → Place × Place
pair p q = (p, q)

abbrev pub loop_of : Place × Place → Place × Place → Place
loop_of xy eg = loop_place xy.0 xy.1 eg.0 eg.1

-- Of the expression whose first action has the number n.
unfoldable pub entries : ℕ → Expr → List Place
unfolding product actions
entries n (action l) = entry n ∷ []
entries n (sequence E F) = entries n E
entries n (choice E F) = product choice_entry (entries n E) (entries (n + actions E) F)
entries n (parallel E F) = entries n E ++ entries (n + actions E) F
entries n (loop E F G) = entries n E
entries n (scope a E) = entries n E

unfoldable pub exits : ℕ → Expr → List Place
unfolding product actions
exits n (action l) = exit n ∷ []
exits n (sequence E F) = exits (n + actions E) F
exits n (choice E F) = product choice_exit (exits n E) (exits (n + actions E) F)
exits n (parallel E F) = exits n E ++ exits (n + actions E) F
exits n (loop E F G) = exits (n + actions E + actions F) G
exits n (scope a E) = exits n E

unfoldable pub internals : ℕ → Expr → List Place
unfolding entries exits product actions
internals n (action l) = []
internals n (sequence E F) = internals n E ++ (internals (n + actions E) F ++ product sequence_place (exits n E) (entries (n + actions E) F))
internals n (choice E F) = internals n E ++ internals (n + actions E) F
internals n (parallel E F) = internals n E ++ internals (n + actions E) F
internals n (loop E F G) =
    internals n E
    ++ (internals (n + actions E) F
    ++ (internals (n + actions E + actions F) G
    ++ product loop_of (product pair (exits n E) (exits (n + actions E) F)) (product pair (entries (n + actions E) F) (entries (n + actions E + actions F) G))))
internals n (scope a E) = internals n E

-- "Final numbers: entries from 0, then internals, then exits": a place's number is its position here.
unfoldable pub places : ℕ → Expr → List Place
unfolding entries internals exits
places n E = entries n E ++ (internals n E ++ exits n E)
