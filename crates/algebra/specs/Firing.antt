-- 01, "Run records": when a step fires at a marking of a net, by its items, and the marking afterwards; "31 over all items, 32, 33, 36".
use Rattle.std.specs.Prelude.{ℕ, suc, ◌+◌, ◌-◌, List, [], ◌∷◌, ◌++◌, Bool, cond, get_or, eqb, leb}
use Rattle.field.specs.Refusals.{no_transition, input_empty, input_shared, two_tokens}
use Rattle.field.specs.Answer.{Answer, good, refused, ◌>>=◌, ◌>>◌, check}
use Rattle.algebra.specs.Item.{Item, same_item}
use Rattle.algebra.specs.Net.{Transition}
use Rattle.field.specs.Lists.{all}

-- An item names the transitions that have its actions.
unfoldable pub names : Item → Transition → Bool
unfolding same_item
names i t = same_item i t.item

-- "item names no transition", with the item's position; else the lowest-numbered one that it names.
unfoldable pub named_by : ℕ → Item → List Transition → Answer Transition
unfolding names
named_by at i [] = refused no_transition at
named_by at i (t ∷ ts) = cond (names i t) (good t) (named_by at i ts)

-- The transitions of a step's items, in the items' order.
unfoldable pub transitions_named : List Transition → ℕ → List Item → Answer (List Transition)
unfolding named_by
transitions_named ts at [] = good []
transitions_named ts at (i ∷ is) = do
  t ← named_by at i ts
  us ← transitions_named ts (suc at) is
  good (t ∷ us)

-- "all its input places are marked"
unfoldable pub marked : List ℕ → Transition → Bool
unfolding all
marked m t = all (λ p. leb 1 (get_or m p 0)) t.inputs

-- "an input is empty"
unfoldable pub check_marked : List ℕ → ℕ → List Transition → Answer (Unit {0})
unfolding marked
check_marked m at [] = good tt
check_marked m at (t ∷ ts) = do
  check (marked m t) input_empty at
  check_marked m (suc at) ts

-- how many arcs of a list stand at a place
unfoldable pub count : ℕ → List ℕ → ℕ
count p [] = 0
count p (x ∷ xs) = cond (eqb x p) (suc (count p xs)) (count p xs)

-- "input shared with an earlier item": the first list has the inputs of the items before
unfoldable pub check_apart : List ℕ → ℕ → List Transition → Answer (Unit {0})
unfolding all count
check_apart taken at [] = good tt
check_apart taken at (t ∷ ts) = do
  check (all (λ p. eqb (count p taken) 0) t.inputs) input_shared at
  check_apart (taken ++ t.inputs) (suc at) ts

-- "tokens then move together, counted one for each arc and never merged"
unfoldable pub inputs_at : ℕ → List Transition → ℕ
unfolding count
inputs_at p [] = 0
inputs_at p (t ∷ ts) = count p t.inputs + inputs_at p ts

unfoldable pub outputs_at : ℕ → List Transition → ℕ
unfolding count
outputs_at p [] = 0
outputs_at p (t ∷ ts) = count p t.outputs + outputs_at p ts

-- The marking afterwards, place by place from p on.
unfoldable pub moved : ℕ → List Transition → List ℕ → List ℕ
unfolding inputs_at outputs_at
moved p ts [] = []
moved p ts (x ∷ m) = (x - inputs_at p ts + outputs_at p ts) ∷ moved (suc p) ts m

-- A step's items at a marking of the net's places: the marking afterwards, or the first refusal.
unfoldable pub fire_items : List Transition → List ℕ → List Item → Answer (List ℕ)
unfolding transitions_named check_marked check_apart moved all
fire_items net m is = do
  ts ← transitions_named net 0 is
  check_marked m 0 ts
  check_apart [] 0 ts
  -- "a place would hold two"
  check (all (λ x. leb x 1) (moved 0 ts m)) two_tokens 0
  good (moved 0 ts m)

-- The numbers, from k on, of "the transitions whose input places are all marked".
unfoldable pub enabled_from : ℕ → List ℕ → List Transition → List ℕ
unfolding marked
enabled_from k m [] = []
enabled_from k m (t ∷ ts) = cond (marked m t) (k ∷ enabled_from (suc k) m ts) (enabled_from (suc k) m ts)
