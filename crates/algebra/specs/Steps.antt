-- 01, "Calculus rules, with no net": the steps that a dynamic expression derives. A step is a bag of items.
use Rattle.std.specs.Prelude.{ℕ, ◌+◌, ◌≡◌, List, [], ◌∷◌, ◌++◌}
use Rattle.algebra.specs.Expr.{Expr, action, sequence, choice, parallel, loop, scope, actions, label}
use Rattle.algebra.specs.Item.{Item, one, two}
use Rattle.algebra.specs.Dynamic.{Dynamic, started, finished, sequence_first, sequence_second, choice_first, choice_second, parallel_both, loop_first, loop_body, loop_last, scope_inside, Equal}

-- The same bag: the order of its items does not matter.
pub data Bag : List Item → List Item → Type 0 where
  empty : Bag [] []
  keep : {t : Item} {S T : List Item} → Bag S T → Bag (t ∷ S) (t ∷ T)
  swap : {t u : Item} {S : List Item} → Bag (t ∷ (u ∷ S)) (u ∷ (t ∷ S))
  after : {S T U : List Item} → Bag S T → Bag T U → Bag S U

-- No single action with the label a or a+128.
abbrev pub Free : (ℕ → ℕ) → ℕ → Item → Type 0
Free l a (one i) = (l i ≡ a → ⊥) × (l i ≡ a + 128 → ⊥)
Free l a (two i j) = Unit {0}

-- "Under scope a, every a and a+128 of the step must be joined in pairs (a first), each pair becoming one silent item; a lone one blocks."
pub data Join (l : ℕ → ℕ) (a : ℕ) : List Item → List Item → Type 0 where
  done : Join l a [] []
  stays : {t : Item} {U S : List Item} → Free l a t → Join l a U S → Join l a (t ∷ U) (t ∷ S)
  joins : {i j : ℕ} {U S : List Item} → l i ≡ a → l j ≡ a + 128 → Join l a U S → Join l a (one i ∷ (one j ∷ U)) (two i j ∷ S)

-- D derives the step S and becomes D', in an expression whose first action has the number n.
pub data Step : ℕ → (E : Expr) → Dynamic E → List Item → Dynamic E → Type 0 where
  -- "either may be idle"
  idle : {n : ℕ} {E : Expr} {D : Dynamic E} → Step n E D [] D
  -- "A started action moves to finished by a step with that action."
  acts : {n l : ℕ} → Step n (action l) started (one n ∷ []) finished
  -- "other operators pass an operand's step"
  by_sequence_first : {n : ℕ} {E F : Expr} {D D' : Dynamic E} {S : List Item} → Step n E D S D' → Step n (sequence E F) (sequence_first D) S (sequence_first D')
  by_sequence_second : {n : ℕ} {E F : Expr} {D D' : Dynamic F} {S : List Item} → Step (n + actions E) F D S D' → Step n (sequence E F) (sequence_second D) S (sequence_second D')
  by_choice_first : {n : ℕ} {E F : Expr} {D D' : Dynamic E} {S : List Item} → Step n E D S D' → Step n (choice E F) (choice_first D) S (choice_first D')
  by_choice_second : {n : ℕ} {E F : Expr} {D D' : Dynamic F} {S : List Item} → Step (n + actions E) F D S D' → Step n (choice E F) (choice_second D) S (choice_second D')
  -- "A parallel joins the steps of its sides"
  by_parallel : {n : ℕ} {E F : Expr} {D D' : Dynamic E} {C C' : Dynamic F} {S T : List Item}
      → Step n E D S D' → Step (n + actions E) F C T C' → Step n (parallel E F) (parallel_both D C) (S ++ T) (parallel_both D' C')
  by_loop_first : {n : ℕ} {E F G : Expr} {D D' : Dynamic E} {S : List Item} → Step n E D S D' → Step n (loop E F G) (loop_first D) S (loop_first D')
  by_loop_body : {n : ℕ} {E F G : Expr} {D D' : Dynamic F} {S : List Item} → Step (n + actions E) F D S D' → Step n (loop E F G) (loop_body D) S (loop_body D')
  by_loop_last : {n : ℕ} {E F G : Expr} {D D' : Dynamic G} {S : List Item} → Step (n + actions E + actions F) G D S D' → Step n (loop E F G) (loop_last D) S (loop_last D')
  by_scope : {n a : ℕ} {E : Expr} {D D' : Dynamic E} {U S : List Item} → Step n E D U D' → Join (label n E) a U S → Step n (scope a E) (scope_inside D) S (scope_inside D')
  -- a step is a bag
  in_any_order : {n : ℕ} {E : Expr} {D D' : Dynamic E} {S T : List Item} → Step n E D S D' → Bag S T → Step n E D T D'
  -- "≡ may be used before and after a step."
  up_to_equal : {n : ℕ} {E : Expr} {D D₁ D₂ D' : Dynamic E} {S : List Item} → Equal E D D₁ → Step n E D₁ S D₂ → Equal E D₂ D' → Step n E D S D'
