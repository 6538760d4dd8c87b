-- The five operators with operands as one: an expression has its bytes, actions, depth and names from its operands' in the same way for each.
-- True by the clauses of the definitions, operator by operator.
use Prim.Native.Nat.{ℕ, zero, suc, ◌+◌, max}
use mathlib.Core.Path.{◌≡◌, refl}
use mathlib.Core.List.{List, [], ◌∷◌, ◌++◌, append-nil}
use mathlib.Core.Bool.{Bool, true, ◌&&◌, and-true}
use native.Mathlib.Omega.{arith}
use lib.ListN.{length}
use Rattle.field.specs.Answer.{good}
use Rattle.field.specs.Field.{field}
use Rattle.algebra.specs.Expr.{Expr, action, sequence, choice, parallel, loop, scope, actions}
use Rattle.plan.specs.Reading.{is_name, Tag, action_tag, sequence_tag, choice_tag, parallel_tag, loop_tag, scope_tag, tag_spelt, Operands}
use Rattle.plan.specs.Loops.{bytes}
use Rattle.plan.specs.Bytes.{encode, depth, named}

abbrev pub tag_number : Tag → ℕ
tag_number action_tag = 1
tag_number sequence_tag = 2
tag_number choice_tag = 3
tag_number parallel_tag = 4
tag_number loop_tag = 5
tag_number scope_tag = 6

pub data Operator : Type 0 where
  sequence_of choice_of parallel_of loop_of : Operator
  scope_of : ℕ → Operator

abbrev pub tag : Operator → Tag
tag sequence_of = sequence_tag
tag choice_of = choice_tag
tag parallel_of = parallel_tag
tag loop_of = loop_tag
tag (scope_of a) = scope_tag

abbrev pub number : Operator → ℕ
number o = tag_number (tag o)

abbrev pub arity : Operator → ℕ
arity sequence_of = 2
arity choice_of = 2
arity parallel_of = 2
arity loop_of = 3
arity (scope_of a) = 1

-- the operator's own bytes before its operands
abbrev pub own : Operator → List ℕ
own sequence_of = []
own choice_of = []
own parallel_of = []
own loop_of = []
own (scope_of a) = a ∷ []

abbrev pub own_named : Operator → Bool
own_named sequence_of = true
own_named choice_of = true
own_named parallel_of = true
own_named loop_of = true
own_named (scope_of a) = is_name a

abbrev pub built : (o : Operator) → Operands (arity o) → Expr
built sequence_of es = sequence es.0 es.1.0
built choice_of es = choice es.0 es.1.0
built parallel_of es = parallel es.0 es.1.0
built loop_of es = loop es.0 es.1.0 es.1.1.0
built (scope_of a) es = scope a es.0

-- What operands have together: their bytes, the number of these, their actions, the greatest depth, and whether all are named.
abbrev pub all_encode : (k : ℕ) → Operands k → List ℕ
all_encode zero es = []
all_encode (suc k) es = encode es.0 ++ all_encode k es.1

abbrev pub all_bytes : (k : ℕ) → Operands k → ℕ
all_bytes zero es = 0
all_bytes (suc k) es = bytes es.0 + all_bytes k es.1

abbrev pub all_actions : (k : ℕ) → Operands k → ℕ
all_actions zero es = 0
all_actions (suc k) es = actions es.0 + all_actions k es.1

abbrev pub all_depth : (k : ℕ) → Operands k → ℕ
all_depth zero es = 0
all_depth (suc k) es = max (depth es.0) (all_depth k es.1)

abbrev pub all_named : (k : ℕ) → Operands k → Bool
all_named zero es = true
all_named (suc k) es = named es.0 && all_named k es.1

pub number_tag : (g : Tag) (at : ℕ) → tag_spelt (tag_number g) at ≡ good g
unfolding tag_spelt
number_tag action_tag at = refl
number_tag sequence_tag at = refl
number_tag choice_tag at = refl
number_tag parallel_tag at = refl
number_tag loop_tag at = refl
number_tag scope_tag at = refl

pub built_encode : (o : Operator) (es : Operands (arity o)) → encode (built o es) ≡ field (number o) (own o ++ all_encode (arity o) es)
unfolding encode
built_encode sequence_of es = simp append-nil
built_encode choice_of es = simp append-nil
built_encode parallel_of es = simp append-nil
built_encode loop_of es = simp append-nil
built_encode (scope_of a) es = simp append-nil

pub built_bytes : (o : Operator) (es : Operands (arity o)) → bytes (built o es) ≡ 3 + (length (own o) + all_bytes (arity o) es)
unfolding bytes
built_bytes sequence_of es = omega arith
built_bytes choice_of es = omega arith
built_bytes parallel_of es = omega arith
built_bytes loop_of es = omega arith
built_bytes (scope_of a) es = omega arith

pub built_actions : (o : Operator) (es : Operands (arity o)) → actions (built o es) ≡ all_actions (arity o) es
unfolding actions
built_actions sequence_of es = omega arith
built_actions choice_of es = omega arith
built_actions parallel_of es = omega arith
built_actions loop_of es = omega arith
built_actions (scope_of a) es = omega arith

pub built_depth : (o : Operator) (es : Operands (arity o)) → depth (built o es) ≡ suc (all_depth (arity o) es)
unfolding depth
built_depth sequence_of es = omega arith
built_depth choice_of es = omega arith
built_depth parallel_of es = omega arith
built_depth loop_of es = omega arith
built_depth (scope_of a) es = omega arith

pub built_named : (o : Operator) (es : Operands (arity o)) → named (built o es) ≡ (own_named o && all_named (arity o) es)
unfolding named
built_named sequence_of es = simp and-true
built_named choice_of es = simp and-true
built_named parallel_of es = simp and-true
built_named loop_of es = simp and-true
built_named (scope_of a) es = simp and-true

-- Something holds of each operand.
abbrev pub Each : (Expr → Type 0) → (k : ℕ) → Operands k → Type 0
Each P zero es = Unit {0}
Each P (suc k) es = P es.0 × Each P k es.1

-- What holds of actions, and of what is built of operands of which it holds, holds of every expression.
module _ (P : Expr → Type 0) (of-action : (l : ℕ) → P (action l)) (of-operator : (o : Operator) (es : Operands (arity o)) → Each P (arity o) es → P (built o es)) where
  pub by_operators : (E : Expr) → P E
  by_operators (action l) = of-action l
  by_operators (sequence E F) = of-operator sequence_of (E, (F, tt)) (by_operators E, (by_operators F, tt))
  by_operators (choice E F) = of-operator choice_of (E, (F, tt)) (by_operators E, (by_operators F, tt))
  by_operators (parallel E F) = of-operator parallel_of (E, (F, tt)) (by_operators E, (by_operators F, tt))
  by_operators (loop E F G) = of-operator loop_of (E, (F, (G, tt))) (by_operators E, (by_operators F, (by_operators G, tt)))
  by_operators (scope a E) = of-operator (scope_of a) (E, tt) (by_operators E, tt)
