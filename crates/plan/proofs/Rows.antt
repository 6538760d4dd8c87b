-- An operator has its row and then the rows of its operands, in the same way for each operator; and an expression has a row for each node.
-- True by the clauses of the node table, operator by operator.
use Prim.Native.Nat.{ℕ, zero, suc, ◌+◌, ◌*◌}
use mathlib.Core.Path.{◌≡◌, refl, ap, ◌∙◌}
use mathlib.Core.List.{List, [], ◌∷◌, ◌++◌, append-nil}
use native.Mathlib.Omega.{arith}
use native.Mathlib.Nat.{add-zero}
use lib.ListN.{length, length-append}
use Rattle.algebra.specs.Expr.{Expr, action, actions}
use Rattle.plan.specs.Loops.{bytes}
use Rattle.plan.specs.Reading.{Operands}
use Rattle.plan.specs.inner.Nodes.{Row, row, numbers, node_count, nodes}
use Rattle.plan.specs.inner.Fields.{all_nodes, all_rows}
use Rattle.plan.proofs.Operators.{Operator, sequence_of, choice_of, parallel_of, loop_of, scope_of, number, arity, own, built, Each, by_operators}

abbrev pub own_byte : Operator → ℕ
own_byte sequence_of = 0
own_byte choice_of = 0
own_byte parallel_of = 0
own_byte loop_of = 0
own_byte (scope_of a) = a

pub built_count : (o : Operator) (es : Operands (arity o)) → node_count (built o es) ≡ 1 + all_nodes (arity o) es
unfolding node_count
built_count sequence_of es = omega arith
built_count choice_of es = omega arith
built_count parallel_of es = omega arith
built_count loop_of es = omega arith
built_count (scope_of a) es = omega arith

pub built_rows : (o : Operator) (k i at : ℕ) (es : Operands (arity o))
    → nodes k i at (built o es) ≡ row (number o) (own_byte o) (arity o) (k + (1 + all_nodes (arity o) es)) i at ∷ all_rows (arity o) (k + 1) i (at + (3 + length (own o))) es
unfolding nodes
built_rows sequence_of k i at es = simp (append-nil, add-zero)
built_rows choice_of k i at es = simp (append-nil, add-zero)
built_rows parallel_of k i at es = simp (append-nil, add-zero)
built_rows loop_of k i at es = simp (append-nil, add-zero)
built_rows (scope_of a) k i at es = simp (append-nil, add-zero)

-- a row for each node
abbrev Counted : Expr → Type 0
Counted E = (k i at : ℕ) → length (nodes k i at E) ≡ node_count E

all_rows_length : (m : ℕ) (es : Operands m) → Each Counted m es → (k i at : ℕ) → length (all_rows m k i at es) ≡ all_nodes m es
all_rows_length zero es h k i at = refl
all_rows_length (suc m) es h k i at =
    let rest = all_rows m (k + node_count es.0) (i + actions es.0) (at + bytes es.0) es.1 in
    length-append (nodes k i at es.0) rest ∙ omega (arith, h.0 k i at, all_rows_length m es.1 h.1 (k + node_count es.0) (i + actions es.0) (at + bytes es.0))

action_rows_length : (l : ℕ) → Counted (action l)
unfolding nodes
action_rows_length l k i at = refl

built_rows_length : (o : Operator) (es : Operands (arity o)) → Each Counted (arity o) es → Counted (built o es)
built_rows_length o es h k i at =
    ap length (built_rows o k i at es) ∙ omega (arith, built_count o es, all_rows_length (arity o) es h (k + 1) i (at + (3 + length (own o))))

pub nodes_length : (E : Expr) (k i at : ℕ) → length (nodes k i at E) ≡ node_count E
nodes_length E = by_operators Counted action_rows_length built_rows_length E

pub numbers_append : (rs qs : List Row) → numbers (rs ++ qs) ≡ numbers rs ++ numbers qs
unfolding numbers
numbers_append [] qs = refl
numbers_append (r ∷ rs) qs = ap (λ (l : List ℕ). r.tag ∷ (r.byte ∷ (r.members ∷ (r.after ∷ (r.first ∷ (r.at ∷ l)))))) (numbers_append rs qs)

-- six numbers to a row
pub numbers_length : (rs : List Row) → length (numbers rs) ≡ 6 * length rs
unfolding numbers
numbers_length [] = refl
numbers_length (r ∷ rs) = omega (arith, numbers_length rs)
