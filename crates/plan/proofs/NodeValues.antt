-- What holds at every node holds for every number below the count, and a table that holds the value of every node holds the values in their order.
-- True by recursion on the expression: its own row comes first, then its operands', each as many as it has nodes.
use Prim.Native.Nat.{ℕ, ◌+◌, ◌*◌, ◌≤◌, ◌<◌}
use native.Mathlib.Omega.{arith}
use native.Mathlib.Decide.{dec_lt}
use native.Mathlib.Nat.{mul-add, mul-le-mul_left}
use mathlib.Core.Path.{◌≡◌, sym, ◌∙◌, ap, subst}
use mathlib.Core.List.{List, ◌++◌}
use lib.ListN.{length, get_or, length-append, length-take}
use Rattle.algebra.specs.Expr.{Expr, action, sequence, choice, parallel, loop, scope}
use Rattle.plan.specs.inner.Nodes.{node_count, node_table}
use Rattle.plan.specs.inner.Table.{Table, Stands, Node, values, Known}
use Rattle.plan.proofs.Stands.{stands_both, stands_at, stands_take, stands_kept}
use Rattle.plan.proofs.NodeTable.{rows_length, sequence_operands, choice_operands, parallel_operands, loop_operands, scope_operand}

pub node_count_positive : (E : Expr) → 0 < node_count E
unfolding node_count
node_count_positive (action l) = omega arith
node_count_positive (sequence E F) = omega arith
node_count_positive (choice E F) = omega arith
node_count_positive (parallel E F) = omega arith
node_count_positive (loop E F G) = omega arith
node_count_positive (scope a E) = omega arith

-- The first node of a table is its expression.
pub table_node : {rows : List ℕ} {count : ℕ} {E : Expr} → Table rows count E → Node rows count 0 0 0 E
unfolding node_table
table_node {rows} {count} {E} t = record { inside = omega (arith, t.nodes); rows_of = stands_take rows (6 * count) (node_table E) t.rows_of }

-- A table has room for its nodes.
pub table_within : {rows : List ℕ} {count : ℕ} {E : Expr} → Table rows count E → 6 * count ≤ length rows
unfolding node_table
table_within {rows} {count} {E} t = omega (arith, length-take (6 * count) rows, ap length t.rows_of, rows_length 0 0 0 E, t.nodes)

module _ (rows : List ℕ) (count : ℕ) where
  module _ (P : ℕ → Type 0) (at-node : (k i at : ℕ) (E : Expr) → Node rows count k i at E → P k) where
    abbrev From : ℕ → ℕ → Type 0
    From k n = (m : ℕ) → k ≤ m → m < k + n → P m

    next : (k a b : ℕ) → From k a → From (k + a) b → From k (a + b)
    next k a b f g m l h = go (dec_lt m (k + a))
      where
        go : Dec (m < k + a) → P m
        go (yes x) = f m l x
        go (no x) = g m (omega arith) (omega arith)

    here : {k i at : ℕ} (E : Expr) → Node rows count k i at E → From k 1
    here {k} {i} {at} E n m l h = subst P (omega arith) (at-node k i at E n)

    pub every : (k : ℕ) {i at : ℕ} (E : Expr) → Node rows count k i at E → From k (node_count E)
    unfolding node_count
    every k (action l) n = here (action l) n
    every k (sequence E F) n =
        let (e, f) = sequence_operands rows count E F n in
        next k 1 (node_count E + node_count F) (here (sequence E F) n) (next (k + 1) (node_count E) (node_count F) (every (k + 1) E e) (every (k + 1 + node_count E) F f))
    every k (choice E F) n =
        let (e, f) = choice_operands rows count E F n in
        next k 1 (node_count E + node_count F) (here (choice E F) n) (next (k + 1) (node_count E) (node_count F) (every (k + 1) E e) (every (k + 1 + node_count E) F f))
    every k (parallel E F) n =
        let (e, f) = parallel_operands rows count E F n in
        next k 1 (node_count E + node_count F) (here (parallel E F) n) (next (k + 1) (node_count E) (node_count F) (every (k + 1) E e) (every (k + 1 + node_count E) F f))
    every k (loop E F G) n =
        let ((e, f), g) = loop_operands rows count E F G n in
        next k 1 (node_count E + (node_count F + node_count G)) (here (loop E F G) n)
        (next (k + 1) (node_count E) (node_count F + node_count G) (every (k + 1) E e)
        (next (k + 1 + node_count E) (node_count F) (node_count G) (every (k + 1 + node_count E) F f) (every (k + 1 + node_count E + node_count F) G g)))
    every k (scope a E) n = next k 1 (node_count E) (here (scope a E) n) (every (k + 1) E (scope_operand rows count E n))

  module _ (width : ℕ) (f : Expr → List ℕ) where
    -- No node has the count itself or more for its number.
    pub none_known : (table : List ℕ) → Known rows count width f count table
    none_known table m i at E h n = absurd (omega (arith, n.inside, node_count_positive E))

    -- The value of one more node.
    pub one_known : (k : ℕ) (table other : List ℕ) → Known rows count width f (k + 1) table
        → ((i : ℕ) → width * (k + 1) ≤ i → get_or other i 0 ≡ get_or table i 0)
        → ((i at : ℕ) (E : Expr) → Node rows count k i at E → Stands other (width * k) (f E))
        → Known rows count width f k other
    one_known k table other known same new m i at E h n = go (dec_lt k m)
      where
        go : Dec (k < m) → Stands other (width * m) (f E)
        go (yes x) =
            let w : width * (k + 1) ≤ width * m = mul-le-mul_left width (omega arith) in
            stands_kept table other (width * m) (f E) (λ j l. same j (omega arith)) (known m i at E (omega arith) n)
        go (no x) =
            let e : m ≡ k = omega arith in
            stands_at other (f E) (ap (λ j. width * j) (sym e)) (new i at E (subst (λ j. Node rows count j i at E) e n))

    module _ (wide : (E : Expr) → length (f E) ≡ width) (table : List ℕ) (known : Known rows count width f 0 table) where
      -- A table holds a list as the values of so many nodes from k on.
      pub record Filled (k n : ℕ) (l : List ℕ) : Type 0 where
        pub stands : Stands table (width * k) l
        pub long : length l ≡ width * n

      behind : {k a b : ℕ} (l m : List ℕ) → Filled k a l → Filled (k + a) b m → Filled k (a + b) (l ++ m)
      behind {k} {a} {b} l m p q =
          record {
            stands = stands_both table (width * k) l m p.stands (stands_at table m (omega (arith, mul-add width k a, p.long)) q.stands);
            long = length-append l m ∙ omega (arith, mul-add width a b, p.long, q.long);
          }

      own : {k i at : ℕ} (E : Expr) → Node rows count k i at E → Filled k 1 (f E)
      own {k} {i} {at} E n = record { stands = known k i at E (omega arith) n; long = omega (arith, wide E) }

      pub filled : (k : ℕ) {i at : ℕ} (E : Expr) → Node rows count k i at E → Filled k (node_count E) (values f E)
      unfolding values node_count
      filled k (action l) n = own (action l) n
      filled k (sequence E F) n =
          let (e, g) = sequence_operands rows count E F n in behind _ _ (own (sequence E F) n) (behind _ _ (filled (k + 1) E e) (filled (k + 1 + node_count E) F g))
      filled k (choice E F) n =
          let (e, g) = choice_operands rows count E F n in behind _ _ (own (choice E F) n) (behind _ _ (filled (k + 1) E e) (filled (k + 1 + node_count E) F g))
      filled k (parallel E F) n =
          let (e, g) = parallel_operands rows count E F n in behind _ _ (own (parallel E F) n) (behind _ _ (filled (k + 1) E e) (filled (k + 1 + node_count E) F g))
      filled k (loop E F G) n =
          let ((e, g), h) = loop_operands rows count E F G n in
          behind _ _ (own (loop E F G) n) (behind _ _ (filled (k + 1) E e) (behind _ _ (filled (k + 1 + node_count E) F g) (filled (k + 1 + node_count E + node_count F) G h)))
      filled k (scope a E) n = behind _ _ (own (scope a E) n) (filled (k + 1) E (scope_operand rows count E n))
