-- The operands of a node with their counts, as the tables say.
-- True by what the rows say of their nodes: the tag, the node after the subtree, and the first action.
use Prim.Native.Nat.{ℕ, ◌+◌, ◌*◌, ◌<◌}
use native.Mathlib.Omega.{arith}
use mathlib.Core.Path.{◌≡◌, ◌∙◌, ap}
use mathlib.Core.List.{List, ◌∷◌, ◌++◌}
use Rattle.algebra.specs.Expr.{Expr, action, sequence, choice, parallel, loop, scope, actions}
use Rattle.plan.specs.inner.Nodes.{Row, numbers, nodes, node_count}
use Rattle.plan.specs.inner.Table.{Stands, Node, tag_at, after_at, values}
use Rattle.plan.proofs.NodeTable.{tag_of, node_says, sequence_operands, choice_operands, parallel_operands, loop_operands, scope_operand}
use Rattle.plan.proofs.NodeValues.{node_count_positive}
use Rattle.boxes.specs.inner.NodeCounts.{box_counts}
use Rattle.arcs.specs.inner.Nodes.{first_at, At}
use Rattle.arcs.proofs.Sizes.{counts_behind, counts_split}

module _ (rows table : List ℕ) (count : ℕ) where
  -- ---- the first action of a node
  row_first : (k : ℕ) (r : Row) (rs : List Row) → Stands rows (6 * k) (numbers (r ∷ rs)) → first_at rows k ≡ r.first
  unfolding numbers
  row_first k r rs s = s 4 (omega arith)

  node_first : {k n o : ℕ} (E : Expr) → Node rows count k n o E → first_at rows k ≡ n
  unfolding nodes
  node_first {k} (action l) d = row_first k _ _ d.rows_of
  node_first {k} (sequence E F) d = row_first k _ _ d.rows_of
  node_first {k} (choice E F) d = row_first k _ _ d.rows_of
  node_first {k} (parallel E F) d = row_first k _ _ d.rows_of
  node_first {k} (loop E F G) d = row_first k _ _ d.rows_of
  node_first {k} (scope a E) d = row_first k _ _ d.rows_of

  pub tag_is : {k n : ℕ} (E : Expr) → At rows table count k n E → tag_at rows k ≡ tag_of E
  tag_is E h = (node_says rows count E h.node).tag

  after_is : {k n : ℕ} (E : Expr) → At rows table count k n E → after_at rows k ≡ k + node_count E
  after_is E h = (node_says rows count E h.node).after

  pub first_is : {k n : ℕ} (E : Expr) → At rows table count k n E → first_at rows k ≡ n
  first_is E h = node_first E h.node

  pub node_inside : {k n : ℕ} (E : Expr) → At rows table count k n E → k < count
  node_inside E h = omega (arith, h.node.inside, node_count_positive E)

  -- ---- the operands
  abbrev pub Two : ℕ → ℕ → Expr → Expr → Type 0
  Two k n E F = At rows table count (k + 1) n E × At rows table count (k + 1 + node_count E) (n + actions E) F

  counts_of_two : (k : ℕ) (X E F : Expr) → Stands table (3 * k) (box_counts X ++ (values box_counts E ++ values box_counts F))
      → Stands table (3 * (k + 1)) (values box_counts E) × Stands table (3 * (k + 1 + node_count E)) (values box_counts F)
  counts_of_two k X E F s =
      counts_split table (k + 1) E (values box_counts F) (counts_behind table k X (values box_counts E ++ values box_counts F) s)

  both : (k n : ℕ) {a b : ℕ} (E F : Expr) → Node rows count (k + 1) n a E × Node rows count (k + 1 + node_count E) (n + actions E) b F
      → Stands table (3 * (k + 1)) (values box_counts E) × Stands table (3 * (k + 1 + node_count E)) (values box_counts F) → Two k n E F
  both k n {a} {b} E F d s =
      (record { offset = a; node = d.0; counted = s.0 }, record { offset = b; node = d.1; counted = s.1 })

  pub sequence_parts : {k n : ℕ} (E F : Expr) → At rows table count k n (sequence E F) → Two k n E F
  unfolding values
  sequence_parts {k} {n} E F h = both k n E F (sequence_operands rows count E F h.node) (counts_of_two k (sequence E F) E F h.counted)

  pub choice_parts : {k n : ℕ} (E F : Expr) → At rows table count k n (choice E F) → Two k n E F
  unfolding values
  choice_parts {k} {n} E F h = both k n E F (choice_operands rows count E F h.node) (counts_of_two k (choice E F) E F h.counted)

  pub parallel_parts : {k n : ℕ} (E F : Expr) → At rows table count k n (parallel E F) → Two k n E F
  unfolding values
  parallel_parts {k} {n} E F h = both k n E F (parallel_operands rows count E F h.node) (counts_of_two k (parallel E F) E F h.counted)

  pub loop_parts : {k n : ℕ} (E F G : Expr) → At rows table count k n (loop E F G)
      → Two k n E F × At rows table count (k + 1 + node_count E + node_count F) (n + actions E + actions F) G
  unfolding values
  loop_parts {k} {n} E F G h =
      let (d, g) = loop_operands rows count E F G h.node in
      let (s, t) = counts_split table (k + 1) E (values box_counts F ++ values box_counts G)
      (counts_behind table k (loop E F G) (values box_counts E ++ (values box_counts F ++ values box_counts G)) h.counted) in
      let (u, v) = counts_split table (k + 1 + node_count E) F (values box_counts G) t in
      (both k n E F d (s, u), record { offset = _; node = g; counted = v })

  pub scope_part : {k n a : ℕ} (E : Expr) → At rows table count k n (scope a E) → At rows table count (k + 1) n E
  unfolding values
  scope_part {k} {n} {a} E h =
      record { offset = _; node = scope_operand rows count E h.node; counted = counts_behind table k (scope a E) (values box_counts E) h.counted }

  -- Where the second and the third operand are.
  module _ (k n : ℕ) (E F : Expr) (parts : Two k n E F) where
    pub second_at : after_at rows (k + 1) ≡ k + 1 + node_count E
    second_at = after_is E parts.0

    pub third_at : after_at rows (after_at rows (k + 1)) ≡ k + 1 + node_count E + node_count F
    third_at = ap (after_at rows) second_at ∙ after_is F parts.1
