-- The rows of a node table, taken apart: what a row says of its node, where the operands' rows stand, and that every number below the count is a node's.
-- True by the order of the rows: a node's own, then those of its operands one after another, as many as they have nodes.
use Prim.Native.Nat.{ℕ, ◌+◌, ◌*◌, ◌≤◌}
use native.Mathlib.Omega.{arith}
use mathlib.Core.Path.{◌≡◌, refl, sym, ◌∙◌, ap, subst}
use mathlib.Core.List.{List, [], ◌∷◌, ◌++◌}
use lib.ListN.{length, get_or, length-append}
use Rattle.algebra.specs.Expr.{Expr, action, sequence, choice, parallel, loop, scope, actions}
use Rattle.plan.specs.Loops.{bytes}
use Rattle.plan.specs.inner.Nodes.{Row, numbers, nodes, node_count}
use Rattle.plan.specs.inner.Table.{Stands, Node, tag_at, after_at}
use Rattle.plan.proofs.Stands.{stands_first, stands_second, stands_at}

numbers_append : (rs qs : List Row) → numbers (rs ++ qs) ≡ numbers rs ++ numbers qs
unfolding numbers
numbers_append [] qs = refl
numbers_append (r ∷ rs) qs = ap (λ l. r.tag ∷ (r.byte ∷ (r.members ∷ (r.after ∷ (r.first ∷ (r.at ∷ l)))))) (numbers_append rs qs)

numbers_length : (rs : List Row) → length (numbers rs) ≡ 6 * length rs
unfolding numbers
numbers_length [] = refl
numbers_length (r ∷ rs) = omega (arith, numbers_length rs)

nodes_length : (k i at : ℕ) (E : Expr) → length (nodes k i at E) ≡ node_count E
unfolding nodes
nodes_length k i at (action l) = refl
nodes_length k i at (sequence E F) = simp length-append (omega (arith, nodes_length (k + 1) i (at + 3) E, nodes_length (k + 1 + node_count E) (i + actions E) (at + 3 + bytes E) F))
nodes_length k i at (choice E F) = simp length-append (omega (arith, nodes_length (k + 1) i (at + 3) E, nodes_length (k + 1 + node_count E) (i + actions E) (at + 3 + bytes E) F))
nodes_length k i at (parallel E F) = simp length-append (omega (arith, nodes_length (k + 1) i (at + 3) E, nodes_length (k + 1 + node_count E) (i + actions E) (at + 3 + bytes E) F))
nodes_length k i at (loop E F G) =
    simp length-append
    (omega (
      arith,
      nodes_length (k + 1) i (at + 3) E,
      nodes_length (k + 1 + node_count E) (i + actions E) (at + 3 + bytes E) F,
      nodes_length (k + 1 + node_count E + node_count F) (i + actions E + actions F) (at + 3 + bytes E + bytes F) G,
    ))
nodes_length k i at (scope a E) = omega (arith, nodes_length (k + 1) i (at + 4) E)

pub rows_length : (k i at : ℕ) (E : Expr) → length (numbers (nodes k i at E)) ≡ 6 * node_count E
rows_length k i at E = numbers_length (nodes k i at E) ∙ ap (λ n. 6 * n) (nodes_length k i at E)

-- The tag of an expression's field.
abbrev pub tag_of : Expr → ℕ
tag_of (action l) = 1
tag_of (sequence E F) = 2
tag_of (choice E F) = 3
tag_of (parallel E F) = 4
tag_of (loop E F G) = 5
tag_of (scope a E) = 6

-- A number that was read is what stands there.
pub is : {tag there n : ℕ} → tag ≡ there → tag ≡ n → there ≡ n
is read e = sym read ∙ e

pub is_not : {tag there n : ℕ} → tag ≡ there → (tag ≡ n → ⊥) → there ≡ n → ⊥
is_not read f e = f (read ∙ e)

module _ (rows : List ℕ) (count : ℕ) where
  -- What a row says.
  pub record Says (k at : ℕ) (E : Expr) : Type 0 where
    pub tag : tag_at rows k ≡ tag_of E
    pub after : after_at rows k ≡ k + node_count E
    pub offset : get_or rows (6 * k + 5) 0 ≡ at

  says : (k at : ℕ) (E : Expr) (r : Row) (rs : List Row) → r.tag ≡ tag_of E → r.after ≡ k + node_count E → r.at ≡ at → Stands rows (6 * k) (numbers (r ∷ rs)) → Says k at E
  unfolding numbers
  says k at E r rs t a o s =
      record { tag = s 0 (omega arith) ∙ t; after = s 3 (omega arith) ∙ a; offset = s 5 (omega arith) ∙ o }

  pub node_says : {k i at : ℕ} (E : Expr) → Node rows count k i at E → Says k at E
  unfolding nodes
  node_says (action l) n = says _ _ (action l) _ _ refl refl refl n.rows_of
  node_says (sequence E F) n = says _ _ (sequence E F) _ _ refl refl refl n.rows_of
  node_says (choice E F) n = says _ _ (choice E F) _ _ refl refl refl n.rows_of
  node_says (parallel E F) n = says _ _ (parallel E F) _ _ refl refl refl n.rows_of
  node_says (loop E F G) n = says _ _ (loop E F G) _ _ refl refl refl n.rows_of
  node_says (scope a E) n = says _ _ (scope a E) _ _ refl refl refl n.rows_of

  -- The rows behind a node's own are its operands'.
  behind : (k : ℕ) (r : Row) (rs : List Row) → Stands rows (6 * k) (numbers (r ∷ rs)) → Stands rows (6 * (k + 1)) (numbers rs)
  unfolding numbers
  behind k r rs s =
      stands_at rows (numbers rs) (omega arith)
      (stands_second rows (6 * k) (r.tag ∷ (r.byte ∷ (r.members ∷ (r.after ∷ (r.first ∷ (r.at ∷ [])))))) (numbers rs) s)

  -- The rows of one operand, and those of the next behind them.
  split : (k i at : ℕ) (E : Expr) (rs : List Row) → Stands rows (6 * k) (numbers (nodes k i at E ++ rs)) → k + node_count E ≤ count
      → Node rows count k i at E × Stands rows (6 * (k + node_count E)) (numbers rs)
  split k i at E rs s h =
      let l = numbers (nodes k i at E) in
      let u : Stands rows (6 * k) (l ++ numbers rs) = subst (λ m. Stands rows (6 * k) m) (numbers_append (nodes k i at E) rs) s in (
        record { inside = h; rows_of = stands_first rows (6 * k) l (numbers rs) u },
        stands_at rows (numbers rs) (omega (arith, rows_length k i at E)) (stands_second rows (6 * k) l (numbers rs) u),
      )

  two : (k : ℕ) {i at j o : ℕ} (E F : Expr) → Stands rows (6 * k) (numbers (nodes k i at E ++ nodes (k + node_count E) j o F)) → k + (node_count E + node_count F) ≤ count
      → Node rows count k i at E × Node rows count (k + node_count E) j o F
  two k E F s h = let (n, u) = split k _ _ E _ s (omega arith) in (n, record { inside = omega arith; rows_of = u })

  abbrev Two : (k i at : ℕ) → Expr → Expr → Type 0
  Two k i at E F = Node rows count (k + 1) i (at + 3) E × Node rows count (k + 1 + node_count E) (i + actions E) (at + 3 + bytes E) F

  pub sequence_operands : {k i at : ℕ} (E F : Expr) → Node rows count k i at (sequence E F) → Two k i at E F
  unfolding nodes
  sequence_operands {k} E F n = two (k + 1) E F (behind k _ _ n.rows_of) (omega (arith, n.inside))

  pub choice_operands : {k i at : ℕ} (E F : Expr) → Node rows count k i at (choice E F) → Two k i at E F
  unfolding nodes
  choice_operands {k} E F n = two (k + 1) E F (behind k _ _ n.rows_of) (omega (arith, n.inside))

  pub parallel_operands : {k i at : ℕ} (E F : Expr) → Node rows count k i at (parallel E F) → Two k i at E F
  unfolding nodes
  parallel_operands {k} E F n = two (k + 1) E F (behind k _ _ n.rows_of) (omega (arith, n.inside))

  pub loop_operands : {k i at : ℕ} (E F G : Expr) → Node rows count k i at (loop E F G)
      → Two k i at E F × Node rows count (k + 1 + node_count E + node_count F) (i + actions E + actions F) (at + 3 + bytes E + bytes F) G
  unfolding nodes
  loop_operands {k} E F G n =
      let (e, u) = split (k + 1) _ _ E _ (behind k _ _ n.rows_of) (omega (arith, n.inside)) in
      let (f, g) = two (k + 1 + node_count E) F G u (omega (arith, n.inside)) in
      ((e, f), g)

  pub scope_operand : {k i at a : ℕ} (E : Expr) → Node rows count k i at (scope a E) → Node rows count (k + 1) i (at + 4) E
  unfolding nodes
  scope_operand {k} E n = record { inside = omega (arith, n.inside); rows_of = behind k _ _ n.rows_of }
