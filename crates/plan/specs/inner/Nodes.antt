-- The node table of an expression: a row for each field, in the order of the bytes. It is the library's own work room, not lent.
use Rattle.std.specs.Prelude.{ℕ, ◌+◌, List, [], ◌∷◌, ◌++◌}
use Rattle.algebra.specs.Expr.{Expr, action, sequence, choice, parallel, loop, scope, actions}
use Rattle.plan.specs.Loops.{bytes}

-- A row: the tag; the label or scope byte, else 0; how many members the field has; the number of the node after the subtree;
-- the number of its first action; the offset of the field.
pub record Row : Type 0 where
  pub tag : ℕ
  pub byte : ℕ
  pub members : ℕ
  pub after : ℕ
  pub first : ℕ
  pub at : ℕ

-- Six numbers to a row.
unfoldable pub numbers : List Row → List ℕ
numbers [] = []
numbers (r ∷ rs) = r.tag ∷ (r.byte ∷ (r.members ∷ (r.after ∷ (r.first ∷ (r.at ∷ numbers rs)))))

unfoldable pub node_count : Expr → ℕ
node_count (action l) = 1
node_count (sequence E F) = 1 + (node_count E + node_count F)
node_count (choice E F) = 1 + (node_count E + node_count F)
node_count (parallel E F) = 1 + (node_count E + node_count F)
node_count (loop E F G) = 1 + (node_count E + (node_count F + node_count G))
node_count (scope a E) = 1 + node_count E

abbrev pub row : ℕ → ℕ → ℕ → ℕ → ℕ → ℕ → Row
row tag byte members after first at = record { tag = tag; byte = byte; members = members; after = after; first = first; at = at }

-- The rows of an expression whose first node has the number k, whose first action has the number i, and whose field stands at an offset.
unfoldable pub nodes : ℕ → ℕ → ℕ → Expr → List Row
unfolding node_count actions bytes
nodes k i at (action l) = row 1 l 0 (k + 1) i at ∷ []
nodes k i at (sequence E F) = row 2 0 2 (k + node_count (sequence E F)) i at ∷ (nodes (k + 1) i (at + 3) E ++ nodes (k + 1 + node_count E) (i + actions E) (at + 3 + bytes E) F)
nodes k i at (choice E F) = row 3 0 2 (k + node_count (choice E F)) i at ∷ (nodes (k + 1) i (at + 3) E ++ nodes (k + 1 + node_count E) (i + actions E) (at + 3 + bytes E) F)
nodes k i at (parallel E F) = row 4 0 2 (k + node_count (parallel E F)) i at ∷ (nodes (k + 1) i (at + 3) E ++ nodes (k + 1 + node_count E) (i + actions E) (at + 3 + bytes E) F)
nodes k i at (loop E F G) =
    row 5 0 3 (k + node_count (loop E F G)) i at
    ∷ (nodes (k + 1) i (at + 3) E
    ++ (nodes (k + 1 + node_count E) (i + actions E) (at + 3 + bytes E) F
    ++ nodes (k + 1 + node_count E + node_count F) (i + actions E + actions F) (at + 3 + bytes E + bytes F) G))
nodes k i at (scope a E) = row 6 a 1 (k + node_count (scope a E)) i at ∷ nodes (k + 1) i (at + 4) E

-- The table of a plan's expression.
unfoldable pub node_table : Expr → List ℕ
unfolding numbers nodes
node_table E = numbers (nodes 0 0 0 E)

-- How many nodes and actions a plan has.
pub record Sizes : Type 0 where
  pub nodes : ℕ
  pub actions : ℕ

unfoldable pub sizes_of : Expr → Sizes
unfolding node_count actions
sizes_of E = record { nodes = node_count E; actions = actions E }
