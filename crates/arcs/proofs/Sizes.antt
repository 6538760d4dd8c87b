-- How many places an expression and its operands have: an operand has no more than the whole, a move has no empty factor, and the counts are those of the table.
-- True because every box has an entry and an exit, so that a product is at least each of its factors.
use Prim.Native.Nat.{ℕ, ◌+◌, ◌*◌, ◌≤◌}
use native.Mathlib.Omega.{arith}
use mathlib.Core.Path.{◌≡◌, refl, sym, ◌∙◌, ap, subst}
use mathlib.Core.List.{List, [], ◌++◌, append-nil}
use lib.ListN.{length, get_or, length-map, length-append}
use Rattle.field.specs.Limits.{place_limit}
use Rattle.algebra.specs.Expr.{Expr, action, sequence, choice, parallel, loop, scope}
use Rattle.algebra.specs.Places.{entries, internals, exits}
use Rattle.algebra.proofs.Lengths.{entries_of, exits_of, internals_of, entries_length, exits_length, internals_length}
use Rattle.plan.specs.inner.Nodes.{node_count}
use Rattle.plan.specs.inner.Table.{Stands, values}
use Rattle.plan.proofs.Stands.{stands_first, stands_second, stands_at}
use Rattle.boxes.specs.inner.NodeCounts.{box_counts}
use Rattle.boxes.proofs.CountsCutOff.{entry_count_is, exit_count_is, internal_count_is}
use Rattle.arcs.specs.inner.Moves.{passes, box}
use Rattle.boxes.specs.inner.Counted.{counts_at}
use Rattle.net.specs.declared.Side.{Side}
use Rattle.boxes.specs.declared.counts.Counts.{Counts}
use Rattle.boxes.proofs.CountRows.{same_counts}
use Rattle.arcs.proofs.Levels.{lengths}

abbrev pub sizes : Expr → Counts
sizes E = record { entries = entries_of E; internals = internals_of E; exits = exits_of E }

pub box_lengths : (side : Side) (i n : ℕ) (E : Expr) → lengths (box side i n E) ≡ sizes E
box_lengths side i n E = same_counts
    (length-map (entries n E) (passes side i) ∙ entries_length n E)
    (length-map (internals n E) (passes side i) ∙ internals_length n E)
    (length-map (exits n E) (passes side i) ∙ exits_length n E)

-- ---- the counts in the table
pub values_length : (E : Expr) → length (values box_counts E) ≡ 3 * node_count E
unfolding values box_counts node_count
values_length (action l) = refl
values_length (sequence E F) = simp length-append (omega (arith, values_length E, values_length F))
values_length (choice E F) = simp length-append (omega (arith, values_length E, values_length F))
values_length (parallel E F) = simp length-append (omega (arith, values_length E, values_length F))
values_length (loop E F G) = simp length-append (omega (arith, values_length E, values_length F, values_length G))
values_length (scope a E) = omega (arith, values_length E)

-- The counts of the nodes below an expression's own.
unfoldable below : Expr → List ℕ
unfolding values
below (action l) = []
below (sequence E F) = values box_counts E ++ values box_counts F
below (choice E F) = values box_counts E ++ values box_counts F
below (parallel E F) = values box_counts E ++ values box_counts F
below (loop E F G) = values box_counts E ++ (values box_counts F ++ values box_counts G)
below (scope a E) = values box_counts E

values_own : (E : Expr) → values box_counts E ≡ box_counts E ++ below E
unfolding below values
values_own (action l) = sym (append-nil (box_counts (action l)))
values_own (sequence E F) = refl
values_own (choice E F) = refl
values_own (parallel E F) = refl
values_own (loop E F G) = refl
values_own (scope a E) = refl

module _ (table : List ℕ) where
  own_counts : (k : ℕ) (E : Expr) → Stands table (3 * k) (values box_counts E) → Stands table (3 * k) (box_counts E)
  own_counts k E s = stands_first table (3 * k) (box_counts E) (below E) (subst (Stands table (3 * k)) (values_own E) s)

  pub counts_here : (k : ℕ) (E : Expr) → Stands table (3 * k) (values box_counts E) → entries_of E ≤ place_limit → internals_of E ≤ place_limit → exits_of E ≤ place_limit → counts_at table k ≡ sizes E
  unfolding box_counts
  counts_here k E s es is xs =
      let c = own_counts k E s in
      same_counts
      (ap (λ i. get_or table i 0) (let z : 3 * k ≡ 3 * k + 0 = omega arith in z) ∙ c 0 (omega arith) ∙ entry_count_is E ∙ omega arith)
      (c 1 (omega arith) ∙ internal_count_is E ∙ omega arith)
      (c 2 (omega arith) ∙ exit_count_is E ∙ omega arith)

  -- Behind a node's own counts are those of its operands.
  pub counts_behind : (k : ℕ) (E : Expr) (l : List ℕ) → Stands table (3 * k) (box_counts E ++ l) → Stands table (3 * (k + 1)) l
  unfolding box_counts
  counts_behind k E l s = stands_at table l (omega arith) (stands_second table (3 * k) (box_counts E) l s)

  pub counts_split : (k : ℕ) (E : Expr) (l : List ℕ) → Stands table (3 * k) (values box_counts E ++ l)
      → Stands table (3 * k) (values box_counts E) × Stands table (3 * (k + node_count E)) l
  counts_split k E l s = (
    stands_first table (3 * k) (values box_counts E) l s,
    stands_at table l (omega (arith, values_length E)) (stands_second table (3 * k) (values box_counts E) l s),
  )
