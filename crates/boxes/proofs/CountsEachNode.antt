-- One node counted, on plain values, and what the table holds after the last: the counts of every node in their order.
-- A node is counted from operands that are counted, and its three numbers are written where no later node's stand.
use Prim.Native.Nat.{ℕ, zero, suc, ◌+◌, ◌*◌, ◌≤◌, ◌<◌}
use native.Mathlib.Omega.{arith}
use native.Mathlib.Nat.{add-zero}
use mathlib.Core.Path.{◌≡◌, refl, sym, ◌∙◌, ap, ap₂, subst}
use mathlib.Core.List.{List, [], ◌∷◌, ◌++◌}
use lib.ListN.{length, get_or, set, drop, length-set}
use lib.Seq.{sets, length-sets, get_or-set_same, get_or-set_other}
use Rattle.algebra.specs.Expr.{Expr, action, sequence, choice, parallel, loop, scope}
use Rattle.plan.specs.inner.Nodes.{node_count}
use Rattle.plan.specs.inner.Table.{Table, Stands, Node, after_at, Known}
use Rattle.plan.proofs.Stands.{stands_whole}
use Rattle.plan.proofs.NodeTable.{node_says, sequence_operands, choice_operands, parallel_operands, loop_operands, scope_operand}
use Rattle.plan.proofs.NodeValues.{table_node, none_known, one_known, filled}
use Rattle.boxes.specs.Counts.{entry_count, internal_count, exit_count}
use Rattle.boxes.specs.inner.NodeCounts.{box_counts, node_counts}
use Rattle.boxes.specs.inner.Counted.{counts, counts_at, sequence_counts, choice_counts, parallel_counts, loop_counts, counts_by, row_numbers, counts_numbers, Counted, CountsDown}
use Rattle.boxes.specs.declared.counts.Counts.{Counts}
use Rattle.boxes.proofs.CountRows.{same_counts, counts_length, counts_stored}

-- The counts of an expression.
abbrev expr_counts : Expr → Counts
expr_counts E = counts (entry_count E) (internal_count E) (exit_count E)

module _ (rows : List ℕ) (count : ℕ) (table : List ℕ) (k : ℕ) (known : Known rows count 3 box_counts (k + 1) table) where
  at_operand : {m i at : ℕ} (E : Expr) → k + 1 ≤ m → Node rows count m i at E → counts_at table m ≡ expr_counts E
  unfolding box_counts
  at_operand {m} {i} {at} E h n =
      let s = known m i at E h n in
      let p : 3 * m ≡ 3 * m + 0 = omega arith in
      same_counts (ap (λ j. get_or table j 0) p ∙ s 0 (omega arith)) (s 1 (omega arith)) (s 2 (omega arith))

  -- The operand behind the first, and the one behind that.
  second : {i at : ℕ} {E : Expr} {j o : ℕ} (F : Expr) → Node rows count (k + 1) i at E → Node rows count (k + 1 + node_count E) j o F
      → counts_at table (after_at rows (k + 1)) ≡ expr_counts F
  second {E = E} F e f = ap (counts_at table) (node_says rows count E e).after ∙ at_operand F (omega arith) f

  third : {i at : ℕ} {E : Expr} {j o : ℕ} {F : Expr} {l q : ℕ} (G : Expr) → Node rows count (k + 1) i at E → Node rows count (k + 1 + node_count E) j o F
      → Node rows count (k + 1 + node_count E + node_count F) l q G → counts_at table (after_at rows (after_at rows (k + 1))) ≡ expr_counts G
  third {E = E} {F = F} G e f g =
      ap (λ m. counts_at table (after_at rows m)) (node_says rows count E e).after
      ∙ ap (counts_at table) (node_says rows count F f).after
      ∙ at_operand G (omega arith) g

  counts_right : {i at : ℕ} (E : Expr) → Node rows count k i at E → counts_by rows table k ≡ expr_counts E
  unfolding counts_by entry_count internal_count exit_count
  counts_right (action l) n = rw (node_says rows count (action l) n).tag refl
  counts_right (sequence E F) n =
      let (e, f) = sequence_operands rows count E F n in
      rw (node_says rows count (sequence E F) n).tag (ap₂ sequence_counts (at_operand E (omega arith) e) (second F e f))
  counts_right (choice E F) n =
      let (e, f) = choice_operands rows count E F n in
      rw (node_says rows count (choice E F) n).tag (ap₂ choice_counts (at_operand E (omega arith) e) (second F e f))
  counts_right (parallel E F) n =
      let (e, f) = parallel_operands rows count E F n in
      rw (node_says rows count (parallel E F) n).tag (ap₂ parallel_counts (at_operand E (omega arith) e) (second F e f))
  counts_right (loop E F G) n =
      let ((e, f), g) = loop_operands rows count E F G n in
      rw (node_says rows count (loop E F G) n).tag
      (ap₂ (λ x y. loop_counts x y (counts_at table (after_at rows (after_at rows (k + 1))))) (at_operand E (omega arith) e) (second F e f)
      ∙ ap (loop_counts (expr_counts E) (expr_counts F)) (third G e f g))
  counts_right (scope a E) n =
      rw (node_says rows count (scope a E) n).tag (at_operand E (omega arith) (scope_operand rows count E n))

-- A run of stores leaves what stands before it and behind it, and itself stands where it was stored.
sets_before : (l : List ℕ) (i : ℕ) (vs : List ℕ) (j : ℕ) → j < i → get_or (sets l i vs) j 0 ≡ get_or l j 0
sets_before l i [] j h = refl
sets_before l i (v ∷ vs) j h = sets_before (set l i v) (suc i) vs j (omega arith) ∙ get_or-set_other l i j v 0 (λ e. omega arith)

sets_behind : (l : List ℕ) (i : ℕ) (vs : List ℕ) (j : ℕ) → i + length vs ≤ j → get_or (sets l i vs) j 0 ≡ get_or l j 0
sets_behind l i [] j h = refl
sets_behind l i (v ∷ vs) j h = sets_behind (set l i v) (suc i) vs j (omega arith) ∙ get_or-set_other l i j v 0 (λ e. omega arith)

sets_stand : (l : List ℕ) (i : ℕ) (vs : List ℕ) → i + length vs ≤ length l → Stands (sets l i vs) i vs
sets_stand l i [] h j b = absurd (omega arith)
sets_stand l i (v ∷ vs) h zero b =
    ap (λ j. get_or (sets (set l i v) (suc i) vs) j 0) (add-zero i)
    ∙ sets_before (set l i v) (suc i) vs i (omega arith)
    ∙ get_or-set_same l i v 0 (omega arith)
sets_stand l i (v ∷ vs) h (suc j) b =
    let p : i + suc j ≡ suc i + j = omega arith in
    ap (λ k. get_or (sets (set l i v) (suc i) vs) k 0) p
    ∙ sets_stand (set l i v) (suc i) vs (simp length-set (omega arith)) j (omega arith)

-- At first no node is counted.
pub none_counted : (rows table : List ℕ) (count : ℕ) → Counted rows count count table table
none_counted rows table count =
    record { within = omega arith; long = refl; kept = λ i h. refl; known = none_known rows count 3 box_counts table }

-- The counts of node k are stored.
one_stored : (rows table : List ℕ) (k : ℕ) → 3 * (k + 1) ≤ length table → CountsDown rows k (k + 1) table (sets table (3 * k) (row_numbers (counts_by rows table k)))
unfolding box_counts
one_stored rows table k room count before j =
    let row = row_numbers (counts_by rows table k) in
    record {
      within = omega (arith, j.within);
      long = length-sets table (3 * k) row ∙ j.long;
      kept = λ i h. sets_behind table (3 * k) row i (omega (arith, j.within)) ∙ j.kept i h;
      known = one_known rows count 3 box_counts k table (sets table (3 * k) row) j.known (λ i h. sets_behind table (3 * k) row i (omega arith))
          (λ i at E n. subst (λ c. Stands (sets table (3 * k) row) (3 * k) (row_numbers c)) (counts_right rows count table k j.known E n)
          (sets_stand table (3 * k) row (omega arith)));
    }

-- The same of a row of counts.
pub one_counted : {rows : List ℕ} {k : ℕ} (table : List Counts) {c : Counts} → k < length table → c ≡ counts_by rows (counts_numbers table) k
    → CountsDown rows k (k + 1) (counts_numbers table) (counts_numbers (set table k c))
one_counted {rows} {k} table {c} room e =
    let numbers = counts_numbers table in
    subst (CountsDown rows k (k + 1) numbers)
    (sym (counts_stored table k c room ∙ ap (λ d. sets numbers (3 * k) (row_numbers d)) e))
    (one_stored rows numbers k (omega (arith, counts_length table)))

-- One number written in two ways.
pub moved : {rows before after : List ℕ} {count k m : ℕ} → k ≡ m → Counted rows count k before after → Counted rows count m before after
moved {rows} {before} {after} {count} e j = subst (λ n. Counted rows count n before after) e j

three : (E : Expr) → length (box_counts E) ≡ 3
unfolding box_counts
three E = refl

-- At last the table begins with the counts of every node.
pub all_counted : {rows before after : List ℕ} {count : ℕ} → 3 * count ≤ length before → Counted rows count 0 before after
    → (E : Expr) → Table rows count E → after ≡ node_counts E ++ drop (3 * count) before
unfolding node_counts
all_counted {rows} {before} {after} {count} room j E t =
    let f = filled rows count 3 box_counts three after j.known _ E (table_node t) in
    let p : length (node_counts E) ≡ 3 * count = f.long ∙ ap (λ n. 3 * n) (sym t.nodes) in
    stands_whole after before (node_counts E) j.long (omega (arith, room)) f.stands (λ i h. j.kept i (omega arith))
    ∙ ap (λ n. node_counts E ++ drop n before) p
