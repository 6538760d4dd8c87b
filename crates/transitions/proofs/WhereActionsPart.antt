-- The walk down the node table finds where two actions part: while both are in one operand they part where they do there, and else here.
-- True because the first action of an operand's row is the number that the definition compares with.
use Prim.Native.Nat.{ℕ, ◌+◌, ◌≤◌, ◌<◌}
use native.Mathlib.Omega.{arith}
use mathlib.Core.Path.{◌≡◌, refl, sym, ◌∙◌, ap, subst}
use mathlib.Core.Bool.{Bool, true, false, cond}
use mathlib.Core.List.{List}
use lib.Dec.{ltb}
use Rattle.algebra.specs.Expr.{Expr, action, sequence, choice, parallel, loop, scope, actions}
use Rattle.algebra.specs.Transitions.{where_both, part_at_parallel}
use Rattle.plan.specs.inner.Nodes.{numbers, nodes, node_count}
use Rattle.plan.specs.inner.Table.{Node, tag_at, after_at}
use Rattle.plan.proofs.NodeTable.{node_says, sequence_operands, choice_operands, parallel_operands, loop_operands, scope_operand}
use Rattle.plan.proofs.NodeValues.{node_count_positive}
use Rattle.std.specs.Prelude.{Ok}
use Rattle.plan.specs.declared.table.Tag.{Tag}
use Rattle.plan.specs.declared.table.Tag.TheVariants.{Action, Sequence, Choice, Parallel, Loop, Scope}
use Rattle.plan.specs.inner.Numbers.{spelt, first_at}
use Rattle.transitions.specs.inner.Parting.{one_of, operand_by}

-- 01's parallel, by its tag.
abbrev pub is_parallel : Tag → Bool
is_parallel Action = false
is_parallel Sequence = false
is_parallel Choice = false
is_parallel Parallel = true
is_parallel Loop = false
is_parallel Scope = false

-- One of two operands for each action: the same, or not.
module _ (here in_first in_rest : Bool) (a b : ℕ) where
  both_in_one : (r : Bool) (f g : Bool) → (a ≡ b → ⊥) → cond f a b ≡ cond g a b → (cond f a b ≡ a → r ≡ in_first) → (cond f a b ≡ b → r ≡ in_rest) → r ≡ where_both f g in_first in_rest here
  both_in_one r true true ne e p q = p refl
  both_in_one r true false ne e p q = absurd (ne e)
  both_in_one r false true ne e p q = absurd (ne (sym e))
  both_in_one r false false ne e p q = q refl

  not_in_one : (f g : Bool) → (cond g a b ≡ cond f a b → ⊥) → here ≡ where_both f g in_first in_rest here
  not_in_one true true ne = absurd (ne refl)
  not_in_one true false ne = refl
  not_in_one false true ne = refl
  not_in_one false false ne = absurd (ne refl)

-- One of three.
module _ (in_first in_second in-third : Bool) (x y z : ℕ) where
  abbrev three : Bool → Bool → ℕ
  three a c = cond a x (cond c y z)

  all_in_one : (r a b c d : Bool) → x < y → y < z → three a c ≡ three b d → (three a c ≡ x → r ≡ in_first) → (three a c ≡ y → r ≡ in_second) → (three a c ≡ z → r ≡ in-third)
      → r ≡ where_both a b in_first (where_both c d in_second in-third false) false
  all_in_one r true true c d lo hi e p q s = p refl
  all_in_one r true false c true lo hi e p q s = absurd (omega arith)
  all_in_one r true false c false lo hi e p q s = absurd (omega arith)
  all_in_one r false true true d lo hi e p q s = absurd (omega arith)
  all_in_one r false true false d lo hi e p q s = absurd (omega arith)
  all_in_one r false false c d lo hi e p q s = both_in_one false in_second in-third y z r c d (λ w. omega arith) e q s

  not_all_in_one : (a b c d : Bool) → (three b d ≡ three a c → ⊥) → false ≡ where_both a b in_first (where_both c d in_second in-third false) false
  not_all_in_one true true c d ne = absurd (ne refl)
  not_all_in_one true false c d ne = refl
  not_all_in_one false true c d ne = refl
  not_all_in_one false false c d ne = not_in_one false in_second in-third y z c d ne

behind_own : (k c : ℕ) (b : Bool) → k < cond b (k + 1) (k + 1 + c)
behind_own k c true = omega arith
behind_own k c false = omega arith

behind_own_loop : (k c d : ℕ) (a b : Bool) → k < cond a (k + 1) (cond b (k + 1 + c) (k + 1 + c + d))
behind_own_loop k c d true b = omega arith
behind_own_loop k c d false true = omega arith
behind_own_loop k c d false false = omega arith

module _ (rows : List ℕ) (count : ℕ) where
  pub node_first : {k i at : ℕ} (E : Expr) → Node rows count k i at E → first_at rows k ≡ i
  unfolding nodes numbers
  node_first (action l) n = n.rows_of 4 (omega arith)
  node_first (sequence E F) n = n.rows_of 4 (omega arith)
  node_first (choice E F) n = n.rows_of 4 (omega arith)
  node_first (parallel E F) n = n.rows_of 4 (omega arith)
  node_first (loop E F G) n = n.rows_of 4 (omega arith)
  node_first (scope a E) n = n.rows_of 4 (omega arith)

  module _ (k n : ℕ) (E F : Expr) {o p : ℕ} (e : Node rows count (k + 1) n o E) (f : Node rows count (k + 1 + node_count E) (n + actions E) p F) where
    second_at : after_at rows (k + 1) ≡ k + 1 + node_count E
    second_at = (node_says rows count E e).after

    -- The tag is one of an operator with two operands.
    abbrev Two : Type 0
    Two = (i : ℕ) → operand_by rows k i ≡ one_of rows (k + 1) (after_at rows (k + 1)) i

    -- The operand of an operator with two operands.
    chosen : (i : ℕ) → Two → operand_by rows k i ≡ cond (ltb i (n + actions E)) (k + 1) (k + 1 + node_count E)
    chosen i two = two i ∙ rw (second_at, node_first F f) refl

    module _ (two : Two) (W : Expr) (is-here : Bool)
        (w : (i j : ℕ) → part_at_parallel n W i j ≡ where_both (ltb i (n + actions E)) (ltb j (n + actions E)) (part_at_parallel n E i j) (part_at_parallel (n + actions E) F i j) is-here) (i j : ℕ) where
      abbrev m : ℕ
      m = n + actions E

      above : k < operand_by rows k i
      above = rw (chosen i two) (behind_own k (node_count E) (ltb i m))

      inside : (r : Bool) → operand_by rows k i ≡ operand_by rows k j → ((n at : ℕ) (D : Expr) → Node rows count (operand_by rows k i) n at D → r ≡ part_at_parallel n D i j) → r ≡ part_at_parallel n W i j
      inside r same rest =
          let ci = chosen i two in
          let cj = chosen j two in
          both_in_one (is-here) (part_at_parallel n E i j) (part_at_parallel m F i j) (k + 1) (k + 1 + node_count E) r (ltb i m) (ltb j m) (λ z. omega (arith, node_count_positive E)) (sym ci ∙ same ∙ cj)
          (λ z. rest n o E (subst (λ q. Node rows count q n o E) (sym (ci ∙ z)) e))
          (λ z. rest m p F (subst (λ q. Node rows count q m p F) (sym (ci ∙ z)) f))
          ∙ sym (w i j)

      here : (operand_by rows k j ≡ operand_by rows k i → ⊥) → is-here ≡ part_at_parallel n W i j
      here differ =
          let ci = chosen i two in
          let cj = chosen j two in
          not_in_one (is-here) (part_at_parallel n E i j) (part_at_parallel m F i j) (k + 1) (k + 1 + node_count E) (ltb i m) (ltb j m) (λ z. differ (cj ∙ z ∙ sym ci)) ∙ sym (w i j)

    -- The operand of a loop.
    module _ (G : Expr) {q : ℕ} (g : Node rows count (k + 1 + node_count E + node_count F) (n + actions E + actions F) q G) (tag : tag_at rows k ≡ 5) where
      abbrev second : ℕ
      second = k + 1 + node_count E

      abbrev third : ℕ
      third = second + node_count F

      abbrev fst : ℕ
      fst = n + actions E

      abbrev snd : ℕ
      snd = fst + actions F

      third_at : after_at rows (k + 1 + node_count E) ≡ third
      third_at = (node_says rows count F f).after

      chosen_in_loop : (i : ℕ) → operand_by rows k i ≡ cond (ltb i fst) (k + 1) (cond (ltb i snd) second third)
      unfolding operand_by
      chosen_in_loop i = rw (tag, second_at, node_first F f, third_at, node_first G g) refl

      module _ (i j : ℕ) where
        loop_above : k < operand_by rows k i
        loop_above = rw (chosen_in_loop i) (behind_own_loop k (node_count E) (node_count F) (ltb i fst) (ltb i snd))

        loop_inside : (r : Bool) → operand_by rows k i ≡ operand_by rows k j → ((n at : ℕ) (D : Expr) → Node rows count (operand_by rows k i) n at D → r ≡ part_at_parallel n D i j) → r ≡ part_at_parallel n (loop E F G) i j
        unfolding part_at_parallel
        loop_inside r same rest =
            let ci = chosen_in_loop i in
            all_in_one (part_at_parallel n E i j) (part_at_parallel fst F i j) (part_at_parallel snd G i j) (k + 1) second third r (ltb i fst) (ltb j fst) (ltb i snd) (ltb j snd)
            (omega (arith, node_count_positive E)) (omega (arith, node_count_positive F)) (sym ci ∙ same ∙ chosen_in_loop j)
            (λ z. rest n o E (subst (λ q. Node rows count q n o E) (sym (ci ∙ z)) e))
            (λ z. rest fst p F (subst (λ q. Node rows count q fst p F) (sym (ci ∙ z)) f))
            (λ z. rest snd q G (subst (λ d. Node rows count d snd q G) (sym (ci ∙ z)) g))

        loop_here : (operand_by rows k j ≡ operand_by rows k i → ⊥) → false ≡ part_at_parallel n (loop E F G) i j
        unfolding part_at_parallel
        loop_here differ =
            not_all_in_one (part_at_parallel n E i j) (part_at_parallel fst F i j) (part_at_parallel snd G i j) (k + 1) second third (ltb i fst) (ltb j fst) (ltb i snd) (ltb j snd)
            (λ z. differ (chosen_in_loop j ∙ z ∙ sym (chosen_in_loop i)))

  module _ (k n at i j : ℕ) where
    two_sequence : tag_at rows k ≡ 2 → (i : ℕ) → operand_by rows k i ≡ one_of rows (k + 1) (after_at rows (k + 1)) i
    unfolding operand_by
    two_sequence e i = rw e refl

    two_choice : tag_at rows k ≡ 3 → (i : ℕ) → operand_by rows k i ≡ one_of rows (k + 1) (after_at rows (k + 1)) i
    unfolding operand_by
    two_choice e i = rw e refl

    two_parallel : tag_at rows k ≡ 4 → (i : ℕ) → operand_by rows k i ≡ one_of rows (k + 1) (after_at rows (k + 1)) i
    unfolding operand_by
    two_parallel e i = rw e refl

    abbrev Inside : Bool → Type 0
    Inside r = (n at : ℕ) (D : Expr) → Node rows count (operand_by rows k i) n at D → r ≡ part_at_parallel n D i j

    action_operand : (l i : ℕ) → Node rows count k n at (action l) → operand_by rows k i ≡ k
    unfolding operand_by
    action_operand l i w = rw (node_says rows count (action l) w).tag refl

    scope_operand_by : (a i : ℕ) (E : Expr) → Node rows count k n at (scope a E) → operand_by rows k i ≡ k + 1
    unfolding operand_by
    scope_operand_by a i E w = rw (node_says rows count (scope a E) w).tag refl

    -- Only an action has no operand.
    parts_alone : (E : Expr) → Node rows count k n at E → operand_by rows k i ≤ k → false ≡ part_at_parallel n E i j
    unfolding part_at_parallel
    parts_alone (action l) w h = refl
    parts_alone (sequence E F) w h =
        let (e, f) = sequence_operands rows count E F w in
        absurd (omega (arith, above k n E F e f (two_sequence (node_says rows count (sequence E F) w).tag) (sequence E F) false (λ i j. refl) i j))
    parts_alone (choice E F) w h =
        let (e, f) = choice_operands rows count E F w in
        absurd (omega (arith, above k n E F e f (two_choice (node_says rows count (choice E F) w).tag) (choice E F) false (λ i j. refl) i j))
    parts_alone (parallel E F) w h =
        let (e, f) = parallel_operands rows count E F w in
        absurd (omega (arith, above k n E F e f (two_parallel (node_says rows count (parallel E F) w).tag) (parallel E F) true (λ i j. refl) i j))
    parts_alone (loop E F G) w h =
        let ((e, f), g) = loop_operands rows count E F G w in
        absurd (omega (arith, loop_above k n E F e f G g (node_says rows count (loop E F G) w).tag i j))
    parts_alone (scope a E) w h = absurd (omega (arith, scope_operand_by a i E w))

    -- Both are in one operand.
    parts_inside : (E : Expr) → Node rows count k n at E → (r : Bool) → k < operand_by rows k i → operand_by rows k i ≡ operand_by rows k j → Inside r → r ≡ part_at_parallel n E i j
    unfolding part_at_parallel
    parts_inside (action l) w r h same rest = absurd (omega (arith, action_operand l i w))
    parts_inside (sequence E F) w r h same rest =
        let (e, f) = sequence_operands rows count E F w in
        inside k n E F e f (two_sequence (node_says rows count (sequence E F) w).tag) (sequence E F) false (λ i j. refl) i j r same rest
    parts_inside (choice E F) w r h same rest =
        let (e, f) = choice_operands rows count E F w in
        inside k n E F e f (two_choice (node_says rows count (choice E F) w).tag) (choice E F) false (λ i j. refl) i j r same rest
    parts_inside (parallel E F) w r h same rest =
        let (e, f) = parallel_operands rows count E F w in
        inside k n E F e f (two_parallel (node_says rows count (parallel E F) w).tag) (parallel E F) true (λ i j. refl) i j r same rest
    parts_inside (loop E F G) w r h same rest =
        let ((e, f), g) = loop_operands rows count E F G w in
        loop_inside k n E F e f G g (node_says rows count (loop E F G) w).tag i j r same rest
    parts_inside (scope a E) w r h same rest =
        rest n (at + 4) E (subst (λ q. Node rows count q n (at + 4) E) (sym (scope_operand_by a i E w)) (scope_operand rows count E w))

    -- They part here, and the code has told by the tag whether the node is a parallel.
    module _ (r : Bool) (told : (g : Tag) → spelt (tag_at rows k) ≡ Ok g → r ≡ is_parallel g) where
      parts_here : (E : Expr) → Node rows count k n at E → (operand_by rows k j ≡ operand_by rows k i → ⊥) → r ≡ part_at_parallel n E i j
      unfolding part_at_parallel
      parts_here (action l) w differ = absurd (differ (action_operand l j w ∙ sym (action_operand l i w)))
      parts_here (sequence E F) w differ =
          let (e, f) = sequence_operands rows count E F w in
          let tag = (node_says rows count (sequence E F) w).tag in
          told Sequence (ap spelt tag) ∙ here k n E F e f (two_sequence tag) (sequence E F) false (λ i j. refl) i j differ
      parts_here (choice E F) w differ =
          let (e, f) = choice_operands rows count E F w in
          let tag = (node_says rows count (choice E F) w).tag in
          told Choice (ap spelt tag) ∙ here k n E F e f (two_choice tag) (choice E F) false (λ i j. refl) i j differ
      parts_here (parallel E F) w differ =
          let (e, f) = parallel_operands rows count E F w in
          let tag = (node_says rows count (parallel E F) w).tag in
          told Parallel (ap spelt tag) ∙ here k n E F e f (two_parallel tag) (parallel E F) true (λ i j. refl) i j differ
      parts_here (loop E F G) w differ =
          let ((e, f), g) = loop_operands rows count E F G w in
          let tag = (node_says rows count (loop E F G) w).tag in
          told Loop (ap spelt tag) ∙ loop_here k n E F e f G g tag i j differ
      parts_here (scope a E) w differ = absurd (differ (scope_operand_by a j E w ∙ sym (scope_operand_by a i E w)))

-- The same as the code has it, which holds the operands' numbers.
module _ (rows : List ℕ) (count k n at i j : ℕ) (E : Expr) (w : Node rows count k n at E) {next : ℕ} (o : next ≡ operand_by rows k i) where
  pub part_nowhere : next ≤ k → false ≡ part_at_parallel n E i j
  part_nowhere h = parts_alone rows count k n at i j E w (omega arith)

  pub part_inside : k < next → {other : ℕ} → other ≡ operand_by rows k j → other ≡ next → (r : Bool) → ((count n at : ℕ) (D : Expr) → Node rows count next n at D → r ≡ part_at_parallel n D i j) → r ≡ part_at_parallel n E i j
  part_inside h p e r rest =
      parts_inside rows count k n at i j E w r (omega arith) (sym o ∙ sym e ∙ p)
      (λ m o' D v. rest count m o' D (subst (λ q. Node rows count q m o' D) (sym o) v))

  pub part_here : {other : ℕ} → other ≡ operand_by rows k j → (other ≡ next → ⊥) → (r : Bool) → ((g : Tag) → spelt (tag_at rows k) ≡ Ok g → r ≡ is_parallel g) → r ≡ part_at_parallel n E i j
  part_here p differ r told = parts_here rows count k n at i j r told E w (λ e. differ (p ∙ e ∙ sym o))
