-- One turn of judging, on plain values, and what is known after the last: whether each node is exclusive, and the first faulty loop.
-- A node is judged from operands that are judged; what a loop's body was judged to be stays so, since bodies come after their loops.
use Prim.Native.Nat.{ℕ, zero, suc, ◌+◌, ◌*◌, ◌≤◌, ◌<◌}
use native.Mathlib.Omega.{arith}
use mathlib.Core.Path.{◌≡◌, refl, sym, ◌∙◌, ap, ap₂, subst}
use mathlib.Core.List.{List, [], ◌∷◌, ◌++◌, append_assoc, append-nil}
use mathlib.Core.Bool.{Bool, true, false, cond, ◌&&◌}
use lib.ListN.{length, get_or, set, length-map}
use lib.Seq.{get_or-set_same, get_or-set_other}
use Rattle.std.specs.Prelude.{Option, None, Some}
use Rattle.std.specs.Option.{option_or}
use Rattle.std.proofs.lemmas.List.{map-set}
use lib.Dec.{eqb}
use borrow.Author.Tests.{eqb-true}
use Rattle.field.specs.Answer.{Answer, good, ◌>>◌}
use Rattle.algebra.specs.Expr.{Expr, action, sequence, choice, parallel, loop, scope}
use Rattle.algebra.specs.Exclusive.{exclusive}
use Rattle.plan.specs.Loops.{faulty_loops, no_fault, check_loops}
use Rattle.plan.specs.inner.Nodes.{node_count}
use Rattle.plan.specs.inner.Table.{Table, Node, tag_at, after_at, Known}
use Rattle.plan.specs.inner.Judging.{JudgesDown}
use Rattle.plan.specs.inner.Judged.{fault_told, bit, bits, exclusive_bit, exclusive_by, fault_by, all_values, Judged}
use Rattle.plan.proofs.Stands.{stands_one}
use Rattle.plan.proofs.NodeTable.{node_says, sequence_operands, choice_operands, parallel_operands, loop_operands, scope_operand}
use Rattle.plan.proofs.NodeValues.{table_node, every, none_known, one_known}

both_bits : (a b : Bool) → cond (eqb (bit a) 0) 0 (bit b) ≡ bit (a && b)
both_bits true b = refl
both_bits false b = refl

fault_bit : (a : Bool) (at : ℕ) → cond (eqb (bit a) 0) (at ∷ []) [] ≡ cond a [] (at ∷ [])
fault_bit true at = refl
fault_bit false at = refl

-- The fault of an expression itself.
abbrev own_fault : ℕ → Expr → List ℕ
own_fault at (action l) = []
own_fault at (sequence E F) = []
own_fault at (choice E F) = []
own_fault at (parallel E F) = []
own_fault at (loop E F G) = cond (exclusive F) [] (at ∷ [])
own_fault at (scope a E) = []

module _ (rows : List ℕ) (count : ℕ) (table : List ℕ) where
  -- What a table says of a node from k on.
  at_operand : {k : ℕ} → Known rows count 1 exclusive_bit k table → {m i at : ℕ} (E : Expr) → k ≤ m → Node rows count m i at E → get_or table m 0 ≡ bit (exclusive E)
  at_operand known {m} {i} {at} E h n = let e : m ≡ 1 * m + 0 = omega arith in ap (λ j. get_or table j 0) e ∙ known m i at E h n 0 (omega arith)

  module _ (k : ℕ) (known : Known rows count 1 exclusive_bit (k + 1) table) where
    -- The operand behind the first.
    second : {i at : ℕ} {E : Expr} {j o : ℕ} (F : Expr) → Node rows count (k + 1) i at E → Node rows count (k + 1 + node_count E) j o F
        → get_or table (after_at rows (k + 1)) 0 ≡ bit (exclusive F)
    second {E = E} F e f = ap (λ m. get_or table m 0) (node_says rows count E e).after ∙ at_operand known F (omega arith) f

    pub judged_right : {i at : ℕ} (E : Expr) → Node rows count k i at E → exclusive_by rows table k ≡ bit (exclusive E)
    unfolding exclusive_by exclusive
    judged_right (action l) n = rw (node_says rows count (action l) n).tag refl
    judged_right (sequence E F) n = rw (node_says rows count (sequence E F) n).tag refl
    judged_right (choice E F) n =
        let (e, f) = choice_operands rows count E F n in
        rw ((node_says rows count (choice E F) n).tag, at_operand known E (omega arith) e, second F e f) (both_bits (exclusive E) (exclusive F))
    judged_right (parallel E F) n = rw (node_says rows count (parallel E F) n).tag refl
    judged_right (loop E F G) n = rw (node_says rows count (loop E F G) n).tag refl
    judged_right (scope a E) n =
        rw (node_says rows count (scope a E) n).tag (at_operand known E (omega arith) (scope_operand rows count E n))

    fault_right : {i at : ℕ} (E : Expr) → Node rows count k i at E → fault_by rows table k ≡ own_fault at E
    unfolding fault_by
    fault_right (action l) n = rw (node_says rows count (action l) n).tag refl
    fault_right (sequence E F) n = rw (node_says rows count (sequence E F) n).tag refl
    fault_right (choice E F) n = rw (node_says rows count (choice E F) n).tag refl
    fault_right (parallel E F) n = rw (node_says rows count (parallel E F) n).tag refl
    fault_right {at = at} (loop E F G) n =
        let ((e, f), g) = loop_operands rows count E F G n in
        let s = node_says rows count (loop E F G) n in
        rw (s.tag, second F e f, s.offset) (fault_bit (exclusive F) at)
    fault_right (scope a E) n = rw (node_says rows count (scope a E) n).tag refl

-- Lists all_values over numbers one after another.
joined_add : (f : ℕ → List ℕ) (k a b : ℕ) → all_values f k (a + b) ≡ all_values f k a ++ all_values f (k + a) b
unfolding all_values
joined_add f k zero b = let p : 0 + b ≡ b = omega arith in let q : k ≡ k + 0 = omega arith in ap (all_values f k) p ∙ ap (λ m. all_values f m b) q
joined_add f k (suc a) b =
    let p : suc a + b ≡ suc (a + b) = omega arith in
    let q : k + 1 + a ≡ k + suc a = omega arith in
    ap (all_values f k) p
    ∙ ap (λ l. f k ++ l) (joined_add f (k + 1) a b ∙ ap (λ m. all_values f (k + 1) a ++ all_values f m b) q)
    ∙ sym (append_assoc (f k) (all_values f (k + 1) a) (all_values f (k + suc a) b))

-- The lists from k on are those of a list, all_values.
record Joins (f : ℕ → List ℕ) (k count : ℕ) (l : List ℕ) : Type 0 where
  pub same : all_values f k count ≡ l

joined_one : {f : ℕ → List ℕ} {k : ℕ} {l : List ℕ} → f k ≡ l → Joins f k 1 l
unfolding all_values
joined_one {f} {k} e = record { same = append-nil (f k) ∙ e }

joined_next : {f : ℕ → List ℕ} {k a b : ℕ} {l m : List ℕ} → Joins f k a l → Joins f (k + a) b m → Joins f k (a + b) (l ++ m)
joined_next {f} {k} {a} {b} p q = record { same = joined_add f k a b ∙ ap₂ (λ x y. x ++ y) p.same q.same }

joined_last : (f : ℕ → List ℕ) (k : ℕ) → all_values f 0 (k + 1) ≡ all_values f 0 k ++ f k
joined_last f k = let p : 0 + k ≡ k = omega arith in (joined_next (record { same = refl }) (joined_one (ap f p))).same

module _ (rows : List ℕ) (count : ℕ) (table : List ℕ) (known : Known rows count 1 exclusive_bit 0 table) where
  own : {k i at : ℕ} (E : Expr) → Node rows count k i at E → Joins (fault_by rows table) k 1 (own_fault at E)
  own {k} E n = joined_one (fault_right rows count table k (λ m i at F h. known m i at F (omega arith)) E n)

  -- The faults of the nodes in their order are the faulty loops.
  faults_right : (k : ℕ) {i at : ℕ} (E : Expr) → Node rows count k i at E → Joins (fault_by rows table) k (node_count E) (faulty_loops at E)
  unfolding faulty_loops node_count
  faults_right k (action l) n = own (action l) n
  faults_right k (sequence E F) n =
      let (e, f) = sequence_operands rows count E F n in
      joined_next (own (sequence E F) n) (joined_next (faults_right (k + 1) E e) (faults_right (k + 1 + node_count E) F f))
  faults_right k (choice E F) n =
      let (e, f) = choice_operands rows count E F n in
      joined_next (own (choice E F) n) (joined_next (faults_right (k + 1) E e) (faults_right (k + 1 + node_count E) F f))
  faults_right k (parallel E F) n =
      let (e, f) = parallel_operands rows count E F n in
      joined_next (own (parallel E F) n) (joined_next (faults_right (k + 1) E e) (faults_right (k + 1 + node_count E) F f))
  faults_right k (loop E F G) n =
      let ((e, f), g) = loop_operands rows count E F G n in
      joined_next (own (loop E F G) n)
      (joined_next (faults_right (k + 1) E e) (joined_next (faults_right (k + 1 + node_count E) F f) (faults_right (k + 1 + node_count E + node_count F) G g)))
  faults_right k (scope a E) n = joined_next (own (scope a E) n) (faults_right (k + 1) E (scope_operand rows count E n))

first_of_both : (l m : List ℕ) (rest : Answer (Unit {0})) → (no_fault (l ++ m) >> rest) ≡ (no_fault l >> (no_fault m >> rest))
first_of_both [] [] rest = refl
first_of_both [] (at ∷ m) rest = refl
first_of_both (at ∷ l) m rest = refl

first_alone : (l : List ℕ) → (no_fault l >> good tt) ≡ no_fault l
first_alone [] = refl
first_alone (at ∷ l) = refl

-- Nothing is left to judge.
none_left : (rows table : List ℕ) {k : ℕ} (answer : Answer (Unit {0})) → k ≡ 0 → Judged rows k table table answer answer
unfolding all_values
none_left rows table answer e =
    subst (λ k. Judged rows k table table answer answer) (sym e)
    (record { kept = λ m h. refl; known = λ count known. known; first = λ ordered. refl })

-- A node is judged, then those below it.
module _ (rows : List ℕ) (k : ℕ) (before after : List ℕ) (here : k < length before) where
  abbrev between : List ℕ
  between = set before k (exclusive_by rows before k)

  same_fault : ((m : ℕ) → k ≤ m → get_or after m 0 ≡ get_or between m 0) → (tag_at rows k ≡ 5 → k < after_at rows (k + 1)) → fault_by rows between k ≡ fault_by rows after k
  unfolding fault_by
  same_fault kept ordered = go (eqb (tag_at rows k) 5) refl
    where
      go : (b : Bool) → eqb (tag_at rows k) 5 ≡ b
          → cond b (cond (eqb (get_or between (after_at rows (k + 1)) 0) 0) (get_or rows (6 * k + 5) 0 ∷ []) []) []
          ≡ cond b (cond (eqb (get_or after (after_at rows (k + 1)) 0) 0) (get_or rows (6 * k + 5) 0 ∷ []) []) []
      go true e =
          ap (λ v. cond (eqb v 0) (get_or rows (6 * k + 5) 0 ∷ []) [])
          (sym (kept (after_at rows (k + 1)) (omega (arith, ordered (eqb-true _ _ e)))))
      go false e = refl

  one_more : {rest answer : Answer (Unit {0})} → Judged rows k between after (no_fault (fault_by rows between k) >> rest) answer → Judged rows (k + 1) before after rest answer
  one_more {rest} {answer} j =
      record {
        kept = λ m h. j.kept m (omega arith) ∙ get_or-set_other before k m (exclusive_by rows before k) 0 (λ e. omega arith);
        known = λ count known. j.known count
            (one_known rows count 1 exclusive_bit k before between known
            (λ m h. get_or-set_other before k m (exclusive_by rows before k) 0 (λ e. omega arith))
            (λ i at E n. stands_one between k (get_or-set_same before k _ 0 here ∙ judged_right rows count before k known E n)));
        first = λ ordered.
            j.first (λ m h. ordered m (omega arith))
            ∙ ap (λ l. no_fault (all_values (fault_by rows after) 0 k) >> (no_fault l >> rest)) (same_fault j.kept (ordered k (omega arith)))
            ∙ sym (first_of_both (all_values (fault_by rows after) 0 k) (fault_by rows after k) rest)
            ∙ ap (λ l. no_fault l >> rest) (sym (joined_last (fault_by rows after) k));
      }

-- One number written in two ways.
pub moved : {rows before after : List ℕ} {k m : ℕ} {rest answer : Answer (Unit {0})} → k ≡ m → Judged rows k before after rest answer → Judged rows m before after rest answer
moved {rows} {before} {after} {rest = rest} {answer = answer} e j = subst (λ n. Judged rows n before after rest answer) e j

-- The first of two faults.
first_told : (own later : Option ℕ) → no_fault (fault_told (option_or own later)) ≡ (no_fault (fault_told own) >> no_fault (fault_told later))
first_told None later = refl
first_told (Some at) later = refl

-- The same of what the code answers.
pub turn : (rows after : List ℕ) (k : ℕ) (bs : List Bool) (later own : Option ℕ) (b : Bool) (answer : Answer (Unit {0})) → k < length bs
    → bit b ≡ exclusive_by rows (bits bs) k → fault_told own ≡ fault_by rows (bits (set bs k b)) k
    → Judged rows k (bits (set bs k b)) after (no_fault (fault_told (option_or own later))) answer → Judged rows (k + 1) (bits bs) after (no_fault (fault_told later)) answer
turn rows after k bs later own b answer fits e f j =
    let here : k < length (bits bs) = omega (arith, length-map bs bit) in
    let s : bits (set bs k b) ≡ set (bits bs) k (exclusive_by rows (bits bs) k) = map-set bit bs k b ∙ ap (λ v. set (bits bs) k v) e in
    let q : no_fault (fault_told (option_or own later)) ≡ (no_fault (fault_by rows (set (bits bs) k (exclusive_by rows (bits bs) k)) k) >> no_fault (fault_told later)) =
    first_told own later ∙ ap (λ l. no_fault l >> no_fault (fault_told later)) (f ∙ ap (λ t. fault_by rows t k) s) in
    let i : Judged rows k (set (bits bs) k (exclusive_by rows (bits bs) k)) after (no_fault (fault_told (option_or own later))) answer =
    subst (λ t. Judged rows k t after (no_fault (fault_told (option_or own later))) answer) s j in
    one_more rows k (bits bs) after here (subst (λ a. Judged rows k (set (bits bs) k (exclusive_by rows (bits bs) k)) after a answer) q i)

-- A loop's body comes after it.
loops_ordered : (rows : List ℕ) (count k i at : ℕ) (E : Expr) → Node rows count k i at E → tag_at rows k ≡ 5 → k < after_at rows (k + 1)
loops_ordered rows count k i at (action l) n e = absurd (omega (arith, (node_says rows count (action l) n).tag))
loops_ordered rows count k i at (sequence E F) n e = absurd (omega (arith, (node_says rows count (sequence E F) n).tag))
loops_ordered rows count k i at (choice E F) n e = absurd (omega (arith, (node_says rows count (choice E F) n).tag))
loops_ordered rows count k i at (parallel E F) n e = absurd (omega (arith, (node_says rows count (parallel E F) n).tag))
loops_ordered rows count k i at (loop E F G) n e = omega (arith, (node_says rows count E (loop_operands rows count E F G n).0.0).after)
loops_ordered rows count k i at (scope a E) n e = absurd (omega (arith, (node_says rows count (scope a E) n).tag))

-- After the last node the answer is that of the check for loops.
all_judged : {rows before after : List ℕ} {count : ℕ} {answer : Answer (Unit {0})} → Judged rows count before after (good tt) answer
    → (E : Expr) → Table rows count E → answer ≡ check_loops E
unfolding check_loops
all_judged {rows} {before} {after} {count} j E t =
    let n = table_node t in
    let known = j.known count (none_known rows count 1 exclusive_bit before) in
    j.first (λ m h. every rows count (λ k. tag_at rows k ≡ 5 → k < after_at rows (k + 1)) (loops_ordered rows count) _ E n m (omega arith) (omega (arith, t.nodes)))
    ∙ first_alone (all_values (fault_by rows after) 0 count)
    ∙ ap (λ m. no_fault (all_values (fault_by rows after) 0 m)) t.nodes
    ∙ ap no_fault (faults_right rows count after known _ E n).same

pub check_answered : (rows : List ℕ) (count : ℕ) (entry exit : List Bool) (first : Option ℕ) → JudgesDown rows 0 count entry exit None first
    → (E : Expr) → Table rows count E → no_fault (fault_told first) ≡ check_loops E
check_answered rows count entry exit first down = all_judged (down _ _ (none_left rows (bits exit) (no_fault (fault_told first)) refl))
