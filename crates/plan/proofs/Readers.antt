-- Each way out of the readers of a field and of operands gives what the definition says, and has stored the rows of the nodes that were read.
-- True because the readers go by the definition's cases, and each operand's rows follow those of the one before it.
use Prim.Native.Nat.{ℕ, zero, suc, ◌+◌, ◌*◌, ◌-◌, ◌≤◌, ◌<◌}
use mathlib.Core.Path.{◌≡◌, refl, ap, ◌∙◌}
use mathlib.Core.List.{List, [], ◌∷◌}
use native.Mathlib.Omega.{arith}
use native.Mathlib.Nat.{add-zero, add_assoc, add-sub_cancel_left}
use native.Mathlib.Numerals.{sub-one}
use lib.ListN.{length, take, drop, length-take, length-drop}
use lib.Seq.{sets, take_all, drop-drop}
use Rattle.field.specs.Limits.{action_limit}
use Rattle.field.specs.Refusals.{operand_due, too_deep, bytes_after}
use Rattle.field.specs.Answer.{Answer, good, refused, ◌>>=◌}
use Rattle.field.specs.Says.{number_of}
use Rattle.field.specs.declared.Fault.{Fault}
use Rattle.field.specs.declared.Refusal.{Refusal}
use Rattle.std.specs.Prelude.{Result, Ok, Err}
use Rattle.algebra.specs.Expr.{actions}
use Rattle.plan.specs.Loops.{bytes}
use Rattle.plan.specs.Reading.{Part, Parts, Reader, read_operands, read_field}
use Rattle.plan.specs.inner.Nodes.{row, numbers, node_count, nodes}
use Rattle.plan.specs.inner.Numbers.{tag_number}
use Rattle.plan.specs.inner.Fields.{all_nodes, all_rows, field_with, IsOperator, HeadIs, sizes, field_read, Refuses, FieldFits, FieldIs, OperandsAre}
use Rattle.plan.specs.declared.Head.{Head}
use Rattle.plan.specs.declared.Head.TheVariants as head
use Rattle.plan.specs.declared.FieldRead.{FieldRead}
use Rattle.plan.specs.declared.Sizes.{Sizes}
use Rattle.plan.specs.declared.table.Tag.{Tag}
use Rattle.plan.proofs.ReadBack.{read_field_with}
use Rattle.plan.proofs.Exact.{field_counts}
use Rattle.plan.proofs.Stores.{six, one_row, row_before, rows_after}

pub clash : {A : Type 0} → ◌≡◌ {A = ℕ} 0 1 → A
clash z = absurd (let w : ⊥ = omega arith in w)

-- the lengths of the parts that are handed on

pub body_length : (start len : ℕ) (s : List ℕ) → start + len ≤ length s → length (take (start + len - start) (drop start s)) ≡ len
body_length start len s h = simp (length-take, length-drop) (omega arith)

rest_whole : (u : ℕ) (s : List ℕ) → take (length s - u) (drop u s) ≡ drop u s
rest_whole u s = take_all (length s - u) (drop u s) (simp length-drop (omega arith))

rest_length : (u : ℕ) (s : List ℕ) → length (take (length s - u) (drop u s)) ≡ length s - u
rest_length u s = ap length (rest_whole u s) ∙ length-drop u s

-- the definition's cases, by the tests of the code

no_level : (d : ℕ) (s : List ℕ) (at n : ℕ) → d ≡ 0 → read_field d s at n ≡ refused too_deep at
unfolding read_field
no_level zero s at n e = refl
no_level (suc d) s at n e = absurd (let z : ⊥ = omega arith in z)

a_level : (d : ℕ) (s : List ℕ) (at n : ℕ) → (d ≡ 0 → ⊥) → read_field d s at n ≡ field_with (read_field (d - 1)) s at n
a_level zero s at n e = absurd (e refl)
a_level (suc d) s at n e = rw sub-one (read_field_with d s at n)

-- the ways out of the reader of a field

module _ (d : ℕ) (s : List ℕ) (at n node : ℕ) (t t' : List ℕ) where
  pub field_too_deep : (r : Result FieldRead Refusal) → d ≡ 0 → Refuses r too_deep at → FieldIs (read_field d s at n) r node n at t t'
  field_too_deep r h e = rw (no_level d s at n h) e

  module _ (r : Result Head Fault) (h : d ≡ 0 → ⊥) (i : HeadIs r s at n (λ read. field_with read s at n)) where
    pub field_refused : (q : Result FieldRead Refusal) (fault : Fault) → r ≡ Err fault → Refuses q (number_of fault) at → FieldIs (read_field d s at n) q node n at t t'
    field_refused q fault e f =
        let w : HeadIs (Err fault) s at n (λ read. field_with read s at n) = rw e at i in
        rw (a_level d s at n h, w (read_field (d - 1))) f

    pub field_action : (l : ℕ) → r ≡ Ok (head.Action l) → t' ≡ sets t (6 * node) (six (row 1 l 0 (node + 1) n at))
        → FieldIs (read_field d s at n) (Ok (field_read 4 (node + 1) (n + 1))) node n at t t'
    unfolding node_count nodes
    field_action l e p =
        let w : HeadIs (Ok (head.Action l)) s at n (λ read. field_with read s at n) = rw e at i in
        rw (a_level d s at n h, w (read_field (d - 1))) (refl, p ∙ one_row t node (row 1 l 0 (node + 1) n at))

-- an operator whose operands are refused, or read

module _ (tag byte m start len : ℕ) (s : List ℕ) (at n : ℕ) (f : Reader → Answer Part) (w : IsOperator tag byte m start len s at n f) (node : ℕ) (t t' : List ℕ) where
  operator_refused : (q : Answer (Parts m)) (r : Refusal) → OperandsAre m q (Err r) (node + 1) n (at + start) t t'
      → FieldIs (q >>= λ (p : Parts m). good (record { expr = w.built p.operands; bytes = start + len; so_far = p.so_far })) (Err r) node n at t t'
  operator_refused (good p) r i = let z = i.0 in clash (cc)
  operator_refused (refused k' c') r i = i

  operator_read : (q : Answer (Parts m)) (read : Sizes) (t'' : List ℕ) → OperandsAre m q (Ok read) (node + 1) n (at + start) t t'
      → t'' ≡ sets t' (6 * node) (six (row tag byte m read.nodes n at))
      → FieldIs (q >>= λ (p : Parts m). good (record { expr = w.built p.operands; bytes = start + len; so_far = p.so_far })) (Ok (record { used = start + len; so_far = read })) node n at t t''
  operator_read (refused k c) read t'' i e = absurd i
  operator_read (good p) read t'' i e =
      let es = p.operands in
      let z = i.0 in
      let er : read ≡ sizes (node + 1 + all_nodes m es) p.so_far = cc in
      let a : node + 1 + all_nodes m es ≡ node + (1 + all_nodes m es) = omega arith in
      let en : read.nodes ≡ node + (1 + all_nodes m es) = ap (λ (q : Sizes). q.nodes) er ∙ a in (
        rw (w.count es, er, a) refl,
        e ∙ rw (w.rows node n at es, ← en, i.1) (row_before t node (row tag byte m read.nodes n at) (all_rows m (node + 1) n (at + start) es)),
      )

module _ (d : ℕ) (s : List ℕ) (at n node : ℕ) (t t' : List ℕ) (r : Result Head Fault) (h : d ≡ 0 → ⊥) (i : HeadIs r s at n (λ read. field_with read s at n))
    (tag : Tag) (byte m start len : ℕ) (e : r ≡ Ok (head.Operator tag byte m start len)) (r' : Result Sizes Refusal)
    (o : OperandsAre m (read_operands (read_field (d - 1)) m (take (start + len - start) (drop start s)) (at + start) n) r' (node + 1) n (at + start) t t') where
  is_operator : IsOperator (tag_number tag) byte m start len s at n (λ read. field_with read s at n)
  is_operator = rw e at i

  inside : Answer (Parts m)
  inside = read_operands (read_field (d - 1)) m (take len (drop start s)) (at + start) n

  pub field_operands_refused : (q : Refusal) → r' ≡ Err q → FieldIs (read_field d s at n) (Err q) node n at t t'
  unfolding inside
  field_operands_refused q g =
      rw (a_level d s at n h, is_operator.reads (read_field (d - 1)))
      (operator_refused (tag_number tag) byte m start len s at n (λ read. field_with read s at n) is_operator node t t' inside q (rw (g, add-sub_cancel_left start len) at o))

  pub field_operator : (read : Sizes) (t'' : List ℕ) → r' ≡ Ok read → t'' ≡ sets t' (6 * node) (six (row (tag_number tag) byte m read.nodes n at))
      → FieldIs (read_field d s at n) (Ok (record { used = start + len; so_far = read })) node n at t t''
  unfolding inside
  field_operator read t'' g p =
      rw (a_level d s at n h, is_operator.reads (read_field (d - 1)))
      (operator_read (tag_number tag) byte m start len s at n (λ read. field_with read s at n) is_operator node t t' inside read t'' (rw (g, add-sub_cancel_left start len) at o) p)

-- the ways out of the reader of operands

operands_left_over : (read : Reader) (k : ℕ) (s : List ℕ) (at n node : ℕ) (t t' : List ℕ) (r : Result Sizes Refusal) → Refuses r bytes_after at → k ≡ 0 → 0 < length s
    → OperandsAre k (read_operands read k s at n) r node n at t t'
unfolding read_operands
operands_left_over read zero [] at n node t t' r e h i = absurd (let z : ⊥ = omega arith in z)
operands_left_over read zero (x ∷ s) at n node t t' r e h i = e
operands_left_over read (suc k) s at n node t t' r e h i = absurd (let z : ⊥ = omega arith in z)

operands_done : (read : Reader) (k : ℕ) (s : List ℕ) (at : ℕ) (so_far : Sizes) (t : List ℕ) → k ≡ 0 → length s ≤ 0
    → OperandsAre k (read_operands read k s at so_far.actions) (Ok so_far) so_far.nodes so_far.actions at t t
unfolding read_operands numbers
operands_done read zero [] at so_far t h i = (rw add-zero, refl)
operands_done read zero (x ∷ s) at so_far t h i = absurd (let z : ⊥ = omega arith in z)
operands_done read (suc k) s at so_far t h i = absurd (let z : ⊥ = omega arith in z)

operands_missing : (read : Reader) (k : ℕ) (s : List ℕ) (at n node : ℕ) (t t' : List ℕ) (r : Result Sizes Refusal) → Refuses r operand_due at → (k ≡ 0 → ⊥) → length s ≡ 0
    → OperandsAre k (read_operands read k s at n) r node n at t t'
unfolding read_operands
operands_missing read zero s at n node t t' r e h i = absurd (h refl)
operands_missing read (suc k) [] at n node t t' r e h i = e
operands_missing read (suc k) (x ∷ s) at n node t t' r e h i = absurd (let z : ⊥ = omega arith in z)

-- one operand, and those after it
abbrev with_rest : (k : ℕ) → Answer Part → (ℕ → ℕ → Answer (Parts k)) → Answer (Parts (suc k))
with_rest k f rest = f >>= λ (p : Part). (rest p.bytes p.so_far >>= λ (q : Parts k). good (record { operands = (p.expr, q.operands); so_far = q.so_far }))

operand_refused : (k : ℕ) (f : Answer Part) (rest : ℕ → ℕ → Answer (Parts k)) (q : Refusal) (node n at : ℕ) (t t' : List ℕ) → FieldIs f (Err q) node n at t t'
    → OperandsAre (suc k) (with_rest k f rest) (Err q) node n at t t'
operand_refused k (good p) rest q node n at t t' i = let z = i.0 in clash (cc)
operand_refused k (refused a' c') rest q node n at t t' i = i

-- the rows of the operands after the first are numbered by what the first one has
rest_read : (k : ℕ) (p : Part) (q : Answer (Parts k)) (r : Result Sizes Refusal) (node n at : ℕ) (t t' t'' : List ℕ) → p.bytes ≡ bytes p.expr → p.so_far ≡ n + actions p.expr
    → t' ≡ sets t (6 * node) (numbers (nodes node n at p.expr)) → OperandsAre k q r (node + node_count p.expr) p.so_far (at + p.bytes) t' t''
    → OperandsAre (suc k) (q >>= λ (o : Parts k). good (record { operands = (p.expr, o.operands); so_far = o.so_far })) r node n at t t''
rest_read k p (refused a c) r node n at t t' t'' eb es w i = i
rest_read k p (good o) r node n at t t' t'' eb es w i = (
  i.0 ∙ ap (λ (m : ℕ). Ok (sizes m o.so_far)) (add_assoc node (node_count p.expr) (all_nodes k o.operands)),
  i.1 ∙ rw (w, eb, es) (rows_after t node n at p.expr (all_rows k (node + node_count p.expr) (n + actions p.expr) (at + bytes p.expr) o.operands)),
)

operand_read : (k : ℕ) (f : Answer Part) (rest : ℕ → ℕ → Answer (Parts k)) (r : Result Sizes Refusal) (field : FieldRead) (node n at : ℕ) (t t' t'' : List ℕ)
    → ((p : Part) → f ≡ good p → (p.bytes ≡ bytes p.expr) × (p.so_far ≡ n + actions p.expr))
    → FieldIs f (Ok field) node n at t t' → OperandsAre k (rest field.used field.so_far.actions) r field.so_far.nodes field.so_far.actions (at + field.used) t' t''
    → OperandsAre (suc k) (with_rest k f rest) r node n at t t''
operand_read k (refused a c) rest r field node n at t t' t'' h i o = absurd i
operand_read k (good p) rest r field node n at t t' t'' h i o =
    let z = i.0 in
    let e : field ≡ field_read p.bytes (node + node_count p.expr) p.so_far = cc in
    let (c, s) = h p refl in
    rest_read k p (rest p.bytes p.so_far) r node n at t t' t'' c s i.1 (rw e at o)

operands_refused : (read : Reader) (k : ℕ) (s : List ℕ) (at n node : ℕ) (t t' : List ℕ) (r : Result FieldRead Refusal) (q : Refusal) → (k ≡ 0 → ⊥) → (length s ≡ 0 → ⊥)
    → FieldIs (read s at n) r node n at t t' → r ≡ Err q → OperandsAre k (read_operands read k s at n) (Err q) node n at t t'
unfolding read_operands
operands_refused read zero s at n node t t' r q h i o e = absurd (h refl)
operands_refused read (suc k) [] at n node t t' r q h i o e = absurd (i refl)
operands_refused read (suc k) (x ∷ s) at n node t t' r q h i o e =
    operand_refused k (read (x ∷ s) at n) (λ u b. read_operands read k (drop u (x ∷ s)) (at + u) b) q node n at t t' (rw e at o)

operands_more : (d k : ℕ) (s : List ℕ) (at n node : ℕ) (t t' t'' : List ℕ) (r : Result FieldRead Refusal) (field : FieldRead) (r' : Result Sizes Refusal) → (k ≡ 0 → ⊥) → (length s ≡ 0 → ⊥)
    → FieldIs (read_field d s at n) r node n at t t' → r ≡ Ok field
    → OperandsAre (k - 1) (read_operands (read_field d) (k - 1) (drop field.used s) (at + field.used) field.so_far.actions) r' field.so_far.nodes field.so_far.actions (at + field.used) t' t''
    → OperandsAre k (read_operands (read_field d) k s at n) r' node n at t t''
unfolding read_operands
operands_more d zero s at n node t t' t'' r field r' h i f e o = absurd (h refl)
operands_more d (suc k) [] at n node t t' t'' r field r' h i f e o = absurd (i refl)
operands_more d (suc k) (x ∷ s) at n node t t' t'' r field r' h i f e o =
    operand_read k (read_field d (x ∷ s) at n) (λ u c. read_operands (read_field d) k (drop u (x ∷ s)) (at + u) c) r' field node n at t t' t'' (λ p g. field_counts d (x ∷ s) at n p g)
    (rw e at f) (rw sub-one at o)

-- The operands in front of `from` are read: whatever reads from there those that are due reads all of them.
pub record Left (d k : ℕ) (s : List ℕ) (at n node : ℕ) (t t' : List ℕ) (due from : ℕ) (read : Sizes) : Type 0 where
  pub inside : from ≤ length s
  pub numbered : 3 * read.nodes ≤ 3 * node + from
  pub counted : read.actions ≤ action_limit
  pub rest : (r : Result Sizes Refusal) (t'' : List ℕ)
      → OperandsAre due (read_operands (read_field d) due (drop from s) (at + from) read.actions) r read.nodes read.actions (at + from) t' t''
      → OperandsAre k (read_operands (read_field d) k s at n) r node n at t t''

module _ {d k : ℕ} {s : List ℕ} {at n node : ℕ} {t t' : List ℕ} {due from : ℕ} {read : Sizes} (l : Left d k s at n node t t' due from read) where
  -- what a reader of one field is handed
  abbrev part : List ℕ
  part = take (length s - from) (drop from s)

  some_left : (from ≡ length s → ⊥) → length (drop from s) ≡ 0 → ⊥
  some_left h e = h (omega (arith, l.inside, length-drop from s))

  none_left : length s ≤ from → length (drop from s) ≤ 0
  none_left h = simp length-drop (omega arith)

  pub left_over : (r : Result Sizes Refusal) → due ≡ 0 → from < length s → Refuses r bytes_after (at + from) → OperandsAre k (read_operands (read_field d) k s at n) r node n at t t'
  left_over r e h f = l.rest _ t' (operands_left_over (read_field d) due (drop from s) (at + from) read.actions read.nodes t' t' _ f e (simp length-drop (omega arith)))

  pub all_read : due ≡ 0 → length s ≤ from → OperandsAre k (read_operands (read_field d) k s at n) (Ok read) node n at t t'
  all_read e h = l.rest _ t' (operands_done (read_field d) due (drop from s) (at + from) read t' e (none_left h))

  pub one_missing : (r : Result Sizes Refusal) → 0 < due → from ≡ length s → Refuses r operand_due (at + from) → OperandsAre k (read_operands (read_field d) k s at n) r node n at t t'
  one_missing r h e f = l.rest _ t' (operands_missing (read_field d) due (drop from s) (at + from) read.actions read.nodes t' t' _ f (λ z. omega arith) (simp length-drop (omega arith)))

  module _ (h : 0 < due) (i : from ≡ length s → ⊥) (r : Result FieldRead Refusal) (t'' : List ℕ) (f : FieldIs (read_field d part (at + from) read.actions) r read.nodes read.actions (at + from) t' t'') where
    field_there : FieldIs (read_field d (drop from s) (at + from) read.actions) r read.nodes read.actions (at + from) t' t''
    field_there = rw (rest_whole from s) at f

    pub one_refused : (q : Refusal) → r ≡ Err q → OperandsAre k (read_operands (read_field d) k s at n) (Err q) node n at t t''
    one_refused q e = l.rest _ t'' (operands_refused (read_field d) due (drop from s) (at + from) read.actions read.nodes t' t'' r q (λ z. omega arith) (some_left i) field_there e)

    pub one_read : (field : FieldRead) → r ≡ Ok field → FieldFits r (length part) read.nodes → Left d k s at n node t t'' (due - 1) (from + field.used) field.so_far
    one_read field e g =
        let fits : FieldFits (Ok field) (length part) read.nodes = rw e at g in
        let long : length part ≡ length s - from = rest_length from s in
        record {
          inside = omega (arith, l.inside);
          numbered = omega (arith, l.numbered);
          counted = fits.3;
          rest = λ r' t''' o. l.rest r' t'''
              (operands_more d due (drop from s) (at + from) read.actions read.nodes t' t'' t''' r field r' (λ z. omega arith) (some_left i) field_there e
              (rw (drop-drop field.used from s, add_assoc at from field.used) o));
        }
