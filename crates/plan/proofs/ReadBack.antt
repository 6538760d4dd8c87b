-- Every expression within the limits reads back from its bytes: no test of its fields fails, and each operand is found where the one before it ends.
-- True by induction over the expression: a field's header gives back its body, and a body gives back its operands one after another.
use Prim.Native.Nat.{ℕ, zero, suc, ◌+◌, ◌-◌, ◌≤◌, ◌<◌}
use mathlib.Core.Path.{◌≡◌, refl, sym, ap, ◌∙◌}
use mathlib.Core.List.{List, [], ◌∷◌, ◌++◌, append-nil}
use mathlib.Core.Bool.{true}
use native.Mathlib.Omega.{arith}
use native.Mathlib.Nat.{add-zero, add_assoc}
use lib.ListN.{length, drop, length-append}
use lib.Seq.{drop_at}
use lib.Dec.{T}
use borrow.Author.Tests.{le-leb, lt-ltb}
use Rattle.field.specs.Limits.{plan_limit, depth_limit, action_limit}
use Rattle.field.specs.Answer.{good, ◌>>=◌}
use Rattle.field.specs.Field.{tag_of, length_of, body_of, field}
use Rattle.field.proofs.Tests.{and_parts, parts_and, T_true}
use Rattle.field.proofs.Fields.{field_length, field_tag_of, field_length_of, field_body_of}
use Rattle.algebra.specs.Expr.{Expr, action, actions}
use Rattle.plan.specs.Reading.{is_label, Tag, action_tag, tag_spelt, Part, Operands, Parts, Reader, read_operands, read_body, read_field, read_plan, is_name}
use Rattle.plan.specs.Loops.{bytes}
use Rattle.plan.specs.Bytes.{encode, depth, named, within_limits}
use Rattle.plan.specs.inner.Fields.{field_with}
use Rattle.plan.proofs.Operators.{Operator, sequence_of, choice_of, parallel_of, loop_of, scope_of, tag, number, arity, own, own_named, built, all_encode, all_bytes, all_actions, all_depth, all_named, number_tag, built_encode, built_bytes, built_actions, built_depth, built_named, Each, by_operators}
use Rattle.plan.proofs.Within.{limits_within}

-- an expression's bytes are as many as are counted
abbrev Counted : Expr → Type 0
Counted E = length (encode E) ≡ bytes E

operands_length : (k : ℕ) (es : Operands k) → Each Counted k es → length (all_encode k es) ≡ all_bytes k es
operands_length zero es h = refl
operands_length (suc k) es h = length-append (encode es.0) (all_encode k es.1) ∙ omega (arith, h.0, operands_length k es.1 h.1)

action_length : (l : ℕ) → Counted (action l)
unfolding encode bytes
action_length l = refl

built_length : (o : Operator) (es : Operands (arity o)) → Each Counted (arity o) es → Counted (built o es)
built_length o es h =
    ap length (built_encode o es) ∙ field_length (number o) (own o ++ all_encode (arity o) es)
    ∙ omega (arith, length-append (own o) (all_encode (arity o) es), operands_length (arity o) es h, built_bytes o es)

pub encode_length : (E : Expr) → length (encode E) ≡ bytes E
encode_length E = by_operators Counted action_length built_length E

-- a field is read by a reader of the fields inside it
pub read_field_with : (d : ℕ) (s : List ℕ) (at n : ℕ) → read_field (suc d) s at n ≡ field_with (read_field d) s at n
unfolding read_field field_with
read_field_with d s at n = refl

-- where the tests of a header are passed, the body is what is read next
pub header_passes : (read : Reader) (s : List ℕ) (at n : ℕ) (g : Tag) → 3 ≤ length s → tag_spelt (tag_of s) at ≡ good g → length_of s ≤ length s - 3
    → field_with read s at n ≡ read_body read g (body_of s) at (3 + length_of s) n
unfolding field_with
header_passes read s at n g h e l = rw (le-leb 3 (length s) h, e, le-leb (length_of s) (length s - 3) l)

header_reads : (d t : ℕ) (g : Tag) (body rest : List ℕ) (at n : ℕ) → tag_spelt t at ≡ good g
    → read_field (suc d) (field t body ++ rest) at n ≡ read_body (read_field d) g body at (3 + length body) n
header_reads d t g body rest at n e =
    let k : length (field t body ++ rest) ≡ 3 + length body + length rest = length-append (field t body) rest ∙ ap (λ (m : ℕ). m + length rest) (field_length t body) in
    let l : length_of (field t body ++ rest) ≡ length body = field_length_of t body rest in
    read_field_with d (field t body ++ rest) at n
    ∙ header_passes (read_field d) (field t body ++ rest) at n g (omega arith) (rw (field_tag_of t body rest) e) (omega arith)
    ∙ rw (field_body_of t body rest, l)

-- what is read of an expression, with so many actions before it
abbrev part : Expr → ℕ → Part
part E n = record { expr = E; bytes = bytes E; so_far = n + actions E }

abbrev Reads : Expr → Type 0
Reads E = (d : ℕ) → depth E ≤ d → T (named E) → (rest : List ℕ) (at n : ℕ) → n + actions E ≤ action_limit → read_field d (encode E ++ rest) at n ≡ good (part E n)

operand_reads : (read : Reader) (k : ℕ) (s : List ℕ) (at n : ℕ) (p : Part) (q : Parts k) → 0 < length s → read s at n ≡ good p
    → read_operands read k (drop p.bytes s) (at + p.bytes) p.so_far ≡ good q
    → read_operands read (suc k) s at n ≡ good (record { operands = (p.expr, q.operands); so_far = q.so_far })
unfolding read_operands
operand_reads read k [] at n p q h e f = absurd (let z : ⊥ = omega arith in z)
operand_reads read k (x ∷ s) at n p q h e f = rw (e, f)

some_bytes : (E : Expr) → 0 < bytes E
unfolding bytes
some_bytes E = by_operators (λ F. 0 < bytes F) (λ l. omega arith) (λ o es h. omega (arith, built_bytes o es)) E

operands_read : (d k : ℕ) (es : Operands k) → Each Reads k es → all_depth k es ≤ d → T (all_named k es) → (at n : ℕ) → n + all_actions k es ≤ action_limit
    → read_operands (read_field d) k (all_encode k es) at n ≡ good (record { operands = es; so_far = n + all_actions k es })
unfolding read_operands
operands_read d zero es h g t at n m = rw (add-zero n)
operands_read d (suc k) es h g t at n m =
    let E = es.0 in
    let rest = all_encode k es.1 in
    let ts = and_parts (named E) (all_named k es.1) t in
    let l : length (encode E) ≡ bytes E = encode_length E in
    let q : Parts k = record { operands = es.1; so_far = n + actions E + all_actions k es.1 } in
    let some : 0 < length (encode E ++ rest) = omega (arith, length-append (encode E) rest, some_bytes E) in
    operand_reads (read_field d) k (encode E ++ rest) at n (part E n) q some (h.0 d (omega arith) ts.0 rest at n (omega arith))
    (rw (drop_at (encode E) rest (bytes E) l) (operands_read d k es.1 h.1 (omega arith) ts.1 (at + bytes E) (n + actions E) (omega arith)))
    ∙ rw (add_assoc n (actions E) (all_actions k es.1))

-- the operator's own bytes pass their tests, and its operands are what is read next
pub own_reads : (read : Reader) (o : Operator) (body : List ℕ) (at b n : ℕ) → T (own_named o)
    → read_body read (tag o) (own o ++ body) at b n ≡ (read_operands read (arity o) body (at + (3 + length (own o))) n >>= λ (p : Parts (arity o)). good (record { expr = built o p.operands; bytes = b; so_far = p.so_far }))
unfolding read_body
own_reads read sequence_of body at b n t = refl
own_reads read choice_of body at b n t = refl
own_reads read parallel_of body at b n t = refl
own_reads read loop_of body at b n t = refl
own_reads read (scope_of a) body at b n t = rw (le-leb 1 (length (a ∷ body)) (omega arith), T_true (is_name a) t)

action_reads : (l : ℕ) → Reads (action l)
unfolding encode depth named actions bytes read_body
action_reads l zero h t rest at n m = absurd (let z : ⊥ = omega arith in z)
action_reads l (suc d) h t rest at n m = header_reads d 1 action_tag (l ∷ []) rest at n (number_tag action_tag at) ∙ rw (T_true (is_label l) t, lt-ltb n action_limit (omega arith))

built_reads : (o : Operator) (es : Operands (arity o)) → Each Reads (arity o) es → Reads (built o es)
built_reads o es h zero g t rest at n m = absurd (let z : ⊥ = omega (arith, built_depth o es) in z)
built_reads o es h (suc d) g t rest at n m =
    let body = own o ++ all_encode (arity o) es in
    let ts = and_parts (own_named o) (all_named (arity o) es) (rw (built_named o es) at t) in
    let ds : all_depth (arity o) es ≤ d = omega (arith, built_depth o es) in
    let ms : n + all_actions (arity o) es ≤ action_limit = omega (arith, built_actions o es) in
    let l : 3 + length body ≡ bytes (built o es) = sym (field_length (number o) body) ∙ ap length (sym (built_encode o es)) ∙ encode_length (built o es) in
    rw (built_encode o es)
    (header_reads d (number o) (tag o) body rest at n (number_tag (tag o) at)
    ∙ own_reads (read_field d) o (all_encode (arity o) es) at (3 + length body) n ts.0
    ∙ rw (operands_read d (arity o) es h ds ts.1 (at + (3 + length (own o))) n ms, l, built_actions o es))

plan_reads : (s : List ℕ) (p : Parts 1) → length s ≤ plan_limit → read_operands (read_field depth_limit) 1 s 0 0 ≡ good p → read_plan s ≡ good p.operands.0
unfolding read_plan
plan_reads s p h e = rw (le-leb (length s) plan_limit h, e)

reads : (E : Expr) → Reads E
reads E = by_operators Reads action_reads built_reads E

pub reads_back : (E : Expr) → T (within_limits E) → read_plan (encode E) ≡ good E
reads_back E t =
    let w = limits_within E t in
    plan_reads (encode E) (record { operands = (E, tt); so_far = 0 + all_actions 1 (E, tt) }) w.short
    (rw append-nil at (operands_read depth_limit 1 (E, tt) (reads E, tt) (omega arith) (parts_and (named E) true w.labelled tt) 0 0 (omega arith)))
