-- Reading accepts nothing else: what is read is within the limits, takes all the bytes of the plan, and its bytes are the plan's.
-- True by induction over the levels that are left: each test that was passed is one part of this, and operands take their part of the body whole.
use Prim.Native.Nat.{ℕ, zero, suc, ◌+◌, ◌-◌, ◌≤◌, ◌<◌}
use mathlib.Core.Path.{◌≡◌, refl, sym, ap, ap₂, ◌∙◌, subst}
use mathlib.Core.List.{List, [], ◌∷◌, ◌++◌, append-nil}
use mathlib.Core.Bool.{Bool, true, false, cond}
use native.Mathlib.Omega.{arith}
use lib.ListN.{length, get_or, take, drop, length-append, length-drop, take-append-drop}
use lib.Seq.{drop-cons}
use lib.Dec.{T, eqb, leb, ltb}
use borrow.Author.Tests.{leb-true, ltb-true, eqb-true}
use Rattle.field.specs.Limits.{plan_limit, depth_limit, action_limit}
use Rattle.field.specs.Answer.{Answer, good, refused, ◌>>=◌}
use Rattle.field.specs.Refusals.{plan_too_long, operand_due, too_deep, field_cut, unknown_tag, wrong_body, wrong_label, too_many_actions, bytes_after}
use Rattle.field.specs.Field.{tag_of, length_of, body_of, field}
use Rattle.field.proofs.Answers.{good_not_refused, check_good, bind_good, good_same}
use Rattle.field.proofs.Tests.{and_parts, parts_and, true_T}
use Rattle.field.proofs.Fields.{field_front, body_of_length}
use Rattle.algebra.specs.Expr.{Expr, action, actions}
use Rattle.plan.specs.Reading.{is_label, is_name, Tag, action_tag, sequence_tag, choice_tag, parallel_tag, loop_tag, scope_tag, tag_spelt, Part, Parts, Reader, read_operands, read_body, read_field, read_plan}
use Rattle.plan.specs.Loops.{bytes}
use Rattle.plan.specs.Bytes.{encode, depth, named, within_limits}
use Rattle.plan.proofs.Operators.{Operator, sequence_of, choice_of, parallel_of, loop_of, scope_of, tag_number, tag, number, arity, own, own_named, built, all_encode, all_bytes, all_actions, all_depth, all_named, built_encode, built_bytes, built_actions, built_depth, built_named}
use Rattle.plan.proofs.Within.{Within, within_the_limits}
use Rattle.plan.proofs.ReadBack.{encode_length}
use Rattle.field.proofs.AreBytes.{AreBytes, drop_are_bytes, take_are_bytes, rest_are_bytes}

one_byte : (s : List ℕ) → length s ≡ 1 → s ≡ get_or s 0 0 ∷ []
one_byte [] e = absurd (let z : ⊥ = omega arith in z)
one_byte (x ∷ []) e = refl
one_byte (x ∷ y ∷ s) e = absurd (let z : ⊥ = omega arith in z)

tag_or_next : (t k : ℕ) (f g : Tag) (r : Answer Tag) → k ≡ tag_number f → (r ≡ good g → t ≡ tag_number g) → cond (eqb t k) (good f) r ≡ good g → t ≡ tag_number g
tag_or_next t k f g r e h = go (eqb t k) refl
  where
    go : (b : Bool) → eqb t k ≡ b → cond b (good f) r ≡ good g → t ≡ tag_number g
    go true i j = eqb-true t k i ∙ e ∙ ap tag_number (good_same f g j)
    go false i j = h j

tag_at_number : (t at : ℕ) (g : Tag) → tag_spelt t at ≡ good g → t ≡ tag_number g
unfolding tag_spelt
tag_at_number t at g =
    tag_or_next t 1 action_tag g _ refl
    (tag_or_next t 2 sequence_tag g _ refl
    (tag_or_next t 3 choice_tag g _ refl
    (tag_or_next t 4 parallel_tag g _ refl
    (tag_or_next t 5 loop_tag g _ refl
    (tag_or_next t 6 scope_tag g _ refl
    (λ e. good_not_refused (refused unknown_tag at) g unknown_tag at e refl))))))

-- what is read of a field is the expression whose bytes stand there
record Says (d : ℕ) (s : List ℕ) (n : ℕ) (p : Part) : Type 0 where
  counted : p.bytes ≡ bytes p.expr
  fits : p.bytes ≤ length s
  numbered : p.so_far ≡ n + actions p.expr
  few : n ≤ action_limit → p.so_far ≤ action_limit
  shallow : depth p.expr ≤ d
  labelled : T (named p.expr)
  front : AreBytes s → take p.bytes s ≡ encode p.expr

-- what is read of a body is the operands whose bytes it has
record AllSay (d k : ℕ) (s : List ℕ) (n : ℕ) (p : Parts k) : Type 0 where
  counted : length s ≡ all_bytes k p.operands
  numbered : p.so_far ≡ n + all_actions k p.operands
  few : n ≤ action_limit → p.so_far ≤ action_limit
  shallow : all_depth k p.operands ≤ d
  labelled : T (all_named k p.operands)
  whole : AreBytes s → s ≡ all_encode k p.operands

-- an operand at the front of a body, and the operands after it
next_says : (d k : ℕ) (s : List ℕ) (n : ℕ) (f : Part) (r : Parts k) → Says d s n f → AllSay d k (drop f.bytes s) f.so_far r
    → AllSay d (suc k) s n (record { operands = (f.expr, r.operands); so_far = r.so_far })
next_says d k s n f r h i = record {
  counted = omega (arith, length-drop f.bytes s, h.counted, h.fits, i.counted);
  numbered = omega (arith, h.numbered, i.numbered);
  few = λ m. i.few (h.few m);
  shallow = omega (arith, h.shallow, i.shallow);
  labelled = parts_and (named f.expr) (all_named k r.operands) h.labelled i.labelled;
  whole = λ b. sym (take-append-drop f.bytes s) ∙ ap₂ (λ (u v : List ℕ). u ++ v) (h.front b) (i.whole (drop_are_bytes f.bytes s b));
}

abbrev Right : ℕ → Reader → Type 0
Right d read = (s : List ℕ) (at n : ℕ) (p : Part) → read s at n ≡ good p → Says d s n p

operands_say : (d : ℕ) (read : Reader) → Right d read → (k : ℕ) (s : List ℕ) (at n : ℕ) (p : Parts k) → read_operands read k s at n ≡ good p → AllSay d k s n p
unfolding read_operands
operands_say d read h zero [] at n p e =
    subst (λ (q : Parts zero). AllSay d zero [] n q) (good_same _ p e)
    (record { counted = refl; numbered = omega arith; few = λ m. m; shallow = omega arith; labelled = tt; whole = λ b. refl })
operands_say d read h zero (x ∷ s) at n p e = good_not_refused (refused bytes_after at) p bytes_after at e refl
operands_say d read h (suc k) [] at n p e = good_not_refused (refused operand_due at) p operand_due at e refl
operands_say d read h (suc k) (x ∷ s) at n p e =
    let (f, fe, g) = bind_good (read (x ∷ s) at n) _ p e in
    let (r, re, i) = bind_good (read_operands read k (drop f.bytes (x ∷ s)) (at + f.bytes) f.so_far) _ p g in
    subst (λ (q : Parts (suc k)). AllSay d (suc k) (x ∷ s) n q) (good_same _ p i)
    (next_says d k (x ∷ s) n f r (h (x ∷ s) at n f fe) (operands_say d read h k (drop f.bytes (x ∷ s)) (at + f.bytes) f.so_far r re))

-- the tests of a header that was read
record Header (s : List ℕ) (g : Tag) : Type 0 where
  long : 3 ≤ length s
  tagged : tag_of s ≡ tag_number g
  room : length_of s ≤ length s - 3

header_front : (s : List ℕ) (g : Tag) → Header s g → AreBytes s → take (3 + length_of s) s ≡ field (tag_number g) (body_of s)
header_front s g h b = rw h.tagged at (field_front s h.long h.room (b 2 h.long))

body_are_bytes : (s : List ℕ) → AreBytes s → AreBytes (body_of s)
body_are_bytes s b = take_are_bytes (length_of s) (drop 3 s) (drop_are_bytes 3 s b)

-- the operands behind an operator's own bytes
operator_says : (d : ℕ) (o : Operator) (s body : List ℕ) (n : ℕ) (q : Parts (arity o)) → Header s (tag o) → T (own_named o) → body_of s ≡ own o ++ body
    → AllSay d (arity o) body n q → Says (suc d) s n (record { expr = built o q.operands; bytes = 3 + length_of s; so_far = q.so_far })
operator_says d o s body n q h t e a =
    let l : length_of s ≡ length (own o) + length body = sym (body_of_length s h.room) ∙ ap length e ∙ length-append (own o) body in
    record {
      counted = omega (arith, built_bytes o q.operands, a.counted);
      fits = omega (arith, h.long, h.room);
      numbered = omega (arith, built_actions o q.operands, a.numbered);
      few = a.few;
      shallow = omega (arith, built_depth o q.operands, a.shallow);
      labelled = rw (built_named o q.operands) (parts_and (own_named o) (all_named (arity o) q.operands) t a.labelled);
      front = λ b.
          let w : body ≡ all_encode (arity o) q.operands = a.whole (rest_are_bytes (own o) body (rw e at (body_are_bytes s b))) in
          header_front s (tag o) h b ∙ ap (field (number o)) (e ∙ ap (λ (u : List ℕ). own o ++ u) w) ∙ sym (built_encode o q.operands);
    }

action_says : (d : ℕ) (s : List ℕ) (n : ℕ) → Header s action_tag → length (body_of s) ≡ 1 → T (is_label (get_or (body_of s) 0 0)) → n < action_limit
    → Says (suc d) s n (record { expr = action (get_or (body_of s) 0 0); bytes = 3 + length_of s; so_far = n + 1 })
unfolding bytes actions depth named encode
action_says d s n h e t m =
    let l : length_of s ≡ 1 = sym (body_of_length s h.room) ∙ e in
    record {
      counted = omega arith;
      fits = omega (arith, h.long, h.room);
      numbered = refl;
      few = λ i. omega arith;
      shallow = omega arith;
      labelled = t;
      front = λ b. header_front s action_tag h b ∙ ap (field 1) (one_byte (body_of s) e);
    }

operator_read : (d : ℕ) (read : Reader) → Right d read → (o : Operator) (s body : List ℕ) (at n : ℕ) (p : Part) → Header s (tag o) → T (own_named o) → body_of s ≡ own o ++ body
    → (read_operands read (arity o) body at n >>= λ (q : Parts (arity o)). good (record { expr = built o q.operands; bytes = 3 + length_of s; so_far = q.so_far })) ≡ good p
    → Says (suc d) s n p
operator_read d read r o s body at n p h t e f =
    let (q, g, i) = bind_good (read_operands read (arity o) body at n) _ p f in
    subst (λ (m : Part). Says (suc d) s n m) (good_same _ p i) (operator_says d o s body n q h t e (operands_say d read r (arity o) body at n q g))

body_says : (d : ℕ) (read : Reader) → Right d read → (g : Tag) (s : List ℕ) (at n : ℕ) (p : Part) → Header s g
    → read_body read g (body_of s) at (3 + length_of s) n ≡ good p → Says (suc d) s n p
unfolding read_body
body_says d read r action_tag s at n p h e =
    let (one, f) = check_good (eqb (length (body_of s)) 1) wrong_body at _ p e in
    let (label, f') = check_good (is_label (get_or (body_of s) 0 0)) wrong_label at _ p f in
    let (few, f'') = check_good (ltb n action_limit) too_many_actions at _ p f' in
    subst (λ (m : Part). Says (suc d) s n m) (good_same _ p f'')
    (action_says d s n h (eqb-true (length (body_of s)) 1 one) (true_T (is_label (get_or (body_of s) 0 0)) label) (ltb-true n action_limit few))
body_says d read r sequence_tag s at n p h e = operator_read d read r sequence_of s (body_of s) (at + 3) n p h tt refl e
body_says d read r choice_tag s at n p h e = operator_read d read r choice_of s (body_of s) (at + 3) n p h tt refl e
body_says d read r parallel_tag s at n p h e = operator_read d read r parallel_of s (body_of s) (at + 3) n p h tt refl e
body_says d read r loop_tag s at n p h e = operator_read d read r loop_of s (body_of s) (at + 3) n p h tt refl e
body_says d read r scope_tag s at n p h e =
    let (some, f) = check_good (leb 1 (length (body_of s))) wrong_body at _ p e in
    let (name, f') = check_good (is_name (get_or (body_of s) 0 0)) wrong_label at _ p f in
    operator_read d read r (scope_of (get_or (body_of s) 0 0)) s (drop 1 (body_of s)) (at + 4) n p h (true_T (is_name (get_or (body_of s) 0 0)) name)
    (drop-cons (body_of s) 0 0 (leb-true 1 (length (body_of s)) some)) f'

field_says : (d : ℕ) → Right d (read_field d)
unfolding read_field
field_says zero s at n p e = good_not_refused (refused too_deep at) p too_deep at e refl
field_says (suc d) s at n p e =
    let (long, f) = check_good (leb 3 (length s)) field_cut at _ p e in
    let (g, ge, f') = bind_good (tag_spelt (tag_of s) at) _ p f in
    let (room, f'') = check_good (leb (length_of s) (length s - 3)) field_cut at _ p f' in
    let h : Header s g = record { long = leb-true 3 (length s) long; tagged = tag_at_number (tag_of s) at g ge; room = leb-true (length_of s) (length s - 3) room } in
    body_says d (read_field d) (λ t a m q i. field_says d t a m q i) g s at n p h f''

-- what is read of a field, and of operands, is counted as the expressions are
pub field_counts : (d : ℕ) (s : List ℕ) (at n : ℕ) (p : Part) → read_field d s at n ≡ good p → (p.bytes ≡ bytes p.expr) × (p.so_far ≡ n + actions p.expr)
field_counts d s at n p e = let w = field_says d s at n p e in (w.counted, w.numbered)

pub operands_count : (d k : ℕ) (s : List ℕ) (at n : ℕ) (p : Parts k) → read_operands (read_field d) k s at n ≡ good p → p.so_far ≡ n + all_actions k p.operands
operands_count d k s at n p e = (operands_say d (read_field d) (field_says d) k s at n p e).numbered

-- what is read of a whole plan
record PlanSays (s : List ℕ) (E : Expr) : Type 0 where
  counted : bytes E ≡ length s
  within : Within E
  whole : AreBytes s → s ≡ encode E

plan_parts : (s : List ℕ) (E : Expr) → read_plan s ≡ good E
    → (p : Parts 1) × (length s ≤ plan_limit) × (read_operands (read_field depth_limit) 1 s 0 0 ≡ good p) × (p.operands.0 ≡ E)
unfolding read_plan
plan_parts s E e =
    let (short, f) = check_good (leb (length s) plan_limit) plan_too_long 0 _ E e in
    let (p, g, i) = bind_good (read_operands (read_field depth_limit) 1 s 0 0) _ E f in
    (p, leb-true (length s) plan_limit short, g, good_same _ E i)

plan_says : (s : List ℕ) (E : Expr) → read_plan s ≡ good E → PlanSays s E
plan_says s E e =
    let (p, short, g, i) = plan_parts s E e in
    let a = operands_say depth_limit (read_field depth_limit) (field_says depth_limit) 1 s 0 0 p g in
    let F : Expr = p.operands.0 in
    let c : length s ≡ bytes F + 0 = a.counted in
    let few : p.so_far ≤ action_limit = a.few (omega arith) in
    subst (λ (G : Expr). PlanSays s G) i (record {
      counted = omega arith;
      within = record {
        short = omega (arith, encode_length F);
        shallow = omega (arith, a.shallow);
        few = omega (arith, a.numbered);
        labelled = (and_parts (named F) true a.labelled).0;
      };
      whole = λ b. a.whole b ∙ append-nil (encode F);
    })

pub read_length : (s : List ℕ) (E : Expr) → read_plan s ≡ good E → bytes E ≡ length s
read_length s E e = (plan_says s E e).counted

pub read_within : (s : List ℕ) (E : Expr) → read_plan s ≡ good E → T (within_limits E)
read_within s E e = within_the_limits E (plan_says s E e).within

pub read_exact : (s : List ℕ) (E : Expr) → ((i : ℕ) → i < length s → get_or s i 0 < 256) → read_plan s ≡ good E → s ≡ encode E
read_exact s E b e = (plan_says s E e).whole b
