-- Each way out of the tests of one field says what is read of it: the refusal, the action, or the operator with the part that its operands stand in.
-- True because the tests on the way are those of the definition, in its order.
use Prim.Native.Nat.{ℕ, suc, ◌+◌, ◌-◌, ◌≤◌, ◌<◌}
use mathlib.Core.Path.{◌≡◌, refl, sym, ap, ◌∙◌}
use mathlib.Core.List.{List, ◌∷◌, ◌++◌}
use mathlib.Core.Logic.{◌⊎◌, inl, inr}
use mathlib.Core.Bool.{Bool, true, false, cond, ◌&&◌, ◌||◌}
use native.Mathlib.Omega.{arith}
use lib.ListN.{length, get_or, take, drop}
use lib.Seq.{get_or-take, get_or-drop, drop-cons}
use lib.Dec.{T, eqb, leb}
use borrow.Author.Tests.{lt-ltb, le-ltb, le-leb, lt-leb, eq-eqb, ne_eqb, leb-false}
use Rattle.field.specs.Limits.{action_limit}
use Rattle.field.specs.Refusals.{field_cut, unknown_tag, wrong_body, wrong_label, too_many_actions}
use Rattle.field.specs.Answer.{Answer, good, refused}
use Rattle.field.specs.Field.{tag_of, length_of, body_of}
use Rattle.field.proofs.Tests.{true_T}
use Rattle.field.proofs.Fields.{body_of_length}
use Rattle.algebra.specs.Expr.{action}
use Rattle.plan.specs.Reading.{is_label, is_name, Tag, action_tag, sequence_tag, choice_tag, parallel_tag, loop_tag, scope_tag, tag_spelt, Part, Reader, read_body}
use Rattle.plan.specs.inner.Fields.{Inside, field_with, IsOperator, HeadIs}
use Rattle.std.specs.Prelude.{Result, Ok, Err}
use Rattle.field.specs.Says.{number_of}
use Rattle.field.specs.declared.Fault.{Fault}
use Rattle.field.specs.declared.Fault.TheVariants.{UnknownTag}
use Rattle.plan.specs.inner.Numbers.{tag_number, spelt}
use Rattle.plan.specs.declared.table.Tag as code
use Rattle.plan.specs.declared.table.Tag.TheVariants.{Action, Sequence, Choice, Parallel, Loop, Scope}
use Rattle.plan.specs.declared.Head.{Head}
use Rattle.plan.specs.declared.Head.TheVariants as head
use Rattle.plan.proofs.Operators.{Operator, sequence_of, choice_of, parallel_of, loop_of, scope_of, tag, number, arity, own, own_named, built}
use Rattle.plan.proofs.ReadBack.{header_passes, own_reads}
use Rattle.plan.proofs.Rows.{own_byte, built_count, built_rows}

-- labels and names

label_128 : (l : ℕ) → l ≡ 128 → is_label l ≡ false
label_128 l e = rw e

other_label : (l : ℕ) → (l ≡ 128 → ⊥) → l < 256 → is_label l ≡ true
other_label l h b = go (leb l 127) refl
  where
    go : (t : Bool) → leb l 127 ≡ t → (t || (leb 129 l && leb l 255)) ≡ true
    go true e = refl
    go false e = let m : 127 < l = leb-false l 127 e in rw (le-leb 129 l (omega arith), le-leb l 255 (omega arith))

no_name : (a : ℕ) → a ≡ 0 → is_name a ≡ false
no_name a e = rw e

high_name : (a : ℕ) → 127 < a → is_name a ≡ false
high_name a h = rw (le-leb 1 a (omega arith), lt-leb a 127 h)

a_name : (a : ℕ) → (a ≡ 0 → ⊥) → a ≤ 127 → is_name a ≡ true
a_name a h i = rw (le-leb 1 a (omega arith), le-leb a 127 i)

-- An operator whose own bytes pass is read by way of its operands.
operator_head : (o : Operator) (s : List ℕ) (at n len : ℕ) → T (own_named o) → body_of s ≡ own o ++ take len (drop (3 + length (own o)) s) → 3 + length_of s ≡ 3 + length (own o) + len
    → IsOperator (number o) (own_byte o) (arity o) (3 + length (own o)) len s at n (λ read. read_body read (tag o) (body_of s) at (3 + length_of s) n)
operator_head o s at n len t e l = record {
  built = λ es. built o es;
  reads = λ read. rw (e, l) (own_reads read o (take len (drop (3 + length (own o)) s)) at (3 + length (own o) + len) n t);
  count = λ es. built_count o es;
  rows = λ k i off es. built_rows o k i off es;
}

-- What a head says of a field it says of every field that is read in the same way.
head_of_same : (r : Result Head Fault) (s : List ℕ) (at n : ℕ) (f g : Reader → Answer Part) → ((read : Reader) → f read ≡ g read) → HeadIs r s at n g → HeadIs r s at n f
head_of_same (Err fault) s at n f g e h = λ read. e read ∙ h read
head_of_same (Ok (head.Action label)) s at n f g e h = λ read. e read ∙ h read
head_of_same (Ok (head.Operator tag byte members start len)) s at n f g e h = record { built = h.built; reads = λ read. e read ∙ h.reads read; count = h.count; rows = h.rows }

-- the ways out of the tests of an action and of a scope

module _ (s : List ℕ) (at len n : ℕ) (h : Inside s len) where
  body_length : length (body_of s) ≡ len
  body_length = body_of_length s (omega (arith, h.fits, h.told)) ∙ sym h.told

  first_byte : 1 ≤ len → get_or (body_of s) 0 0 ≡ get_or s 3 0
  first_byte m = get_or-take (length_of s) (drop 3 s) 0 0 (omega (arith, h.told)) ∙ get_or-drop 3 s 0 0

  module _ (read : Reader) where
    pub action_wrong_body : (len ≡ 1 → ⊥) → read_body read action_tag (body_of s) at (3 + length_of s) n ≡ refused wrong_body at
    unfolding read_body
    action_wrong_body m = rw (ne_eqb (length (body_of s)) 1 (λ e. m (sym body_length ∙ e)))

    pub action_wrong_label : len ≡ 1 → get_or s 3 0 ≡ 128 → read_body read action_tag (body_of s) at (3 + length_of s) n ≡ refused wrong_label at
    unfolding read_body
    action_wrong_label m e = rw (eq-eqb (length (body_of s)) 1 (body_length ∙ m), first_byte (omega arith), label_128 (get_or s 3 0) e)

    pub action_beyond_limit : len ≡ 1 → (get_or s 3 0 ≡ 128 → ⊥) → get_or s 3 0 < 256 → action_limit ≤ n
        → read_body read action_tag (body_of s) at (3 + length_of s) n ≡ refused too_many_actions at
    unfolding read_body
    action_beyond_limit m e b i = rw (eq-eqb (length (body_of s)) 1 (body_length ∙ m), first_byte (omega arith), other_label (get_or s 3 0) e b, le-ltb n action_limit i)

    pub action_read : len ≡ 1 → (get_or s 3 0 ≡ 128 → ⊥) → get_or s 3 0 < 256 → n < action_limit
        → read_body read action_tag (body_of s) at (3 + length_of s) n ≡ good (record { expr = action (get_or s 3 0); bytes = 4; so_far = n + 1 })
    unfolding read_body
    action_read m e b i = rw (eq-eqb (length (body_of s)) 1 (body_length ∙ m), first_byte (omega arith), other_label (get_or s 3 0) e b, lt-ltb n action_limit i, sym h.told, m)

    pub scope_wrong_body : len ≡ 0 → read_body read scope_tag (body_of s) at (3 + length_of s) n ≡ refused wrong_body at
    unfolding read_body
    scope_wrong_body m = rw (lt-leb 1 (length (body_of s)) (omega (arith, body_length)))

    pub scope_no_name : (len ≡ 0 → ⊥) → (is_name (get_or s 3 0)) ≡ false → read_body read scope_tag (body_of s) at (3 + length_of s) n ≡ refused wrong_label at
    unfolding read_body
    scope_no_name m e = rw (le-leb 1 (length (body_of s)) (omega (arith, body_length)), first_byte (omega arith), e)

  pub scope_zero : (len ≡ 0 → ⊥) → get_or s 3 0 ≡ 0 → (read : Reader) → read_body read scope_tag (body_of s) at (3 + length_of s) n ≡ refused wrong_label at
  scope_zero m e read = scope_no_name read m (no_name (get_or s 3 0) e)

  pub scope_high : (len ≡ 0 → ⊥) → 127 < get_or s 3 0 → (read : Reader) → read_body read scope_tag (body_of s) at (3 + length_of s) n ≡ refused wrong_label at
  scope_high m e read = scope_no_name read m (high_name (get_or s 3 0) e)

  pub scope_read : (len ≡ 0 → ⊥) → (get_or s 3 0 ≡ 0 → ⊥) → get_or s 3 0 ≤ 127
      → IsOperator 6 (get_or s 3 0) 1 4 (len - 1) s at n (λ read. read_body read scope_tag (body_of s) at (3 + length_of s) n)
  scope_read m e i =
      let a : drop 3 s ≡ get_or s 3 0 ∷ drop 4 s = drop-cons s 3 0 (omega (arith, h.fits)) in
      let one : length_of s ≡ suc (len - 1) = omega (arith, h.told) in
      operator_head (scope_of (get_or s 3 0)) s at n (len - 1) (true_T (is_name (get_or s 3 0)) (a_name (get_or s 3 0) e i)) (rw (a, one)) (omega arith)

-- the ways out of the tests of every field

-- The code's tags are those of the definition.
abbrev pub meant : code.Tag → Tag
meant Action = action_tag
meant Sequence = sequence_tag
meant Choice = choice_tag
meant Parallel = parallel_tag
meant Loop = loop_tag
meant Scope = scope_tag

abbrev tag_told : Result code.Tag Fault → ℕ → Answer Tag
tag_told (Ok g) at = good (meant g)
tag_told (Err fault) at = refused (number_of fault) at

same_spelling : (t at : ℕ) → tag_spelt t at ≡ tag_told (spelt t) at
unfolding tag_spelt
same_spelling t at = go (eqb t 1) (eqb t 2) (eqb t 3) (eqb t 4) (eqb t 5) (eqb t 6)
  where
    go : (b1 b2 b3 b4 b5 b6 : Bool) →
        cond b1 (good action_tag) (cond b2 (good sequence_tag) (cond b3 (good choice_tag) (cond b4 (good parallel_tag) (cond b5 (good loop_tag) (cond b6 (good scope_tag) (refused unknown_tag at))))))
        ≡ tag_told (cond b1 (Ok Action) (cond b2 (Ok Sequence) (cond b3 (Ok Choice) (cond b4 (Ok Parallel) (cond b5 (Ok Loop) (cond b6 (Ok Scope) (Err UnknownTag))))))) at
    go true b2 b3 b4 b5 b6 = refl
    go false true b3 b4 b5 b6 = refl
    go false false true b4 b5 b6 = refl
    go false false false true b5 b6 = refl
    go false false false false true b6 = refl
    go false false false false false true = refl
    go false false false false false false = refl

module _ (s : List ℕ) (at n : ℕ) where
  pub header_cut : length s < 3 → (read : Reader) → field_with read s at n ≡ refused field_cut at
  unfolding field_with
  header_cut h read = rw (lt-leb 3 (length s) h)

  tag_is : {r q : Result code.Tag Fault} → r ≡ spelt (tag_of s) → r ≡ q → tag_spelt (tag_of s) at ≡ tag_told q at
  tag_is e f = same_spelling (tag_of s) at ∙ ap (λ q. tag_told q at) (sym e ∙ f)

  pub tag_unknown : {r : Result code.Tag Fault} {fault : Fault} → 3 ≤ length s → r ≡ spelt (tag_of s) → r ≡ Err fault → (read : Reader) → field_with read s at n ≡ refused (number_of fault) at
  unfolding field_with
  tag_unknown h e f read = rw (le-leb 3 (length s) h, tag_is e f)

  -- a tag of the table, and a length beyond the enclosing body
  pub length_cut : {r : Result code.Tag Fault} {g : code.Tag} → 3 ≤ length s → r ≡ spelt (tag_of s) → r ≡ Ok g → length s - 3 < length_of s
      → (read : Reader) → field_with read s at n ≡ refused field_cut at
  unfolding field_with
  length_cut h e f l read = rw (le-leb 3 (length s) h, tag_is e f, lt-leb (length_of s) (length s - 3) l)

  -- the tests of the header are passed
  module _ (h : 3 ≤ length s) (room : length_of s ≤ length s - 3) {t : Result code.Tag Fault} (e : t ≡ spelt (tag_of s)) where
    pub body_head : (g : code.Tag) (r : Result Head Fault) → t ≡ Ok g → HeadIs r s at n (λ read. read_body read (meant g) (body_of s) at (3 + length_of s) n)
        → HeadIs r s at n (λ read. field_with read s at n)
    body_head g r f i =
        head_of_same r s at n (λ read. field_with read s at n) (λ read. read_body read (meant g) (body_of s) at (3 + length_of s) n)
        (λ read. header_passes read s at n (meant g) h (tag_is e f) room) i

    -- three operands, or two
    pub loop_head : {g : code.Tag} → t ≡ Ok g → g ≡ Loop → IsOperator (tag_number g) 0 3 3 (length_of s) s at n (λ read. field_with read s at n)
    loop_head f e = rw e (body_head Loop (Ok (head.Operator Loop 0 3 3 (length_of s))) (f ∙ ap Ok e) (operator_head loop_of s at n (length_of s) tt refl refl))

    pub two_operands_head : {g : code.Tag} → t ≡ Ok g → (g ≡ Sequence) ⊎ ((g ≡ Choice) ⊎ (g ≡ Parallel)) → IsOperator (tag_number g) 0 2 3 (length_of s) s at n (λ read. field_with read s at n)
    two_operands_head f (inl e) = rw e (body_head Sequence (Ok (head.Operator Sequence 0 2 3 (length_of s))) (f ∙ ap Ok e) (operator_head sequence_of s at n (length_of s) tt refl refl))
    two_operands_head f (inr (inl e)) = rw e (body_head Choice (Ok (head.Operator Choice 0 2 3 (length_of s))) (f ∙ ap Ok e) (operator_head choice_of s at n (length_of s) tt refl refl))
    two_operands_head f (inr (inr e)) = rw e (body_head Parallel (Ok (head.Operator Parallel 0 2 3 (length_of s))) (f ∙ ap Ok e) (operator_head parallel_of s at n (length_of s) tt refl refl))
