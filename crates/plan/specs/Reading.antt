-- 01, "Plan bytes" and "Refusal numbers": the expression that plan bytes spell, or the first refusal with its offset.
use Rattle.std.specs.Prelude.{ℕ, zero, suc, ◌+◌, ◌-◌, List, [], ◌∷◌, Bool, cond, ◌&&◌, ◌||◌, length, get_or, drop, eqb, leb, ltb}
use Rattle.field.specs.Limits.{plan_limit, depth_limit, action_limit}
use Rattle.field.specs.Refusals.{plan_too_long, operand_due, too_deep, field_cut, unknown_tag, wrong_body, wrong_label, too_many_actions, bytes_after}
use Rattle.field.specs.Answer.{Answer, good, refused, ◌>>=◌, ◌>>◌, check}
use Rattle.field.specs.Field.{tag_of, length_of, body_of}
use Rattle.algebra.specs.Expr.{Expr, action, sequence, choice, parallel, loop, scope}

-- "Label 0 is silent; a in 1..127 is an action, a+128 its conjugate; 128 is no label."
abbrev pub is_label : ℕ → Bool
is_label l = leb l 127 || (leb 129 l && leb l 255)

-- "scope byte outside 1..127" is refused.
abbrev pub is_name : ℕ → Bool
is_name a = leb 1 a && leb a 127

-- The six tags of the table.
pub data Tag : Type 0 where
  action_tag sequence_tag choice_tag parallel_tag loop_tag scope_tag : Tag

-- "unknown tag", with the field's offset.
unfoldable pub tag_spelt : ℕ → ℕ → Answer Tag
tag_spelt t at =
    cond (eqb t 1) (good action_tag)
    (cond (eqb t 2) (good sequence_tag)
    (cond (eqb t 3) (good choice_tag)
    (cond (eqb t 4) (good parallel_tag)
    (cond (eqb t 5) (good loop_tag)
    (cond (eqb t 6) (good scope_tag)
    (refused unknown_tag at))))))

-- What is read of a field: its expression, the bytes that it takes, and the actions so far.
pub record Part : Type 0 where
  pub expr : Expr
  pub bytes : ℕ
  pub so_far : ℕ

-- So many operands, one after another.
abbrev pub Operands : ℕ → Type 0
Operands zero = Unit {0}
Operands (suc k) = Expr × Operands k

-- What is read of a body: its operands and the actions so far.
pub record Parts (k : ℕ) : Type 0 where
  pub operands : Operands k
  pub so_far : ℕ

-- A reader of one field from what is left of the enclosing body, the offset of that, and the actions so far.
abbrev pub Reader : Type 0
Reader = List ℕ → ℕ → ℕ → Answer Part

-- "A field is read by way of its operands and each operand is again a field": so many of them, and no byte after the last.
unfoldable pub read_operands : Reader → (k : ℕ) → List ℕ → ℕ → ℕ → Answer (Parts k)
read_operands read zero [] at n = good (record { operands = tt; so_far = n })
read_operands read zero (x ∷ s) at n = refused bytes_after at
read_operands read (suc k) [] at n = refused operand_due at
read_operands read (suc k) (x ∷ s) at n = do
  p ← read (x ∷ s) at n
  q ← read_operands read k (drop p.bytes (x ∷ s)) (at + p.bytes) p.so_far
  good (record { operands = (p.expr, q.operands); so_far = q.so_far })

-- The body of a field with that tag. "An operand is read from its enclosing body only, handed on as that part."
unfoldable pub read_body : Reader → Tag → List ℕ → ℕ → ℕ → ℕ → Answer Part
unfolding read_operands
read_body read action_tag body at bytes n = do
  check (eqb (length body) 1) wrong_body at
  check (is_label (get_or body 0 0)) wrong_label at
  check (ltb n action_limit) too_many_actions at
  good (record { expr = action (get_or body 0 0); bytes = bytes; so_far = n + 1 })
read_body read sequence_tag body at bytes n = do
  p ← read_operands read 2 body (at + 3) n
  good (record { expr = sequence p.operands.0 p.operands.1.0; bytes = bytes; so_far = p.so_far })
read_body read choice_tag body at bytes n = do
  p ← read_operands read 2 body (at + 3) n
  good (record { expr = choice p.operands.0 p.operands.1.0; bytes = bytes; so_far = p.so_far })
read_body read parallel_tag body at bytes n = do
  p ← read_operands read 2 body (at + 3) n
  good (record { expr = parallel p.operands.0 p.operands.1.0; bytes = bytes; so_far = p.so_far })
read_body read loop_tag body at bytes n = do
  p ← read_operands read 3 body (at + 3) n
  good (record { expr = loop p.operands.0 p.operands.1.0 p.operands.1.1.0; bytes = bytes; so_far = p.so_far })
read_body read scope_tag body at bytes n = do
  check (leb 1 (length body)) wrong_body at
  check (is_name (get_or body 0 0)) wrong_label at
  p ← read_operands read 1 (drop 1 body) (at + 4) n
  good (record { expr = scope (get_or body 0 0) p.operands.0; bytes = bytes; so_far = p.so_far })

-- "the tests of one field as the table runs (2 for the header, 3, 2 for the length)". The first number is the levels that are left: "depth 33".
unfoldable pub read_field : ℕ → Reader
unfolding read_body tag_spelt
read_field zero s at n = refused too_deep at
read_field (suc d) s at n = do
  check (leb 3 (length s)) field_cut at
  t ← tag_spelt (tag_of s) at
  check (leb (length_of s) (length s - 3)) field_cut at
  read_body (read_field d) t (body_of s) at (3 + length_of s) n

-- "A plan is one field." "The outermost field has depth 1."
unfoldable pub read_plan : List ℕ → Answer Expr
unfolding read_field
read_plan s = do
  check (leb (length s) plan_limit) plan_too_long 0
  p ← read_operands (read_field depth_limit) 1 s 0 0
  good p.operands.0
