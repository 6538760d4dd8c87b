-- Every refusal of a plan has one of the code's reasons.
-- True because each test of the definition gives its own, and what comes after a passed test has its own tests.
use Prim.Native.Nat.{ℕ, zero, suc, ◌+◌, ◌-◌}
use mathlib.Core.Path.{refl}
use mathlib.Core.List.{List, [], ◌∷◌}
use mathlib.Core.Bool.{Bool, true, false, cond}
use lib.ListN.{length, get_or, drop}
use lib.Dec.{eqb, leb, ltb}
use Rattle.field.specs.Limits.{plan_limit, depth_limit, action_limit}
use Rattle.field.specs.Answer.{good, refused}
use Rattle.field.specs.Refusals.{plan_too_long, field_cut, wrong_body, wrong_label, too_many_actions, unknown_tag}
use Rattle.field.specs.Field.{tag_of, length_of, body_of}
use Rattle.field.proofs.Faults.{IsKnown, check_known, bind_known}
use Rattle.plan.specs.Reading.{is_label, is_name, Tag, action_tag, sequence_tag, choice_tag, parallel_tag, loop_tag, scope_tag, tag_spelt, Reader, read_operands, read_body, read_field, read_plan}

spelt_known : (t at : ℕ) → IsKnown (tag_spelt t at)
unfolding tag_spelt
spelt_known t at = go (eqb t 1) (eqb t 2) (eqb t 3) (eqb t 4) (eqb t 5) (eqb t 6)
  where
    go : (b1 b2 b3 b4 b5 b6 : Bool) → IsKnown {A = Tag} (cond b1 (good action_tag) (cond b2 (good sequence_tag) (cond b3 (good choice_tag) (cond b4 (good parallel_tag) (cond b5 (good loop_tag) (cond b6 (good scope_tag) (refused unknown_tag at)))))))
    go true b2 b3 b4 b5 b6 = tt
    go false true b3 b4 b5 b6 = tt
    go false false true b4 b5 b6 = tt
    go false false false true b5 b6 = tt
    go false false false false true b6 = tt
    go false false false false false true = tt
    go false false false false false false = refl

abbrev AllKnown : Reader → Type 0
AllKnown read = (s : List ℕ) (at n : ℕ) → IsKnown (read s at n)

operands_known : (read : Reader) → AllKnown read → (k : ℕ) (s : List ℕ) (at n : ℕ) → IsKnown (read_operands read k s at n)
unfolding read_operands
operands_known read h zero [] at n = tt
operands_known read h zero (x ∷ s) at n = refl
operands_known read h (suc k) [] at n = refl
operands_known read h (suc k) (x ∷ s) at n =
    bind_known (read (x ∷ s) at n) _ (h (x ∷ s) at n)
    (λ p. bind_known (read_operands read k (drop p.bytes (x ∷ s)) (at + p.bytes) p.so_far) _ (operands_known read h k (drop p.bytes (x ∷ s)) (at + p.bytes) p.so_far) (λ q. tt))

body_known : (read : Reader) → AllKnown read → (g : Tag) (body : List ℕ) (at bytes n : ℕ) → IsKnown (read_body read g body at bytes n)
unfolding read_body
body_known read h action_tag body at bytes n =
    check_known (eqb (length body) 1) wrong_body at _ refl
    (check_known (is_label (get_or body 0 0)) wrong_label at _ refl (check_known (ltb n action_limit) too_many_actions at _ refl tt))
body_known read h sequence_tag body at bytes n = bind_known (read_operands read 2 body (at + 3) n) _ (operands_known read h 2 body (at + 3) n) (λ p. tt)
body_known read h choice_tag body at bytes n = bind_known (read_operands read 2 body (at + 3) n) _ (operands_known read h 2 body (at + 3) n) (λ p. tt)
body_known read h parallel_tag body at bytes n = bind_known (read_operands read 2 body (at + 3) n) _ (operands_known read h 2 body (at + 3) n) (λ p. tt)
body_known read h loop_tag body at bytes n = bind_known (read_operands read 3 body (at + 3) n) _ (operands_known read h 3 body (at + 3) n) (λ p. tt)
body_known read h scope_tag body at bytes n =
    check_known (leb 1 (length body)) wrong_body at _ refl
    (check_known (is_name (get_or body 0 0)) wrong_label at _ refl
    (bind_known (read_operands read 1 (drop 1 body) (at + 4) n) _ (operands_known read h 1 (drop 1 body) (at + 4) n) (λ p. tt)))

field_known : (d : ℕ) → AllKnown (read_field d)
unfolding read_field
field_known zero s at n = refl
field_known (suc d) s at n =
    check_known (leb 3 (length s)) field_cut at _ refl
    (bind_known (tag_spelt (tag_of s) at) _ (spelt_known (tag_of s) at)
    (λ t. check_known (leb (length_of s) (length s - 3)) field_cut at _ refl
    (body_known (read_field d) (λ s' a m. field_known d s' a m) t (body_of s) at (3 + length_of s) n)))

pub plan_known : (s : List ℕ) → IsKnown (read_plan s)
unfolding read_plan
plan_known s =
    check_known (leb (length s) plan_limit) plan_too_long 0 _ refl
    (bind_known (read_operands (read_field depth_limit) 1 s 0 0) _ (operands_known (read_field depth_limit) (field_known depth_limit) 1 s 0 0) (λ p. tt))
