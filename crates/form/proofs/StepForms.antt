-- A step field is its header and then its items, in a record and where firing is lent it alone.
-- True by the definitions: the header's tests stand in front of the items in each.
use Prim.Native.Nat.{ℕ, ◌+◌, ◌-◌}
use mathlib.Core.Path.{◌≡◌, refl, sym, ap, ◌∙◌}
use mathlib.Core.List.{List}
use mathlib.Core.Bool.{Bool, true, false, ◌&&◌}
use borrow.Author.Tests.{eq-eqb, ne_eqb}
use lib.ListN.{length, take, drop}
use lib.Dec.{eqb, leb}
use Rattle.field.specs.Refusals.{wrong_tag, wrong_length}
use Rattle.field.specs.Answer.{Answer, good, refused, ◌>>=◌, ◌>>◌, check}
use Rattle.field.specs.Field.{tag_of, length_of, body_of}
use Rattle.field.proofs.Answers.{bind_good, check_good, good_same}
use Rattle.algebra.specs.Item.{Item}
use Rattle.form.specs.Form.{StepRead, check_header, read_items, read_step, read_lent_step}
use Rattle.form.specs.inner.FormSays.{step_head}

-- the step of a body's items
abbrev pub of_items : ℕ → Answer (List Item) → Answer StepRead
of_items n r = r >>= (λ is. good (record { items = is; bytes = 3 + n }))

step_split : (at : ℕ) (s : List ℕ) → read_step at s ≡ (step_head at s >>= (λ n. of_items n (read_items at 0 0 (body_of s))))
unfolding read_step step_head
step_split at s = go (check_header at s) (eqb (tag_of s) 0x20) (leb 1 (length_of s))
  where
    go : (h : Answer (Unit {0})) (b c : Bool)
        → (h >> (check b wrong_tag at >> (check c wrong_length at >> of_items (length_of s) (read_items at 0 0 (body_of s)))))
        ≡ ((h >> (check b wrong_tag at >> (check c wrong_length at >> good (length_of s)))) >>= (λ n. of_items n (read_items at 0 0 (body_of s))))
    go (refused n d) b c = refl
    go (good u) false c = refl
    go (good u) true false = refl
    go (good u) true true = refl

lent_split : (s : List ℕ) → read_lent_step s ≡ (step_head 0 s >>= (λ n. check (eqb n (length s - 3)) wrong_length 0 >> read_items 0 0 0 (body_of s)))
unfolding read_lent_step step_head
lent_split s = go (check_header 0 s) (eqb (tag_of s) 0x20) (leb 1 (length_of s))
  where
    alone : Bool
    alone = eqb (length_of s) (length s - 3)

    go : (h : Answer (Unit {0})) (b c : Bool)
        → (h >> (check b wrong_tag 0 >> (check (c && alone) wrong_length 0 >> read_items 0 0 0 (body_of s))))
        ≡ ((h >> (check b wrong_tag 0 >> (check c wrong_length 0 >> good (length_of s)))) >>= (λ n. check (eqb n (length s - 3)) wrong_length 0 >> read_items 0 0 0 (body_of s)))
    go (refused n d) b c = refl
    go (good u) false c = refl
    go (good u) true false = refl
    go (good u) true true = refl

head_length : (at : ℕ) (s : List ℕ) (n : ℕ) → good n ≡ step_head at s → n ≡ length_of s
unfolding step_head
head_length at s n e =
    let a = bind_good (check_header at s) _ n (sym e) in
    let b = check_good (eqb (tag_of s) 0x20) wrong_tag at _ n a.2 in
    let c = check_good (leb 1 (length_of s)) wrong_length at _ n b.1 in
    sym (good_same (length_of s) n c.1)

module _ (at : ℕ) (s : List ℕ) where
  pub step_refused : (n : ℕ) → refused n at ≡ step_head at s → refused n at ≡ read_step at s
  step_refused n e = sym (step_split at s ∙ rw (← e))

  -- the step of the items that are read of the body of so many bytes
  pub step_items : (n : ℕ) → good n ≡ step_head at s → (q : Answer (List Item)) → q ≡ read_items at 0 0 (take n (drop 3 s)) → of_items n q ≡ read_step at s
  step_items n e q items =
      ap (of_items n) (items ∙ ap (λ (m : ℕ). read_items at 0 0 (take m (drop 3 s))) (head_length at s n e)) ∙ sym (step_split at s ∙ rw (← e))

module _ (s : List ℕ) where
  pub lent_refused : (n : ℕ) → refused n 0 ≡ step_head 0 s → refused n 0 ≡ read_lent_step s
  lent_refused n e = sym (lent_split s ∙ rw (← e))

  pub lent_behind : (n : ℕ) → good n ≡ step_head 0 s → (n ≡ length s - 3 → ⊥) → refused wrong_length 0 ≡ read_lent_step s
  lent_behind n e k = sym (lent_split s ∙ rw (← e, ne_eqb n (length s - 3) k))

  pub lent_items : (n : ℕ) → good n ≡ step_head 0 s → n ≡ length s - 3 → (q : Answer (List Item)) → q ≡ read_items 0 0 0 (take (length s - 3) (drop 3 s)) → q ≡ read_lent_step s
  lent_items n e k q items =
      items ∙ ap (λ (m : ℕ). read_items 0 0 0 (take m (drop 3 s))) (sym k ∙ head_length 0 s n e) ∙ sym (lent_split s ∙ rw (← e, eq-eqb n (length s - 3) k))
