-- What a record holds in place of a step is refused with 21, 22, 23 or 24.
-- True because the reading of a step refuses only by its own tests, and each of them has one of these numbers.
use Prim.Native.Nat.{ℕ, zero, suc, ◌-◌, ◌≤◌}
use native.Mathlib.Omega.{arith}
use mathlib.Core.Bool.{Bool, true, false, cond}
use mathlib.Core.List.{List, [], ◌∷◌}
use lib.ListN.{length}
use lib.Dec.{eqb, leb}
use Rattle.field.specs.Refusals.{record_field_cut, wrong_tag, wrong_length, not_rising}
use Rattle.field.specs.Answer.{Answer, good, refused, ◌>>=◌, check}
use Rattle.field.specs.Field.{tag_of, length_of, body_of}
use Rattle.algebra.specs.Item.{Item, first}
use Rattle.form.specs.Form.{check_header, one_tag, two_tag, item_tag, action_count, item_spelt, read_item, read_items, StepRead, read_step, Recorded, ends, step, no_step, one_more, read_steps}
use Rattle.replay.specs.Recorded.{After, now, later}

abbrev pub FormNumber : ℕ → Type 0
FormNumber n = (21 ≤ n) × (n ≤ 24)

-- A refusal, if there is one, is one of form.
abbrev ByForm : {A : Type 0} → Answer A → Type 0
ByForm (good a) = Unit {0}
ByForm (refused n c) = FormNumber n

by_check : (b : Bool) (n c : ℕ) → FormNumber n → ByForm (check b n c)
by_check true n c h = tt
by_check false n c h = h

then : {A B : Type 0} (r : Answer A) (f : A → Answer B) → ByForm r → ((a : A) → ByForm (f a)) → ByForm (r >>= f)
then (good a) f h g = g a
then (refused n c) f h g = h

cut : FormNumber record_field_cut
cut = (omega arith, omega arith)

tag : FormNumber wrong_tag
tag = (omega arith, omega arith)

long : FormNumber wrong_length
long = (omega arith, omega arith)

falls : FormNumber not_rising
falls = (omega arith, omega arith)

header_form : (at : ℕ) (s : List ℕ) → ByForm (check_header at s)
unfolding check_header
header_form at s = then (check (leb 3 (length s)) record_field_cut at) _ (by_check (leb 3 (length s)) record_field_cut at cut) (λ u. by_check (leb (length_of s) (length s - 3)) record_field_cut at cut)

tag_form : (at t : ℕ) → ByForm (item_tag at t)
unfolding item_tag
tag_form at t = go (eqb t 0x21) (eqb t 0x22)
  where
    go : (a b : Bool) → ByForm (cond a (good one_tag) (cond b (good two_tag) (refused wrong_tag at)))
    go true b = tt
    go false true = tt
    go false false = tag

item_form : (at least : ℕ) (s : List ℕ) → ByForm (read_item at least s)
unfolding read_item
item_form at least s =
    then (check_header at s) _ (header_form at s) (λ u. then (item_tag at (tag_of s)) _ (tag_form at (tag_of s)) (λ t.
    then (check (eqb (length_of s) (action_count t)) wrong_length at) _ (by_check (eqb (length_of s) (action_count t)) wrong_length at long) (λ u.
    then (check (leb least (first (item_spelt t s))) not_rising at) _ (by_check (leb least (first (item_spelt t s))) not_rising at falls) (λ u. tt))))

items_form : (at passed least : ℕ) (s : List ℕ) → ByForm (read_items at passed least s)
unfolding read_items
items_form at passed least [] = tt
items_form at zero least (x ∷ s) =
    then (read_item at least (x ∷ s)) _ (item_form at least (x ∷ s)) (λ r. then (read_items at (r.bytes - 1) (suc (first r.item)) s) _ (items_form at (r.bytes - 1) (suc (first r.item)) s) (λ is. tt))
items_form at (suc k) least (x ∷ s) = items_form at k least s

step_form : (at : ℕ) (s : List ℕ) → ByForm (read_step at s)
unfolding read_step
step_form at s =
    then (check_header at s) _ (header_form at s) (λ u. then (check (eqb (tag_of s) 0x20) wrong_tag at) _ (by_check (eqb (tag_of s) 0x20) wrong_tag at tag) (λ u.
    then (check (leb 1 (length_of s)) wrong_length at) _ (by_check (leb 1 (length_of s)) wrong_length at long) (λ u.
    then (read_items at 0 0 (body_of s)) _ (items_form at 0 0 (body_of s)) (λ is. tt))))

-- What stands at the end of a record's steps, if it is no step, is refused so.
abbrev pub FormsIn : Recorded → Type 0
FormsIn ends = Unit {0}
FormsIn (step S R) = FormsIn R
FormsIn (no_step n c) = FormNumber n

pub steps_form : (at passed : ℕ) (s : List ℕ) → FormsIn (read_steps at passed s)
unfolding read_steps
steps_form at passed [] = tt
steps_form at zero (x ∷ s) = go (read_step at (x ∷ s)) (step_form at (x ∷ s)) (λ bytes. steps_form (suc at) (bytes - 1) s)
  where
    go : (r : Answer StepRead) → ByForm r → ((bytes : ℕ) → FormsIn (read_steps (suc at) (bytes - 1) s)) → FormsIn (one_more r (λ bytes. read_steps (suc at) (bytes - 1) s))
    go (good r) h f = f r.bytes
    go (refused n c) h f = h
steps_form at (suc k) (x ∷ s) = steps_form (suc at) k s

pub after_form : {k : ℕ} {R Q : Recorded} {Ss : List (List Item)} → After k R Ss Q → FormsIn R → FormsIn Q
after_form now h = h
after_form (later a) h = after_form a h
