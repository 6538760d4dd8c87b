-- What the code answers for each tag is the operand that `operand_by` names, and where the operand that holds an action ends.
-- True by the tests that led there: each settles one test of the definition.
use Prim.Native.Nat.{ℕ, zero, suc, ◌+◌, ◌*◌, ◌≤◌, ◌<◌}
use native.Mathlib.Omega.{arith}
use native.Mathlib.Decide.{dec_lt}
use mathlib.Core.Path.{◌≡◌, refl, sym, ◌∙◌, ap}
use mathlib.Core.List.{List}
use lib.ListN.{length, get_or-eq_default}
use lib.Dec.{ltb}
use borrow.Author.Tests.{lt-ltb, le-ltb, ne_eqb}
use mathlib.Core.Logic.{◌⊎◌, inl, inr}
use Rattle.std.specs.Prelude.{Result, Ok, Err, true, false, Bool}
use Rattle.field.specs.declared.Fault.{Fault}
use Rattle.plan.specs.declared.table.Tag.{Tag}
use Rattle.plan.specs.declared.table.Tag.TheVariants.{Action, Sequence, Choice, Parallel, Loop, Scope}
use Rattle.plan.specs.declared.table.Row.{Row}
use Rattle.plan.specs.inner.Numbers.{tag_number, spelt, row_of, first_at}
use Rattle.plan.specs.inner.Table.{tag_at, after_at}
use Rattle.transitions.specs.inner.Parting.{one_of, by_tag, operand_by, SameOperand}

-- ---- tags and their numbers

spelt_number : (g : Tag) → spelt (tag_number g) ≡ Ok g
spelt_number Action = refl
spelt_number Sequence = refl
spelt_number Choice = refl
spelt_number Parallel = refl
spelt_number Loop = refl
spelt_number Scope = refl

pub spelt_of : {n : ℕ} (g : Tag) → n ≡ tag_number g → spelt n ≡ Ok g
spelt_of g e = ap spelt e ∙ spelt_number g

pub same_tag : {g h : Tag} → ◌≡◌ {A = Result Tag Fault} (Ok g) (Ok h) → g ≡ h
same_tag e = cc

module _ {g : Tag} (several : (g ≡ Sequence) ⊎ ((g ≡ Choice) ⊎ ((g ≡ Parallel) ⊎ (g ≡ Loop)))) where
  pub no_action : g ≡ Action → ⊥
  no_action e = elim several [ inl p ↦ cc | inr (inl p) ↦ cc | inr (inr (inl p)) ↦ cc | inr (inr (inr p)) ↦ cc ]

  pub no_scope : g ≡ Scope → ⊥
  no_scope e = elim several [ inl p ↦ cc | inr (inl p) ↦ cc | inr (inr (inl p)) ↦ cc | inr (inr (inr p)) ↦ cc ]

-- A number that is told for a tag is the tag's.
pub number_spelt : (n : ℕ) (g : Tag) → spelt n ≡ Ok g → n ≡ tag_number g
number_spelt zero g h = absurd (cc)
number_spelt (suc zero) g h = let e : Action ≡ g = cc in ap tag_number e
number_spelt (suc (suc zero)) g h = let e : Sequence ≡ g = cc in ap tag_number e
number_spelt (suc (suc (suc zero))) g h = let e : Choice ≡ g = cc in ap tag_number e
number_spelt (suc (suc (suc (suc zero)))) g h = let e : Parallel ≡ g = cc in ap tag_number e
number_spelt (suc (suc (suc (suc (suc zero))))) g h = let e : Loop ≡ g = cc in ap tag_number e
number_spelt (suc (suc (suc (suc (suc (suc zero)))))) g h = let e : Scope ≡ g = cc in ap tag_number e
number_spelt (suc (suc (suc (suc (suc (suc (suc n))))))) g h =
    let m : ℕ = suc (suc (suc (suc (suc (suc (suc n)))))) in
    let none = rw (ne_eqb m 1 (λ e. omega arith), ne_eqb m 2 (λ e. omega arith), ne_eqb m 3 (λ e. omega arith), ne_eqb m 4 (λ e. omega arith), ne_eqb m 5 (λ e. omega arith), ne_eqb m 6 (λ e. omega arith)) at h in
    absurd (cc)

module _ (rows : List ℕ) (k : ℕ) where
  -- A row with a tag stands in the table.
  pub tagged_within : (g : Tag) → spelt (tag_at rows k) ≡ Ok g → 6 * k < length rows
  tagged_within g h = go (dec_lt (6 * k) (length rows))
    where
      go : Dec (6 * k < length rows) → 6 * k < length rows
      go (yes x) = x
      go (no x) =
          let past : length rows ≤ 6 * k + 0 = omega arith in
          let none : spelt (tag_at rows k) ≡ spelt 0 = ap spelt (get_or-eq_default rows 0 past) in
          absurd (cc)

  -- The operand by the tag that the code matches on.
  pub by_its_tag : (i : ℕ) {r : Result Tag Fault} → spelt (tag_at rows k) ≡ r → operand_by rows k i ≡ by_tag r rows k i
  unfolding operand_by
  by_its_tag i e = ap (λ r. by_tag r rows k i) e

module _ (rows : List ℕ) (k : ℕ) {row : Row} {r : Result Tag Fault} (read : row ≡ row_of rows k) (told : r ≡ spelt row.tag) where
  -- What is told of a row's tag.
  pub tag_told : spelt (tag_at rows k) ≡ r
  tag_told = ap (λ q. spelt q.tag) (sym read) ∙ sym told

module _ (rows : List ℕ) (k i : ℕ) {second first : ℕ} (s : second ≡ after_at rows (k + 1)) (f : first ≡ first_at rows second) where
  first_is : first_at rows (after_at rows (k + 1)) ≡ first
  first_is = ap (first_at rows) (sym s) ∙ sym f

  -- An operator with two operands.
  module _ (g : Tag) (told : spelt (tag_at rows k) ≡ Ok g) (two : (g ≡ Sequence) ⊎ ((g ≡ Choice) ⊎ (g ≡ Parallel))) where
    one_operand : operand_by rows k i ≡ one_of rows (k + 1) (after_at rows (k + 1)) i
    one_operand = by_its_tag rows k i told ∙ go two
      where
        go : (g ≡ Sequence) ⊎ ((g ≡ Choice) ⊎ (g ≡ Parallel)) → by_tag (Ok g) rows k i ≡ one_of rows (k + 1) (after_at rows (k + 1)) i
        go (inl e) = ap (λ h. by_tag (Ok h) rows k i) e
        go (inr (inl e)) = ap (λ h. by_tag (Ok h) rows k i) e
        go (inr (inr e)) = ap (λ h. by_tag (Ok h) rows k i) e

    pub first_operand : i < first → k + 1 ≡ operand_by rows k i
    first_operand h = sym (one_operand ∙ rw (first_is, lt-ltb i first h) refl)

    pub second_operand : first ≤ i → second ≡ operand_by rows k i
    second_operand h = sym (one_operand ∙ rw (first_is, le-ltb i first h) (sym s))

  -- A loop.
  module _ (told : spelt (tag_at rows k) ≡ Ok Loop) where
    pub begin_operand : i < first → k + 1 ≡ operand_by rows k i
    begin_operand h = sym (by_its_tag rows k i told ∙ rw (first_is, lt-ltb i first h) refl)

    module _ (behind : first ≤ i) {third last : ℕ} (u : third ≡ after_at rows second) (l : last ≡ first_at rows third) where
      third_is : after_at rows (after_at rows (k + 1)) ≡ third
      third_is = ap (after_at rows) (sym s) ∙ sym u

      pub body_operand : i < last → second ≡ operand_by rows k i
      body_operand h = sym (by_its_tag rows k i told ∙ rw (first_is, le-ltb i first behind, third_is, sym l, lt-ltb i last h) (sym s))

      pub end_operand : last ≤ i → third ≡ operand_by rows k i
      end_operand h = sym (by_its_tag rows k i told ∙ rw (first_is, le-ltb i first behind, third_is, sym l, le-ltb i last h) refl)

-- From j to before the next operand every action is in the operand that holds j.
module _ (rows : List ℕ) (k j : ℕ) {second first : ℕ} (s : second ≡ after_at rows (k + 1)) (f : first ≡ first_at rows second) where
  begins : first_at rows (after_at rows (k + 1)) ≡ first
  begins = ap (first_at rows) (sym s) ∙ sym f

  same_first_by : (r : Result Tag Fault) (m : ℕ) → m < first → j < first → by_tag r rows k m ≡ by_tag r rows k j
  same_first_by (Ok Action) m hi h = refl
  same_first_by (Ok Sequence) m hi h = rw (begins, lt-ltb m first hi, lt-ltb j first h) refl
  same_first_by (Ok Choice) m hi h = rw (begins, lt-ltb m first hi, lt-ltb j first h) refl
  same_first_by (Ok Parallel) m hi h = rw (begins, lt-ltb m first hi, lt-ltb j first h) refl
  same_first_by (Ok Loop) m hi h = rw (begins, lt-ltb m first hi, lt-ltb j first h) refl
  same_first_by (Ok Scope) m hi h = refl
  same_first_by (Err e) m hi h = refl

  pub same_first : j < first → SameOperand rows k j first
  unfolding operand_by
  same_first h m lo hi = same_first_by (spelt (tag_at rows k)) m hi h

  module _ (behind : first ≤ j) {third last : ℕ} (u : third ≡ after_at rows second) (l : last ≡ first_at rows third) where
    ends : first_at rows (after_at rows (after_at rows (k + 1))) ≡ last
    ends = ap (λ q. first_at rows (after_at rows q)) (sym s) ∙ ap (first_at rows) (sym u) ∙ sym l

    -- Behind the first operand what is asked is on which side of the third an action stands.
    same_behind : (b : Bool) (m : ℕ) → first ≤ m → ltb m last ≡ b → ltb j last ≡ b → (r : Result Tag Fault) → by_tag r rows k m ≡ by_tag r rows k j
    same_behind b m lo p q (Ok Action) = refl
    same_behind b m lo p q (Ok Sequence) = rw (begins, le-ltb m first lo, le-ltb j first behind) refl
    same_behind b m lo p q (Ok Choice) = rw (begins, le-ltb m first lo, le-ltb j first behind) refl
    same_behind b m lo p q (Ok Parallel) = rw (begins, le-ltb m first lo, le-ltb j first behind) refl
    same_behind b m lo p q (Ok Loop) = rw (begins, ends, le-ltb m first lo, le-ltb j first behind, p, q) refl
    same_behind b m lo p q (Ok Scope) = refl
    same_behind b m lo p q (Err e) = refl

    pub same_second : j < last → SameOperand rows k j last
    unfolding operand_by
    same_second h m lo hi = same_behind true m (omega arith) (lt-ltb m last hi) (lt-ltb j last h) (spelt (tag_at rows k))

    pub same_last : last ≤ j → (until : ℕ) → SameOperand rows k j until
    unfolding operand_by
    same_last h until m lo hi = same_behind false m (omega arith) (le-ltb m last (omega arith)) (le-ltb j last h) (spelt (tag_at rows k))
