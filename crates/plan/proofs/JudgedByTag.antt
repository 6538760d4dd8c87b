-- What the code answers for each tag is what `exclusive_by` and `fault_by` say.
-- True because a tag's number settles each test of the definitions.
use Prim.Native.Nat.{ℕ, zero, suc, ◌+◌, ◌≤◌, ◌<◌}
use mathlib.Core.Path.{◌≡◌, refl, sym, ◌∙◌, ap}
use mathlib.Core.List.{List, [], ◌∷◌}
use mathlib.Core.Logic.{◌⊎◌, inl, inr}
use mathlib.Core.Bool.{Bool, true, false, cond}
use lib.ListN.{length, get_or, get_or-map}
use lib.Dec.{eqb}
use borrow.Author.Tests.{ne_eqb}
use native.Mathlib.Omega.{arith}
use Rattle.std.specs.Prelude.{Result, Ok, Err}
use Rattle.field.specs.declared.Fault.{Fault}
use Rattle.plan.specs.declared.table.Row.{Row}
use Rattle.plan.specs.declared.table.Tag.{Tag}
use Rattle.plan.specs.declared.table.Tag.TheVariants.{Action, Sequence, Choice, Parallel, Loop, Scope}
use Rattle.plan.specs.inner.Numbers.{spelt, table_numbers}
use Rattle.plan.specs.inner.Table.{after_at}
use Rattle.plan.specs.inner.Judged.{bit, bits, exclusive_by, fault_by}
use Rattle.plan.proofs.NodeRows.{tag_of_row, at_of_row}

-- Whether a node is exclusive, by its tag, and by what was judged of its first operand and of its second.
abbrev pub by_tag : Result Tag Fault → ℕ → ℕ → ℕ
by_tag (Ok Action) a b = 1
by_tag (Ok Sequence) a b = 1
by_tag (Ok Choice) a b = cond (eqb a 0) 0 b
by_tag (Ok Parallel) a b = 0
by_tag (Ok Loop) a b = 1
by_tag (Ok Scope) a b = a
by_tag (Err e) a b = 1

no_tag : (t n : ℕ) → n ≤ 6 → 6 < t → eqb t n ≡ false
no_tag t n h i = ne_eqb t n (λ e. let z : ⊥ = omega arith in z)

by_number : (t a b : ℕ) → by_tag (spelt t) a b ≡ cond (eqb t 3) (cond (eqb a 0) 0 b) (cond (eqb t 4) 0 (cond (eqb t 6) a 1))
by_number zero a b = refl
by_number (suc zero) a b = refl
by_number (suc (suc zero)) a b = refl
by_number (suc (suc (suc zero))) a b = refl
by_number (suc (suc (suc (suc zero)))) a b = refl
by_number (suc (suc (suc (suc (suc zero))))) a b = refl
by_number (suc (suc (suc (suc (suc (suc zero)))))) a b = refl
by_number (suc (suc (suc (suc (suc (suc (suc n))))))) a b =
    let t : ℕ = suc (suc (suc (suc (suc (suc (suc n)))))) in
    rw (no_tag t 1 (omega arith) (omega arith), no_tag t 2 (omega arith) (omega arith), no_tag t 3 (omega arith) (omega arith), no_tag t 4 (omega arith) (omega arith), no_tag t 5 (omega arith) (omega arith), no_tag t 6 (omega arith) (omega arith))

both_bits : (a b : Bool) → a ≡ true → bit b ≡ cond (eqb (bit a) 0) 0 (bit b)
both_bits a b e = rw e

first_bit : (a b : Bool) → a ≡ false → 0 ≡ cond (eqb (bit a) 0) 0 (bit b)
first_bit a b e = rw e

none_either : (b : Bool) → cond {A = List ℕ} b [] [] ≡ []
none_either true = refl
none_either false = refl

module _ (rows : List Row) (bs : List Bool) (k : ℕ) (d : Row) (h : k < length rows) where
  pub judged_as : {r g : Result Tag Fault} → r ≡ spelt (get_or rows k d).tag → r ≡ g
      → by_tag g (bit (get_or bs (k + 1) false)) (bit (get_or bs (after_at (table_numbers rows) (k + 1)) false)) ≡ exclusive_by (table_numbers rows) (bits bs) k
  unfolding exclusive_by
  judged_as {r} {g} s e =
      let a = get_or-map bit bs (k + 1) false in
      let b = get_or-map bit bs (after_at (table_numbers rows) (k + 1)) false in
      rw (tag_of_row rows k d h, a, b)
      (ap (λ q. by_tag q (bit (get_or bs (k + 1) false)) (bit (get_or bs (after_at (table_numbers rows) (k + 1)) false))) (sym e ∙ s)
      ∙ by_number (get_or rows k d).tag _ _)

  -- an action, a sequence, a loop
  pub always : {r : Result Tag Fault} {g : Tag} → r ≡ spelt (get_or rows k d).tag → r ≡ Ok g → (g ≡ Action) ⊎ ((g ≡ Sequence) ⊎ (g ≡ Loop))
      → 1 ≡ exclusive_by (table_numbers rows) (bits bs) k
  always s e (inl a) = judged_as s (e ∙ ap Ok a)
  always s e (inr (inl a)) = judged_as s (e ∙ ap Ok a)
  always s e (inr (inr a)) = judged_as s (e ∙ ap Ok a)

  -- a choice by its first operand, and by its second

  pub choice_first : {r : Result Tag Fault} {v : Bool} → r ≡ spelt (get_or rows k d).tag → r ≡ Ok Choice → v ≡ get_or bs (k + 1) false → v ≡ false
      → bit v ≡ exclusive_by (table_numbers rows) (bits bs) k
  choice_first s e p z = ap bit z ∙ first_bit _ _ (sym p ∙ z) ∙ judged_as s e

  pub choice_second : {r : Result Tag Fault} {v w : Bool} {m : ℕ} → r ≡ spelt (get_or rows k d).tag → r ≡ Ok Choice → v ≡ get_or bs (k + 1) false → v ≡ true
      → m ≡ after_at (table_numbers rows) (k + 1) → w ≡ get_or bs m false → bit w ≡ exclusive_by (table_numbers rows) (bits bs) k
  choice_second s e p z q w = ap bit (w ∙ ap (λ m. get_or bs m false) q) ∙ both_bits _ _ (sym p ∙ z) ∙ judged_as s e

  -- a loop by its body

  fault_is : {t v : Bool} {m : ℕ} → t ≡ eqb (get_or rows k d).tag 5 → m ≡ after_at (table_numbers rows) (k + 1) → v ≡ get_or bs m false
      → fault_by (table_numbers rows) (bits bs) k ≡ cond t (cond (eqb (bit v) 0) ((get_or rows k d).at ∷ []) []) []
  unfolding fault_by
  fault_is t q w =
      rw (tag_of_row rows k d h, at_of_row rows k d h, get_or-map bit bs (after_at (table_numbers rows) (k + 1)) false, t, w, q)

  pub no_loop : {t : Bool} → t ≡ eqb (get_or rows k d).tag 5 → t ≡ false → [] ≡ fault_by (table_numbers rows) (bits bs) k
  no_loop t f = sym (fault_is {t = false} (sym f ∙ t) refl refl)

  pub loop_fine : {t v : Bool} {m : ℕ} → t ≡ eqb (get_or rows k d).tag 5 → m ≡ after_at (table_numbers rows) (k + 1) → v ≡ get_or bs m false → v ≡ true
      → [] ≡ fault_by (table_numbers rows) (bits bs) k
  loop_fine {t} s q w e = sym (fault_is s q w ∙ rw e (none_either t))

  pub loop_faulty : {t v : Bool} {m at : ℕ} → t ≡ eqb (get_or rows k d).tag 5 → t ≡ true → m ≡ after_at (table_numbers rows) (k + 1) → v ≡ get_or bs m false → v ≡ false
      → at ≡ (get_or rows k d).at → at ∷ [] ≡ fault_by (table_numbers rows) (bits bs) k
  loop_faulty s t q w e o = ap (λ (n : ℕ). n ∷ []) o ∙ sym (fault_is s q w ∙ rw (t, e) refl)
