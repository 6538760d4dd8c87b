-- The numbers of a table of counts at node k are the counts of row k. True because each row has three numbers.
use Prim.Native.Nat.{ℕ, ◌+◌, ◌*◌, ◌≤◌, ◌<◌}
use native.Mathlib.Omega.{arith}
use native.Mathlib.Nat.{add-zero, mul-le-mul}
use mathlib.Core.Path.{◌≡◌, refl, sym, ◌∙◌, ap}
use mathlib.Core.List.{List}
use lib.ListN.{length, get_or, set}
use lib.Seq.{sets}
use Rattle.field.proofs.NumbersOfRows.{length_numbers, number_of_row, number_past_rows, numbers_set}
use Rattle.boxes.specs.declared.counts.Counts.{Counts}
use Rattle.boxes.specs.inner.Counted.{counts, row_numbers, counts_numbers, counts_at}

pub same_counts : {a b c d e f : ℕ} → a ≡ d → b ≡ e → c ≡ f → counts a b c ≡ counts d e f
same_counts p q r = λ k. record { entries = p k; internals = q k; exits = r k }

-- No product of two numbers of 16 bits is too large for 32.
pub product_fits : {a b : ℕ} → a ≤ 65535 → b ≤ 65535 → a * b ≤ 4294836225
product_fits {a} {b} p q = let z : a * b ≤ 65535 * 65535 = mul-le-mul p q in omega arith

pub counts_length : (table : List Counts) → length (counts_numbers table) ≡ 3 * length table
counts_length table = length_numbers row_numbers 3 (λ c. refl) table

module _ (table : List Counts) (k : ℕ) where
  first_number : get_or (counts_numbers table) (3 * k + 0) 0 ≡ get_or (counts_numbers table) (3 * k) 0
  first_number = ap (λ i. get_or (counts_numbers table) i 0) (add-zero (3 * k))

  pub counts_of_row : (d : Counts) → k < length table → counts_at (counts_numbers table) k ≡ get_or table k d
  counts_of_row d h =
      let number : (j : ℕ) → j < 3 → get_or (counts_numbers table) (3 * k + j) 0 ≡ get_or (row_numbers (get_or table k d)) j 0
      = λ j l. number_of_row row_numbers 3 (λ c. refl) table k j d h l in
      same_counts (sym first_number ∙ number 0 (omega arith)) (number 1 (omega arith)) (number 2 (omega arith))

  pub counts_past_rows : length table ≤ k → counts_at (counts_numbers table) k ≡ counts 0 0 0
  counts_past_rows h =
      let number : (j : ℕ) → get_or (counts_numbers table) (3 * k + j) 0 ≡ 0 = λ j. number_past_rows row_numbers 3 (λ c. refl) table k j h in
      same_counts (sym first_number ∙ number 0) (number 1) (number 2)

  pub counts_stored : (c : Counts) → k < length table → counts_numbers (set table k c) ≡ sets (counts_numbers table) (3 * k) (row_numbers c)
  counts_stored c h = numbers_set row_numbers 3 (λ c. refl) table k c h
