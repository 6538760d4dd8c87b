-- The numbers of the node table at node k are the fields of row k. True because each row has six numbers.
use Prim.Native.Nat.{ℕ, ◌+◌, ◌*◌, ◌≤◌, ◌<◌}
use mathlib.Core.Path.{◌≡◌, refl}
use mathlib.Core.List.{List}
use native.Mathlib.Omega.{arith}
use lib.ListN.{length, get_or}
use Rattle.field.proofs.NumbersOfRows.{length_numbers, number_of_row, number_past_rows}
use Rattle.plan.specs.declared.table.Row.{Row}
use Rattle.plan.specs.inner.Numbers.{row_numbers, table_numbers, row_of, first_at}
use Rattle.plan.specs.inner.Table.{tag_at, after_at}

pub table_length : (rows : List Row) → length (table_numbers rows) ≡ 6 * length rows
table_length rows = length_numbers row_numbers 6 (λ r. refl) rows

module _ (rows : List Row) (k : ℕ) (d : Row) (h : k < length rows) where
  number : (j : ℕ) → j < 6 → get_or (table_numbers rows) (6 * k + j) 0 ≡ get_or (row_numbers (get_or rows k d)) j 0
  number j l = number_of_row row_numbers 6 (λ r. refl) rows k j d h l

  pub tag_of_row : tag_at (table_numbers rows) k ≡ (get_or rows k d).tag
  tag_of_row = number 0 (omega arith)

  pub byte_of_row : get_or (table_numbers rows) (6 * k + 1) 0 ≡ (get_or rows k d).byte
  byte_of_row = number 1 (omega arith)

  pub members_of_row : get_or (table_numbers rows) (6 * k + 2) 0 ≡ (get_or rows k d).members
  members_of_row = number 2 (omega arith)

  pub after_of_row : after_at (table_numbers rows) k ≡ (get_or rows k d).after
  after_of_row = number 3 (omega arith)

  pub first_of_row : first_at (table_numbers rows) k ≡ (get_or rows k d).first
  first_of_row = number 4 (omega arith)

  pub at_of_row : get_or (table_numbers rows) (6 * k + 5) 0 ≡ (get_or rows k d).at
  at_of_row = number 5 (omega arith)

  -- all six
  pub row_of_row : row_of (table_numbers rows) k ≡ get_or rows k d
  row_of_row = λ i. record { tag = tag_of_row i; byte = byte_of_row i; members = members_of_row i; after = after_of_row i; first = first_of_row i; at = at_of_row i }

-- past the last row each number is 0
pub past_rows : (rows : List Row) (k j : ℕ) → length rows ≤ k → get_or (table_numbers rows) (6 * k + j) 0 ≡ 0
past_rows rows k j h = number_past_rows row_numbers 6 (λ r. refl) rows k j h

pub row_past_rows : (rows : List Row) (k : ℕ) → length rows ≤ k → row_of (table_numbers rows) k ≡ record { tag = 0; byte = 0; members = 0; after = 0; first = 0; at = 0 }
row_past_rows rows k h = λ i. record {
  tag = past_rows rows k 0 h i;
  byte = past_rows rows k 1 h i;
  members = past_rows rows k 2 h i;
  after = past_rows rows k 3 h i;
  first = past_rows rows k 4 h i;
  at = past_rows rows k 5 h i;
}
