-- The numbers of the index at action i are those of row i. True because each row has three numbers, all of 16 bits.
use Prim.Native.Nat.{ℕ, ◌+◌, ◌*◌, ◌≤◌, ◌<◌}
use native.Mathlib.Omega.{arith}
use mathlib.Core.Path.{◌≡◌, refl, sym, ◌∙◌, ap}
use mathlib.Core.List.{List, [], ◌∷◌}
use lib.ListN.{length, get_or, set}
use lib.Seq.{sets}
use borrow.Author.Tests.{le-leb, lt-leb}
use Rattle.field.proofs.NumbersOfRows.{length_numbers, number_of_row, number_past_rows, numbers_set}
use Rattle.net.specs.declared.Side.{Side}
use Rattle.net.specs.declared.Side.TheVariants.{Inputs, Outputs}
use Rattle.spread.specs.declared.Told as declared
use Rattle.spread.specs.inner.Numbers.{told_numbers, told_table, told_on}
use Rattle.spread.specs.inner.Spread.{count_of}
use Rattle.spread.specs.inner.Walk.{index_numbers, index_put}
use Rattle.lists.proofs.RowsPut.{mod_small}

pub index_length : (index : List declared.Told) → length (told_table index) ≡ 3 * length index
index_length index = length_numbers told_numbers 3 (λ r. refl) index

-- ---- what is read
module _ (index : List declared.Told) (i : ℕ) (d : declared.Told) (h : i < length index) where
  number : (j n : ℕ) → n ≡ 3 * i + j → j < 3 → get_or (told_table index) n 0 ≡ get_or (told_numbers (get_or index i d)) j 0
  number j n e l = ap (λ m. get_or (told_table index) m 0) e ∙ number_of_row told_numbers 3 (λ r. refl) index i j d h l

  pub node_of_row : get_or (told_table index) (3 * i) 0 ≡ (get_or index i d).node
  node_of_row = number 0 (3 * i) (omega arith) (omega arith)

  pub count_of_row : (side : Side) → get_or (told_table index) (count_of side i) 0 ≡ told_on side (get_or index i d)
  count_of_row Inputs = number 1 (3 * i + 1) (omega arith) (omega arith)
  count_of_row Outputs = number 2 (3 * i + 2) (omega arith) (omega arith)

-- past the last row
pub past_rows : (index : List declared.Told) (i j n : ℕ) → length index ≤ i → n ≡ 3 * i + j → get_or (told_table index) n 0 ≡ 0
past_rows index i j n h e = ap (λ m. get_or (told_table index) m 0) e ∙ number_past_rows told_numbers 3 (λ r. refl) index i j h

-- ---- what is stored
pub told_stored : (index : List declared.Told) (i : ℕ) {k inputs outputs : ℕ} → k ≤ 65535 → inputs ≤ 65535 → outputs ≤ 65535 → i < length index
    → told_table (set index i (record { node = k; inputs = inputs; outputs = outputs })) ≡ index_put (told_table index) i (index_numbers k inputs outputs)
told_stored index i {k} {inputs} {outputs} a b c h =
    numbers_set told_numbers 3 (λ r. refl) index i (record { node = k; inputs = inputs; outputs = outputs }) h
    ∙ sym (λ t. sets (told_table index) (3 * i) (mod_small k a t ∷ (mod_small inputs b t ∷ (mod_small outputs c t ∷ []))))
    ∙ sym (rw (le-leb (3 * i + 3) (length (told_table index)) (omega (arith, index_length index))) refl)

-- Where the index does not reach nothing is.
pub none_told : (index : List declared.Told) (i : ℕ) (numbers : List ℕ) → length index ≤ i → told_table index ≡ index_put (told_table index) i numbers
none_told index i numbers h = sym (rw (lt-leb (3 * i + 3) (length (told_table index)) (omega (arith, index_length index))) refl)
