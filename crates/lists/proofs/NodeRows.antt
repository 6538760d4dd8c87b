-- The numbers of the table of lists at node k are those of row k. True because each node has eleven numbers, all of 16 bits.
use Prim.Native.Nat.{ℕ, ◌+◌, ◌*◌, ◌%◌, ◌≤◌, ◌<◌}
use native.Mathlib.Omega.{arith}
use mathlib.Core.Path.{◌≡◌, refl, sym, ◌∙◌, ap}
use mathlib.Core.List.{List}
use lib.ListN.{length, get_or, set}
use borrow.Author.Tests.{le-leb, lt-leb}
use Rattle.field.proofs.NumbersOfRows.{length_numbers, number_of_row, number_past_rows, numbers_set}
use Rattle.net.specs.declared.Side.{Side}
use Rattle.net.specs.declared.Side.TheVariants.{Inputs, Outputs}
use Rattle.lists.specs.declared.Node.{Node}
use Rattle.lists.specs.inner.Lists.{OneList, one_list, Short, ShortNode, cut, list_row, node_row, node_put, place_of}
use Rattle.lists.specs.inner.Numbers.{node_numbers, node_table, list_on}
use Rattle.lists.proofs.RowsPut.{mod_small}

pub table_length : (nodes : List (Node ℕ)) → length (node_table nodes) ≡ 11 * length nodes
table_length nodes = length_numbers node_numbers 11 (λ r. refl) nodes

-- ---- what is read
module _ (nodes : List (Node ℕ)) (k : ℕ) (d : Node ℕ) (h : k < length nodes) where
  abbrev here : Node ℕ
  here = get_or nodes k d

  number : (j n : ℕ) → n ≡ 11 * k + j → j < 11 → get_or (node_table nodes) n 0 ≡ get_or (node_numbers here) j 0
  number j n e l = ap (λ i. get_or (node_table nodes) i 0) e ∙ number_of_row node_numbers 11 (λ r. refl) nodes k j d h l

  pub list_of_row : (side : Side) → list_row (node_table nodes) (place_of side k) ≡ list_on side here
  list_of_row Inputs =
      let a = number 0 (11 * k) (omega arith) (omega arith) in
      let b = number 1 (11 * k + 1) (omega arith) (omega arith) in
      let c = number 2 (11 * k + 2) (omega arith) (omega arith) in
      let e = number 3 (11 * k + 3) (omega arith) (omega arith) in
      let f = number 4 (11 * k + 4) (omega arith) (omega arith) in
      λ i. one_list (a i) (b i) (c i) (e i) (f i)
  list_of_row Outputs =
      let a = number 5 (11 * k + 5) (omega arith) (omega arith) in
      let b = number 6 (11 * k + 5 + 1) (omega arith) (omega arith) in
      let c = number 7 (11 * k + 5 + 2) (omega arith) (omega arith) in
      let e = number 8 (11 * k + 5 + 3) (omega arith) (omega arith) in
      let f = number 9 (11 * k + 5 + 4) (omega arith) (omega arith) in
      λ i. one_list (a i) (b i) (c i) (e i) (f i)

  pub node_of_row : node_row (node_table nodes) k ≡ here
  node_of_row =
      let a = list_of_row Inputs in
      let b = list_of_row Outputs in
      let c = number 10 (11 * k + 10) (omega arith) (omega arith) in
      λ i. record { entries = a i; exits = b i; internal = c i }

-- past the last row
pub past_rows : (nodes : List (Node ℕ)) (side : Side) (k : ℕ) → length nodes ≤ k → get_or (node_table nodes) (place_of side k) 0 ≡ 0
past_rows nodes Inputs k h =
    let e : 11 * k ≡ 11 * k + 0 = omega arith in ap (λ m. get_or (node_table nodes) m 0) e ∙ number_past_rows node_numbers 11 (λ r. refl) nodes k 0 h
past_rows nodes Outputs k h = number_past_rows node_numbers 11 (λ r. refl) nodes k 5 h

-- ---- what is stored
-- Any lists: each number in 16 bits, as `node_put` has them.
pub any_stored : (nodes : List (Node ℕ)) (c : ℕ) (entries exits : OneList) (internal : ℕ) → c < length nodes
    → node_table (set nodes c (record { entries = cut entries; exits = cut exits; internal = internal % 65536 })) ≡ node_put (node_table nodes) c entries exits internal
any_stored nodes c entries exits internal h =
    numbers_set node_numbers 11 (λ r. refl) nodes c (record { entries = cut entries; exits = cut exits; internal = internal % 65536 }) h
    ∙ sym (rw (le-leb (11 * c + 11) (length (node_table nodes)) (omega (arith, table_length nodes))) refl)

cut_small : {s : OneList} → Short s → cut s ≡ s
cut_small {s} h =
    let a = mod_small s.base h.base in
    let b = mod_small s.width h.width in
    let c = mod_small s.times h.times in
    let d = mod_small s.step h.step in
    let e = mod_small s.up h.up in
    λ i. one_list (a i) (b i) (c i) (d i) (e i)

-- A node whose numbers fit 16 bits: as it is.
pub node_stored : (nodes : List (Node ℕ)) (c : ℕ) {n : Node ℕ} → ShortNode n → c < length nodes
    → node_table (set nodes c n) ≡ node_put (node_table nodes) c n.entries n.exits n.internal
node_stored nodes c {n} short h =
    let a = cut_small short.entries in
    let b = cut_small short.exits in
    let i = mod_small n.internal short.internal in
    sym (λ t. node_table (set nodes c (record { entries = a t; exits = b t; internal = i t }))) ∙ any_stored nodes c n.entries n.exits n.internal h

-- Where the table does not reach nothing is.
pub none_stored : (nodes : List (Node ℕ)) (c : ℕ) (entries exits : OneList) (internal : ℕ) → length nodes ≤ c → node_table nodes ≡ node_put (node_table nodes) c entries exits internal
none_stored nodes c entries exits internal h = sym (rw (lt-leb (11 * c + 11) (length (node_table nodes)) (omega (arith, table_length nodes))) refl)
