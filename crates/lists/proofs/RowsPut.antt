-- Numbers that are stored one after another stand in the table as they are, and no other number changes; so does a node's row.
-- True by recursion on the numbers, each of which is below the limit, so that `%` changes none.
use Prim.Native.Nat.{ℕ, zero, suc, ◌+◌, ◌*◌, ◌%◌, ◌≤◌, ◌<◌}
use native.Mathlib.Omega.{arith}
use mathlib.Core.Path.{◌≡◌, refl, ◌∙◌, ap}
use mathlib.Core.Logic.{◌⊎◌, inl, inr}
use mathlib.Core.List.{List, [], ◌∷◌}
use lib.ListN.{length, get_or, set, length-set}
use lib.Seq.{sets, length-sets, get_or-set_same, get_or-set_other}
use borrow.Author.Tests.{le-leb}
use Rattle.lists.specs.inner.Lists.{OneList, one_list, Short, list_row, row_of, node_put}

pub mod_small : (x : ℕ) → x ≤ 65535 → x % 65536 ≡ x
mod_small x h = omega arith

pub sets_other : (vs l : List ℕ) (i j : ℕ) → (j < i) ⊎ (i + length vs ≤ j) → get_or (sets l i vs) j 0 ≡ get_or l j 0
sets_other [] l i j h = refl
sets_other (v ∷ vs) l i j (inl h) = sets_other vs (set l i v) (suc i) j (inl (omega arith)) ∙ get_or-set_other l i j v 0 (λ e. omega arith)
sets_other (v ∷ vs) l i j (inr h) = sets_other vs (set l i v) (suc i) j (inr (omega arith)) ∙ get_or-set_other l i j v 0 (λ e. omega arith)

pub sets_at : (vs l : List ℕ) (i j k : ℕ) → k ≡ i + j → j < length vs → i + length vs ≤ length l → get_or (sets l i vs) k 0 ≡ get_or vs j 0
sets_at [] l i j k e h room = absurd (omega arith)
sets_at (v ∷ vs) l i zero k e h room =
    let p : k ≡ i = omega arith in
    ap (λ n. get_or (sets (set l i v) (suc i) vs) n 0) p ∙ sets_other vs (set l i v) (suc i) i (inl (omega arith)) ∙ get_or-set_same l i v 0 (omega arith)
sets_at (v ∷ vs) l i (suc j) k e h room = sets_at vs (set l i v) (suc i) j k (omega arith) (omega arith) (omega (arith, length-set l i v))

-- ---- the row of a node
module _ (lists : List ℕ) (c : ℕ) (entries exits : OneList) (internal : ℕ) (room : 11 * c + 11 ≤ length lists) (ins : Short entries) (outs : Short exits) (low : internal ≤ 65535) where
  abbrev after : List ℕ
  after = node_put lists c entries exits internal

  -- The table reaches.
  put_is : after ≡ sets lists (11 * c) (row_of entries exits internal)
  put_is = rw (le-leb (11 * c + 11) (length lists) room) refl

  pub node_long : length after ≡ length lists
  node_long = ap length put_is ∙ length-sets lists (11 * c) (row_of entries exits internal)

  pub node_kept : (j : ℕ) → (j < 11 * c) ⊎ (11 * c + 11 ≤ j) → get_or after j 0 ≡ get_or lists j 0
  node_kept j h = ap (λ l. get_or l j 0) put_is ∙ sets_other (row_of entries exits internal) lists (11 * c) j h

  number : (j k : ℕ) → k ≡ 11 * c + j → j < 11 → get_or after k 0 ≡ get_or (row_of entries exits internal) j 0
  number j k e h = ap (λ l. get_or l k 0) put_is ∙ sets_at (row_of entries exits internal) lists (11 * c) j k e h room

  pub node_in : list_row after (11 * c) ≡ entries
  node_in =
      let p = number 0 (11 * c) (omega arith) (omega arith) ∙ mod_small entries.base ins.base in
      let q = number 1 (11 * c + 1) (omega arith) (omega arith) ∙ mod_small entries.width ins.width in
      let r = number 2 (11 * c + 2) (omega arith) (omega arith) ∙ mod_small entries.times ins.times in
      let s = number 3 (11 * c + 3) (omega arith) (omega arith) ∙ mod_small entries.step ins.step in
      let t = number 4 (11 * c + 4) (omega arith) (omega arith) ∙ mod_small entries.up ins.up in
      λ i. one_list (p i) (q i) (r i) (s i) (t i)

  pub node_out : list_row after (11 * c + 5) ≡ exits
  node_out =
      let p = number 5 (11 * c + 5) (omega arith) (omega arith) ∙ mod_small exits.base outs.base in
      let q = number 6 (11 * c + 5 + 1) (omega arith) (omega arith) ∙ mod_small exits.width outs.width in
      let r = number 7 (11 * c + 5 + 2) (omega arith) (omega arith) ∙ mod_small exits.times outs.times in
      let s = number 8 (11 * c + 5 + 3) (omega arith) (omega arith) ∙ mod_small exits.step outs.step in
      let t = number 9 (11 * c + 5 + 4) (omega arith) (omega arith) ∙ mod_small exits.up outs.up in
      λ i. one_list (p i) (q i) (r i) (s i) (t i)

  pub node_inner : get_or after (11 * c + 10) 0 ≡ internal
  node_inner = number 10 (11 * c + 10) (omega arith) (omega arith) ∙ mod_small internal low
