-- The pass over the rows tests what check 30 asks of the transitions: lists that rise, starts that meet, labels and actions that fit.
-- Row by row: a row's arcs start where they must, or the starts do not meet; and starts that meet never lie behind the arc count.
use Prim.Native.Nat.{ℕ, zero, suc, ◌+◌, ◌≤◌}
use mathlib.Core.Path.{◌≡◌, refl, sym, ap, ap₂, ◌∙◌}
use mathlib.Core.Bool.{Bool, true, false, cond, not, ◌&&◌, ◌||◌}
use native.Mathlib.Omega.{arith}
use borrow.Author.Tests.{eqb-true, le-leb}
use lib.ListN.{take, drop}
use lib.Dec.{T, eqb, leb, eqb→eq}
use Rattle.field.specs.Lists.{all}
use Rattle.field.proofs.Tests.{and_parts, true_T}
use Rattle.field.proofs.Alls.{and_assoc}
use Rattle.algebra.specs.Item.{one, two}
use Rattle.net.specs.Tables.{Tables, number, none, item_of, transition_at, transitions_from}
use Rattle.net.specs.Check.{lists_rise, starts_meet, actions_fit, codes_fit}
use Rattle.net.specs.inner.Passes.{codes_pass, list_passes, row_end, row_passes, rows_pass}

and_true : (a : Bool) → a ≡ (a && true)
and_true true = refl
and_true false = refl

pub and_false : (a : Bool) → false ≡ (a && false)
and_false true = refl
and_false false = refl

actions_are : (i j : ℕ) → (leb i 255 && (leb j 255 || eqb j none)) ≡ actions_fit (item_of i j)
actions_are i j = go (leb i 255) refl (leb j 255) refl (eqb j none)
  where
    go : (a : Bool) → leb i 255 ≡ a → (b : Bool) → leb j 255 ≡ b → (c : Bool) → (a && (b || c)) ≡ actions_fit (cond c (one i) (two i j))
    go true p true q true = sym p
    go true p true q false = sym (ap₂ ◌&&◌ p q)
    go true p false q true = sym p
    go true p false q false = sym (ap₂ ◌&&◌ p q)
    go false p b q true = sym p
    go false p b q false = sym (ap (λ (a : Bool). a && leb j 255) p)

-- Starts that meet do not lie behind the arc count, since they only grow.
pub starts_within : (tables : Tables) (start t n : ℕ) → T (starts_meet tables start t n) → start ≤ tables.arc_count
unfolding starts_meet
starts_within tables start t zero h = omega (arith, eqb→eq start tables.arc_count h)
starts_within tables start t (suc n) h =
    let rest = starts_within tables (start + (number tables t 4 + number tables t 5)) (suc t) n (and_parts (eqb (number tables t 3) start) _ h).1 in
    omega arith

module _ (tables : Tables) where
  pub codes_are : (t : ℕ) → codes_pass (number tables t 0) (number tables t 1) (number tables t 2) ≡ codes_fit (transition_at tables t)
  unfolding codes_fit transition_at
  codes_are t = ap (λ (b : Bool). not (eqb (number tables t 0) 128) && (leb (number tables t 0) 255 && b)) (actions_are (number tables t 1) (number tables t 2))

  lists_are : (t start : ℕ) → number tables t 3 ≡ start
      → (list_passes tables.places (take (number tables t 4) (drop start tables.arcs))
      && list_passes tables.places (take (number tables t 5) (drop (start + number tables t 4) tables.arcs)))
      ≡ lists_rise tables.places (transition_at tables t)
  unfolding list_passes lists_rise transition_at
  lists_are t start e = rw (← e, and_assoc)

  row_started : (t start : ℕ) → eqb (number tables t 3) start ≡ true
      → row_passes tables.rows tables.arcs tables.places tables.arc_count start t
      ≡ (leb (row_end tables.rows start t) tables.arc_count && (codes_fit (transition_at tables t) && lists_rise tables.places (transition_at tables t)))
  unfolding row_passes
  row_started t start e =
      ap₂ (λ (a b : Bool). (a && leb (row_end tables.rows start t) tables.arc_count) && b) e
      (ap₂ ◌&&◌ (codes_are t) (lists_are t start (eqb-true (number tables t 3) start e)))

  row_not_started : (t start : ℕ) → eqb (number tables t 3) start ≡ false
      → row_passes tables.rows tables.arcs tables.places tables.arc_count start t ≡ false
  unfolding row_passes
  row_not_started t start e = rw e

  -- The order in which the parts of a row's test and of the rows behind it stand.
  shuffle : (within codes lists starts all-lists all_codes : Bool) → (starts ≡ true → within ≡ true)
      → ((within && (codes && lists)) && (all-lists && (starts && all_codes))) ≡ ((lists && all-lists) && (starts && (codes && all_codes)))
  shuffle true true true s l c h = refl
  shuffle true true false s l c h = refl
  shuffle true false true s true c h = and_false s
  shuffle true false true s false c h = refl
  shuffle true false false s l c h = refl
  shuffle false codes lists true l c h = absurd (true_T false (h refl))
  shuffle false codes lists false l c h = and_false (lists && l)

  pub rows_are : (start t n : ℕ)
      → rows_pass tables.rows tables.arcs tables.places tables.arc_count start t n
      ≡ (all (lists_rise tables.places) (transitions_from tables t n) && (starts_meet tables start t n && all codes_fit (transitions_from tables t n)))
  unfolding rows_pass transitions_from all starts_meet
  rows_are start t zero = and_true (eqb start tables.arc_count)
  rows_are start t (suc n) = turn (eqb (number tables t 3) start) refl (rows_are (row_end tables.rows start t) (suc t) n)
    where
      later : ℕ
      later = row_end tables.rows start t

      lists : Bool
      lists = all (lists_rise tables.places) (transitions_from tables (suc t) n)

      starts : Bool
      starts = starts_meet tables later (suc t) n

      codes : Bool
      codes = all codes_fit (transitions_from tables (suc t) n)

      turn : (b : Bool) → eqb (number tables t 3) start ≡ b
          → rows_pass tables.rows tables.arcs tables.places tables.arc_count later (suc t) n ≡ (lists && (starts && codes))
          → (row_passes tables.rows tables.arcs tables.places tables.arc_count start t
          && rows_pass tables.rows tables.arcs tables.places tables.arc_count later (suc t) n)
          ≡ ((lists_rise tables.places (transition_at tables t) && lists) && ((b && starts) && (codes_fit (transition_at tables t) && codes)))
      turn true e rest =
          ap₂ ◌&&◌ (row_started t start e) rest
          ∙ shuffle (leb later tables.arc_count) (codes_fit (transition_at tables t)) (lists_rise tables.places (transition_at tables t)) starts lists codes
          (λ m. le-leb later tables.arc_count (starts_within tables later (suc t) n (true_T starts m)))
      turn false e rest =
          ap (λ (b : Bool). b && rows_pass tables.rows tables.arcs tables.places tables.arc_count later (suc t) n) (row_not_started t start e)
          ∙ and_false (lists_rise tables.places (transition_at tables t) && lists)
