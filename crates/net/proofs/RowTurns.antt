-- A turn and the end of the pass over the rows, and what one row is asked.
-- True by the clauses of the passes: the rows from t on are row t and the rows behind it.
use Prim.Native.Nat.{ℕ, suc, ◌+◌, ◌-◌, ◌≤◌, ◌<◌}
use mathlib.Core.Path.{◌≡◌, sym, ap, ap₂, ◌∙◌}
use mathlib.Core.List.{List}
use mathlib.Core.Bool.{Bool, true, false, ◌&&◌}
use native.Mathlib.Numerals.{add-one}
use native.Mathlib.Omega.{arith}
use borrow.Author.Tests.{eq-eqb, ne_eqb, le-leb, lt-leb}
use lib.ListN.{take, drop}
use lib.Dec.{eqb, leb, leb→le}
use Rattle.field.proofs.Tests.{and_parts, T_true, true_T}
use Rattle.net.specs.inner.Chains.{in_row}
use Rattle.net.proofs.RowsPass.{and_false}
use Rattle.net.specs.inner.Passes.{codes_pass, list_passes, row_end, row_passes, rows_pass}

-- What the test before a look at the lists says of where they end.
pub looked_within : (third start end arc_count : ℕ) → (eqb third start && leb end arc_count) ≡ true → end ≤ arc_count
looked_within third start end arc_count e = leb→le end arc_count (and_parts (eqb third start) (leb end arc_count) (true_T _ e)).1

module _ (rows arcs : List ℕ) (places arc_count start t : ℕ) where
  pub rows_turn : (n : ℕ) → t < n
      → rows_pass rows arcs places arc_count start t (n - t) ≡ (row_passes rows arcs places arc_count start t && rows_pass rows arcs places arc_count (row_end rows start t) (t + 1) (n - (t + 1)))
  unfolding rows_pass
  rows_turn n h = let left : n - t ≡ suc (n - (t + 1)) = omega arith in rw (left, add-one t)

  pub rows_end : (n : ℕ) → n ≤ t → rows_pass rows arcs places arc_count start t (n - t) ≡ eqb start arc_count
  unfolding rows_pass
  rows_end n h = let left : n - t ≡ 0 = omega arith in rw left

  -- A row that passes ends within the arcs.
  pub row_within : row_passes rows arcs places arc_count start t ≡ true → row_end rows start t ≤ arc_count
  unfolding row_passes
  row_within e =
      looked_within (in_row rows t 3) start (row_end rows start t) arc_count
      (T_true _ (and_parts (eqb (in_row rows t 3) start && leb (row_end rows start t) arc_count) _ (true_T _ e)).0)

  -- The three numbers of the row that say where its lists lie.
  module _ (third ins outs : ℕ) (is-third : third ≡ in_row rows t 3) (are-ins : ins ≡ in_row rows t 4) (are-outs : outs ≡ in_row rows t 5) where
    pub row_looked : third ≡ start → start + ins + outs ≤ arc_count
        → row_passes rows arcs places arc_count start t
        ≡ (codes_pass (in_row rows t 0) (in_row rows t 1) (in_row rows t 2)
        && (list_passes places (take (start + ins - start) (drop start arcs)) && list_passes places (take (start + ins + outs - (start + ins)) (drop (start + ins) arcs))))
    unfolding row_passes
    row_looked here within =
        let y : (eqb third start && leb (start + (ins + outs)) arc_count) ≡ true = ap₂ ◌&&◌ (eq-eqb third start here) (le-leb (start + (ins + outs)) arc_count (omega arith)) in
        let n : start + ins - start ≡ ins = omega arith in
        let m : start + ins + outs - (start + ins) ≡ outs = omega arith in
        rw (← is-third, ← are-ins, ← are-outs, y, n, m)

    -- Its arcs start elsewhere, or end behind the net's.
    pub row_elsewhere : (third ≡ start → ⊥) → false ≡ row_passes rows arcs places arc_count start t
    unfolding row_passes
    row_elsewhere h = let y = ne_eqb third start h in rw (← is-third, ← are-ins, ← are-outs, y)

    pub row_beyond : arc_count < start + ins + outs → false ≡ row_passes rows arcs places arc_count start t
    unfolding row_passes
    row_beyond h =
        let y : (eqb third start && leb (start + (ins + outs)) arc_count) ≡ false =
        ap (λ (b : Bool). eqb third start && b) (lt-leb (start + (ins + outs)) arc_count (omega arith)) ∙ sym (and_false (eqb third start)) in
        rw (← is-third, ← are-ins, ← are-outs, y)
