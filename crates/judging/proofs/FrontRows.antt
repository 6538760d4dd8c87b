-- The rows at the front of a table, as numbers, are the numbers at the front, and so are the transitions at the front of a list.
-- True because each row has six numbers, and each transition three.
use Prim.Native.Nat.{ℕ, zero, suc, ◌*◌, ◌≤◌}
use mathlib.Core.Path.{◌≡◌, refl, sym, ap, subst, ◌∙◌}
use mathlib.Core.List.{List, [], ◌∷◌}
use native.Mathlib.Omega.{arith}
use lib.ListN.{length, take}
use lib.Seq.{take-nil, length-take-le}
use Rattle.plan.specs.declared.table.Row.{Row}
use Rattle.algebra.specs.Expr.{Expr}
use Rattle.plan.specs.inner.Numbers.{table_numbers}
use Rattle.plan.specs.inner.Table.{Table}
use Rattle.transitions.specs.declared.Transition.{Transition}
use Rattle.transitions.specs.inner.Numbers.{list_numbers}
use Rattle.transitions.proofs.FlatNumbers.{list_take}

pub front_rows : (n : ℕ) (rows : List Row) → table_numbers (take n rows) ≡ take (6 * n) (table_numbers rows)
front_rows zero rows = refl
front_rows (suc n) [] = sym (take-nil (6 * suc n))
front_rows (suc n) (x ∷ rows) =
    let e : 6 * suc n ≡ suc (suc (suc (suc (suc (suc (6 * n)))))) = omega arith in
    ap (λ l. x.tag ∷ (x.byte ∷ (x.members ∷ (x.after ∷ (x.first ∷ (x.at ∷ l)))))) (front_rows n rows) ∙ ap (λ i. take i (table_numbers (x ∷ rows))) (sym e)

pub front_table : (n : ℕ) (rows : List Row) (E : Expr) → n ≤ length rows → Table (take (6 * n) (table_numbers rows)) n E → Table (table_numbers (take n rows)) (length (take n rows)) E
front_table n rows E h t = subst (λ k. Table (table_numbers (take n rows)) k E) (sym (length-take-le n rows h)) (subst (λ l. Table l n E) (sym (front_rows n rows)) t)

-- The transitions at the front of a list, with how many they are.
pub front_list : (n : ℕ) (list : List Transition) → n ≤ length list → (P : List ℕ → ℕ → Type 0) → P (take (3 * n) (list_numbers list)) n → P (list_numbers (take n list)) (length (take n list))
front_list n list h P p = subst (λ k. P (list_numbers (take n list)) k) (sym (length-take-le n list h)) (subst (λ l. P l n) (sym (list_take n list)) p)
