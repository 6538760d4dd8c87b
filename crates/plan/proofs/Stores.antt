-- What the reader stores is the node table: a row stored in front of the rows of its operands, and the rows of one operand before those of the next.
-- True because stores at different places may change places, and a run of stores is the run of its parts.
use Prim.Native.Nat.{ℕ, suc, ◌+◌, ◌*◌, ◌≤◌, ◌<◌}
use mathlib.Core.Path.{◌≡◌, refl, sym, ap, ◌∙◌}
use mathlib.Core.List.{List, [], ◌∷◌, ◌++◌}
use native.Mathlib.Omega.{arith}
use lib.ListN.{length, set}
use lib.Seq.{sets, set_comm}
use Rattle.field.proofs.NumbersOfRows.{numbers_set}
pub use Rattle.field.proofs.NumbersOfRows.{sets_append}
use Rattle.algebra.specs.Expr.{Expr}
use denote.Enum.Declared.{tag_of}
use Rattle.plan.specs.contracts.table.Tag.{the_type}
use Rattle.plan.specs.declared.table.Tag.{Tag}
use Rattle.plan.specs.declared.table.Tag.TheVariants.{Action, Sequence, Choice, Parallel, Loop, Scope}
use Rattle.plan.specs.declared.table.Row as code
use Rattle.plan.specs.inner.Nodes.{Row, numbers, node_count, nodes}
use Rattle.plan.specs.inner.Numbers.{tag_number, row_numbers, table_numbers}
use Rattle.plan.proofs.Rows.{numbers_append, numbers_length, nodes_length}

-- a store before a run of stores may be done after it
set_sets : (l : List ℕ) (i j v : ℕ) (xs : List ℕ) → j < i → set (sets l i xs) j v ≡ sets (set l j v) i xs
set_sets l i j v [] h = refl
set_sets l i j v (x ∷ xs) h =
    set_sets (set l i x) (suc i) j v xs (omega arith)
    ∙ ap (λ (m : List ℕ). sets m (suc i) xs) (set_comm l i j x v (λ e. let z : ⊥ = omega arith in z))

sets_sets : (l : List ℕ) (i j : ℕ) (xs ys : List ℕ) → j + length ys ≤ i → sets (sets l i xs) j ys ≡ sets (sets l j ys) i xs
sets_sets l i j xs [] h = refl
sets_sets l i j xs (y ∷ ys) h =
    ap (λ (m : List ℕ). sets m (suc j) ys) (set_sets l i j y xs (omega arith)) ∙ sets_sets (set l j y) i (suc j) xs ys (omega arith)

-- a row that is stored is its six numbers stored
pub row_stored : (rows : List code.Row) (k : ℕ) (r : code.Row) → k < length rows → table_numbers (set rows k r) ≡ sets (table_numbers rows) (6 * k) (row_numbers r)
row_stored rows k r h = numbers_set row_numbers 6 (λ q. refl) rows k r h

abbrev pub six : Row → List ℕ
six r = r.tag ∷ (r.byte ∷ (r.members ∷ (r.after ∷ (r.first ∷ (r.at ∷ [])))))

pub one_row : (l : List ℕ) (k : ℕ) (r : Row) → sets l (6 * k) (six r) ≡ sets l (6 * k) (numbers (r ∷ []))
unfolding numbers
one_row l k r = refl

-- an operator's row, stored after the rows of its operands, stands before them
pub row_before : (l : List ℕ) (k : ℕ) (r : Row) (rs : List Row) → sets (sets l (6 * (k + 1)) (numbers rs)) (6 * k) (six r) ≡ sets l (6 * k) (numbers (r ∷ rs))
unfolding numbers
row_before l k r rs =
    let i : 6 * k + 6 ≡ 6 * (k + 1) = omega arith in
    sets_sets l (6 * (k + 1)) (6 * k) (numbers rs) (six r) (omega arith)
    ∙ ap (λ (j : ℕ). sets (sets l (6 * k) (six r)) j (numbers rs)) (sym i)
    ∙ sym (sets_append l (6 * k) (six r) (numbers rs))

-- the rows of an expression, and then those of the next ones
pub rows_after : (l : List ℕ) (k i at : ℕ) (E : Expr) (rs : List Row)
    → sets (sets l (6 * k) (numbers (nodes k i at E))) (6 * (k + node_count E)) (numbers rs) ≡ sets l (6 * k) (numbers (nodes k i at E ++ rs))
rows_after l k i at E rs =
    let n : 6 * k + length (numbers (nodes k i at E)) ≡ 6 * (k + node_count E) = omega (arith, numbers_length (nodes k i at E), nodes_length E k i at) in
    ap (λ (j : ℕ). sets (sets l (6 * k) (numbers (nodes k i at E))) j (numbers rs)) (sym n)
    ∙ sym (sets_append l (6 * k) (numbers (nodes k i at E)) (numbers rs))
    ∙ ap (λ (q : List ℕ). sets l (6 * k) q) (sym (numbers_append (nodes k i at E) rs))

-- the code's number of a tag is 01's
pub tag_stored : (g : Tag) → tag_of the_type g + 1 ≡ tag_number g
tag_stored Action = refl
tag_stored Sequence = refl
tag_stored Choice = refl
tag_stored Parallel = refl
tag_stored Loop = refl
tag_stored Scope = refl
