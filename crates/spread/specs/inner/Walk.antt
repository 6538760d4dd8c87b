-- What the pass over the node table puts for each node. These definitions follow the code.
use Rattle.std.specs.Prelude.{ℕ, ◌+◌, ◌*◌, ◌%◌, ◌≤◌, ◌≡◌, cond, List, [], ◌∷◌, Result, Ok, Err, length, leb}
use Rattle.std.proofs.lemmas.List.Edits.{sets}
use Rattle.field.specs.declared.Fault.{Fault}
use Rattle.plan.specs.declared.table.Tag.{Tag}
use Rattle.plan.specs.declared.table.Tag.TheVariants.{Action, Sequence, Choice, Parallel, Loop, Scope}
use Rattle.plan.specs.inner.Table.{after_at}
use Rattle.arcs.specs.inner.Moves.{Kind, Entry, Internal, Exit, Operand, First, Second, Third, Move, shift, sequence_move, choice_move, parallel_move, loop_move}
use Rattle.boxes.specs.inner.Counted.{counts_at}
use Rattle.arcs.specs.inner.Spreads.{Spread, placed}
use Rattle.net.specs.declared.Side.{Side}
use Rattle.net.specs.declared.Side.TheVariants.{Inputs, Outputs}
use Rattle.boxes.specs.declared.counts.Counts.{Counts}
use Rattle.lists.specs.inner.Lists.{one_list, list_row, node_put, operand_put, place_of, Means}

abbrev pub root_put : Counts → List ℕ → List ℕ
root_put c lists = node_put lists 0 (one_list 0 1 0 0 0) (one_list (c.entries + c.internals) 1 0 0 0) c.entries

-- Each operand's lists are lowered from the node's as they stand in the table before.
abbrev pub one_put : List ℕ → ℕ → List ℕ
one_put lists k = operand_put lists lists k (k + 1) (shift Entry 0) (shift Exit 0) 0

abbrev pub two_put : (Operand → Kind → Counts → Counts → Move) → List ℕ → ℕ → ℕ → Counts → Counts → List ℕ
two_put m lists k second e f =
    operand_put lists (operand_put lists lists k (k + 1) (m First Entry e f) (m First Exit e f) (m First Internal e f).off)
    k second (m Second Entry e f) (m Second Exit e f) (m Second Internal e f).off

abbrev pub three_put : List ℕ → ℕ → ℕ → ℕ → Counts → Counts → Counts → List ℕ
three_put lists k second third e f g =
    operand_put lists
    (operand_put lists (operand_put lists lists k (k + 1) (loop_move First Entry e f g) (loop_move First Exit e f g) 0)
    k second (loop_move Second Entry e f g) (loop_move Second Exit e f g) e.internals)
    k third (loop_move Third Entry e f g) (loop_move Third Exit e f g) (e.internals + f.internals)

-- Those of the two operands behind a node, as the tables tell.
abbrev pub both_put : (Operand → Kind → Counts → Counts → Move) → List ℕ → List ℕ → ℕ → List ℕ → List ℕ
both_put m rows counts k lists =
    let second = after_at rows (k + 1) in
    two_put m lists k second (counts_at counts (k + 1)) (counts_at counts second)

abbrev pub all_three_put : List ℕ → List ℕ → ℕ → List ℕ → List ℕ
all_three_put rows counts k lists =
    let second = after_at rows (k + 1) in
    let third = after_at rows second in
    three_put lists k second third (counts_at counts (k + 1)) (counts_at counts second) (counts_at counts third)

-- By the node's tag; no row of a plan that is no action has another tag than these.
abbrev pub operands_put : List ℕ → List ℕ → ℕ → Result Tag Fault → List ℕ → List ℕ
operands_put rows counts k (Ok Action) lists = both_put (λ o kind e f. parallel_move o kind e) rows counts k lists
operands_put rows counts k (Ok Sequence) lists = both_put sequence_move rows counts k lists
operands_put rows counts k (Ok Choice) lists = both_put choice_move rows counts k lists
operands_put rows counts k (Ok Parallel) lists = both_put (λ o kind e f. parallel_move o kind e) rows counts k lists
operands_put rows counts k (Ok Loop) lists = all_three_put rows counts k lists
operands_put rows counts k (Ok Scope) lists = one_put lists k
operands_put rows counts k (Err fault) lists = both_put (λ o kind e f. parallel_move o kind e) rows counts k lists

-- A number is the count of the places that node k's list has for its first position, whatever spread that is.
abbrev pub CountsOf : List ℕ → Side → ℕ → ℕ → Type 0
CountsOf lists side k n = (s : Spread) → 11 * k + 11 ≤ length lists → Means lists side k (list_row lists (place_of side k)) s → length (placed s (0 ∷ [])) ≤ 65535 → n ≡ length (placed s (0 ∷ []))

-- What the index tells of an action: its node, and how many places it has on each side.
abbrev pub index_numbers : ℕ → ℕ → ℕ → List ℕ
index_numbers k inputs outputs = k % 65536 ∷ (inputs % 65536 ∷ (outputs % 65536 ∷ []))

abbrev pub index_put : List ℕ → ℕ → List ℕ → List ℕ
index_put index i numbers = cond (leb (3 * i + 3) (length index)) (sets index (3 * i) numbers) index

-- And of the action that node k is, by its number.
pub record ActionPut (first : ℕ) (lists : List ℕ) (k : ℕ) (index index' : List ℕ) : Type 0 where
  pub inputs : ℕ
  pub outputs : ℕ
  pub stored : index' ≡ index_put index first (index_numbers k inputs outputs)
  pub inputs_are : CountsOf lists Inputs k inputs
  pub outputs_are : CountsOf lists Outputs k outputs
