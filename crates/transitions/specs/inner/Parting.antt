-- Which operand of a node holds an action, as its row and those of its operands tell; and how actions part from one.
use Rattle.std.specs.Prelude.{ℕ, ◌+◌, ◌≤◌, ◌<◌, ◌≡◌, List, cond, ltb, Result, Ok, Err}
use Rattle.field.specs.declared.Fault.{Fault}
use Rattle.algebra.specs.Expr.{Expr}
use Rattle.algebra.specs.Transitions.{part_at_parallel}
use Rattle.plan.specs.inner.Table.{Node, tag_at, after_at}
use Rattle.plan.specs.inner.Numbers.{spelt, first_at}
use Rattle.plan.specs.declared.table.Tag.{Tag}
use Rattle.plan.specs.declared.table.Tag.TheVariants.{Action, Sequence, Choice, Parallel, Loop, Scope}
use Rattle.transitions.specs.declared.parting.Parting.{Parting}

-- One of two nodes: the first if action i comes before those of the second.
abbrev pub one_of : List ℕ → ℕ → ℕ → ℕ → ℕ
one_of rows k second i = cond (ltb i (first_at rows second)) k second

-- The operand of node k that holds action i, where the node has a tag: the first one whose actions do not end before it.
abbrev pub by_tag : Result Tag Fault → List ℕ → ℕ → ℕ → ℕ
by_tag (Ok Action) rows k i = k
by_tag (Ok Sequence) rows k i = one_of rows (k + 1) (after_at rows (k + 1)) i
by_tag (Ok Choice) rows k i = one_of rows (k + 1) (after_at rows (k + 1)) i
by_tag (Ok Parallel) rows k i = one_of rows (k + 1) (after_at rows (k + 1)) i
by_tag (Ok Loop) rows k i =
    cond (ltb i (first_at rows (after_at rows (k + 1)))) (k + 1) (one_of rows (after_at rows (k + 1)) (after_at rows (after_at rows (k + 1))) i)
by_tag (Ok Scope) rows k i = k + 1
by_tag (Err e) rows k i = k

-- The number of the operand of node k that holds action i; of a node with no operand its own number.
unfoldable pub operand_by : List ℕ → ℕ → ℕ → ℕ
operand_by rows k i = by_tag (spelt (tag_at rows k)) rows k i

-- From j to before a number every action stands in the operand of node k that holds j.
abbrev pub SameOperand : List ℕ → ℕ → ℕ → ℕ → Type 0
SameOperand rows k j until = (m : ℕ) → j ≤ m → m < until → operand_by rows k m ≡ operand_by rows k j

-- What is told of the actions from one to another: that each parts from action i of node k at a parallel field, or that none does.
abbrev pub Parts : List ℕ → ℕ → ℕ → Parting → Type 0
Parts rows k i p = (j : ℕ) → p.from ≤ j → j < p.until → (count n at : ℕ) (E : Expr) → Node rows count k n at E → p.apart ≡ part_at_parallel n E i j
