-- 01, "Where an answer is an enum, the promises use a definition that gives this paper's number and values for each of its cases":
-- what the reader's answer says of a plan that is read, and the rows that it leaves.
use Rattle.std.specs.Prelude.{ℕ, ◌*◌, ◌≡◌, List, ◌++◌, drop}
use Rattle.field.specs.Answer.{Answer, good, refused, ◌>>=◌}
use Rattle.algebra.specs.Expr.{Expr}
use Rattle.plan.specs.Reading.{read_plan}
use Rattle.plan.specs.inner.Nodes.{Sizes, sizes_of, node_count, node_table}
use Rattle.plan.specs.declared.Sizes as code

-- The nodes and actions that are told.
abbrev pub sizes_told : code.Sizes → Sizes
sizes_told s = record { nodes = s.nodes; actions = s.actions }

-- What is to be said: how many nodes and actions the plan's expression has, or the refusal.
abbrev pub read_sizes : List ℕ → Answer Sizes
read_sizes s = read_plan s >>= λ E. good (sizes_of E)

-- Of a plan that is read, the rows at exit are its node table, and behind it the rows at entry. Of one that is refused nothing is said:
-- the rows are the library's own work room.
abbrev pub RowsAre : Answer Expr → List ℕ → List ℕ → Type 0
RowsAre (good E) entry exit = exit ≡ node_table E ++ drop (6 * node_count E) entry
RowsAre (refused number carried) entry exit = Unit {0}
