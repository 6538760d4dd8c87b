-- What the judgement says and leaves in the work tables.
use Rattle.std.specs.Prelude.{ℕ, ◌+◌, ◌*◌, ◌≤◌, List, length, get_or, take, Result, Ok, Err}
use Rattle.field.specs.Answer.{Answer, good, ◌>>=◌}
use Rattle.algebra.specs.Expr.{Expr}
use Rattle.algebra.specs.Arcs.{net_of}
use Rattle.boxes.specs.Compile.{Counts, counts_of, accept}
use Rattle.tables.specs.inner.Rows.{Whole}
use Rattle.field.specs.declared.Refusal.{Refusal}
use Rattle.judging.specs.declared.NetCounts.{NetCounts}
pub use Rattle.judging.specs.Counts.{counts, counts_told}

-- "Plan: 1; then fields in byte order ..; 10 after all reading; then 11, 12, 13": the counts of the plan's net, or the first refusal.
unfoldable pub net_counts : List ℕ → Answer Counts
unfolding accept counts_of net_of
net_counts plan = accept plan >>= λ E. good (counts_of (net_of E))

-- With the three counts of places in front of a table.
abbrev pub counted : List ℕ → ℕ → ℕ → Counts
counted table transitions arcs = counts (get_or table 0 0 + (get_or table 1 0 + get_or table 2 0)) transitions arcs (get_or table 0 0) (get_or table 1 0)

-- The work tables that a plan leaves which is fine, whose expression is E: the list begins with the net's transitions.
abbrev pub Drawn : Result NetCounts Refusal → List ℕ → List ℕ → List ℕ → Expr → Type 0
Drawn (Err e) lists index list E = Unit {0}
Drawn (Ok c) lists index list E = Whole lists index (take (3 * c.transitions) list) c.transitions E × (3 * c.transitions ≤ length list)
