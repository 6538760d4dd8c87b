-- What the judgement's answer says, and the work tables that it leaves.
use Rattle.std.specs.Prelude.{ℕ, ◌*◌, ◌≡◌, List, ◌++◌, length, take, drop, Result, Ok, Err}
use Rattle.field.specs.Answer.{Answer, good, refused, ◌>>=◌}
use Rattle.algebra.specs.Expr.{Expr}
use Rattle.algebra.specs.Transitions.{transitions}
use Rattle.plan.specs.inner.Nodes.{node_count, node_table}
use Rattle.boxes.specs.inner.NodeCounts.{node_counts}
use Rattle.transitions.specs.inner.Numbers.{flat}
use Rattle.judging.specs.inner.Judged.{judge, judged}
use Rattle.field.specs.Says.{says}
use Rattle.field.specs.declared.Refusal.{Refusal}
use Rattle.judging.specs.declared.front.Ready.{Ready}

-- How many nodes and transitions a plan has.
pub record Sizes : Type 0 where
  pub nodes : ℕ
  pub transitions : ℕ

unfoldable pub ready_sizes : Expr → Sizes
unfolding node_count transitions
ready_sizes E = record { nodes = node_count E; transitions = length (transitions 0 E) }

abbrev pub sizes_told : Ready → Sizes
sizes_told r = record { nodes = r.nodes; transitions = r.transitions }

-- What is to be said: how many nodes and transitions the plan's expression has, or the refusal.
abbrev pub ready : List ℕ → Answer Sizes
ready plan = judged plan >>= λ E. good (ready_sizes E)

-- The list begins with the plan's transitions; what lies behind them is work room.
abbrev pub ListIsOf : Expr → List ℕ → Type 0
ListIsOf E exit = take (3 * length (transitions 0 E)) exit ≡ flat (transitions 0 E)

abbrev pub CountsAreOf : Expr → List ℕ → List ℕ → Type 0
CountsAreOf E entry exit = exit ≡ node_counts E ++ drop (3 * node_count E) entry

abbrev pub TableIsOf : Expr → List ℕ → List ℕ → Type 0
TableIsOf E entry exit = exit ≡ node_table E ++ drop (6 * node_count E) entry

-- Of a plan that is ready, the tables at exit are what is made of it, and behind that the table and the counts at entry. Of any other nothing
-- is said: the tables are work room.
abbrev pub TablesAre : Result Ready Refusal → Answer Expr → List ℕ → List ℕ → List ℕ → List ℕ → List ℕ → Type 0
TablesAre (Err e) plan table table' counts counts' list' = Unit {0}
TablesAre (Ok sizes) (good E) table table' counts counts' list' = TableIsOf E table table' × CountsAreOf E counts counts' × ListIsOf E list'
TablesAre (Ok sizes) (refused number carried) table table' counts counts' list' = Unit {0}

-- What is known of the expression that the table holds, once it is judged.
pub record Fine (E : Expr) (r : Result Ready Refusal) (counts counts' list' : List ℕ) : Type 0 where
  pub told : says sizes_told r ≡ (judge E >>= λ F. good (ready_sizes F))
  pub written : (sizes : Ready) → r ≡ Ok sizes → CountsAreOf E counts counts' × ListIsOf E list'
