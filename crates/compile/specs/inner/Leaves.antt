-- What the compile call leaves in the lent tables.
use Rattle.std.specs.Prelude.{ℕ, ◌≡◌, List}
use Rattle.field.specs.Answer.{Answer}
use Rattle.boxes.specs.Compile.{Counts, Lent, compile}

-- The answer and the three tables are the paper's.
pub record Leaves (plan : List ℕ) (old : Lent) (answer : Answer Counts) (kinds rows arcs : List ℕ) : Type 0 where
  pub says : answer ≡ (compile plan old).answer
  pub kinds_are : kinds ≡ (compile plan old).tables.kinds
  pub rows_are : rows ≡ (compile plan old).tables.rows
  pub arcs_are : arcs ≡ (compile plan old).tables.arcs
