-- What replay knows of a plan that the judgement found fine, until its net is made: the counts that were told, and the work tables that were left.
use Rattle.std.specs.Prelude.{ℕ, ◌≡◌, List, Ok}
use Rattle.field.specs.Answer.{good}
use Rattle.algebra.specs.Expr.{Expr}
use Rattle.boxes.specs.Compile.{accept}
use Rattle.judging.specs.inner.Judging.{counts_told, net_counts, Drawn}
use Rattle.judging.specs.declared.NetCounts.{NetCounts}

-- So it was told of this plan, and the work tables are those of its expression.
pub record Told (plan lists index list : List ℕ) (c : NetCounts) : Type 0 where
  pub says : good (counts_told c) ≡ net_counts plan
  pub drawn : (E : Expr) → accept plan ≡ good E → Drawn (Ok c) lists index list E

-- There is such a plan.
pub record Known (lists index list : List ℕ) (c : NetCounts) : Type 0 where
  pub plan : List ℕ
  pub told : Told plan lists index list c
