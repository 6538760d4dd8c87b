-- What the compile call says, and the tables that it is lent.
use Rattle.std.specs.Prelude.{ℕ, List, Result}
use Rattle.field.specs.Answer.{Answer}
use Rattle.field.specs.Says.{says}
use Rattle.field.specs.declared.Refusal.{Refusal}
use Rattle.boxes.specs.Compile.{Counts, Lent}
use Rattle.judging.specs.Counts.{counts_told}
use Rattle.judging.specs.declared.NetCounts.{NetCounts}

-- 01, "Where an answer is an enum, the promises use a definition that gives this paper's number and values for each of its cases".
abbrev pub compiling_says : Result NetCounts Refusal → Answer Counts
compiling_says r = says counts_told r

abbrev pub three_lent : List ℕ → List ℕ → List ℕ → Lent
three_lent kinds rows arcs = record { kinds = kinds; rows = rows; arcs = arcs }
