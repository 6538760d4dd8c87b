-- What one call that judges nodes adds: it is one stretch of a judging that goes down to node 0.
use Rattle.std.specs.Prelude.{ℕ, List, Bool, Option}
use Rattle.field.specs.Answer.{Answer}
use Rattle.plan.specs.Loops.{no_fault}
use Rattle.plan.specs.inner.Judged.{bits, fault_told, Judged}

-- The nodes from `low` to `high` are judged: whatever judges those below `low` from there judges all below `high`.
abbrev pub JudgesDown : List ℕ → ℕ → ℕ → List Bool → List Bool → Option ℕ → Option ℕ → Type 0
JudgesDown rows low high entry exit later found =
    (after : List ℕ) (answer : Answer (Unit {0})) → Judged rows low (bits exit) after (no_fault (fault_told found)) answer → Judged rows high (bits entry) after (no_fault (fault_told later)) answer
