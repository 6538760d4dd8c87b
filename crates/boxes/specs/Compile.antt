-- The compile call, whole: its answer and the three lent tables afterwards, for every plan and every three tables.
use Rattle.std.specs.Prelude.{ℕ, ◌*◌, List, ◌++◌, ◌&&◌, length, drop, leb}
use Rattle.field.specs.Refusals.{table_too_short}
use Rattle.field.specs.Answer.{Answer, good, refused, ◌>>=◌, ◌>>◌, check}
use Rattle.algebra.specs.Expr.{Expr}
use Rattle.plan.specs.Reading.{read_plan}
use Rattle.plan.specs.Loops.{check_loops}
use Rattle.algebra.specs.Net.{Net}
use Rattle.net.specs.Tables.{Tables, tables_of}
use Rattle.algebra.specs.Arcs.{net_of}
use Rattle.boxes.specs.Counts.{check_size}

-- "Plan: 1; then fields in byte order ..; 10 after all reading; then 11, 12, 13": an accepted plan's expression, or the first fault.
unfoldable pub accept : List ℕ → Answer Expr
unfolding read_plan check_loops check_size
accept plan = do
  E ← read_plan plan
  check_loops E
  check_size E
  good E

-- Three lent tables.
pub record Lent : Type 0 where
  pub kinds : List ℕ
  pub rows : List ℕ
  pub arcs : List ℕ

-- "The compiler's answer counts places, transitions and arcs"; the listing's first line wants the entries and the internals too.
pub record Counts : Type 0 where
  pub places : ℕ
  pub transitions : ℕ
  pub arcs : ℕ
  pub entries : ℕ
  pub internals : ℕ

unfoldable pub counts_of : Net → Counts
unfolding tables_of
counts_of N = let T = tables_of N in record { places = T.places; transitions = T.transitions; arcs = T.arc_count; entries = N.entries; internals = N.internals }

-- "a lent table too short for what is written"
unfoldable pub check_lent : Tables → Lent → Answer (Unit {0})
check_lent T lent =
    check (leb T.places (length lent.kinds) && (leb (6 * T.transitions) (length lent.rows) && leb T.arc_count (length lent.arcs))) table_too_short 0

unfoldable pub compile_net : List ℕ → Lent → Answer Net
unfolding accept check_lent net_of tables_of
compile_net plan lent = do
  E ← accept plan
  check_lent (tables_of (net_of E)) lent
  good (net_of E)

-- "What lies past the net's part .. is neither looked at nor written."
abbrev pub over : List ℕ → List ℕ → List ℕ
over new old = new ++ drop (length new) old

pub record Compiled : Type 0 where
  pub answer : Answer Counts
  pub tables : Lent

-- "Compiling, firing and the list write nothing on refusal".
abbrev pub compiled : Lent → Answer Net → Compiled
compiled lent (good N) = let T = tables_of N in record {
  answer = good (counts_of N);
  tables = record { kinds = over T.kinds lent.kinds; rows = over T.rows lent.rows; arcs = over T.arcs lent.arcs };
}
compiled lent (refused n c) = record { answer = refused n c; tables = lent }

unfoldable pub compile : List ℕ → Lent → Compiled
unfolding compile_net counts_of
compile plan lent = compiled lent (compile_net plan lent)
