-- The node table as numbers, six to a row: what the theory of nodes speaks of.
use Rattle.std.specs.Prelude.{ℕ, ◌+◌, ◌*◌, List, [], ◌∷◌, get_or, cond, eqb, Result, Ok, Err}
use Rattle.std.specs.List.{flat_map}
use Rattle.field.specs.declared.Fault.{Fault}
use Rattle.field.specs.declared.Fault.TheVariants.{UnknownTag}
use Rattle.plan.specs.declared.table.Row.{Row}
use Rattle.plan.specs.declared.table.Tag.{Tag}
use Rattle.plan.specs.declared.table.Tag.TheVariants.{Action, Sequence, Choice, Parallel, Loop, Scope}

-- 01's tag of a field.
abbrev pub tag_number : Tag → ℕ
tag_number Action = 1
tag_number Sequence = 2
tag_number Choice = 3
tag_number Parallel = 4
tag_number Loop = 5
tag_number Scope = 6

-- The tag with this number; "unknown tag".
abbrev pub spelt : ℕ → Result Tag Fault
spelt n =
    cond (eqb n 1) (Ok Action)
    (cond (eqb n 2) (Ok Sequence)
    (cond (eqb n 3) (Ok Choice)
    (cond (eqb n 4) (Ok Parallel)
    (cond (eqb n 5) (Ok Loop)
    (cond (eqb n 6) (Ok Scope)
    (Err UnknownTag))))))

abbrev pub row_numbers : Row → List ℕ
row_numbers r = r.tag ∷ (r.byte ∷ (r.members ∷ (r.after ∷ (r.first ∷ (r.at ∷ [])))))

abbrev pub table_numbers : List Row → List ℕ
table_numbers rows = flat_map row_numbers rows

-- Row k of a table of numbers; past the end one of zeros.
abbrev pub row_of : List ℕ → ℕ → Row
row_of numbers k = record {
  tag = get_or numbers (6 * k + 0) 0;
  byte = get_or numbers (6 * k + 1) 0;
  members = get_or numbers (6 * k + 2) 0;
  after = get_or numbers (6 * k + 3) 0;
  first = get_or numbers (6 * k + 4) 0;
  at = get_or numbers (6 * k + 5) 0;
}

-- The number of the first action of node k.
abbrev pub first_at : List ℕ → ℕ → ℕ
first_at rows k = get_or rows (6 * k + 4) 0
