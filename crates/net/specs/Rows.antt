-- 01, "Net tables": a row of the tables by its six numbers.
use Rattle.std.specs.Prelude.{ℕ, ◌+◌, ◌*◌, List, get_or}
use Rattle.net.specs.declared.tables.Row.{Row}

-- One of the six numbers of a transition, in the rows alone.
abbrev pub in_row : List ℕ → ℕ → ℕ → ℕ
in_row rows t k = get_or rows (6 * t + k) 0

-- "six 16-bit numbers per transition (label, first action, second action or 65,535, start in the arc list, input count, output count)"
abbrev pub row_of : List ℕ → ℕ → Row
row_of rows t = record {
  label = in_row rows t 0;
  first = in_row rows t 1;
  second = in_row rows t 2;
  start = in_row rows t 3;
  inputs = in_row rows t 4;
  outputs = in_row rows t 5;
}
