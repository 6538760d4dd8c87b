-- What counting the places does at one node, and what is known after the nodes from k on. A table of counts is seen as its numbers, three to a node.
use Rattle.std.specs.Prelude.{ℕ, ◌+◌, ◌*◌, ◌≤◌, ◌≡◌, List, [], ◌∷◌, Result, Ok, Err, length, get_or}
use Rattle.std.specs.List.{flat_map}
use Rattle.field.specs.Limits.{place_limit}
use Rattle.field.specs.declared.Fault.{Fault}
use Rattle.plan.specs.declared.table.Tag.{Tag}
use Rattle.plan.specs.declared.table.Tag.TheVariants.{Action, Sequence, Choice, Parallel, Loop, Scope}
use Rattle.plan.specs.inner.Table.{tag_at, after_at, Known}
use Rattle.plan.specs.inner.Numbers.{spelt}
use Rattle.boxes.specs.Counts.{cut}
use Rattle.boxes.specs.inner.NodeCounts.{box_counts}
use Rattle.boxes.specs.declared.counts.Counts.{Counts}

abbrev pub counts : ℕ → ℕ → ℕ → Counts
counts entries internals exits = record { entries = entries; internals = internals; exits = exits }

abbrev pub row_numbers : Counts → List ℕ
row_numbers c = c.entries ∷ (c.internals ∷ (c.exits ∷ []))

abbrev pub counts_numbers : List Counts → List ℕ
counts_numbers table = flat_map row_numbers table

-- The three numbers of node k.
abbrev pub counts_at : List ℕ → ℕ → Counts
counts_at table k = counts (get_or table (3 * k) 0) (get_or table (3 * k + 1) 0) (get_or table (3 * k + 2) 0)

-- The counts of each operator from those of its operands.
abbrev pub sequence_counts : Counts → Counts → Counts
sequence_counts e f = counts e.entries (cut place_limit (e.internals + (f.internals + e.exits * f.entries))) f.exits

abbrev pub choice_counts : Counts → Counts → Counts
choice_counts e f = counts (cut place_limit (e.entries * f.entries)) (cut place_limit (e.internals + f.internals)) (cut place_limit (e.exits * f.exits))

abbrev pub parallel_counts : Counts → Counts → Counts
parallel_counts e f = counts (cut place_limit (e.entries + f.entries)) (cut place_limit (e.internals + f.internals)) (cut place_limit (e.exits + f.exits))

abbrev pub loop_counts : Counts → Counts → Counts → Counts
loop_counts e f g =
    counts e.entries
    (cut place_limit (e.internals + (f.internals + (g.internals + e.exits * f.exits * (f.entries * g.entries)))))
    g.exits

-- The counts of node k, from its tag and its operands' counts; no plan has a tag that is none.
abbrev pub counts_of_tag : List ℕ → List ℕ → ℕ → Result Tag Fault → Counts
counts_of_tag rows table k (Ok Action) = counts 1 0 1
counts_of_tag rows table k (Ok Sequence) = sequence_counts (counts_at table (k + 1)) (counts_at table (after_at rows (k + 1)))
counts_of_tag rows table k (Ok Choice) = choice_counts (counts_at table (k + 1)) (counts_at table (after_at rows (k + 1)))
counts_of_tag rows table k (Ok Parallel) = parallel_counts (counts_at table (k + 1)) (counts_at table (after_at rows (k + 1)))
counts_of_tag rows table k (Ok Loop) =
    loop_counts (counts_at table (k + 1)) (counts_at table (after_at rows (k + 1))) (counts_at table (after_at rows (after_at rows (k + 1))))
counts_of_tag rows table k (Ok Scope) = counts_at table (k + 1)
counts_of_tag rows table k (Err fault) =
    loop_counts (counts_at table (k + 1)) (counts_at table (after_at rows (k + 1))) (counts_at table (after_at rows (after_at rows (k + 1))))

unfoldable pub counts_by : List ℕ → List ℕ → ℕ → Counts
counts_by rows table k = counts_of_tag rows table k (spelt (tag_at rows k))

-- The nodes from k on are counted, of rows that are so many, and what lies behind their counts is as before.
pub record Counted (rows : List ℕ) (count k : ℕ) (before after : List ℕ) : Type 0 where
  pub within : k ≤ count
  pub long : length after ≡ length before
  pub kept : (i : ℕ) → 3 * count ≤ i → get_or after i 0 ≡ get_or before i 0
  pub known : Known rows count 3 box_counts k after

-- The nodes from `low` to `high` are counted, those from `high` on being counted already.
abbrev pub CountsDown : List ℕ → ℕ → ℕ → List ℕ → List ℕ → Type 0
CountsDown rows low high entry exit = (count : ℕ) (before : List ℕ) → Counted rows count high before entry → Counted rows count low before exit
