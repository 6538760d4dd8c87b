-- What the counts of a net say, as the calls that judge a plan tell them.
use Rattle.std.specs.Prelude.{ℕ}
use Rattle.boxes.specs.Compile.{Counts}
use Rattle.judging.specs.declared.NetCounts.{NetCounts}

abbrev pub counts : ℕ → ℕ → ℕ → ℕ → ℕ → Counts
counts places transitions arcs entries internals = record { places = places; transitions = transitions; arcs = arcs; entries = entries; internals = internals }

abbrev pub counts_told : NetCounts → Counts
counts_told c = counts c.places c.transitions c.arcs c.entries c.internals
