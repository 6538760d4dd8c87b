-- `run_from_entries`: what `mark_entries` leaves is the entry marking of any net that the rows and arcs hold.
use Prim.Native.Nat.{◌+◌, ◌-◌}
use mathlib.Core.Path.{◌∙◌, ap, ap₂}
use lib.ListN.{length}
use lib.Dec.{leb}
use Rattle.field.specs.Lists.{all}
use Rattle.replay.proofs.EntryMarking.{entry_marking_is, entries_safe}
use Rattle.replay.proofs.ReplayCall.{runs_from_entries}
use Rattle.replay.proofs.run_from_entries.Goals as goal

pub run_record-requires-clause-marking_value : goal.run_record-requires-clause-marking_value
run_record-requires-clause-marking_value c = ap (all (λ x. leb x 1)) c.mark_entries.ensures ∙ entries_safe c.args.counts.entries (length c.args.marking.now - c.args.counts.entries)

pub returns : goal.returns
returns c =
    λ N h. let q = c.run_record in
    runs_from_entries N c.args.«record».now c.mark_entries.new.marking q.result q.new.marking
    (c.mark_entries.ensures ∙ entry_marking_is N (length c.args.marking.now) c.args.counts.entries h.its_places h.its_entries)
    (q.ensures N h.its_transitions (ap₂ ◌+◌ h.its_entries h.its_internals))
