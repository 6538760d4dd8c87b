-- Replay once the plan's net stands in the work room: "35 (short only), then 20", and then the run. The inner functions' contracts speak of every
-- net that the rows and arcs hold.
use Rattle.std.specs.Prelude.{ℕ, ◌≡◌, List, Result}
use Rattle.field.specs.Answer.{Answer, good, ◌>>=◌, ◌>>◌}
use Rattle.algebra.specs.Net.{Net, place_count}
use Rattle.algebra.specs.Marking.{entry_marking}
use Rattle.net.specs.Marking.{check_room}
use Rattle.form.specs.Form.{read_steps, read_record}
use Rattle.moving.specs.inner.InOrder.{transitions_within}
use Rattle.run.specs.Run.{run}
use Rattle.run.specs.Says.{ran_says}
use Rattle.run.specs.declared.Ran.{Ran}
use Rattle.run.specs.declared.Stopped.{Stopped}
use Rattle.replay.specs.Replay.{Started, replayed, replay}

-- What is left of `start` behind the plan.
abbrev pub start_on : Net → List ℕ → List ℕ → Answer Started
start_on N run_record buffer = check_room (place_count N) buffer >> (read_record run_record >>= λ R. good (record { net = N; recorded = R }))

-- The rows and arcs hold this net, and these are its counts.
pub record Holds (rows arcs : List ℕ) (places transitions entries internals : ℕ) (N : Net) : Type 0 where
  pub its_transitions : N.transitions ≡ transitions_within rows arcs transitions
  pub its_places : place_count N ≡ places
  pub its_entries : N.entries ≡ entries
  pub its_internals : N.internals ≡ internals

-- The answer and the net's part of the buffer are those of the record's steps from the entry marking on.
pub record RunIs (N : Net) (run_record : List ℕ) (r : Result Ran Stopped) (exit : List ℕ) : Type 0 where
  pub verdict : ran_says r ≡ (run N 0 (entry_marking N) (read_steps 0 0 run_record)).verdict
  pub marking : exit ≡ (run N 0 (entry_marking N) (read_steps 0 0 run_record)).marking

-- The answer and the whole buffer are those of replay on this net.
pub record ReplayIs (N : Net) (run_record buffer : List ℕ) (r : Result Ran Stopped) (exit : List ℕ) : Type 0 where
  pub verdict : ran_says r ≡ (replayed buffer (start_on N run_record buffer)).verdict
  pub buffer_is : exit ≡ (replayed buffer (start_on N run_record buffer)).buffer

-- The answer and the whole buffer are the paper's.
pub record Leaves (plan run_record buffer : List ℕ) (r : Result Ran Stopped) (exit : List ℕ) : Type 0 where
  pub verdict : ran_says r ≡ (replay plan run_record buffer).verdict
  pub buffer_is : exit ≡ (replay plan run_record buffer).buffer
