-- The replay call, whole: "Replay takes plan, record and marking buffer: 1 to 13, then 35 (short only), then 20, before anything is written
-- and with 0 steps told. Then the buffer gets the entry marking and each step in turn; form is judged as a step is reached."
use Rattle.std.specs.Prelude.{ℕ, List, ◌++◌, drop}
use Rattle.field.specs.Answer.{Answer, good, refused, ◌>>=◌, ◌>>◌}
use Rattle.algebra.specs.Net.{Net, place_count}
use Rattle.net.specs.Marking.{check_room}
use Rattle.algebra.specs.Marking.{entry_marking}
use Rattle.algebra.specs.Arcs.{net_of}
use Rattle.boxes.specs.Compile.{accept}
use Rattle.form.specs.Form.{Recorded, read_record}
use Rattle.run.specs.Run.{Verdict, refusal, run}

-- What stands before the first step.
pub record Started : Type 0 where
  pub net : Net
  pub recorded : Recorded

unfoldable pub start : List ℕ → List ℕ → List ℕ → Answer Started
unfolding accept check_room net_of read_record
start plan run_record buffer = do
  E ← accept plan
  check_room (place_count (net_of E)) buffer
  R ← read_record run_record
  good (record { net = net_of E; recorded = R })

pub record Replayed : Type 0 where
  pub verdict : Verdict
  pub buffer : List ℕ

-- "What lies past the net's part, in a marking too, is neither looked at nor written."
abbrev pub replayed : List ℕ → Answer Started → Replayed
replayed buffer (good S) =
    let r = run S.net 0 (entry_marking S.net) S.recorded in
    record { verdict = r.verdict; buffer = r.marking ++ drop (place_count S.net) buffer }
replayed buffer (refused n c) = record { verdict = refusal n c 0; buffer = buffer }

unfoldable pub replay : List ℕ → List ℕ → List ℕ → Replayed
unfolding start run entry_marking
replay plan run_record buffer = replayed buffer (start plan run_record buffer)
