-- The replay call's answers with the buffer that they leave, from what the building of the net and the two tests have told.
-- True by cases on the tests: a refusal before the first step leaves the buffer, and else its front is the run's marking.
use Prim.Native.Nat.{ℕ, ◌≤◌, ◌<◌}
use mathlib.Core.Path.{◌≡◌, refl, sym, ◌∙◌, ap, ap₂, subst}
use mathlib.Core.Bool.{Bool, true, false}
use mathlib.Core.List.{List, ◌++◌}
use lib.ListN.{length, drop}
use borrow.Author.Tests.{le-leb, lt-leb}
use Rattle.std.specs.Prelude.{Result, Err}
use Rattle.field.specs.Says.{number_of}
use Rattle.field.specs.declared.Fault.{Fault}
use Rattle.field.specs.declared.Fault.TheVariants.{NoMarking, RecordTooLong}
use Rattle.field.specs.declared.Refusal.{Refusal}
use Rattle.field.specs.Limits.{record_limit}
use Rattle.field.specs.Refusals.{no_marking, record_too_long}
use Rattle.field.specs.Answer.{Answer, good, refused, ◌>>=◌, ◌>>◌, check}
use Rattle.algebra.specs.Expr.{Expr}
use Rattle.algebra.specs.Net.{Net, place_count}
use Rattle.algebra.specs.Arcs.{net_of}
use Rattle.algebra.specs.Marking.{entry_marking}
use Rattle.net.specs.Marking.{check_room}
use Rattle.net.proofs.Marking.{room_passed}
use Rattle.boxes.specs.Compile.{accept}
use Rattle.form.specs.Form.{read_record, read_steps}
use Rattle.run.specs.Run.{run}
use Rattle.run.specs.Says.{ran_says}
use Rattle.run.specs.declared.Ran.{Ran}
use Rattle.run.specs.declared.Stopped.{Stopped}
use Rattle.replay.specs.Replay.{Started, replayed, start, replay}
use Rattle.replay.specs.inner.OnANet.{start_on, RunIs, ReplayIs, Leaves}

abbrev pub at_once : Fault → Stopped
at_once fault = record { refusal = record { fault = fault; carried = 0 }; steps = 0 }

-- A run from what is the entry marking.
pub runs_from_entries : (N : Net) (run_record marking : List ℕ) (r : Result Ran Stopped) (exit : List ℕ) → marking ≡ entry_marking N
    → (ran_says r ≡ (run N 0 marking (read_steps 0 0 run_record)).verdict) × (exit ≡ (run N 0 marking (read_steps 0 0 run_record)).marking) → RunIs N run_record r exit
runs_from_entries N run_record marking r exit e i = record {
  verdict = i.0 ∙ ap (λ m. (run N 0 m (read_steps 0 0 run_record)).verdict) e;
  marking = i.1 ∙ ap (λ m. (run N 0 m (read_steps 0 0 run_record)).marking) e;
}

pub reaches : (places : ℕ) (buffer : List ℕ) (room : Bool) → check_room places buffer ≡ check room no_marking 0 → room ≡ true → places ≤ length buffer
reaches places buffer room tells h = room_passed places buffer (tells ∙ ap (λ b. check b no_marking 0) h)

-- What replay on a net starts with is known: so is the answer.
started_as : (N : Net) (run_record buffer : List ℕ) (s : Answer Started) (r : Result Ran Stopped) (exit : List ℕ) → start_on N run_record buffer ≡ s
    → ran_says r ≡ (replayed buffer s).verdict → exit ≡ (replayed buffer s).buffer → ReplayIs N run_record buffer r exit
started_as N run_record buffer s r exit e v b = record {
  verdict = v ∙ ap (λ a. (replayed buffer a).verdict) (sym e);
  buffer_is = b ∙ ap (λ a. (replayed buffer a).buffer) (sym e);
}

module _ (N : Net) (places : ℕ) (its_places : place_count N ≡ places) (run_record buffer : List ℕ) (room : Bool) (tells : check_room places buffer ≡ check room no_marking 0) where
  start_tested : start_on N run_record buffer ≡ (check room no_marking 0 >> (read_record run_record >>= λ R. good (record { net = N; recorded = R })))
  start_tested = ap (λ a. a >> (read_record run_record >>= λ R. good (record { net = N; recorded = R }))) (ap (λ n. check_room n buffer) its_places ∙ tells)

  -- 35
  pub no_room : room ≡ false → (s : Stopped) → s ≡ at_once NoMarking → ReplayIs N run_record buffer (Err s) buffer
  no_room h s e = subst (λ s. ReplayIs N run_record buffer (Err s) buffer) (sym e) (started_as N run_record buffer (refused no_marking 0) (Err (at_once NoMarking)) buffer
      (start_tested ∙ ap (λ b. check b no_marking 0 >> (read_record run_record >>= λ R. good (record { net = N; recorded = R }))) h) refl refl)

  start_passed : room ≡ true → start_on N run_record buffer ≡ (read_record run_record >>= λ R. good (record { net = N; recorded = R }))
  start_passed h = start_tested ∙ ap (λ b. check b no_marking 0 >> (read_record run_record >>= λ R. good (record { net = N; recorded = R }))) h

  -- 20
  pub too_long : room ≡ true → record_limit < length run_record → (s : Stopped) → s ≡ at_once RecordTooLong → ReplayIs N run_record buffer (Err s) buffer
  unfolding read_record
  too_long h l s e = subst (λ s. ReplayIs N run_record buffer (Err s) buffer) (sym e) (started_as N run_record buffer (refused record_too_long 0) (Err (at_once RecordTooLong)) buffer
      (start_passed h ∙ ap (λ b. check b record_too_long 0 >> good (read_steps 0 0 run_record) >>= λ R. good (record { net = N; recorded = R })) (lt-leb (length run_record) record_limit l)) refl refl)

  -- the run
  pub runs : room ≡ true → length run_record ≤ record_limit → (r : Result Ran Stopped) (exit : List ℕ) → RunIs N run_record r exit → ReplayIs N run_record buffer r (exit ++ drop places buffer)
  unfolding read_record
  runs h l r exit i = started_as N run_record buffer (good (record { net = N; recorded = read_steps 0 0 run_record })) r (exit ++ drop places buffer)
      (start_passed h ∙ ap (λ b. check b record_too_long 0 >> good (read_steps 0 0 run_record) >>= λ R. good (record { net = N; recorded = R })) (le-leb (length run_record) record_limit l))
      i.verdict (ap₂ (λ m n. m ++ drop n buffer) i.marking (sym its_places))

-- A refused plan.
pub plan_refused : (plan run_record buffer : List ℕ) (e : Refusal) → accept plan ≡ refused (number_of e.fault) e.carried → Leaves plan run_record buffer (Err (record { refusal = e; steps = 0 })) buffer
unfolding replay start
plan_refused plan run_record buffer e a = record { verdict = rw a refl; buffer_is = rw a refl }

-- A plan whose net was made.
pub plan_made : (plan run_record buffer : List ℕ) (E : Expr) → accept plan ≡ good E → (r : Result Ran Stopped) (exit : List ℕ) → ReplayIs (net_of E) run_record buffer r exit → Leaves plan run_record buffer r exit
unfolding replay start
plan_made plan run_record buffer E p r exit i = record { verdict = rw p i.verdict; buffer_is = rw p i.buffer_is }
