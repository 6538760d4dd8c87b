-- `replay` asks nothing, and its contract determines its answer and every byte of the buffer.
-- The contract equates both with a function of the input, no two answers of the code say the same, and each verdict of the function is said.
use Prim.Native.Nat.{ℕ}
use mathlib.Core.Path.{◌≡◌, refl, sym, subst, ◌∙◌}
use mathlib.Core.Bool.{Bool, true, false}
use mathlib.Core.List.{List}
use lib.ListN.{length}
use lib.Dec.{leb}
use contract.Lifetimes.{Lfts}
use borrow.Fn.Kinds.{Dens}
use borrow.Author.Rules.{rules}
use Rattle.field.specs.Limits.{record_limit}
use Rattle.field.specs.Answer.{Answer, good, refused}
use Rattle.field.proofs.Faults.{IsNumbered, IsKnown}
use Rattle.field.proofs.OneResult.{One, Allowed, Answered}
use Rattle.algebra.specs.Expr.{Expr}
use Rattle.algebra.specs.Net.{place_count}
use Rattle.algebra.specs.Arcs.{net_of}
use Rattle.algebra.specs.Marking.{entry_marking}
use Rattle.net.specs.Marking.{check_room}
use Rattle.boxes.specs.Compile.{accept}
use Rattle.compile.proofs.Reasons.{accept_known}
use Rattle.form.specs.Form.{read_record}
use Rattle.run.proofs.Determined.{ran_once, ran_said, IsSayable}
use Rattle.run.proofs.KnownVerdicts.{StepsKnown, steps_known, run_sayable}
use Rattle.replay.specs.Replay.{Started, start, replayed, replay}
use Rattle.replay.proofs.replay.Kinds as kinds
use Rattle.replay.proofs.replay.Reads as reads

-- A refusal before the first step has one of 01's numbers, and so have those of the steps.
abbrev IsStarted : Answer Started → Type 0
IsStarted (good S) = StepsKnown S.recorded
IsStarted (refused n c) = IsNumbered n

start_known : (plan run_record buffer : List ℕ) → IsStarted (start plan run_record buffer)
unfolding start check_room read_record
start_known plan run_record buffer = read (accept plan) refl
  where
    tests : (E : Expr) → accept plan ≡ good E → (b : Bool) → leb (place_count (net_of E)) (length buffer) ≡ b → (d : Bool) → leb (length run_record) record_limit ≡ d → IsStarted (start plan run_record buffer)
    tests E e true f true g = rw (e, f, g) (steps_known 0 0 run_record)
    tests E e true f false g = simp (e, f, g) refl
    tests E e false f true g = simp (e, f, g) refl
    tests E e false f false g = simp (e, f, g) refl

    read : (a : Answer Expr) → accept plan ≡ a → IsStarted (start plan run_record buffer)
    read (good E) e = tests E e (leb (place_count (net_of E)) (length buffer)) refl (leb (length run_record) record_limit) refl
    read (refused n c) e = rw e (subst IsKnown e (accept_known plan))

replayed_sayable : (buffer : List ℕ) (a : Answer Started) → IsStarted a → IsSayable (replayed buffer a).verdict
replayed_sayable buffer (good S) k =
    let said = λ (n : ℕ). run_sayable S.net n (entry_marking S.net) S.recorded k in
    search rules
replayed_sayable buffer (refused n c) k = k

replay_sayable : (plan run_record buffer : List ℕ) → IsSayable (replay plan run_record buffer).verdict
unfolding replay
replay_sayable plan run_record buffer = replayed_sayable buffer (start plan run_record buffer) (start_known plan run_record buffer)

pub replay_answered : Answered 3 kinds.ps kinds.r reads.Asked reads.Post
replay_answered = record { free = λ κs a. tt; one = one }
  where
    one : (κs : Lfts 3) (a : Dens κs kinds.ps) → One (Allowed 3 kinds.ps kinds.r reads.Post κs a)
    one κs a =
        let d = replay a.0.now a.1.0.now a.1.1.0.now in
        let r = ran_said d.verdict (replay_sayable a.0.now a.1.0.now a.1.1.0.now) in
        record {
          some = ((r.0, (tt, (tt, (d.buffer, tt)))), (r.1, refl));
          only = λ x y p q.
              let r = ran_once x.0 y.0 (p.0 ∙ sym q.0) in
              let b = p.1 ∙ sym q.1 in
              λ i. (r i, (tt, (tt, (b i, tt))));
        }
