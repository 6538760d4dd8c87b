-- Demand 3: "For any accepted plan, any record of at most 16,384 bytes and a marking buffer long enough: replay accepts exactly when the calculus's own
-- rules, worked on the expression with no net in sight, derive the recorded steps in that order from the started plan. Of a refused record it tells how
-- many leading steps those rules derive, and the next one, as recorded, they do not. At each point so reached every place holds at most one token, and
-- when all exit places hold one, no other place does." Said of the definition of replay, and then of every answer and buffer that the call's contract allows.
use Prim.Native.Nat.{ℕ, ◌+◌, ◌≤◌}
use native.Mathlib.Omega.{arith}
use native.Mathlib.Nat.{zero-add}
use mathlib.Core.Path.{◌≡◌, refl, sym, ◌∙◌, ap, subst}
use mathlib.Core.Logic.{◌⊎◌, inl, inr, ◌↔◌}
use mathlib.Core.Bool.{Bool, true, false, cond}
use mathlib.Core.List.{List, [], ◌∷◌, ◌++◌}
use lib.ListN.{length, drop}
use lib.Dec.{leb, le→leb}
use contract.Lifetimes.{Lfts}
use borrow.Fn.Kinds.{Dens}
use Rattle.field.specs.Answer.{good, ◌>>=◌}
use Rattle.field.proofs.Tests.{T_true}
use Rattle.field.proofs.Answers.{bind_good}
use Rattle.field.proofs.OneResult.{Result, Allowed}
use Rattle.algebra.specs.Expr.{Expr}
use Rattle.algebra.specs.Item.{Item}
use Rattle.algebra.specs.Exclusive.{LoopsExclusive}
use Rattle.algebra.specs.Scopes.{ScopesNamed}
use Rattle.algebra.specs.Dynamic.{Dynamic}
use Rattle.algebra.specs.Steps.{Bag, Step}
use Rattle.algebra.specs.Derived.{Derived}
use Rattle.algebra.specs.Net.{place_count}
use Rattle.algebra.specs.Arcs.{net_of}
use Rattle.algebra.specs.Marking.{entry_marking, exits_marked}
use Rattle.algebra.specs.Firing.{fire_items}
use Rattle.algebra.specs.InOrder.{fire_in_order}
use Rattle.algebra.proofs.Agreement.{OneState, one_state, next_refused, SafeAndClean, safe_and_clean, fires_iff_derived}
use Rattle.plan.proofs.Exact.{read_within}
use Rattle.plan.proofs.Within.{limits_within}
use Rattle.plan.proofs.Scopes.{named_scopes}
use Rattle.plan.proofs.Loops.{loops_exclusive}
use Rattle.boxes.specs.Compile.{accept}
use Rattle.boxes.proofs.TablesAreANet.{accepted}
use Rattle.form.specs.Form.{Recorded, step, no_step, read_steps}
use Rattle.run.specs.Run.{Verdict, finished, unfinished, refusal, Run, run}
use Rattle.run.specs.Says.{ran_says}
use Rattle.std.specs.Prelude as prelude
use Rattle.field.specs.Says.{number_of}
use Rattle.field.specs.declared.Fault.TheVariants.{TwoTokens}
use Rattle.run.specs.declared.Ran.{Ran}
use Rattle.run.specs.declared.Ran.TheVariants.{Finished, Unfinished}
use Rattle.run.specs.declared.Stopped.{Stopped}
use Rattle.run.proofs.Determined.{ran_once}
use Rattle.replay.specs.Replay.{Replayed, start, replay}
use Rattle.replay.specs.Recorded.{steps_of, Whole, After}
use Rattle.replay.proofs.replay.Kinds as call
use Rattle.replay.proofs.replay.Reads as reads
use Rattle.replay.proofs.FormRefusals.{FormsIn, steps_form, after_form}
use Rattle.replay.proofs.Runs.{Stops, at_no_step, at_step, RunSays, run_says, fired_accepted}

-- A point of a run: some steps in order from the started plan, and the marking that stands at the front of the buffer after them.
pub record Point (E : Expr) (Ss : List (List Item)) (m : List ℕ) : Type 0 where
  pub exclusive : LoopsExclusive E
  pub scopes : ScopesNamed E
  -- the rules derive the steps; the marking is that of every state they lead to, and all those are ≡
  pub states : OneState E exclusive scopes Ss m
  -- at most one token each; all exits marked means nothing else is, and nothing is enabled
  pub marking : SafeAndClean E exclusive scopes m

-- What is recorded next is not derived: it is no step, or no state that the steps lead to derives it, in whatever order its items are taken.
pub data NotDerived (E : Expr) (Ss : List (List Item)) (n c : ℕ) : Recorded → Type 0 where
  no_step_there : NotDerived E Ss n c (no_step n c)
  not_derived : {S : List Item} {Q : Recorded} → ((D D' : Dynamic E) (S' : List Item) → Derived E Ss D → Bag S' S → Step 0 E D S' D' → ⊥)
      → (n ≡ 31) ⊎ ((n ≡ 32) ⊎ (n ≡ 33)) → NotDerived E Ss n c (step S Q)

-- Replay of the record R of the plan E, with the buffer that was lent.
pub data Demand3 (E : Expr) (R : Recorded) (lent : List ℕ) (r : Replayed) : Type 0 where
  accepts : (m : List ℕ) → Whole R → Point E (steps_of R) m → r.buffer ≡ m ++ drop (place_count (net_of E)) lent
      → r.verdict ≡ cond (exits_marked (net_of E) m) (finished (length (steps_of R))) (unfinished (length (steps_of R))) → Demand3 E R lent r
  refuses : (n c k : ℕ) (Ss : List (List Item)) (next : Recorded) (m : List ℕ) → After k R Ss next → Point E Ss m → NotDerived E Ss n c next
      → r.buffer ≡ m ++ drop (place_count (net_of E)) lent → r.verdict ≡ refusal n c k → Demand3 E R lent r

module _ (plan record_bytes buffer : List ℕ) (E : Expr) (yes-plan : accept plan ≡ good E) (short : length record_bytes ≤ 16384) (room : place_count (net_of E) ≤ length buffer) where
  exclusive : LoopsExclusive E
  exclusive = loops_exclusive E (accepted plan E yes-plan).loops

  scopes : ScopesNamed E
  scopes = named_scopes E (limits_within E (read_within plan E (accepted plan E yes-plan).read)).labelled

  recorded : Recorded
  recorded = read_steps 0 0 record_bytes

  the_run : Run
  the_run = run (net_of E) 0 (entry_marking (net_of E)) recorded

  started_well : start plan record_bytes buffer ≡ good (record { net = net_of E; recorded = recorded })
  unfolding start recorded
  started_well = rw yes-plan (rw (T_true (leb (place_count (net_of E)) (length buffer)) (le→leb (place_count (net_of E)) (length buffer) room)) (rw (T_true (leb (length record_bytes) 16384) (le→leb (length record_bytes) 16384 short)) refl))

  verdict_is : (replay plan record_bytes buffer).verdict ≡ the_run.verdict
  unfolding replay the_run
  verdict_is = rw started_well refl

  buffer_is : (replay plan record_bytes buffer).buffer ≡ the_run.marking ++ drop (place_count (net_of E)) buffer
  unfolding replay the_run
  buffer_is = rw started_well refl

  point : (Ss : List (List Item)) (m : List ℕ) → fire_in_order (net_of E).transitions (entry_marking (net_of E)) Ss ≡ good m → Point E Ss m
  point Ss m e = record { exclusive = exclusive; scopes = scopes; states = one_state E exclusive scopes Ss m e; marking = safe_and_clean E exclusive scopes Ss m e }

  not_derived_next : (Ss : List (List Item)) (m : List ℕ) (n c : ℕ) (next : Recorded) → fire_in_order (net_of E).transitions (entry_marking (net_of E)) Ss ≡ good m → Stops (net_of E) m n c next → NotDerived E Ss n c next
  not_derived_next Ss m n c _ e at_no_step = no_step_there
  not_derived_next Ss m n c _ e (at_step {S = S} r) = let f = next_refused E exclusive scopes Ss S m n c e r in not_derived f.not_derived f.number

  -- The demand, by the two kinds of verdict.
  pub demand_3 : Demand3 E (read_steps 0 0 record_bytes) buffer (replay plan record_bytes buffer)
  unfolding recorded the_run
  demand_3 = go (run_says (net_of E) 0 (entry_marking (net_of E)) recorded)
    where
      go : RunSays (net_of E) 0 (entry_marking (net_of E)) recorded the_run → Demand3 E recorded buffer (replay plan record_bytes buffer)
      go (inl s) =
          accepts the_run.marking s.whole (point (steps_of recorded) the_run.marking s.fired) buffer_is
          (verdict_is ∙ s.verdict ∙ ap (λ j. cond (exits_marked (net_of E) the_run.marking) (finished j) (unfinished j)) (zero-add (length (steps_of recorded))))
      go (inr s) =
          refuses s.number s.carried s.told s.before s.next the_run.marking s.after (point s.before the_run.marking s.fired)
          (not_derived_next s.before the_run.marking s.number s.carried s.next s.fired s.stops) buffer_is
          (verdict_is ∙ s.verdict ∙ ap (refusal s.number s.carried) (zero-add s.told))

  -- Replay accepts, finished or unfinished, exactly when the record is steps and the rules derive them in order.
  abbrev pub AcceptsIt : Type 0
  AcceptsIt = (k : ℕ) × (((replay plan record_bytes buffer).verdict ≡ finished k) ⊎ ((replay plan record_bytes buffer).verdict ≡ unfinished k))

  abbrev pub DerivesIt : Type 0
  DerivesIt = Whole (read_steps 0 0 record_bytes) × ((D : Dynamic E) × Derived E (steps_of (read_steps 0 0 record_bytes)) D)

  pub accepts_iff_derived : AcceptsIt ↔ DerivesIt
  unfolding recorded the_run
  accepts_iff_derived = (there demand_3, back)
    where
      v : Verdict
      v = (replay plan record_bytes buffer).verdict

      R : Recorded
      R = read_steps 0 0 record_bytes

      no_refusal : {X : Type 0} (n c j k : ℕ) → v ≡ refusal n c j → (v ≡ finished k) ⊎ (v ≡ unfinished k) → X
      no_refusal n c j k e (inl f) = absurd (let z : ◌≡◌ {A = ℕ} 0 1 = cc in let w : ⊥ = omega arith in w)
      no_refusal n c j k e (inr f) = absurd (let z : ◌≡◌ {A = ℕ} 0 1 = cc in let w : ⊥ = omega arith in w)

      there : Demand3 E R buffer (replay plan record_bytes buffer) → AcceptsIt → DerivesIt
      there (accepts m w p b e) a = (w, p.states.some)
      there (refuses n c j Ss next m f p d b e) a = no_refusal n c j a.0 e a.1

      told : (b : Bool) (k : ℕ) → v ≡ cond b (finished k) (unfinished k) → AcceptsIt
      told true k e = (k, inl e)
      told false k e = (k, inr e)

      back : DerivesIt → AcceptsIt
      back d =
          let f = (fires_iff_derived E exclusive scopes (steps_of R)).1 d.1 in
          told (exits_marked (net_of E) f.0) (0 + length (steps_of R)) (verdict_is ∙ fired_accepted (net_of E) 0 (entry_marking (net_of E)) f.0 R d.0 f.1)

-- A point is reached by way of points: so is every list of steps in front of its own.
fires_before : (E : Expr) (As Bs : List (List Item)) (m m' : List ℕ) → fire_in_order (net_of E).transitions m (As ++ Bs) ≡ good m' → (l : List ℕ) × (fire_in_order (net_of E).transitions m As ≡ good l)
unfolding fire_in_order
fires_before E [] Bs m m' e = (m, refl)
fires_before E (S ∷ As) Bs m m' e =
    let a = bind_good (fire_items (net_of E).transitions m S) _ m' e in
    let b = fires_before E As Bs a.0 m' a.2 in
    (b.0, ap (λ x. x >>= λ l. fire_in_order (net_of E).transitions l As) a.1 ∙ b.1)

pub each_point_before : (E : Expr) (As Bs : List (List Item)) (m : List ℕ) → Point E (As ++ Bs) m
    → (l : List ℕ) × (fire_in_order (net_of E).transitions (entry_marking (net_of E)) As ≡ good l) × Point E As l
each_point_before E As Bs m p =
    let f = (fires_iff_derived E p.exclusive p.scopes (As ++ Bs)).1 p.states.some in
    let b = fires_before E As Bs (entry_marking (net_of E)) f.0 f.1 in (
      b.0,
      b.1,
      record {
        exclusive = p.exclusive;
        scopes = p.scopes;
        states = one_state E p.exclusive p.scopes As b.0 b.1;
        marking = safe_and_clean E p.exclusive p.scopes As b.0 b.1;
      },
    )

-- The same of the call `replay`: any answer and any buffer at exit that its contract, as it is made from the code's clauses, allows.
module _ (κs : Lfts 3) (a : Dens κs call.ps) (z : Result 3 call.ps call.r κs a) (allowed : Allowed 3 call.ps call.r reads.Post κs a z) (E : Expr) (yes-plan : accept a.0.now ≡ good E)
    (short : length a.1.0.now ≤ 16384) (room : place_count (net_of E) ≤ length a.1.1.0.now) where
  abbrev plan : List ℕ
  plan = a.0.now

  abbrev record_bytes : List ℕ
  record_bytes = a.1.0.now

  abbrev buffer : List ℕ
  buffer = a.1.1.0.now

  abbrev r : prelude.Result Ran Stopped
  r = z.0

  abbrev exit : List ℕ
  exit = z.1.1.1.0

  says : ran_says r ≡ (replay plan record_bytes buffer).verdict
  says = allowed.0

  leaves : exit ≡ (replay plan record_bytes buffer).buffer
  leaves = allowed.1

  pub call_demand_3 : Demand3 E (read_steps 0 0 record_bytes) buffer (record { verdict = ran_says r; buffer = exit })
  call_demand_3 = subst (Demand3 E (read_steps 0 0 record_bytes) buffer) (λ i. record { verdict = sym says i; buffer = sym leaves i }) (demand_3 plan record_bytes buffer E yes-plan short room)

  -- The call answers Finished or Unfinished exactly when the record is steps and the rules derive them in order from the started plan.
  pub call_accepts_iff_derived : ((k : ℕ) × ((r ≡ prelude.Ok (Finished k)) ⊎ (r ≡ prelude.Ok (Unfinished k)))) ↔ (Whole (read_steps 0 0 record_bytes) × ((D : Dynamic E) × Derived E (steps_of (read_steps 0 0 record_bytes)) D))
  call_accepts_iff_derived = (λ a. law.0 (a.0, there a.0 a.1), λ d. let a = law.1 d in (a.0, back a.0 a.1))
    where
      law : AcceptsIt plan record_bytes buffer E yes-plan short room ↔ DerivesIt plan record_bytes buffer E yes-plan short room
      law = accepts_iff_derived plan record_bytes buffer E yes-plan short room

      v : Verdict
      v = (replay plan record_bytes buffer).verdict

      there : (k : ℕ) → (r ≡ prelude.Ok (Finished k)) ⊎ (r ≡ prelude.Ok (Unfinished k)) → (v ≡ finished k) ⊎ (v ≡ unfinished k)
      there k (inl e) = inl (sym says ∙ ap ran_says e)
      there k (inr e) = inr (sym says ∙ ap ran_says e)

      back : (k : ℕ) → (v ≡ finished k) ⊎ (v ≡ unfinished k) → (r ≡ prelude.Ok (Finished k)) ⊎ (r ≡ prelude.Ok (Unfinished k))
      back k (inl e) = inl (ran_once r (prelude.Ok (Finished k)) (says ∙ e))
      back k (inr e) = inr (ran_once r (prelude.Ok (Unfinished k)) (says ∙ e))

  -- Refused with so many steps told: these are derived, and what is recorded next, a step or not, is not.
  refused_as : (n c k : ℕ) → ran_says r ≡ refusal n c k
      → (Ss : List (List Item)) × (next : Recorded) × (m : List ℕ) × After k (read_steps 0 0 record_bytes) Ss next × Point E Ss m × NotDerived E Ss n c next × (exit ≡ m ++ drop (place_count (net_of E)) buffer)
  refused_as n c k e = go call_demand_3
    where
      no_acceptance : {X : Type 0} (b : Bool) (j : ℕ) → ran_says r ≡ cond b (finished j) (unfinished j) → X
      no_acceptance true j f = absurd (let g : refusal n c k ≡ finished j = sym e ∙ f in let z : ◌≡◌ {A = ℕ} 0 1 = cc in let w : ⊥ = omega arith in w)
      no_acceptance false j f = absurd (let g : refusal n c k ≡ unfinished j = sym e ∙ f in let z : ◌≡◌ {A = ℕ} 0 1 = cc in let w : ⊥ = omega arith in w)

      go : Demand3 E (read_steps 0 0 record_bytes) buffer (record { verdict = ran_says r; buffer = exit })
          → (Ss : List (List Item)) × (next : Recorded) × (m : List ℕ) × After k (read_steps 0 0 record_bytes) Ss next × Point E Ss m × NotDerived E Ss n c next × (exit ≡ m ++ drop (place_count (net_of E)) buffer)
      go (accepts m w p b f) = no_acceptance (exits_marked (net_of E) m) (length (steps_of (read_steps 0 0 record_bytes))) f
      go (refuses n' c' k' Ss next m a p d b f) =
          let g : refusal n' c' k' ≡ refusal n c k = sym f ∙ e in
          let x : n' ≡ n = cc in
          let y : c' ≡ c = cc in
          let z : k' ≡ k = cc in
          (Ss, next, m, subst (λ j. After j (read_steps 0 0 record_bytes) Ss next) z a, p, subst (λ j. NotDerived E Ss j c next) x (subst (λ j. NotDerived E Ss n' j next) y d), b)

  pub call_refused : (s : Stopped) → r ≡ prelude.Err s
      → (Ss : List (List Item)) × (next : Recorded) × (m : List ℕ) × After s.steps (read_steps 0 0 record_bytes) Ss next × Point E Ss m × NotDerived E Ss (number_of s.refusal.fault) s.refusal.carried next
      × (exit ≡ m ++ drop (place_count (net_of E)) buffer)
  call_refused s e = refused_as (number_of s.refusal.fault) s.refusal.carried s.steps (ap ran_says e)

  -- "36 cannot come from replay."
  pub call_never_36 : (c k : ℕ) → r ≡ prelude.Err (record { refusal = record { fault = TwoTokens; carried = c }; steps = k }) → ⊥
  call_never_36 c k e = let q = refused_as 36 c k (ap ran_says e) in go q.1 (after_form q.3 (steps_form 0 0 record_bytes)) q.5
    where
      go : {Ss : List (List Item)} (next : Recorded) → FormsIn next → NotDerived E Ss 36 c next → ⊥
      go _ h no_step_there = omega arith
      go _ h (not_derived f (inl e)) = omega arith
      go _ h (not_derived f (inr (inl e))) = omega arith
      go _ h (not_derived f (inr (inr e))) = omega arith
