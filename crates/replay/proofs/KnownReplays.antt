-- 01, "Refusal numbers", the paragraph on replay: calls with two faults before the first step, and records that stop, or end, behind some steps.
-- The answers and the buffer are worked out from the paper; a test exchanged with another, a step told too much or a byte written too early breaks a row.
use Prim.Native.Nat.{ℕ}
use mathlib.Core.Path.{◌≡◌, refl}
use mathlib.Core.List.{List, [], ◌∷◌, ◌++◌, map}
use lib.ListN.{length, replicate}
use Rattle.algebra.specs.Expr.{Expr, action, sequence, choice, parallel, loop, scope}
use Rattle.plan.specs.Bytes.{encode}
use Rattle.plan.proofs.AtTheLimits.{tree}
use Rattle.run.specs.Run.{Verdict, finished, unfinished, refusal}
use Rattle.replay.specs.Replay.{Replayed, replay}

abbrev a : Expr
a = action 1

abbrev b : Expr
b = action 2

abbrev c : Expr
c = action 3

-- (a‖b);c, of 5 places: a 0→2, b 1→3, c 2 3→4
abbrev ab_then_c : List ℕ
ab_then_c = encode (sequence (parallel a b) c)

abbrev nines : ℕ → List ℕ
nines n = replicate n 9

-- a record of 16,385 bytes
abbrev too_long : List ℕ
too_long = replicate 16385 9

-- the bytes of an item of one action, of an item of two, and of a step of these bytes
abbrev one : ℕ → List ℕ
one i = 0x21 ∷ 0 ∷ 1 ∷ i ∷ []

abbrev two : ℕ → ℕ → List ℕ
two i j = 0x22 ∷ 0 ∷ 2 ∷ i ∷ j ∷ []

abbrev step : List ℕ → List ℕ
step body = 0x20 ∷ 0 ∷ length body ∷ body

-- the step {a,b}, of 11 bytes
abbrev step_ab : List ℕ
step_ab = step (one 0 ++ one 1)

pub record KnownReplay : Type 0 where
  pub plan : List ℕ
  pub steps : List ℕ
  pub before : List ℕ
  pub replayed : Replayed

-- a plan, a record and a buffer, then the answer and the buffer afterwards
abbrev replays : List ℕ → List ℕ → List ℕ → Verdict → List ℕ → KnownReplay
replays p s m v m' = record { plan = p; steps = s; before = m; replayed = record { verdict = v; buffer = m' } }

-- a refusal "before anything is written and with 0 steps told"
abbrev unstarted : List ℕ → List ℕ → List ℕ → ℕ → ℕ → KnownReplay
unstarted p s m n o = replays p s m (refusal n o 0) m

abbrev known_replayed : List KnownReplay
known_replayed =
    -- "1 to 13, then 35 (short only), then 20": the plan's faults first, with no buffer and with a record too long
    unstarted (replicate 4097 9) too_long [] 1 0
    ∷ unstarted [] too_long [] 8 0
    ∷ unstarted (encode (sequence a (action 0x80))) too_long [] 6 7
    ∷ unstarted (encode (sequence a (loop a (parallel b c) a))) too_long [] 10 7
    ∷ unstarted (encode (choice (tree parallel 6 a) (tree parallel 6 b))) too_long [] 11 0
    -- the plan's faults, with room and a record that would pass
    ∷ unstarted (encode (sequence a (action 0x80))) [] (nines 6) 6 7
    -- 35 before 20: one byte too few, or none
    ∷ unstarted ab_then_c too_long (nines 4) 35 0
    ∷ unstarted ab_then_c too_long [] 35 0
    ∷ unstarted ab_then_c [] (nines 4) 35 0
    -- "short only": a byte above 1 is no fault; 20 before the first step's form
    ∷ unstarted ab_then_c too_long (nines 5) 20 0
    ∷ unstarted ab_then_c too_long (nines 6) 20 0
    -- "Then the buffer gets the entry marking": an empty record, and a first step at fault by its form
    ∷ replays ab_then_c [] (nines 6) (unfinished 0) (1 ∷ 1 ∷ 0 ∷ 0 ∷ 0 ∷ 9 ∷ [])
    ∷ replays ab_then_c (0x19 ∷ 0 ∷ 0 ∷ []) (nines 5) (refusal 22 0 0) (1 ∷ 1 ∷ 0 ∷ 0 ∷ 0 ∷ [])
    -- "each step in turn; form is judged as a step is reached": a step is refused before the form of the one behind it
    ∷ replays ab_then_c (step (one 2) ++ (0x19 ∷ [])) (nines 6) (refusal 32 0 0) (1 ∷ 1 ∷ 0 ∷ 0 ∷ 0 ∷ 9 ∷ [])
    -- "A refusal leaves the marking after the accepted steps and tells their number": by form, with the step's offset
    ∷ replays ab_then_c (step_ab ++ (0x19 ∷ 0 ∷ 0 ∷ [])) (nines 6) (refusal 22 11 1) (0 ∷ 0 ∷ 1 ∷ 1 ∷ 0 ∷ 9 ∷ [])
    -- by 31, 32 and 33, with the item's position
    ∷ replays ab_then_c (step_ab ++ step (one 2 ++ one 9)) (nines 6) (refusal 31 1 1) (0 ∷ 0 ∷ 1 ∷ 1 ∷ 0 ∷ 9 ∷ [])
    ∷ replays ab_then_c (step_ab ++ (step (one 2) ++ step (one 2))) (nines 6) (refusal 32 0 2) (0 ∷ 0 ∷ 0 ∷ 0 ∷ 1 ∷ 9 ∷ [])
    ∷ replays ab_then_c (step (one 0) ++ step (one 1 ++ one 2)) (nines 6) (refusal 32 1 1) (0 ∷ 1 ∷ 1 ∷ 0 ∷ 0 ∷ 9 ∷ [])
    ∷ replays (encode (choice (parallel a b) c)) (step (one 0 ++ one 2)) (nines 4) (refusal 33 1 0) (1 ∷ 1 ∷ 0 ∷ 0 ∷ [])
    -- "Firing a step's items one after another: in a;b the step {a,b} would pass"
    ∷ replays (encode (sequence a b)) step_ab (nines 3) (refusal 32 1 0) (1 ∷ 0 ∷ 0 ∷ [])
    -- "finished if all exit places are marked, else unfinished; its number of steps is told too": a‖b
    ∷ replays (encode (parallel a b)) (step (one 0)) (nines 5) (unfinished 1) (0 ∷ 1 ∷ 1 ∷ 0 ∷ 9 ∷ [])
    ∷ replays (encode (parallel a b)) (step (one 1) ++ step (one 0)) (nines 5) (finished 2) (0 ∷ 0 ∷ 1 ∷ 1 ∷ 9 ∷ [])
    ∷ replays (encode (parallel a b)) step_ab (nines 5) (finished 1) (0 ∷ 0 ∷ 1 ∷ 1 ∷ 9 ∷ [])
    -- ⟨a⊗b⊗c⟩, with its body twice
    ∷ replays (encode (loop a b c)) (step (one 0) ++ (step (one 1) ++ (step (one 1) ++ step (one 2)))) (nines 3) (finished 4) (0 ∷ 0 ∷ 1 ∷ [])
    -- (a‖a') sc a: the pair, "the a side first"; not the other way round, and neither alone
    ∷ replays (encode (scope 1 (parallel a (action 0x81)))) (step (two 0 1)) (nines 4) (finished 1) (0 ∷ 0 ∷ 1 ∷ 1 ∷ [])
    ∷ replays (encode (scope 1 (parallel a (action 0x81)))) (step (two 1 0)) (nines 4) (refusal 31 0 0) (1 ∷ 1 ∷ 0 ∷ 0 ∷ [])
    ∷ replays (encode (scope 1 (parallel a (action 0x81)))) step_ab (nines 4) (refusal 31 0 0) (1 ∷ 1 ∷ 0 ∷ 0 ∷ [])
    ∷ []

pub known_replays
    : map (λ (k : KnownReplay). replay k.plan k.steps k.before) known_replayed ≡ map (λ (k : KnownReplay). k.replayed) known_replayed
unfolding replay encode
known_replays = refl
