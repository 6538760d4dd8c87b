-- What a run's verdict says of the firing of its steps: an accepted record fired them all in order; a refused one fired the steps told, and the next
-- field is no step or does not fire. By the definition of a run, step by step.
use Prim.Native.Nat.{ℕ, suc, ◌+◌}
use native.Mathlib.Omega.{arith}
use mathlib.Core.Path.{◌≡◌, refl, ◌∙◌, ap}
use mathlib.Core.Logic.{◌⊎◌, inl, inr}
use mathlib.Core.Bool.{cond}
use mathlib.Core.List.{List, [], ◌∷◌}
use lib.ListN.{length}
use Rattle.field.specs.Answer.{Answer, good, refused}
use Rattle.field.proofs.Answers.{bind_good, good_same}
use Rattle.algebra.specs.Item.{Item}
use Rattle.algebra.specs.Net.{Net}
use Rattle.algebra.specs.Marking.{exits_marked}
use Rattle.algebra.specs.Firing.{fire_items}
use Rattle.algebra.specs.InOrder.{fire_in_order}
use Rattle.form.specs.Form.{Recorded, ends, step, no_step}
use Rattle.run.specs.Run.{finished, unfinished, refusal, Run, go_on, run}
use Rattle.replay.specs.Recorded.{steps_of, Whole, After, now, later}

-- What a run of the record R at the marking m says, with k steps before it: either all its fields are steps, and they fired;
pub record AllFired (N : Net) (k : ℕ) (m : List ℕ) (R : Recorded) (r : Run) : Type 0 where
  pub whole : Whole R
  pub fired : fire_in_order N.transitions m (steps_of R) ≡ good r.marking
  pub verdict : r.verdict ≡ cond (exits_marked N r.marking) (finished (k + length (steps_of R))) (unfinished (k + length (steps_of R)))

-- what stands at a point of a record where the run was refused
pub data Stops (N : Net) (m : List ℕ) (n c : ℕ) : Recorded → Type 0 where
  at_no_step : Stops N m n c (no_step n c)
  at_step : {S : List Item} {Q : Recorded} → fire_items N.transitions m S ≡ refused n c → Stops N m n c (step S Q)

-- or so many steps fired, and what is recorded next is no step or does not fire.
pub record StoppedAt (N : Net) (k : ℕ) (m : List ℕ) (R : Recorded) (r : Run) : Type 0 where
  pub number : ℕ
  pub carried : ℕ
  pub told : ℕ
  pub before : List (List Item)
  pub next : Recorded
  pub after : After told R before next
  pub fired : fire_in_order N.transitions m before ≡ good r.marking
  pub verdict : r.verdict ≡ refusal number carried (k + told)
  pub stops : Stops N r.marking number carried next

abbrev pub RunSays : Net → ℕ → List ℕ → Recorded → Run → Type 0
RunSays N k m R r = AllFired N k m R r ⊎ StoppedAt N k m R r

-- one step more in front
one_more : (N : Net) (k : ℕ) (m m₁ : List ℕ) (S : List Item) (R : Recorded) (r : Run) → fire_items N.transitions m S ≡ good m₁ → RunSays N (suc k) m₁ R r → RunSays N k m (step S R) r
unfolding fire_in_order steps_of
one_more N k m m₁ S R r e (inl s) =
    let shift : suc k + length (steps_of R) ≡ k + suc (length (steps_of R)) = omega arith in
    inl (record { whole = s.whole; fired = rw e s.fired; verdict = s.verdict ∙ ap (λ j. cond (exits_marked N r.marking) (finished j) (unfinished j)) shift })
one_more N k m m₁ S R r e (inr s) =
    let shift : suc k + s.told ≡ k + suc s.told = omega arith in
    inr (record {
      number = s.number;
      carried = s.carried;
      told = suc s.told;
      before = S ∷ s.before;
      next = s.next;
      after = later s.after;
      fired = rw e s.fired;
      verdict = s.verdict ∙ ap (refusal s.number s.carried) shift;
      stops = s.stops;
    })

stopped_here : (N : Net) (k : ℕ) (m : List ℕ) (R : Recorded) (n c : ℕ) → Stops N m n c R → RunSays N k m R (record { verdict = refusal n c k; marking = m })
unfolding fire_in_order
stopped_here N k m R n c s =
    let none : k ≡ k + 0 = omega arith in
    inr (record { number = n; carried = c; told = 0; before = []; next = R; after = now; fired = refl; verdict = ap (refusal n c) none; stops = s })

pub run_says : (N : Net) (k : ℕ) (m : List ℕ) (R : Recorded) → RunSays N k m R (run N k m R)
unfolding run fire_in_order steps_of
run_says N k m ends =
    let none : k ≡ k + 0 = omega arith in
    inl (record { whole = tt; fired = refl; verdict = ap (λ j. cond (exits_marked N m) (finished j) (unfinished j)) none })
run_says N k m (step S R) = go (fire_items N.transitions m S) refl (λ m'. run_says N (suc k) m' R)
  where
    go : (a : Answer (List ℕ)) → fire_items N.transitions m S ≡ a → ((m' : List ℕ) → RunSays N (suc k) m' R (run N (suc k) m' R)) → RunSays N k m (step S R) (go_on a k m (λ m'. run N (suc k) m' R))
    go (good m') e f = one_more N k m m' S R (run N (suc k) m' R) e (f m')
    go (refused n c) e f = stopped_here N k m (step S R) n c (at_step e)
run_says N k m (no_step n c) = stopped_here N k m (no_step n c) n c at_no_step

-- A record of steps that all fire is accepted.
pub fired_accepted : (N : Net) (k : ℕ) (m m' : List ℕ) (R : Recorded) → Whole R → fire_in_order N.transitions m (steps_of R) ≡ good m'
    → (run N k m R).verdict ≡ cond (exits_marked N m') (finished (k + length (steps_of R))) (unfinished (k + length (steps_of R)))
unfolding run fire_in_order steps_of
fired_accepted N k m m' ends w e =
    let none : k ≡ k + 0 = omega arith in
    ap (λ l. cond (exits_marked N l) (finished k) (unfinished k)) (good_same m m' e) ∙ ap (λ j. cond (exits_marked N m') (finished j) (unfinished j)) none
fired_accepted N k m m' (step S R) w e =
    let a = bind_good (fire_items N.transitions m S) _ m' e in
    let shift : suc k + length (steps_of R) ≡ k + suc (length (steps_of R)) = omega arith in
    rw a.1 (fired_accepted N (suc k) a.0 m' R w a.2 ∙ ap (λ j. cond (exits_marked N m') (finished j) (unfinished j)) shift)
fired_accepted N k m m' (no_step n c) w e = absurd w
