-- A run of what is left of a record is one step and the run of what is left behind it, or the step's refusal.
-- Passing over a step's bytes is dropping them, and a run is defined by its first step.
use Prim.Native.Nat.{ℕ, zero, suc, ◌+◌, ◌-◌, ◌≤◌, ◌<◌}
use mathlib.Core.Path.{◌≡◌, refl, sym, ap, ◌∙◌}
use mathlib.Core.List.{List, [], ◌∷◌}
use mathlib.Core.Logic.{◌⊎◌, inl, inr}
use native.Mathlib.Omega.{arith}
use native.Mathlib.Nat.{add-zero}
use native.Mathlib.Numerals.{add-one}
use lib.ListN.{length, drop}
use lib.Seq.{drop-drop, drop-cons}
use Rattle.field.specs.Answer.{Answer, good, refused, ◌>>=◌}
use Rattle.field.proofs.Answers.{bind_good, bind_refused, good_same, good_not_refused}
use Rattle.algebra.specs.Net.{Net, Transition}
use Rattle.algebra.specs.Firing.{fire_items}
use Rattle.form.specs.Form.{Recorded, step, StepRead, read_step, one_more, read_steps}
use Rattle.run.specs.Run.{refuse, run}
use Rattle.run.specs.inner.Steps.{StepTaken, step_of, take_step}

pub steps_passed : (at k : ℕ) (s : List ℕ) → read_steps at k s ≡ read_steps (at + k) 0 (drop k s)
unfolding read_steps
steps_passed at zero s = ap (λ (n : ℕ). read_steps n 0 s) (sym (add-zero at))
steps_passed at (suc k) [] = refl
steps_passed at (suc k) (x ∷ s) =
    let next : suc at + k ≡ at + suc k = omega arith in
    steps_passed (suc at) k s ∙ ap (λ (n : ℕ). read_steps n 0 (drop k s)) next

-- One step of a run, by the answer of reading it.
module _ (N : Net) (steps : ℕ) (m : List ℕ) (rest : ℕ → Recorded) where
  abbrev taken : Answer StepRead → Answer StepTaken
  taken a = a >>= (λ r. fire_items N.transitions m r.items >>= (λ m'. step_of r.bytes m'))

  one_taken : (a : Answer StepRead) (t : StepTaken) → taken a ≡ good t → run N steps m (one_more a rest) ≡ run N (suc steps) t.marking (rest t.bytes)
  unfolding run
  one_taken (good r) t e =
      let b = bind_good (fire_items N.transitions m r.items) _ t e in
      rw b.1 (ap (λ (x : StepTaken). run N (suc steps) x.marking (rest x.bytes)) (good_same _ t b.2))
  one_taken (refused n c) t e = good_not_refused (refused n c) t n c e refl

  one_refused : (a : Answer StepRead) (n c : ℕ) → taken a ≡ refused n c → run N steps m (one_more a rest) ≡ refuse n c steps m
  unfolding run
  one_refused (good r) n c e = go (bind_refused (fire_items N.transitions m r.items) _ n c e)
    where
      go : (fire_items N.transitions m r.items ≡ refused n c) ⊎ ((m' : List ℕ) × (fire_items N.transitions m r.items ≡ good m') × (step_of r.bytes m' ≡ refused n c))
          → run N steps m (step r.items (rest r.bytes)) ≡ refuse n c steps m
      go (inl f) = rw f
      go (inr f) = good_not_refused (step_of r.bytes f.0) (record { bytes = r.bytes; marking = f.0 }) n c refl f.2
  one_refused (refused k d) n c e = let p : k ≡ n = cc in let q : d ≡ c = cc in λ i. refuse (p i) (q i) steps m

-- The run of a record's bytes from an offset on.
module _ (N : Net) (net : List Transition) (e : N.transitions ≡ net) (bytes_of : List ℕ) (at steps : ℕ) (m : List ℕ) (h : at < length bytes_of) where
  unfolds : read_steps at 0 (drop at bytes_of) ≡ one_more (read_step at (drop at bytes_of)) (λ bytes. read_steps (suc at) (bytes - 1) (drop (suc at) bytes_of))
  unfolding read_steps
  unfolds = rw (drop-cons bytes_of at 0 h)

  pub run_on : (bytes : ℕ) (m' : List ℕ) → 1 ≤ bytes → step_of bytes m' ≡ take_step net m at (drop at bytes_of)
      → run N steps m (read_steps at 0 (drop at bytes_of)) ≡ run N (steps + 1) m' (read_steps (at + bytes) 0 (drop (at + bytes) bytes_of))
  unfolding take_step
  run_on bytes m' b t =
      let place : suc at + (bytes - 1) ≡ at + bytes = omega arith in
      let later : read_steps (suc at) (bytes - 1) (drop (suc at) bytes_of) ≡ read_steps (at + bytes) 0 (drop (at + bytes) bytes_of)
      = steps_passed (suc at) (bytes - 1) (drop (suc at) bytes_of) ∙ ap (read_steps (suc at + (bytes - 1)) 0) (drop-drop (bytes - 1) (suc at) bytes_of) ∙ ap (λ (n : ℕ). read_steps n 0 (drop n bytes_of)) place in
      ap (run N steps m) unfolds
      ∙ one_taken N steps m (λ k. read_steps (suc at) (k - 1) (drop (suc at) bytes_of)) (read_step at (drop at bytes_of)) (record { bytes = bytes; marking = m' }) (rw e (sym t))
      ∙ ap (λ (n : ℕ). run N n m' (read_steps (suc at) (bytes - 1) (drop (suc at) bytes_of))) (sym (add-one steps))
      ∙ ap (run N (steps + 1) m') later

  pub run_refused : (n c : ℕ) → refused n c ≡ take_step net m at (drop at bytes_of) → run N steps m (read_steps at 0 (drop at bytes_of)) ≡ refuse n c steps m
  unfolding take_step
  run_refused n c t =
      ap (run N steps m) unfolds
      ∙ one_refused N steps m (λ k. read_steps (suc at) (k - 1) (drop (suc at) bytes_of)) (read_step at (drop at bytes_of)) n c (rw e (sym t))
