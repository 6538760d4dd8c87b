-- The answers of the code that takes one step, each with the marking that goes with it, and the marking after a step that fired.
-- Reading and firing are the two parts of taking a step, so the answer is the first refusal; a fired step moves tokens and adds no place.
use Prim.Native.Nat.{ℕ}
use mathlib.Core.Path.{◌≡◌, refl, sym, ap, ◌∙◌}
use mathlib.Core.List.{List, map}
use mathlib.Core.Bool.{true}
use lib.ListN.{length, take}
use lib.Dec.{leb}
use Rattle.field.specs.Answer.{Answer, good, refused, ◌>>=◌}
use Rattle.field.specs.Lists.{all}
use Rattle.field.proofs.Answers.{bind_good, good_same, good_not_refused}
use Rattle.field.proofs.Tests.{T_true}
use Rattle.algebra.specs.Net.{Transition}
use Rattle.algebra.specs.Firing.{fire_items}
use Rattle.algebra.proofs.Fires.{moved_length, fires_of}
use Rattle.form.specs.Form.{StepRead, read_step}
use Rattle.form.specs.inner.FormSays.{code_item, items_in}
use Rattle.form.specs.declared.Item as code
use Rattle.std.specs.Prelude.{Result, Ok, Err}
use Rattle.std.proofs.lemmas.List.{take-map}
use Rattle.field.specs.Says.{number_of}
use Rattle.field.specs.declared.Refusal.{Refusal}
use Rattle.algebra.specs.Item.{Item}
use Rattle.moving.specs.Says.{fired_says}
use Rattle.moving.specs.inner.Moves.{told, kept, Moves}
use Rattle.run.specs.inner.Ends.{StepRefused}
use Rattle.run.specs.inner.Steps.{StepTaken, step_of, take_step}

module _ (net : List Transition) (m s : List ℕ) (at : ℕ) where
  -- What is left to do with a step that was read.
  abbrev rest : Answer StepRead → Answer StepTaken
  rest a = a >>= (λ r. fire_items net m r.items >>= (λ m'. step_of r.bytes m'))

  pub no_step_taken : (n c : ℕ) → refused n c ≡ read_step at s → refused n c ≡ take_step net m at s
  unfolding take_step
  no_step_taken n c e = ap rest e

  module _ (items : List code.Item) (count bytes : ℕ) (e : good (record { items = items_in count items; bytes = bytes }) ≡ read_step at s)
      (r : Result (Unit {0}) Refusal) (m' : List ℕ) (moves : Moves r m m' (fire_items net m (map code_item (take count items)))) where
    fires : (fire_items net m (map code_item (take count items)) >>= (λ x. step_of bytes x)) ≡ take_step net m at s
    unfolding take_step
    fires = ap (λ (is : List Item). fire_items net m is >>= (λ x. step_of bytes x)) (sym (take-map code_item count items)) ∙ ap rest e

    pub step_taken : r ≡ Ok tt → step_of bytes m' ≡ take_step net m at s
    step_taken f = go (fire_items net m (map code_item (take count items))) (sym (ap fired_says f) ∙ moves.says) moves.leaves ∙ fires
      where
        go : (a : Answer (List ℕ)) → good tt ≡ told a → m' ≡ kept m a → step_of bytes m' ≡ (a >>= (λ x. step_of bytes x))
        go (good x) g h = ap (λ (l : List ℕ). step_of bytes l) h
        go (refused n c) g h = good_not_refused (refused n c) tt n c (sym g) refl

    pub step_not_taken : (refusal : Refusal) → r ≡ Err refusal → StepRefused (take_step net m at s) m m' refusal
    step_not_taken refusal f =
        let both = go (fire_items net m (map code_item (take count items))) (sym (ap fired_says f) ∙ moves.says) moves.leaves in
        record { says = both.0 ∙ fires; leaves = both.1 }
      where
        go : (a : Answer (List ℕ)) → refused (number_of refusal.fault) refusal.carried ≡ told a → m' ≡ kept m a → (refused (number_of refusal.fault) refusal.carried ≡ (a >>= (λ x. step_of bytes x))) × (m' ≡ m)
        go (good x) g h = good_not_refused (good tt) tt (number_of refusal.fault) refusal.carried refl (sym g)
        go (refused k d) g h = (let p : number_of refusal.fault ≡ k = cc in let o : refusal.carried ≡ d = cc in λ i. refused (p i) (o i), h)

-- After a step that fired there are as many places as before, each with at most one token.
pub marking_after : (net : List Transition) (m s : List ℕ) (at bytes : ℕ) (m' : List ℕ) → step_of bytes m' ≡ take_step net m at s
    → (length m' ≡ length m) × (all (λ x. leb x 1) m' ≡ true)
unfolding take_step
marking_after net m s at bytes m' e =
    let a = bind_good (read_step at s) _ (record { bytes = bytes; marking = m' }) (sym e) in
    let b = bind_good (fire_items net m a.0.items) _ (record { bytes = bytes; marking = m' }) a.2 in
    let same : b.0 ≡ m' = ap (λ (t : StepTaken). t.marking) (good_same _ _ b.2) in
    let f = fires_of net m a.0.items m' (b.1 ∙ ap good same) in
    (sym (ap length f.after) ∙ moved_length 0 f.ts m, sym (ap (all (λ x. leb x 1)) f.after) ∙ T_true _ f.fits)
