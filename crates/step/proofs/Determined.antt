-- `fire` asks nothing, and its contract determines its answer and what it leaves in the marking.
-- The contract equates both with a function of the input, no two answers of the code say the same, and each answer of the function is said.
use Prim.Native.Nat.{ℕ}
use mathlib.Core.Path.{◌≡◌, refl, sym, ◌∙◌}
use mathlib.Core.List.{List}
use lib.ListN.{take}
use contract.Lifetimes.{Lfts}
use borrow.Fn.Kinds.{Dens}
use Rattle.std.specs.Prelude.{Result}
use Rattle.field.specs.Answer.{Answer, good, refused}
use Rattle.field.specs.declared.Refusal.{Refusal}
use Rattle.field.proofs.OneResult.{One, Allowed, Answered}
use Rattle.net.specs.Tables.{Tables, transitions_in}
use Rattle.net.specs.Lent.{tables_lent}
use Rattle.form.specs.Form.{read_lent_step}
use Rattle.moving.specs.Says.{fired_says}
use Rattle.field.proofs.Faults.{said_once, known_said, IsKnown, bind_known}
use Rattle.moving.proofs.KnownChecks.{net_known, marking_known}
use Rattle.step.specs.Fire.{fire_step, fired, fire}
use Rattle.step.proofs.KnownRefusals.{lent_known, fire_known}
use Rattle.step.proofs.fire.Kinds as fire-kinds
use Rattle.step.proofs.fire.Reads as fire-reads

fired_once : (r q : Result (Unit {0}) Refusal) → fired_says r ≡ fired_says q → r ≡ q
fired_once r q e = said_once (λ u. u) (λ x y p. p) r q e

-- what `fire` answers is said by the code
step_answers : (T : Tables) (m s : List ℕ) → IsKnown (fire_step T m s)
unfolding fire_step
step_answers T m s = net_known T _ (marking_known T.places m _ (bind_known (read_lent_step s) _ (lent_known s) (λ is. fire_known (transitions_in T) (take T.places m) is)))

fired_known : (T : Tables) (m : List ℕ) (a : Answer (List ℕ)) → IsKnown a → IsKnown (fired T m a).answer
fired_known T m (good l) k = tt
fired_known T m (refused n c) k = k

fired_said : (T : Tables) (m s : List ℕ) → (r : Result (Unit {0}) Refusal) × (fired_says r ≡ (fire T m s).answer)
unfolding fire
fired_said T m s = known_said (λ u. u) (λ u. (u, refl)) (fired T m (fire_step T m s)).answer (fired_known T m (fire_step T m s) (step_answers T m s))

pub fire_answered : Answered 4 fire-kinds.ps fire-kinds.r fire-reads.Asked fire-reads.Post
fire_answered = record { free = λ κs a. tt; one = one }
  where
    one : (κs : Lfts 4) (a : Dens κs fire-kinds.ps) → One (Allowed 4 fire-kinds.ps fire-kinds.r fire-reads.Post κs a)
    one κs a =
        let T = tables_lent a.0.now in
        let f = fire T a.1.0.now a.1.1.0.now in
        let r = fired_said T a.1.0.now a.1.1.0.now in
        record {
          some = ((r.0, (tt, (f.marking, (tt, tt)))), (r.1, refl));
          only = λ x y p q.
              let r = fired_once x.0 y.0 (p.0 ∙ sym q.0) in
              let m = p.1 ∙ sym q.1 in
              λ i. (r i, (tt, (m i, (tt, tt))));
        }
