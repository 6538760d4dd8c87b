-- The contract of `run_record` determines its answer and every byte of the marking, at every input.
-- The contract equates both with the run of any net that has the rows' transitions and the exits' place, and these decide the run.
use Prim.Native.Nat.{ℕ, suc, ◌+◌}
use mathlib.Core.Path.{◌≡◌, refl, sym, ap, ◌∙◌}
use mathlib.Core.List.{List}
use mathlib.Core.Bool.{cond}
use native.Mathlib.Nat.{add-zero}
use lib.ListN.{drop}
use lib.Dec.{leb}
use contract.Lifetimes.{Lfts}
use borrow.Fn.Kinds.{Dens}
use Rattle.field.specs.Answer.{Answer, good, refused}
use Rattle.field.specs.Lists.{all}
use Rattle.field.proofs.OneResult.{One, Allowed, Determined}
use Rattle.algebra.specs.Net.{Net, Transition}
use Rattle.algebra.specs.Marking.{exits_marked}
use Rattle.algebra.specs.Firing.{fire_items}
use Rattle.form.specs.Form.{Recorded, ends, step, no_step, read_steps}
use Rattle.moving.specs.inner.InOrder.{transitions_within}
use Rattle.run.specs.Run.{finished, unfinished, Run, go_on, run}
use Rattle.run.proofs.Determined.{ran_once, ran_said}
use Rattle.run.proofs.KnownVerdicts.{steps_known, run_sayable}
use Rattle.run.proofs.run_record.Kinds as kinds
use Rattle.run.proofs.run_record.Reads as reads

same_rest : (a : Answer (List ℕ)) (steps : ℕ) (m : List ℕ) (x y : List ℕ → Run) → ((m' : List ℕ) → x m' ≡ y m') → go_on a steps m x ≡ go_on a steps m y
same_rest (good m') steps m x y e = e m'
same_rest (refused n c) steps m x y e = refl

-- A run looks at a net's transitions and at where its exits begin, and at nothing else of it.
module _ (N M : Net) (g : N.transitions ≡ M.transitions) (f : N.entries + N.internals ≡ M.entries + M.internals) where
  same_run : (steps : ℕ) (m : List ℕ) (R : Recorded) → run N steps m R ≡ run M steps m R
  unfolding run exits_marked
  same_run steps m ends =
      ap (λ (k : ℕ). record { verdict = cond (all (λ x. leb 1 x) (drop k m)) (finished steps) (unfinished steps); marking = m }) f
  same_run steps m (step is rest) =
      ap (λ (ts : List Transition). go_on (fire_items ts m is) steps m (λ m'. run N (suc steps) m' rest)) g
      ∙ same_rest (fire_items M.transitions m is) steps m _ _ (λ m'. same_run (suc steps) m' rest)
  same_run steps m (no_step n c) = refl

-- The net of some rows and arcs whose exits begin at a place.
some_net : List ℕ → List ℕ → ℕ → ℕ → Net
some_net rows arcs transitions exits_from = record { entries = exits_from; internals = 0; exits = 0; transitions = transitions_within rows arcs transitions }

pub run_record_determined : Determined 3 kinds.ps kinds.r reads.Post
unfolding some_net
run_record_determined = record { one = one }
  where
    one : (κs : Lfts 3) (a : Dens κs kinds.ps) → One (Allowed 3 kinds.ps kinds.r reads.Post κs a)
    one κs a =
        let N = some_net a.0.now a.1.0.now a.1.1.0 a.1.1.1.0 in
        let m = a.1.1.1.1.1.0.now in
        let R = read_steps 0 0 a.1.1.1.1.0.now in
        let z = run N 0 m R in
        let r = ran_said z.verdict (run_sayable N 0 m R (steps_known 0 0 a.1.1.1.1.0.now)) in
        let to-exits = add-zero a.1.1.1.0 in
        record {
          some = (
            (r.0, (tt, (tt, (tt, (tt, (tt, (z.marking, tt))))))),
            λ M g f. let e = same_run N M (sym g) (to-exits ∙ sym f) 0 m R in (r.1 ∙ ap (λ (t : Run). t.verdict) e, ap (λ (t : Run). t.marking) e),
          );
          only = λ x y p q.
              let p = p N refl to-exits in
              let q = q N refl to-exits in
              let r = ran_once x.0 y.0 (p.0 ∙ sym q.0) in
              let k = p.1 ∙ sym q.1 in
              λ i. (r i, (tt, (tt, (tt, (tt, (tt, (k i, tt)))))));
        }
