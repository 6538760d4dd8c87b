-- What checks 30 and 35 tell where they are passed: the net is in order between as many places as the marking's part has, and that part
-- has at most one token a place. Both by the definitions of the checks.
use Prim.Native.Nat.{ℕ, ◌≤◌}
use mathlib.Core.Path.{◌≡◌, refl, ap, ◌∙◌}
use mathlib.Core.List.{List}
use mathlib.Core.Bool.{Bool, true, false}
use borrow.Author.Tests.{leb-true}
use lib.ListN.{length, take}
use lib.Dec.{leb}
use Rattle.field.specs.Answer.{good, refused, check}
use Rattle.field.specs.Refusals.{no_marking}
use Rattle.field.specs.Lists.{all}
use Rattle.field.proofs.Answers.{check_good, good_not_refused}
use Rattle.net.specs.Marking.{check_marking}

pub marking_good : (places : ℕ) (m : List ℕ) (b : Bool) → check_marking places m ≡ check b no_marking 0 → b ≡ true → (places ≤ length m) × (all (λ x. leb x 1) (take places m) ≡ true)
unfolding check_marking
marking_good places m b e t =
    let f : check_marking places m ≡ good tt = e ∙ ap (λ (x : Bool). check x no_marking 0) t in
    let a = check_good (leb places (length m)) no_marking 0 _ tt f in
    (leb-true places (length m) a.0, passes (all (λ x. leb x 1) (take places m)) a.1)
  where
    passes : (x : Bool) → check x no_marking 0 ≡ good tt → x ≡ true
    passes true e = refl
    passes false e = good_not_refused (refused no_marking 0) tt no_marking 0 e refl
