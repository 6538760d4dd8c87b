-- A turn and the end of each loop that reads one list: the test of the rest of the list is the test of its head and the test of what follows.
-- True by the clauses of the tests, at the element where the loop stands.
use Prim.Native.Nat.{ℕ, ◌+◌, ◌≤◌, ◌<◌}
use mathlib.Core.Path.{◌≡◌, refl, sym, ap, ◌∙◌}
use mathlib.Core.List.{List}
use mathlib.Core.Bool.{Bool, true, false, ◌&&◌}
use native.Mathlib.Numerals.{add-one}
use lib.ListN.{length, drop, get_or, drop_of_length-le}
use lib.Seq.{drop-cons}
use Rattle.field.specs.Lists.{all}
use Rattle.field.proofs.Alls.{and_assoc}

-- The whole is what is left, and that is a test and the rest: where the test is passed the rest is the whole, and where it fails the whole fails.
module _ {whole left : Bool} (test rest : Bool) (inv : whole ≡ left) (turn : left ≡ (test && rest)) where
  pub goes_on : test ≡ true → whole ≡ rest
  goes_on e = inv ∙ turn ∙ ap (λ (b : Bool). b && rest) e

  pub stops : test ≡ false → false ≡ whole
  stops e = sym (inv ∙ turn ∙ ap (λ (b : Bool). b && rest) e)

-- A test joined with one that is passed.
pub and_yes : (b : Bool) → (b && true) ≡ b
and_yes true = refl
and_yes false = refl

module _ (l : List ℕ) (i : ℕ) where
  pub all_turn : (f : ℕ → Bool) → i < length l → all f (drop i l) ≡ (f (get_or l i 0) && all f (drop (i + 1) l))
  unfolding all
  all_turn f h = rw (add-one, drop-cons l i 0)

  pub all_end : (f : ℕ → Bool) → length l ≤ i → all f (drop i l) ≡ true
  unfolding all
  all_end f h = rw (drop_of_length-le l h)

  -- The same where what was looked at so far has passed or not.
  module _ (f : ℕ → Bool) (so_far whole : Bool) (inv : whole ≡ (so_far && all f (drop i l))) where
    pub all_so_far_turn : i < length l → whole ≡ ((so_far && f (get_or l i 0)) && all f (drop (i + 1) l))
    all_so_far_turn h = inv ∙ ap (λ b. so_far && b) (all_turn f h) ∙ sym (and_assoc so_far (f (get_or l i 0)) (all f (drop (i + 1) l)))

    pub all_so_far_end : length l ≤ i → whole ≡ so_far
    all_so_far_end h = inv ∙ ap (λ b. so_far && b) (all_end f h) ∙ and_yes so_far
