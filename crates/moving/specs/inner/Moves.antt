-- What the functions that move tokens answer and leave in the marking.
use Rattle.std.specs.Prelude.{ℕ, ◌≡◌, List, Result}
use Rattle.field.specs.Answer.{Answer, good, refused}
use Rattle.field.specs.declared.Refusal.{Refusal}
use Rattle.moving.specs.Says.{fired_says}

-- An answer without the marking that it has, and the marking afterwards: nothing is written on refusal.
abbrev pub told : Answer (List ℕ) → Answer (Unit {0})
told (good m) = good tt
told (refused n c) = refused n c

abbrev pub kept : List ℕ → Answer (List ℕ) → List ℕ
kept m (good m') = m'
kept m (refused n c) = m

-- The code's answer and the two markings, at entry and afterwards, are those of an answer.
pub record Moves (r : Result (Unit {0}) Refusal) (entry exit : List ℕ) (answer : Answer (List ℕ)) : Type 0 where
  pub says : fired_says r ≡ told answer
  pub leaves : exit ≡ kept entry answer
