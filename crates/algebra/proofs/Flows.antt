-- What a step takes from a place and gives to it, where A says how often each action is in the step.
-- An action takes from a place once for each time its own entry is an entry part of it, and gives once for each exit part.
use Prim.Native.Nat.{ℕ, ◌+◌, ◌-◌, ◌≤◌, ◌<◌}
use native.Mathlib.Nat.{eq-zero-or-pos}
use native.Mathlib.Omega.{arith}
use mathlib.Core.Path.{◌≡◌, ◌∙◌, ap}
use mathlib.Core.Logic.{⊎_elim}
use Rattle.algebra.specs.Places.{Place, entry, exit, sequence_place, choice_entry, choice_exit, loop_place}

unfoldable pub taken : (ℕ → ℕ) → Place → ℕ
taken A (entry i) = A i
taken A (exit i) = 0
taken A (sequence_place x e) = taken A e
taken A (choice_entry e f) = taken A e + taken A f
taken A (choice_exit x y) = 0
taken A (loop_place x y e g) = taken A e + taken A g

unfoldable pub given : (ℕ → ℕ) → Place → ℕ
given A (entry i) = 0
given A (exit i) = A i
given A (sequence_place x e) = given A x
given A (choice_entry e f) = 0
given A (choice_exit x y) = given A x + given A y
given A (loop_place x y e g) = given A x + given A y

-- no action of so many from n on is in the step
abbrev pub Quiet : ℕ → ℕ → (ℕ → ℕ) → Type 0
Quiet n size A = (i : ℕ) → n ≤ i → i < n + size → A i ≡ 0

pub quiet_one : (A : ℕ → ℕ) (n : ℕ) → A n ≡ 0 → Quiet n 1 A
quiet_one A n z i h k = let p : i ≡ n = omega arith in ap A p ∙ z

-- Of ranges that follow each other, two or, as in a loop, three: quiet in all of it is quiet in each.
module _ {A : ℕ → ℕ} {n : ℕ} (a b : ℕ) where
  pub quiet_first : Quiet n (a + b) A → Quiet n a A
  quiet_first q i h k = q i h (omega arith)

  pub quiet_second : Quiet n (a + b) A → Quiet (n + a) b A
  quiet_second q i h k = q i (omega arith) (omega arith)

  pub quiet_join : Quiet n a A → Quiet (n + a) b A → Quiet n (a + b) A
  quiet_join q r i h k = ⊎_elim (λ z. r i (omega arith) (omega arith)) (λ p. q i h (omega arith)) (eq-zero-or-pos (n + a - i))

  pub quiet_of_three : (c : ℕ) → Quiet n (a + b + c) A → Quiet n a A × Quiet (n + a) b A × Quiet (n + a + b) c A
  quiet_of_three c q = (λ i h k. q i h (omega arith), λ i h k. q i (omega arith) (omega arith), λ i h k. q i (omega arith) (omega arith))

  pub quiet_join_three : (c : ℕ) → Quiet n a A → Quiet (n + a) b A → Quiet (n + a + b) c A → Quiet n (a + b + c) A
  quiet_join_three c q r s i h k = ⊎_elim (λ z. s i (omega arith) (omega arith)) (λ p. quiet_join q r i h (omega arith)) (eq-zero-or-pos (n + a + b - i))
