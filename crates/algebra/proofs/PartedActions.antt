-- Fact 8: two actions in one flat step part at a parallel field, and no action moves twice.
-- At every other operator only one operand moves, and the others are quiet, so both actions are in that operand.
use Prim.Native.Nat.{ℕ, ◌+◌, ◌≤◌, ◌<◌}
use native.Mathlib.Omega.{arith}
use mathlib.Core.Path.{◌≡◌, ap}
use mathlib.Core.Bool.{Bool, true, false, not}
use lib.Dec.{T, ltb, ltb→lt, nltb→le}
use Rattle.algebra.specs.Expr.{Expr, actions}
use Rattle.algebra.specs.Dynamic.{Dynamic}
use Rattle.algebra.specs.Transitions.{where_both, part_at_parallel}
use Rattle.algebra.proofs.Flows.{Quiet}
use Rattle.algebra.proofs.FlatSteps.{Flat, flat_idle, flat_acts, flat_sequence_first, flat_sequence_second, flat_choice_first, flat_choice_second, flat_parallel, flat_loop_first, flat_loop_body, flat_loop_last, flat_scope, flat_equal}
use Rattle.algebra.proofs.FlatLaws.{Over, of_two, of_three, before_quiet, after_quiet}

quiet_once : (A : ℕ → ℕ) (n size : ℕ) → Quiet n size A → Over n size (λ i. A i ≤ 1)
quiet_once A n size q i lo hi = omega (arith, q i lo hi)

pub flat_once : {A : ℕ → ℕ} {n : ℕ} {E : Expr} {D D' : Dynamic E} → Flat A n E D D' → (i : ℕ) → n ≤ i → i < n + actions E → A i ≤ 1
unfolding actions
flat_once {A} (flat_idle {n = n} {E = E} q) = quiet_once A n (actions E) q
flat_once {A} (flat_acts {n = n} p) = λ i lo hi. let e : i ≡ n = omega arith in omega (arith, p, ap A e)
flat_once {A} (flat_sequence_first {n = n} {E = E} {F = F} q s) = of_two (λ i. A i ≤ 1) n (actions E) (actions F) (flat_once s) (quiet_once A (n + actions E) (actions F) q)
flat_once {A} (flat_sequence_second {n = n} {E = E} {F = F} q s) = of_two (λ i. A i ≤ 1) n (actions E) (actions F) (quiet_once A n (actions E) q) (flat_once s)
flat_once {A} (flat_choice_first {n = n} {E = E} {F = F} q s) = of_two (λ i. A i ≤ 1) n (actions E) (actions F) (flat_once s) (quiet_once A (n + actions E) (actions F) q)
flat_once {A} (flat_choice_second {n = n} {E = E} {F = F} q s) = of_two (λ i. A i ≤ 1) n (actions E) (actions F) (quiet_once A n (actions E) q) (flat_once s)
flat_once {A} (flat_parallel {n = n} {E = E} {F = F} s t) = of_two (λ i. A i ≤ 1) n (actions E) (actions F) (flat_once s) (flat_once t)
flat_once {A} (flat_loop_first {n = n} {E = E} {F = F} {G = G} p q s) =
    of_three (λ i. A i ≤ 1) n (actions E) (actions F) (actions G) (flat_once s) (quiet_once A (n + actions E) (actions F) p) (quiet_once A (n + actions E + actions F) (actions G) q)
flat_once {A} (flat_loop_body {n = n} {E = E} {F = F} {G = G} p q s) =
    of_three (λ i. A i ≤ 1) n (actions E) (actions F) (actions G) (quiet_once A n (actions E) p) (flat_once s) (quiet_once A (n + actions E + actions F) (actions G) q)
flat_once {A} (flat_loop_last {n = n} {E = E} {F = F} {G = G} p q s) =
    of_three (λ i. A i ≤ 1) n (actions E) (actions F) (actions G) (quiet_once A n (actions E) p) (quiet_once A (n + actions E) (actions F) q) (flat_once s)
flat_once (flat_scope s) = flat_once s
flat_once (flat_equal p s q) = flat_once s

-- Two actions are both in the first operand, whose actions end at m, or both in the rest, or parted here.
module _ (m i j : ℕ) (in_first in_rest here : Bool) where
  pub parted : {X : Type 0} → T (where_both (ltb i m) (ltb j m) in_first in_rest here) → (i < m → j < m → T in_first → X) → (m ≤ i → m ≤ j → T in_rest → X)
      → (i < m → m ≤ j → T here → X) → (m ≤ i → j < m → T here → X) → X
  parted {X} = go (ltb i m) (ltb j m) (ltb→lt i m) (nltb→le i m) (ltb→lt j m) (nltb→le j m)
    where
      go : (b c : Bool) → (T b → i < m) → (T (not b) → m ≤ i) → (T c → j < m) → (T (not c) → m ≤ j) → T (where_both b c in_first in_rest here) → (i < m → j < m → T in_first → X)
          → (m ≤ i → m ≤ j → T in_rest → X) → (i < m → m ≤ j → T here → X) → (m ≤ i → j < m → T here → X) → X
      go true true p p' q q' t f g h k = f (p tt) (q tt) t
      go true false p p' q q' t f g h k = h (p tt) (q' tt) t
      go false true p p' q q' t f g h k = k (p' tt) (q tt) t
      go false false p p' q q' t f g h k = g (p' tt) (q' tt) t

  -- where they part here, or need not
  pub parts_where : (i < m → j < m → T in_first) → (m ≤ i → m ≤ j → T in_rest) → (i < m → m ≤ j → T here) → (m ≤ i → j < m → T here)
      → T (where_both (ltb i m) (ltb j m) in_first in_rest here)
  parts_where = go (ltb i m) (ltb j m) (ltb→lt i m) (nltb→le i m) (ltb→lt j m) (nltb→le j m)
    where
      go : (b c : Bool) → (T b → i < m) → (T (not b) → m ≤ i) → (T c → j < m) → (T (not c) → m ≤ j) → (i < m → j < m → T in_first) → (m ≤ i → m ≤ j → T in_rest)
          → (i < m → m ≤ j → T here) → (m ≤ i → j < m → T here) → T (where_both b c in_first in_rest here)
      go true true p p' q q' f g h k = f (p tt) (q tt)
      go true false p p' q q' f g h k = h (p tt) (q' tt)
      go false true p p' q q' f g h k = k (p' tt) (q tt)
      go false false p p' q q' f g h k = g (p' tt) (q' tt)

  pub parts_first : i < m → j < m → T in_first → T (where_both (ltb i m) (ltb j m) in_first in_rest here)
  parts_first p q t = parts_where (λ a b. t) (λ a b. absurd (omega arith)) (λ a b. absurd (omega arith)) (λ a b. absurd (omega arith))

  pub parts_rest : m ≤ i → m ≤ j → T in_rest → T (where_both (ltb i m) (ltb j m) in_first in_rest here)
  parts_rest p q t = parts_where (λ a b. absurd (omega arith)) (λ a b. t) (λ a b. absurd (omega arith)) (λ a b. absurd (omega arith))

-- Two actions of a step are both in the operand that is not quiet.
module _ (A : ℕ → ℕ) (n a : ℕ) (i j : ℕ) (some-i : 1 ≤ A i) (some-j : 1 ≤ A j) (in_first in_rest here : Bool) where
  rest_quiet : (b : ℕ) → Quiet (n + a) b A → i < n + a + b → j < n + a + b → (i < n + a → j < n + a → T in_first)
      → T (where_both (ltb i (n + a)) (ltb j (n + a)) in_first in_rest here)
  rest_quiet b q hi hj f =
      let p = before_quiet A n a i b q hi some-i in
      let r = before_quiet A n a j b q hj some-j in
      parts_first (n + a) i j in_first in_rest here p r (f p r)

  first_quiet : Quiet n a A → n ≤ i → n ≤ j → (n + a ≤ i → n + a ≤ j → T in_rest) → T (where_both (ltb i (n + a)) (ltb j (n + a)) in_first in_rest here)
  first_quiet q li lj f =
      let p = after_quiet A n a i q li some-i in
      let r = after_quiet A n a j q lj some-j in
      parts_rest (n + a) i j in_first in_rest here p r (f p r)

pub flat_parts : {A : ℕ → ℕ} {n : ℕ} {E : Expr} {D D' : Dynamic E} → Flat A n E D D' → (i j : ℕ) → n ≤ i → i < n + actions E → n ≤ j → j < n + actions E
    → 1 ≤ A i → 1 ≤ A j → (i ≡ j → ⊥) → T (part_at_parallel n E i j)
unfolding part_at_parallel
flat_parts (flat_idle q) i j li hi lj hj si sj d = absurd (omega (arith, q i li hi))
flat_parts (flat_acts p) i j li hi lj hj si sj d = absurd (d (omega arith))
flat_parts {A} (flat_sequence_first {n = n} {E = E} {F = F} q s) i j li hi lj hj si sj d =
    rest_quiet A n (actions E) i j si sj _ _ _ (actions F) q (omega arith) (omega arith) (λ x y. flat_parts s i j li x lj y si sj d)
flat_parts {A} (flat_sequence_second {n = n} {E = E} {F = F} q s) i j li hi lj hj si sj d =
    first_quiet A n (actions E) i j si sj _ _ _ q li lj (λ x y. flat_parts s i j x (omega arith) y (omega arith) si sj d)
flat_parts {A} (flat_choice_first {n = n} {E = E} {F = F} q s) i j li hi lj hj si sj d =
    rest_quiet A n (actions E) i j si sj _ _ _ (actions F) q (omega arith) (omega arith) (λ x y. flat_parts s i j li x lj y si sj d)
flat_parts {A} (flat_choice_second {n = n} {E = E} {F = F} q s) i j li hi lj hj si sj d =
    first_quiet A n (actions E) i j si sj _ _ _ q li lj (λ x y. flat_parts s i j x (omega arith) y (omega arith) si sj d)
flat_parts {A} (flat_parallel {n = n} {E = E} {F = F} s t) i j li hi lj hj si sj d =
    parts_where (n + actions E) i j _ _ _ (λ x y. flat_parts s i j li x lj y si sj d) (λ x y. flat_parts t i j x (omega arith) y (omega arith) si sj d) (λ x y. tt) (λ x y. tt)
flat_parts {A} (flat_loop_first {n = n} {E = E} {F = F} {G = G} p q s) i j li hi lj hj si sj d =
    rest_quiet A n (actions E) i j si sj _ _ _ (actions F + actions G) (of_two (λ k. A k ≡ 0) (n + actions E) (actions F) (actions G) p q) (omega arith) (omega arith)
    (λ x y. flat_parts s i j li x lj y si sj d)
flat_parts {A} (flat_loop_body {n = n} {E = E} {F = F} {G = G} p q s) i j li hi lj hj si sj d =
    first_quiet A n (actions E) i j si sj _ _ _ p li lj
    (λ a b. rest_quiet A (n + actions E) (actions F) i j si sj _ _ _ (actions G) q (omega arith) (omega arith) (λ x y. flat_parts s i j a x b y si sj d))
flat_parts {A} (flat_loop_last {n = n} {E = E} {F = F} {G = G} p q s) i j li hi lj hj si sj d =
    first_quiet A n (actions E) i j si sj _ _ _ p li lj
    (λ a b. first_quiet A (n + actions E) (actions F) i j si sj _ _ _ q a b (λ x y. flat_parts s i j x (omega arith) y (omega arith) si sj d))
flat_parts (flat_scope s) i j li hi lj hj si sj d = flat_parts s i j li hi lj hj si sj d
flat_parts (flat_equal p s q) i j li hi lj hj si sj d = flat_parts s i j li hi lj hj si sj d
