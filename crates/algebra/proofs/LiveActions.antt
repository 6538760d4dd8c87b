-- Every action, and every two that part at a parallel field, is the flat step of some state.
-- The state is found on the way down to the actions: the operand that holds them is active, and of a parallel that parts them both sides are.
use Prim.Native.Nat.{ℕ, ◌+◌, ◌≤◌, ◌<◌}
use native.Mathlib.Omega.{arith}
use mathlib.Core.Path.{◌≡◌, refl, ◌∙◌, ap}
use mathlib.Core.Bool.{Bool, true, false, cond}
use lib.Dec.{T, eqb, eqb→eq, eqb_refl, ltb}
use Rattle.algebra.specs.Expr.{Expr, action, sequence, choice, parallel, loop, scope, actions}
use Rattle.algebra.specs.Dynamic.{Dynamic, started, finished, sequence_first, sequence_second, choice_first, choice_second, parallel_both, loop_first, loop_body, loop_last, scope_inside}
use Rattle.algebra.specs.Transitions.{where_both, part_at_parallel}
use Rattle.algebra.proofs.Flows.{Quiet}
use Rattle.algebra.proofs.FlatSteps.{Flat, flat_idle, flat_acts, flat_sequence_first, flat_sequence_second, flat_choice_first, flat_choice_second, flat_parallel, flat_loop_first, flat_loop_body, flat_loop_last, flat_scope}
use Rattle.algebra.proofs.FlatLaws.{below_or_not, over_two, flat_same}
use Rattle.algebra.proofs.PartedActions.{parted}

-- one action moves once
unfoldable pub only : ℕ → ℕ → ℕ
only i k = cond (eqb k i) 1 0

pub only_same : (i : ℕ) → only i i ≡ 1
unfolding only
only_same i = go (eqb i i) (eqb_refl i)
  where
    go : (b : Bool) → T b → ◌≡◌ {A = ℕ} (cond b 1 0) 1
    go true t = refl
    go false t = absurd t

pub only_else : (i k : ℕ) → (k ≡ i → ⊥) → only i k ≡ 0
unfolding only
only_else i k d = go (eqb k i) (eqb→eq k i)
  where
    go : (b : Bool) → (T b → k ≡ i) → ◌≡◌ {A = ℕ} (cond b 1 0) 0
    go true f = absurd (d (f tt))
    go false f = refl

pub only_quiet : (n size i : ℕ) → (n ≤ i → i < n + size → ⊥) → Quiet n size (only i)
only_quiet n size i out k lo hi = only_else i k (λ e. out (omega arith) (omega arith))

-- both of two actions move once
abbrev pub both : ℕ → ℕ → ℕ → ℕ
both i j k = only i k + only j k

both_quiet : (n size i j : ℕ) → (n ≤ i → i < n + size → ⊥) → (n ≤ j → j < n + size → ⊥) → Quiet n size (both i j)
both_quiet n size i j p q k lo hi = omega (arith, only_quiet n size i p k lo hi, only_quiet n size j q k lo hi)

-- some state moves by A
abbrev Live : (ℕ → ℕ) → ℕ → Expr → Type 0
Live A n E = (D : Dynamic E) × (D' : Dynamic E) × Flat A n E D D'

module _ {A : ℕ → ℕ} {n : ℕ} where
  module _ {E F : Expr} where
    live_sequence_first : Quiet (n + actions E) (actions F) A → Live A n E → Live A n (sequence E F)
    live_sequence_first q l = (sequence_first l.0, sequence_first l.1, flat_sequence_first q l.2)

    live_sequence_second : Quiet n (actions E) A → Live A (n + actions E) F → Live A n (sequence E F)
    live_sequence_second q l = (sequence_second l.0, sequence_second l.1, flat_sequence_second q l.2)

    live_choice_first : Quiet (n + actions E) (actions F) A → Live A n E → Live A n (choice E F)
    live_choice_first q l = (choice_first l.0, choice_first l.1, flat_choice_first q l.2)

    live_choice_second : Quiet n (actions E) A → Live A (n + actions E) F → Live A n (choice E F)
    live_choice_second q l = (choice_second l.0, choice_second l.1, flat_choice_second q l.2)

    live_parallel : Live A n E → Live A (n + actions E) F → Live A n (parallel E F)
    live_parallel l r = (parallel_both l.0 r.0, parallel_both l.1 r.1, flat_parallel l.2 r.2)

  live_idle : {E : Expr} → Quiet n (actions E) A → Live A n E
  live_idle q = (started, started, flat_idle q)

  module _ {E F G : Expr} where
    live_loop_first : Quiet (n + actions E) (actions F) A → Quiet (n + actions E + actions F) (actions G) A → Live A n E → Live A n (loop E F G)
    live_loop_first p q l = (loop_first l.0, loop_first l.1, flat_loop_first p q l.2)

    live_loop_body : Quiet n (actions E) A → Quiet (n + actions E + actions F) (actions G) A → Live A (n + actions E) F → Live A n (loop E F G)
    live_loop_body p q l = (loop_body l.0, loop_body l.1, flat_loop_body p q l.2)

    live_loop_last : Quiet n (actions E) A → Quiet (n + actions E) (actions F) A → Live A (n + actions E + actions F) G → Live A n (loop E F G)
    live_loop_last p q l = (loop_last l.0, loop_last l.1, flat_loop_last p q l.2)

  live_scope : {a : ℕ} {E : Expr} → Live A n E → Live A n (scope a E)
  live_scope l = (scope_inside l.0, scope_inside l.1, flat_scope l.2)

-- An action that is elsewhere changes nothing.
module _ (n : ℕ) (E : Expr) (i j : ℕ) where
  with_quiet : (n ≤ j → j < n + actions E → ⊥) → Live (only i) n E → Live (both i j) n E
  with_quiet out l = (l.0, l.1, flat_same (λ k lo hi. omega (arith, only_quiet n (actions E) j out k lo hi)) l.2)

  quiet_with : (n ≤ i → i < n + actions E → ⊥) → Live (only j) n E → Live (both i j) n E
  quiet_with out l = (l.0, l.1, flat_same (λ k lo hi. omega (arith, only_quiet n (actions E) i out k lo hi)) l.2)

-- The operand that does not hold the actions is quiet.
one_operand : {X : Type 0} (n a b i : ℕ) → (i < n + a → Quiet (n + a) b (only i) → X) → (n + a ≤ i → Quiet n a (only i) → X) → X
one_operand n a b i f g = below_or_not i (n + a) (λ h. f h (only_quiet (n + a) b i (omega arith))) (λ h. g h (only_quiet n a i (omega arith)))

pub action_live : (n : ℕ) (E : Expr) (i : ℕ) → n ≤ i → i < n + actions E → (D : Dynamic E) × (D' : Dynamic E) × Flat (only i) n E D D'
unfolding actions
action_live n (action l) i lo hi = let e : n ≡ i = omega arith in (started, finished, flat_acts (ap (only i) e ∙ only_same i))
action_live n (sequence E F) i lo hi =
    one_operand n (actions E) (actions F) i (λ h q. live_sequence_first q (action_live n E i lo h)) (λ h q. live_sequence_second q (action_live (n + actions E) F i h (omega arith)))
action_live n (choice E F) i lo hi =
    one_operand n (actions E) (actions F) i (λ h q. live_choice_first q (action_live n E i lo h)) (λ h q. live_choice_second q (action_live (n + actions E) F i h (omega arith)))
action_live n (parallel E F) i lo hi =
    one_operand n (actions E) (actions F) i (λ h q. live_parallel (action_live n E i lo h) (live_idle q)) (λ h q. live_parallel (live_idle q) (action_live (n + actions E) F i h (omega arith)))
action_live n (loop E F G) i lo hi =
    let m = n + actions E in
    let k = m + actions F in
    one_operand n (actions E) (actions F + actions G) i (λ h q. let r = over_two (λ x. only i x ≡ 0) m (actions F) (actions G) q in live_loop_first r.0 r.1 (action_live n E i lo h))
    (λ h p. one_operand m (actions F) (actions G) i (λ l q. live_loop_body p q (action_live m F i h l)) (λ l q. live_loop_last p q (action_live k G i l (omega arith))))
action_live n (scope a E) i lo hi = live_scope (action_live n E i lo hi)

-- Of two actions that do not part here, both are in one operand, and the other is quiet.
one_of_two : {X : Type 0} (n a b i j : ℕ) (in_first in_rest : Bool) → T (where_both (ltb i (n + a)) (ltb j (n + a)) in_first in_rest false)
    → (i < n + a → j < n + a → T in_first → Quiet (n + a) b (both i j) → X) → (n + a ≤ i → n + a ≤ j → T in_rest → Quiet n a (both i j) → X) → X
one_of_two n a b i j in_first in_rest t f g =
    parted (n + a) i j in_first in_rest false t (λ x y u. f x y u (both_quiet (n + a) b i j (omega arith) (omega arith))) (λ x y u. g x y u (both_quiet n a i j (omega arith) (omega arith)))
    (λ x y u. absurd u) (λ x y u. absurd u)

pub pair_live : (n : ℕ) (E : Expr) (i j : ℕ) → n ≤ i → i < n + actions E → n ≤ j → j < n + actions E → T (part_at_parallel n E i j)
    → (D : Dynamic E) × (D' : Dynamic E) × Flat (λ k. only i k + only j k) n E D D'
unfolding part_at_parallel
pair_live n (action l) i j li hi lj hj t = absurd t
pair_live n (sequence E F) i j li hi lj hj t =
    one_of_two n (actions E) (actions F) i j _ _ t (λ x y u q. live_sequence_first q (pair_live n E i j li x lj y u))
    (λ x y u q. live_sequence_second q (pair_live (n + actions E) F i j x (omega arith) y (omega arith) u))
pair_live n (choice E F) i j li hi lj hj t =
    one_of_two n (actions E) (actions F) i j _ _ t (λ x y u q. live_choice_first q (pair_live n E i j li x lj y u))
    (λ x y u q. live_choice_second q (pair_live (n + actions E) F i j x (omega arith) y (omega arith) u))
pair_live n (parallel E F) i j li hi lj hj t =
    let m = n + actions E in
    parted m i j _ _ _ t (λ x y u. live_parallel (pair_live n E i j li x lj y u) (live_idle (both_quiet m (actions F) i j (omega arith) (omega arith))))
    (λ x y u. live_parallel (live_idle (both_quiet n (actions E) i j (omega arith) (omega arith))) (pair_live m F i j x (omega arith) y (omega arith) u))
    (λ x y u. live_parallel (with_quiet n E i j (omega arith) (action_live n E i li x)) (quiet_with m F i j (omega arith) (action_live m F j y (omega arith))))
    (λ x y u. live_parallel (quiet_with n E i j (omega arith) (action_live n E j lj y)) (with_quiet m F i j (omega arith) (action_live m F i x (omega arith))))
pair_live n (loop E F G) i j li hi lj hj t =
    let m = n + actions E in
    let k = m + actions F in
    one_of_two n (actions E) (actions F + actions G) i j _ _ t
    (λ x y u q. let r = over_two (λ z. both i j z ≡ 0) m (actions F) (actions G) q in live_loop_first r.0 r.1 (pair_live n E i j li x lj y u))
    (λ x y u p. one_of_two m (actions F) (actions G) i j _ _ u (λ v w z q. live_loop_body p q (pair_live m F i j x v y w z))
    (λ v w z q. live_loop_last p q (pair_live k G i j v (omega arith) w (omega arith) z)))
pair_live n (scope a E) i j li hi lj hj t = live_scope (pair_live n E i j li hi lj hj t)
