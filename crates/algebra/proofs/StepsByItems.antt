-- Fact 9: a step is derived exactly when each of its items is a listed transition and its actions are a flat step.
-- One way, a pair that a scope joins parts at a parallel field, because both actions are in one flat step; the other way, items are dealt to the operands by their actions.
use Prim.Native.Nat.{ℕ, ◌+◌, ◌≤◌, ◌<◌}
use native.Mathlib.Omega.{arith}
use mathlib.Core.Path.{◌≡◌, refl, sym, ◌∙◌, ap, subst}
use mathlib.Core.Logic.{◌⊎◌, inl, inr, ⊎_elim}
use mathlib.Core.List.{List, [], ◌∷◌, ◌++◌}
use lib.Dec.{T}
use Rattle.algebra.specs.Expr.{Expr, action, parallel, scope, actions, label}
use Rattle.algebra.specs.Item.{Item, one, two, first}
use Rattle.algebra.specs.Transitions.{part_at_parallel}
use Rattle.algebra.proofs.EveryStepHasAnInput.{InRange, first_in_range}
use Rattle.algebra.specs.Scopes.{ScopesNamed}
use Rattle.algebra.specs.Dynamic.{Dynamic, started, finished}
use Rattle.algebra.specs.Steps.{Bag, empty, keep, swap, after, Free, Join, done, stays, joins, Step, idle, acts, by_sequence_first, by_sequence_second, by_choice_first, by_choice_second, by_parallel, by_loop_first, by_loop_body, by_loop_last, by_scope, in_any_order, up_to_equal}
use Rattle.algebra.proofs.Lists.{AllOf, all_joined, all_weaker}
use Rattle.algebra.proofs.Flows.{Quiet}
use Rattle.algebra.proofs.FlatSteps.{Flat, flat_idle, flat_acts, flat_sequence_first, flat_sequence_second, flat_choice_first, flat_choice_second, flat_parallel, flat_loop_first, flat_loop_body, flat_loop_last, flat_scope, flat_equal}
use Rattle.algebra.proofs.FlatLaws.{over_two, of_two, over_three, quiet_same, flat_same}
use Rattle.algebra.proofs.PartedActions.{flat_parts}
use Rattle.algebra.proofs.LiveActions.{only, only_same, only_else}
use Rattle.algebra.proofs.ListedItems.{Listed, listed_in_range, Operands, of_sequence, of_choice, of_parallel, of_loop, listed_operands, listed_action, Joined, listed_scope}

-- How often action k is in an item, and in the items of a step.
abbrev pub item_times : Item → ℕ → ℕ
item_times (one i) k = only i k
item_times (two i j) k = only i k + only j k

unfoldable pub times : List Item → ℕ → ℕ
times [] k = 0
times (t ∷ S) k = item_times t k + times S k

pub times_append : (S R : List Item) (k : ℕ) → times (S ++ R) k ≡ times S k + times R k
unfolding times
times_append [] R k = omega arith
times_append (t ∷ S) R k = omega (arith, times_append S R k)

pub times_bag : {S R : List Item} → Bag S R → (k : ℕ) → times S k ≡ times R k
unfolding times
times_bag empty k = refl
times_bag (keep b) k = omega (arith, times_bag b k)
times_bag swap k = omega arith
times_bag (after b c) k = times_bag b k ∙ times_bag c k

times_join : {l : ℕ → ℕ} {a : ℕ} {U S : List Item} → Join l a U S → (k : ℕ) → times U k ≡ times S k
unfolding times
times_join done k = refl
times_join (stays f j) k = omega (arith, times_join j k)
times_join (joins p q j) k = omega (arith, times_join j k)

-- an item has its first action, and none outside of its range
pub item_has_first : (t : Item) → 1 ≤ item_times t (first t)
item_has_first (one i) = omega (arith, only_same i)
item_has_first (two i j) = omega (arith, only_same i)

item_outside : (lo hi : ℕ) (t : Item) → InRange lo hi t → (k : ℕ) → (lo ≤ k → k < hi → ⊥) → item_times t k ≡ 0
item_outside lo hi (one i) r k out = only_else i k (λ e. out (omega arith) (omega arith))
item_outside lo hi (two i j) r k out = omega (arith, only_else i k (λ e. out (omega arith) (omega arith)), only_else j k (λ e. out (omega arith) (omega arith)))

pub times_outside : (n : ℕ) (E : Expr) (S : List Item) → AllOf (Listed n E) S → (k : ℕ) → (n ≤ k → k < n + actions E → ⊥) → times S k ≡ 0
unfolding times
times_outside n E [] a k out = refl
times_outside n E (t ∷ S) a k out = omega (arith, item_outside n (n + actions E) t (listed_in_range a.0) k out, times_outside n E S a.1 k out)

bag_all : (P : Item → Type 0) {S R : List Item} → Bag S R → AllOf P S → AllOf P R
bag_all P empty a = tt
bag_all P (keep b) a = (a.0, bag_all P b a.1)
bag_all P swap a = (a.1.0, (a.0, a.1.1))
bag_all P (after b c) a = bag_all P c (bag_all P b a)

-- The items of one operand are items of the whole, and the other operand is quiet.
module _ {n : ℕ} {E F W : Expr} (o : Operands n E F W) (S : List Item) where
  first_moves : AllOf (Listed n E) S → AllOf (Listed n W) S × Quiet (n + actions E) (actions F) (times S)
  first_moves a = (all_weaker S (λ t l. (listed_operands o t).1 (inl l)) a, λ k lo hi. times_outside n E S a k (omega arith))

  second_moves : AllOf (Listed (n + actions E) F) S → AllOf (Listed n W) S × Quiet n (actions E) (times S)
  second_moves a = (all_weaker S (λ t l. (listed_operands o t).1 (inr l)) a, λ k lo hi. times_outside (n + actions E) F S a k (omega arith))

-- Any two actions of a flat step part at a parallel field.
abbrev Meets : ℕ → Expr → List Item → Type 0
Meets n E U = (i j : ℕ) → n ≤ i → i < n + actions E → n ≤ j → j < n + actions E → 1 ≤ times U i → 1 ≤ times U j → (i ≡ j → ⊥) → T (part_at_parallel n E i j)

join_listed : (n : ℕ) (E : Expr) {a : ℕ} {U S : List Item} → ScopesNamed (scope a E) → Join (label n E) a U S → AllOf (Listed n E) U → Meets n E U → AllOf (Listed n (scope a E)) S
unfolding times
join_listed n E s done all m = tt
join_listed n E {a} s (stays {t = t} f j) all m =
    ((listed_scope n a E s t).1 (inl (all.0, f)), join_listed n E s j all.1 (λ i k li hi lk hk p q. m i k li hi lk hk (omega arith) (omega arith)))
join_listed n E {a} s (joins {i = i} {j = k} p q j) all m =
    let r = listed_in_range all.0 in
    let u = listed_in_range all.1.0 in
    let apart = m i k r.0 r.1 u.0 u.1 (omega (arith, only_same i)) (omega (arith, only_same k)) (λ e. let z = ap (label n E) e in omega arith) in (
      (listed_scope n a E s (two i k)).1 (inr (record { i = i; j = k; i_listed = all.0; j_listed = all.1.0; i_label = p; j_label = q; parts = apart; made = refl })),
      join_listed n E s j all.1.1 (λ i k li hi lk hk p q. m i k li hi lk hk (omega arith) (omega arith)),
    )

pub step_flat : {n : ℕ} {E : Expr} {D D' : Dynamic E} {S : List Item} → ScopesNamed E → Step n E D S D' → AllOf (Listed n E) S × Flat (times S) n E D D'
unfolding times actions
step_flat s idle = (tt, flat_idle (λ k lo hi. refl))
step_flat s (acts {n = n} {l = l}) = (((listed_action n l (one n)).1 refl, tt), flat_acts {n = n} (omega (arith, only_same n)))
step_flat s (by_sequence_first {n = n} {E = E} {F = F} {S = S} d) =
    let r = step_flat s.0 d in let u = first_moves (of_sequence n E F) S r.0 in (u.0, flat_sequence_first u.1 r.1)
step_flat s (by_sequence_second {n = n} {E = E} {F = F} {S = S} d) =
    let r = step_flat s.1 d in let u = second_moves (of_sequence n E F) S r.0 in (u.0, flat_sequence_second u.1 r.1)
step_flat s (by_choice_first {n = n} {E = E} {F = F} {S = S} d) =
    let r = step_flat s.0 d in let u = first_moves (of_choice n E F) S r.0 in (u.0, flat_choice_first u.1 r.1)
step_flat s (by_choice_second {n = n} {E = E} {F = F} {S = S} d) =
    let r = step_flat s.1 d in let u = second_moves (of_choice n E F) S r.0 in (u.0, flat_choice_second u.1 r.1)
step_flat s (by_parallel {n = n} {E = E} {F = F} {S = S} {T = R} d e) =
    let r = step_flat s.0 d in
    let q = step_flat s.1 e in
    let u = first_moves (of_parallel n E F) S r.0 in
    let v = second_moves (of_parallel n E F) R q.0 in (
      all_joined (Listed n (parallel E F)) S R u.0 v.0,
      flat_parallel (flat_same (λ k lo hi. omega (arith, times_append S R k, v.1 k lo hi)) r.1) (flat_same (λ k lo hi. omega (arith, times_append S R k, u.1 k lo hi)) q.1),
    )
step_flat s (by_loop_first {n = n} {E = E} {F = F} {G = G} {S = S} d) =
    let r = step_flat s.0 d in
    let u = first_moves (of_loop n E F G) S r.0 in
    let q = over_two (λ k. times S k ≡ 0) (n + actions E) (actions F) (actions G) u.1 in
    (u.0, flat_loop_first q.0 q.1 r.1)
step_flat s (by_loop_body {n = n} {E = E} {F = F} {G = G} {S = S} d) =
    let r = step_flat s.1 d in
    let u = first_moves (of_sequence (n + actions E) F G) S r.0 in
    let v = second_moves (of_loop n E F G) S u.0 in
    (v.0, flat_loop_body v.1 u.1 r.1)
step_flat s (by_loop_last {n = n} {E = E} {F = F} {G = G} {S = S} d) =
    let r = step_flat s.2 d in
    let u = second_moves (of_sequence (n + actions E) F G) S r.0 in
    let v = second_moves (of_loop n E F G) S u.0 in
    (v.0, flat_loop_last v.1 u.1 r.1)
step_flat s (by_scope {n = n} {E = E} d j) =
    let r = step_flat s.1 d in (join_listed n E s j r.0 (flat_parts r.1), flat_scope (flat_same (λ k lo hi. times_join j k) r.1))
step_flat s (in_any_order {n = n} {E = E} d b) =
    let r = step_flat s d in (bag_all (Listed n E) b r.0, flat_same (λ k lo hi. times_bag b k) r.1)
step_flat s (up_to_equal p d q) = let r = step_flat s d in (r.0, flat_equal p r.1 q)

-- From a flat step to a derived one: items whose actions do not move are not there.
without : (P : Item → Type 0) (n : ℕ) (E : Expr) (S : List Item) → AllOf (λ t. P t ⊎ Listed n E t) S → Quiet n (actions E) (times S) → AllOf P S
unfolding times
without P n E [] a q = tt
without P n E (t ∷ S) a q = (⊎_elim (λ p. p) gone a.0, without P n E S a.1 (λ k lo hi. omega (arith, q k lo hi)))
  where
    gone : Listed n E t → P t
    gone l =
        let r = first_in_range n (n + actions E) t (listed_in_range l) in
        absurd (omega (arith, item_has_first t, q (first t) r.0 r.1))

step_idle : {n : ℕ} {E : Expr} {D : Dynamic E} (S : List Item) → AllOf (λ (t : Item). ⊥) S → Step n E D S D
step_idle [] a = idle
step_idle (t ∷ S) a = absurd a.0

step_acts : {n l : ℕ} (S : List Item) → AllOf (λ t. t ≡ one n) S → times S n ≡ 1 → Step n (action l) started S finished
unfolding times
step_acts [] a e = absurd (omega arith)
step_acts {n} {l} (t ∷ []) a e = subst (λ u. Step n (action l) started (u ∷ []) finished) (sym a.0) acts
step_acts {n} (t ∷ (u ∷ S)) a e = absurd (omega (arith, ap (λ x. item_times x n) a.0, ap (λ x. item_times x n) a.1.0, only_same n))

-- where one operand is quiet, all items are the other's
module _ {n : ℕ} {E F W : Expr} (o : Operands n E F W) (S : List Item) (a : AllOf (Listed n W) S) where
  in_first : Quiet (n + actions E) (actions F) (times S) → AllOf (Listed n E) S
  in_first = without (Listed n E) (n + actions E) F S (all_weaker S (λ t l. (listed_operands o t).0 l) a)

  in_second : Quiet n (actions E) (times S) → AllOf (Listed (n + actions E) F) S
  in_second = without (Listed (n + actions E) F) n E S (all_weaker S (λ t l. ⊎_elim inr inl ((listed_operands o t).0 l)) a)

-- Each item is dealt to one of two sides.
record Dealt (P Q : Item → Type 0) (S : List Item) : Type 0 where
  left : List Item
  right : List Item
  all_left : AllOf P left
  all_right : AllOf Q right
  bag : Bag (left ++ right) S

bag_same : (S : List Item) → Bag S S
bag_same [] = empty
bag_same (t ∷ S) = keep (bag_same S)

bag_between : (t : Item) (S R : List Item) → Bag (S ++ (t ∷ R)) (t ∷ (S ++ R))
bag_between t [] R = bag_same (t ∷ R)
bag_between t (u ∷ S) R = after (keep (bag_between t S R)) swap

deal : (P Q : Item → Type 0) (S : List Item) → AllOf (λ t. P t ⊎ Q t) S → Dealt P Q S
deal P Q [] a = record { left = []; right = []; all_left = tt; all_right = tt; bag = empty }
deal P Q (t ∷ S) a = go a.0 (deal P Q S a.1)
  where
    go : P t ⊎ Q t → Dealt P Q S → Dealt P Q (t ∷ S)
    go (inl p) r = record { left = t ∷ r.left; right = r.right; all_left = (p, r.all_left); all_right = r.all_right; bag = keep r.bag }
    go (inr q) r = record { left = r.left; right = t ∷ r.right; all_left = r.all_left; all_right = (q, r.all_right); bag = after (bag_between t r.left r.right) (keep r.bag) }

dealt_times : {P Q : Item → Type 0} (S : List Item) (r : Dealt P Q S) (k : ℕ) → times S k ≡ times r.left k + times r.right k
dealt_times S r k = sym (times_bag r.bag k) ∙ times_append r.left r.right k

-- The items of a scope before it joined them.
record Unjoined (n : ℕ) (E : Expr) (a : ℕ) (S : List Item) : Type 0 where
  items : List Item
  all_listed : AllOf (Listed n E) items
  join : Join (label n E) a items S

unjoin : (n : ℕ) (E : Expr) (a : ℕ) → ScopesNamed (scope a E) → (S : List Item) → AllOf (Listed n (scope a E)) S → Unjoined n E a S
unjoin n E a s [] h = record { items = []; all_listed = tt; join = done }
unjoin n E a s (t ∷ S) h = ⊎_elim one_stays two_join ((listed_scope n a E s t).0 h.0) (unjoin n E a s S h.1)
  where
    one_stays : Listed n E t × Free (label n E) a t → Unjoined n E a S → Unjoined n E a (t ∷ S)
    one_stays k r = record { items = t ∷ r.items; all_listed = (k.0, r.all_listed); join = stays k.1 r.join }

    two_join : Joined n E a t → Unjoined n E a S → Unjoined n E a (t ∷ S)
    two_join k r =
        record {
          items = one k.i ∷ (one k.j ∷ r.items);
          all_listed = (k.i_listed, (k.j_listed, r.all_listed));
          join = subst (λ u. Join (label n E) a (one k.i ∷ (one k.j ∷ r.items)) (u ∷ S)) (sym k.made) (joins k.i_label k.j_label r.join);
        }

pub flat_step : {A : ℕ → ℕ} {n : ℕ} {E : Expr} {D D' : Dynamic E} → ScopesNamed E → Flat A n E D D' → (S : List Item) → AllOf (Listed n E) S
    → ((i : ℕ) → n ≤ i → i < n + actions E → A i ≡ times S i) → Step n E D S D'
unfolding actions
flat_step {A} s (flat_idle {n = n} {E = E} q) S a e = step_idle S (without (λ (t : Item). ⊥) n E S (all_weaker S (λ t l. inr l) a) (quiet_same A (times S) n (actions E) e q))
flat_step s (flat_acts {n = n} {l = l} p) S a e = step_acts S (all_weaker S (λ t k. (listed_action n l t).0 k) a) (sym (e n (omega arith) (omega arith)) ∙ p)
flat_step {A} s (flat_sequence_first {n = n} {E = E} {F = F} q f) S a e =
    let r = over_two (λ k. A k ≡ times S k) n (actions E) (actions F) e in
    by_sequence_first (flat_step s.0 f S (in_first (of_sequence n E F) S a (quiet_same A (times S) (n + actions E) (actions F) r.1 q)) r.0)
flat_step {A} s (flat_sequence_second {n = n} {E = E} {F = F} q f) S a e =
    let r = over_two (λ k. A k ≡ times S k) n (actions E) (actions F) e in
    by_sequence_second (flat_step s.1 f S (in_second (of_sequence n E F) S a (quiet_same A (times S) n (actions E) r.0 q)) r.1)
flat_step {A} s (flat_choice_first {n = n} {E = E} {F = F} q f) S a e =
    let r = over_two (λ k. A k ≡ times S k) n (actions E) (actions F) e in
    by_choice_first (flat_step s.0 f S (in_first (of_choice n E F) S a (quiet_same A (times S) (n + actions E) (actions F) r.1 q)) r.0)
flat_step {A} s (flat_choice_second {n = n} {E = E} {F = F} q f) S a e =
    let r = over_two (λ k. A k ≡ times S k) n (actions E) (actions F) e in
    by_choice_second (flat_step s.1 f S (in_second (of_choice n E F) S a (quiet_same A (times S) n (actions E) r.0 q)) r.1)
flat_step {A} s (flat_parallel {n = n} {E = E} {F = F} f g) S a e =
    let r = over_two (λ k. A k ≡ times S k) n (actions E) (actions F) e in
    let d = deal (Listed n E) (Listed (n + actions E) F) S (all_weaker S (λ t l. (listed_operands (of_parallel n E F) t).0 l) a) in
    let sum = dealt_times S d in
    in_any_order (by_parallel
    (flat_step s.0 f d.left d.all_left (λ k lo hi. omega (arith, r.0 k lo hi, sum k, times_outside (n + actions E) F d.right d.all_right k (omega arith))))
    (flat_step s.1 g d.right d.all_right (λ k lo hi. omega (arith, r.1 k lo hi, sum k, times_outside n E d.left d.all_left k (omega arith))))) d.bag
flat_step {A} s (flat_loop_first {n = n} {E = E} {F = F} {G = G} p q f) S a e =
    let m = n + actions E in
    let r = over_three (λ k. A k ≡ times S k) n (actions E) (actions F) (actions G) e in
    by_loop_first (flat_step s.0 f S
    (in_first (of_loop n E F G) S a
    (of_two (λ k. times S k ≡ 0) m (actions F) (actions G) (quiet_same A (times S) m (actions F) r.1 p) (quiet_same A (times S) (m + actions F) (actions G) r.2 q))) r.0)
flat_step {A} s (flat_loop_body {n = n} {E = E} {F = F} {G = G} p q f) S a e =
    let m = n + actions E in
    let r = over_three (λ k. A k ≡ times S k) n (actions E) (actions F) (actions G) e in
    by_loop_body (flat_step s.1 f S
    (in_first (of_sequence m F G) S (in_second (of_loop n E F G) S a (quiet_same A (times S) n (actions E) r.0 p)) (quiet_same A (times S) (m + actions F) (actions G) r.2 q)) r.1)
flat_step {A} s (flat_loop_last {n = n} {E = E} {F = F} {G = G} p q f) S a e =
    let m = n + actions E in
    let r = over_three (λ k. A k ≡ times S k) n (actions E) (actions F) (actions G) e in
    by_loop_last (flat_step s.2 f S
    (in_second (of_sequence m F G) S (in_second (of_loop n E F G) S a (quiet_same A (times S) n (actions E) r.0 p)) (quiet_same A (times S) m (actions F) r.1 q)) r.2)
flat_step s (flat_scope {n = n} {a = b} {E = E} f) S a e =
    let r = unjoin n E b s S a in by_scope (flat_step s.1 f r.items r.all_listed (λ k lo hi. e k lo hi ∙ sym (times_join r.join k))) r.join
flat_step s (flat_equal p f q) S a e = up_to_equal p (flat_step s f S a e) q
