-- A turn of the loop that passes the nodes: an action is listed, an operator gives way to its operands, a scope is listed by itself.
-- True because a field's operands follow its own node, and because a list never needs more room than for the actions and the pairs.
use Prim.Native.Nat.{ℕ, ◌+◌, ◌*◌, ◌≤◌, ◌<◌}
use native.Mathlib.Omega.{arith}
use mathlib.Core.Path.{◌≡◌, refl, sym, ◌∙◌, ap, subst}
use mathlib.Core.List.{List, [], ◌∷◌, ◌++◌, append_assoc}
use lib.ListN.{get_or}
use Rattle.std.specs.Prelude.{Option, Some, None}
use Rattle.algebra.specs.Expr.{Expr, action, sequence, choice, parallel, loop, scope, actions}
use Rattle.algebra.specs.Scopes.{ScopesNamed}
use Rattle.algebra.specs.Transitions.{Labelled, transitions}
use Rattle.plan.specs.inner.Nodes.{numbers, nodes, node_count}
use Rattle.plan.specs.inner.Table.{Node, tag_at, after_at}
use Rattle.plan.proofs.NodeTable.{node_says, sequence_operands, choice_operands, parallel_operands, loop_operands}
use Rattle.plan.proofs.NodeValues.{node_count_positive}
use Rattle.transitions.specs.inner.Numbers.{most}
use Rattle.plan.specs.inner.Numbers.{first_at}
use Rattle.transitions.specs.inner.Listing.{Stored, Held, Lists, pairs, Operands, AllNamed, all_actions, all_transitions}
use Rattle.transitions.proofs.WhereActionsPart.{node_first}
use Rattle.transitions.proofs.Weights.{pairs_append, transitions_weight}
use Rattle.transitions.proofs.StillToCome.{Left, one_stored, some_held, all_held}

some_action : (E : Expr) → 1 ≤ actions E
unfolding actions
some_action (action l) = omega arith
some_action (sequence E F) = omega (arith, some_action E)
some_action (choice E F) = omega (arith, some_action E)
some_action (parallel E F) = omega (arith, some_action E)
some_action (loop E F G) = omega (arith, some_action E)
some_action (scope a E) = some_action E

-- ---- an operator gives way to its operands

-- Of every operator but a scope the transitions are those of its operands.
abbrev Plain : Expr → Type 0
Plain (action l) = ⊥
Plain (sequence E F) = Unit {0}
Plain (choice E F) = Unit {0}
Plain (parallel E F) = Unit {0}
Plain (loop E F G) = Unit {0}
Plain (scope a E) = ⊥

-- The operands of a field before other fields.
abbrev opened : Expr → List Expr → List Expr
opened (action l) Es = Es
opened (sequence E F) Es = E ∷ (F ∷ Es)
opened (choice E F) Es = E ∷ (F ∷ Es)
opened (parallel E F) Es = E ∷ (F ∷ Es)
opened (loop E F G) Es = E ∷ (F ∷ (G ∷ Es))
opened (scope a E) Es = E ∷ Es

opened_named : (E : Expr) (Es : List Expr) → ScopesNamed E → AllNamed Es → AllNamed (opened E Es)
opened_named (action l) Es h t = t
opened_named (sequence E F) Es h t = (h.0, (h.1, t))
opened_named (choice E F) Es h t = (h.0, (h.1, t))
opened_named (parallel E F) Es h t = (h.0, (h.1, t))
opened_named (loop E F G) Es h t = (h.0, (h.1, (h.2, t)))
opened_named (scope a E) Es h t = (h.1, t)

opened_actions : (E : Expr) (Es : List Expr) → Plain E → all_actions (opened E Es) ≡ all_actions (E ∷ Es)
unfolding all_actions
opened_actions (action l) Es p = absurd p
opened_actions (sequence E F) Es p = omega arith
opened_actions (choice E F) Es p = omega arith
opened_actions (parallel E F) Es p = omega arith
opened_actions (loop E F G) Es p = omega arith
opened_actions (scope a E) Es p = absurd p

two_opened : (i : ℕ) (E F : Expr) (Es : List Expr) → all_transitions i (E ∷ (F ∷ Es)) ≡ (transitions i E ++ transitions (i + actions E) F) ++ all_transitions (i + (actions E + actions F)) Es
unfolding all_transitions
two_opened i E F Es =
    let e : i + actions E + actions F ≡ i + (actions E + actions F) = omega arith in
    ap (λ q. transitions i E ++ (transitions (i + actions E) F ++ all_transitions q Es)) e
    ∙ sym (append_assoc (transitions i E) (transitions (i + actions E) F) (all_transitions (i + (actions E + actions F)) Es))

opened_transitions : (i : ℕ) (E : Expr) (Es : List Expr) → Plain E → all_transitions i (opened E Es) ≡ all_transitions i (E ∷ Es)
unfolding all_transitions
opened_transitions i (action l) Es p = absurd p
opened_transitions i (sequence E F) Es p = two_opened i E F Es
opened_transitions i (choice E F) Es p = two_opened i E F Es
opened_transitions i (parallel E F) Es p = two_opened i E F Es
opened_transitions i (loop E F G) Es p =
    let ts = transitions i E in
    let us = transitions (i + actions E) F in
    let vs = transitions (i + actions E + actions F) G in
    let e : i + actions E + actions F + actions G ≡ i + (actions E + actions F + actions G) = omega arith in
    let rest = all_transitions (i + (actions E + actions F + actions G)) Es in
    ap (λ q. ts ++ (us ++ (vs ++ all_transitions q Es))) e
    ∙ ap (λ q. ts ++ q) (sym (append_assoc us vs rest))
    ∙ sym (append_assoc ts (us ++ vs) rest)
opened_transitions i (scope a E) Es p = absurd p

module _ (rows : List ℕ) (count end : ℕ) where
  operands_at : {k k' i i' : ℕ} (Es : List Expr) → k ≡ k' → i ≡ i' → Operands rows count k end i Es → Operands rows count k' end i' Es
  operands_at {k} {k'} {i} {i'} Es e f o = subst (λ q. Operands rows count q end i' Es) e (subst (λ q. Operands rows count k end q Es) f o)

  opened_stand : {k i at : ℕ} (E : Expr) (Es : List Expr) → Plain E → Node rows count k i at E → Operands rows count (k + node_count E) end (i + actions E) Es → Operands rows count (k + 1) end i (opened E Es)
  unfolding node_count actions
  opened_stand (action l) Es p n o = absurd p
  opened_stand (sequence E F) Es p n o = let (x, y) = sequence_operands rows count E F n in ((_, x), ((_, y), operands_at Es (omega arith) (omega arith) o))
  opened_stand (choice E F) Es p n o = let (x, y) = choice_operands rows count E F n in ((_, x), ((_, y), operands_at Es (omega arith) (omega arith) o))
  opened_stand (parallel E F) Es p n o = let (x, y) = parallel_operands rows count E F n in ((_, x), ((_, y), operands_at Es (omega arith) (omega arith) o))
  opened_stand (loop E F G) Es p n o = let ((x, y), z) = loop_operands rows count E F G n in ((_, x), ((_, y), ((_, z), operands_at Es (omega arith) (omega arith) o)))
  opened_stand (scope a E) Es p n o = absurd p

  operands_within : (k i : ℕ) (Es : List Expr) → Operands rows count k end i Es → k ≤ end
  operands_within k i [] o = omega arith
  operands_within k i (E ∷ Es) o = omega (arith, operands_within (k + node_count E) (i + actions E) Es o.1)

-- ---- the loop's invariant and its turns

-- The nodes before `at` are listed, and from there to the end stand the fields Es, which are left. There is room for these where there was for all.
pub record Fields (rows : List ℕ) (count end : ℕ) (entry : List ℕ) (n few : ℕ) (all : List Labelled) (at : ℕ) (list : List ℕ) (so_far i : ℕ) (Es : List Expr) : Type 0 where
  pub stand : Operands rows count at end i Es
  pub named : AllNamed Es
  pub small : all_actions Es ≤ 256
  pub held : Left entry n list so_far all (all_transitions i Es)
  pub room : so_far + (all_actions Es + pairs (all_transitions i Es)) ≤ n + (few + pairs all)

abbrev pub Listing : List ℕ → ℕ → ℕ → List ℕ → ℕ → ℕ → List Labelled → ℕ → List ℕ → ℕ → Type 0
Listing rows count end entry n few all at list so_far = (i : ℕ) × (Es : List Expr) × Fields rows count end entry n few all at list so_far i Es

module _ (rows : List ℕ) (count end : ℕ) (entry : List ℕ) (n few : ℕ) (all : List Labelled) (at : ℕ) (list : List ℕ) (so_far : ℕ) where
  abbrev Now : ℕ → List ℕ → ℕ → Type 0
  Now at list so_far = Listing rows count end entry n few all at list so_far

  abbrev Are : ℕ → List Expr → Type 0
  Are i Es = Fields rows count end entry n few all at list so_far i Es

  pub all_listed : (i : ℕ) (Es : List Expr) → Are i Es → end ≤ at → Held so_far n all entry list
  unfolding all_transitions
  all_listed i [] w h = all_held w.held
  all_listed i (E ∷ Es) w h =
      absurd (omega (arith, operands_within rows count end (at + node_count E) (i + actions E) Es w.stand.1, node_count_positive E))

  module _ (more : at < end) {tag : ℕ} (read : tag ≡ tag_at rows at) where
    -- An action.
    pub no_room_listed : (i : ℕ) (Es : List Expr) → Are i Es → most ≤ so_far → most < n + (few + pairs all)
    unfolding all_actions
    no_room_listed i [] w h = absurd (omega (arith, w.stand))
    no_room_listed i (E ∷ Es) w h = omega (arith, w.room, some_action E)

    pub action_listed : (i : ℕ) (Es : List Expr) → Are i Es → tag ≡ 1 → {label first : ℕ} {exit : List ℕ} → label ≡ get_or rows (6 * at + 1) 0 → first ≡ first_at rows at → Stored so_far label first 65535 list exit
        → Now (at + 1) exit (so_far + 1)
    unfolding all_transitions all_actions transitions actions node_count nodes numbers pairs
    action_listed i [] w t l f s = absurd (omega (arith, w.stand))
    action_listed i (action b ∷ Es) w t l f s =
        let node = w.stand.0.1 in (
          i + 1,
          Es,
          record {
            stand = w.stand.1;
            named = w.named.1;
            small = omega (arith, w.small);
            held = one_stored w.held s (l ∙ node.rows_of 1 (omega arith)) (f ∙ node_first rows count (action b) node) refl;
            room = omega (arith, w.room);
          },
        )
    action_listed i (sequence E F ∷ Es) w t l f s = absurd (omega (arith, (node_says rows count (sequence E F) w.stand.0.1).tag))
    action_listed i (choice E F ∷ Es) w t l f s = absurd (omega (arith, (node_says rows count (choice E F) w.stand.0.1).tag))
    action_listed i (parallel E F ∷ Es) w t l f s = absurd (omega (arith, (node_says rows count (parallel E F) w.stand.0.1).tag))
    action_listed i (loop E F G ∷ Es) w t l f s = absurd (omega (arith, (node_says rows count (loop E F G) w.stand.0.1).tag))
    action_listed i (scope a E ∷ Es) w t l f s = absurd (omega (arith, (node_says rows count (scope a E) w.stand.0.1).tag))

    -- An operator that is no scope.
    pub operator_passed : (i : ℕ) (Es : List Expr) → Are i Es → (tag ≡ 1 → ⊥) → (tag ≡ 6 → ⊥) → Now (at + 1) list so_far
    operator_passed i [] w no-action no-scope = absurd (omega (arith, w.stand))
    operator_passed i (E ∷ Es) w no-action no-scope =
        let node = w.stand.0.1 in
        let p = plain E node in
        let a = opened_actions E Es p in
        let t = opened_transitions i E Es p in (
          i,
          opened E Es,
          record {
            stand = opened_stand rows count end E Es p node w.stand.1;
            named = opened_named E Es w.named.0 w.named.1;
            small = omega (arith, a, w.small);
            held = subst (λ q. Left entry n list so_far all q) (sym t) w.held;
            room = omega (arith, a, ap pairs t, w.room);
          },
        )
      where
        plain : {i o : ℕ} (E : Expr) → Node rows count at i o E → Plain E
        plain (action l) w = absurd (no-action (read ∙ (node_says rows count (action l) w).tag))
        plain (sequence E F) w = tt
        plain (choice E F) w = tt
        plain (parallel E F) w = tt
        plain (loop E F G) w = tt
        plain (scope a E) w = absurd (no-scope (read ∙ (node_says rows count (scope a E) w).tag))

    -- A scope.
    module _ {after : ℕ} (e : after ≡ after_at rows at) where
      pub scope_inside : (i : ℕ) (Es : List Expr) → Are i Es → (at < after) × (after ≤ end)
      scope_inside i [] w = absurd (omega (arith, w.stand))
      scope_inside i (E ∷ Es) w =
          let a : after ≡ at + node_count E = e ∙ (node_says rows count E w.stand.0.1).after in
          (omega (arith, node_count_positive E), omega (arith, operands_within rows count end (at + node_count E) (i + actions E) Es w.stand.1))

      -- What the code is told of a scope that it lists behind the others.
      abbrev pub ScopeListed : Option ℕ → List ℕ → Type 0
      ScopeListed r exit = (count i o a : ℕ) (D : Expr) → Node rows count at i o (scope a D) → after ≡ at + node_count (scope a D) → ScopesNamed (scope a D) → actions D ≤ 256 → Lists r so_far (actions D) (transitions i (scope a D)) list exit

      -- Every other field has another tag.
      module _ (t : tag ≡ 6) (Goal : Type 0) where
        only_scope : (i : ℕ) (Es : List Expr) → Are i Es → ((a : ℕ) (D : Expr) (Fs : List Expr) → Are i (scope a D ∷ Fs) → Goal) → Goal
        only_scope i [] w g = absurd (omega (arith, w.stand))
        only_scope i (action b ∷ Es) w g = absurd (omega (arith, (node_says rows count (action b) w.stand.0.1).tag))
        only_scope i (sequence E F ∷ Es) w g = absurd (omega (arith, (node_says rows count (sequence E F) w.stand.0.1).tag))
        only_scope i (choice E F ∷ Es) w g = absurd (omega (arith, (node_says rows count (choice E F) w.stand.0.1).tag))
        only_scope i (parallel E F ∷ Es) w g = absurd (omega (arith, (node_says rows count (parallel E F) w.stand.0.1).tag))
        only_scope i (loop E F G ∷ Es) w g = absurd (omega (arith, (node_says rows count (loop E F G) w.stand.0.1).tag))
        only_scope i (scope a D ∷ Es) w g = g a D Es w

      module _ (a : ℕ) (D : Expr) (Es : List Expr) (i : ℕ) (w : Are i (scope a D ∷ Es)) where
        ends : after ≡ at + node_count (scope a D)
        ends = e ∙ (node_says rows count (scope a D) w.stand.0.1).after

        told : (r : Option ℕ) (exit : List ℕ) → ScopeListed r exit → Lists r so_far (actions D) (transitions i (scope a D)) list exit
        unfolding all_actions actions
        told r exit lists = lists count i w.stand.0.0 a D w.stand.0.1 ends w.named.0 (omega (arith, w.small))

        one_listed : (m : ℕ) (exit : List ℕ) → ScopeListed (Some m) exit → Now after exit m
        unfolding all_actions all_transitions actions
        one_listed m exit lists =
            let ts = transitions i (scope a D) in
            let us = all_transitions (i + actions D) Es in
            let held : Held m so_far (transitions i (scope a D)) list exit = told (Some m) exit lists in (
              i + actions D,
              Es,
              record {
                stand = operands_at rows count end Es (sym ends) refl w.stand.1;
                named = w.named.1;
                small = omega (arith, w.small);
                held = some_held ts us w.held held;
                room = omega (arith, w.room, held.count, transitions_weight i (scope a D), pairs_append ts us);
              },
            )

        one_over : (exit : List ℕ) → ScopeListed None exit → most < n + (few + pairs all)
        unfolding all_actions all_transitions actions
        one_over exit lists = omega (arith, w.room, told None exit lists, pairs_append (transitions i (scope a D)) (all_transitions (i + actions D) Es))

      pub scope_listed : (i : ℕ) (Es : List Expr) → Are i Es → tag ≡ 6 → (m : ℕ) (exit : List ℕ) → ScopeListed (Some m) exit → Now after exit m
      scope_listed i Es w t m exit lists = only_scope t (Now after exit m) i Es w (λ a D Fs v. one_listed a D Fs i v m exit lists)

      pub scope_over : (i : ℕ) (Es : List Expr) → Are i Es → tag ≡ 6 → (exit : List ℕ) → ScopeListed None exit → most < n + (few + pairs all)
      scope_over i Es w t exit lists = only_scope t (most < n + (few + pairs all)) i Es w (λ a D Fs v. one_over a D Fs i v exit lists)
