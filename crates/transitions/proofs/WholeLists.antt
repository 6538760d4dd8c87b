-- A scope is listed as its one operand and then closed, and a plan is listed as its one operand.
-- True because the operand's nodes follow the scope's own, and because no scope takes a pair away.
use Prim.Native.Nat.{ℕ, ◌+◌, ◌*◌, ◌≤◌, ◌<◌}
use native.Mathlib.Omega.{arith}
use mathlib.Core.Path.{◌≡◌, sym, ◌∙◌, ap, subst}
use mathlib.Core.List.{List, [], ◌∷◌, ◌++◌, append-nil}
use lib.ListN.{length, get_or, take}
use lib.Seq.{get_or-take, get_or-append-add, length-take-le, take-take, take_at}
use Rattle.std.specs.Prelude.{Option, Some, None}
use Rattle.field.specs.Limits.{transition_limit}
use Rattle.algebra.specs.Expr.{Expr, scope, actions}
use Rattle.algebra.specs.Scopes.{ScopesNamed}
use Rattle.algebra.specs.Transitions.{Labelled, transitions}
use Rattle.plan.specs.inner.Nodes.{node_count}
use Rattle.plan.specs.inner.Table.{Table, Node}
use Rattle.plan.proofs.NodeTable.{scope_operand}
use Rattle.plan.proofs.NodeValues.{table_node}
use Rattle.transitions.specs.inner.Numbers.{flat, most}
use Rattle.transitions.specs.inner.Listing.{Part, Held, Lists, pairs, Operands, AllNamed, all_actions, all_transitions}
use Rattle.transitions.proofs.FlatNumbers.{flat_length}
use Rattle.transitions.proofs.Weights.{scope_pairs, pairs_within}

-- ---- the part of a list that is held

module _ {m n : ℕ} {ts : List Labelled} {entry exit : List ℕ} (h : Held m n ts entry exit) (room : 3 * n ≤ length entry) where
  front : length (take (3 * n) entry) ≡ 3 * n
  front = length-take-le (3 * n) entry room

  held_part : Part exit n m ts
  held_part = record { count = h.count; stands = λ j l. stands j l }
    where
      stands : (j : ℕ) → j < length (flat ts) → get_or exit (3 * n + j) 0 ≡ get_or (flat ts) j 0
      stands j l =
          sym (get_or-take (3 * m) exit (3 * n + j) 0 (omega (arith, flat_length ts, h.count)))
          ∙ ap (λ q. get_or q (3 * n + j) 0) h.numbers
          ∙ ap (λ p. get_or (take (3 * n) entry ++ flat ts) (p + j) 0) (sym front)
          ∙ get_or-append-add (take (3 * n) entry) (flat ts) j 0

  held_front : take (3 * n) exit ≡ take (3 * n) entry
  held_front =
      sym (take-take (3 * n) (3 * m) exit (omega (arith, h.count)))
      ∙ ap (take (3 * n)) h.numbers
      ∙ take_at (take (3 * n) entry) (flat ts) (3 * n) front

  lists_from : (r : Option ℕ) (few : ℕ) (us : List Labelled) (last : List ℕ) → Lists r n few us exit last → Lists r n few us entry last
  lists_from None few us last l = l
  lists_from (Some r) few us last k = record { count = k.count; numbers = k.numbers ∙ ap (λ p. p ++ flat us) held_front; long = k.long ∙ h.long }

-- ---- a scope

module _ (rows : List ℕ) (count k i at a : ℕ) (E : Expr) (node : Node rows count k i at (scope a E)) {after : ℕ} (ends : after ≡ k + node_count (scope a E)) (named : ScopesNamed (scope a E)) (few : actions E ≤ 256)
    (n : ℕ) (entry middle : List ℕ) where
  -- What the code is told of the operand, which it lists first.
  abbrev pub OperandListed : Option ℕ → Type 0
  OperandListed r = (count i : ℕ) (Es : List Expr) → Operands rows count (k + 1) after i Es → AllNamed Es → all_actions Es ≤ 256 → Lists r n (all_actions Es) (all_transitions i Es) entry middle

  operand_listed : (r : Option ℕ) → OperandListed r → Lists r n (actions E + 0) (transitions i E ++ []) entry middle
  unfolding all_actions all_transitions node_count
  operand_listed r lists = lists count i (E ∷ []) ((at + 4, scope_operand rows count E node), omega arith) (named.1, tt) (omega arith)

  pub operand_over : OperandListed None → most < n + (actions E + pairs (transitions i (scope a E)))
  operand_over lists = omega (arith, operand_listed None lists, ap pairs (append-nil (transitions i E)), scope_pairs a named.0 i E)

  pub scope_closed : {m : ℕ} → OperandListed (Some m) → 3 * n ≤ length entry → (r : Option ℕ) (exit : List ℕ)
      → ((count i at a : ℕ) (D : Expr) → Node rows count k i at (scope a D) → ScopesNamed (scope a D) → actions D ≤ 256 → Part middle n m (transitions i D) → Lists r n (actions D) (transitions i (scope a D)) middle exit)
      → Lists r n (actions E) (transitions i (scope a E)) entry exit
  scope_closed {m} lists room r exit closes =
      let g = subst (λ ts. Held m n ts entry middle) (append-nil (transitions i E)) (operand_listed (Some m) lists) in
      lists_from g room r (actions E) (transitions i (scope a E)) exit (closes count i at a E node named few (held_part g room))

-- ---- a whole plan

module _ (rows : List ℕ) (nodes : ℕ) (E : Expr) (t : Table rows nodes E) (named : ScopesNamed E) (few : actions E ≤ 256) (entry exit : List ℕ) where
  -- What the code is told of all nodes.
  abbrev pub PlanListed : Option ℕ → Type 0
  PlanListed r = (count i : ℕ) (Es : List Expr) → Operands rows count 0 nodes i Es → AllNamed Es → all_actions Es ≤ 256 → Lists r 0 (all_actions Es) (all_transitions i Es) entry exit

  whole : (r : Option ℕ) → PlanListed r → Lists r 0 (actions E + 0) (transitions 0 E ++ []) entry exit
  unfolding all_actions all_transitions
  whole r lists = lists nodes 0 (E ∷ []) ((0, table_node t), omega (arith, t.nodes)) (named, tt) (omega arith)

  pub plan_listed : {n : ℕ} → PlanListed (Some n) → (n ≡ length (transitions 0 E)) × (take (3 * n) exit ≡ flat (transitions 0 E))
  plan_listed {n} lists =
      let h = subst (λ ts. Held n 0 ts entry exit) (append-nil (transitions 0 E)) (whole (Some n) lists) in
      (omega (arith, h.count), h.numbers)

  pub plan_too_many : {n : ℕ} → PlanListed (Some n) → transition_limit < n → transition_limit < length (transitions 0 E)
  plan_too_many lists l = omega (arith, (plan_listed lists).0)

  pub plan_over : PlanListed None → transition_limit < length (transitions 0 E)
  plan_over lists = omega (arith, whole None lists, ap pairs (append-nil (transitions 0 E)), pairs_within (transitions 0 E))
