-- The four steps that close a scope leave the transitions of the scope: the labelled ones are gathered, the rest is kept, the pairs are joined.
-- True because the gathered ones are single actions, few enough for their room, and what is joined is what the definition joins.
use Prim.Native.Nat.{ℕ, ◌+◌, ◌*◌, ◌-◌, ◌≤◌}
use native.Mathlib.Omega.{arith}
use mathlib.Core.Path.{◌≡◌, sym, ◌∙◌, ap, subst}
use mathlib.Core.List.{List, ◌++◌}
use lib.ListN.{length, get_or, take, drop, length-append, length-drop}
use lib.Seq.{take-append-add, length-take-le}
use Rattle.std.proofs.lemmas.Grind.{flat_map-append}
use Rattle.std.proofs.lemmas.List.{take-append-le}
use Rattle.std.specs.Prelude.{Option}
use Rattle.algebra.specs.Expr.{Expr, actions, scope}
use Rattle.algebra.specs.Scopes.{ScopesNamed}
use Rattle.algebra.specs.Transitions.{Labelled, part_at_parallel, kept, joined, transitions}
use Rattle.plan.specs.inner.Nodes.{numbers, nodes}
use Rattle.plan.specs.inner.Table.{Node}
use Rattle.plan.proofs.NodeTable.{scope_operand}
use Rattle.transitions.specs.declared.Transition.{Transition}
use Rattle.transitions.specs.inner.Numbers.{flat, transition_numbers, list_numbers}
use Rattle.transitions.specs.inner.Listing.{Part, Found, Held, Lists, firsts, pairs_of}
use Rattle.transitions.proofs.FlatNumbers.{list_length, list_take}
use Rattle.transitions.proofs.JoinedPairs.{joined_pairs}
use Rattle.transitions.proofs.Weights.{kept_weight, firsts_few}
use Rattle.transitions.proofs.StillToCome.{held_then}

-- What is kept in its place of a list is held there: what stands before it and behind it is as it was.
pub kept_in_place : (list new : List Transition) (start end m : ℕ) (ts : List Labelled) → start ≤ end → end ≤ length list → length new ≡ end - start → m ≤ length new
    → Held m 0 ts (list_numbers (take (end - start) (drop start list))) (list_numbers new)
    → Held (start + m) start ts (list_numbers list) (list_numbers (take start list ++ (new ++ drop (end - start) (drop start list))))
kept_in_place list new start end m ts lo hi long fits h = record {
  count = omega (arith, h.count);
  numbers =
      ap (take (3 * (start + m))) split
      ∙ ap (λ i. take i (front ++ (list_numbers new ++ list_numbers rest))) place
      ∙ take-append-add front (list_numbers new ++ list_numbers rest) (3 * m)
      ∙ ap (λ q. front ++ q) (take-append-le (3 * m) (list_numbers new) (list_numbers rest) (omega (arith, list_length new)) ∙ h.numbers);
  long = list_length (take start list ++ (new ++ rest)) ∙ ap (λ i. 3 * i) (simp (length-append, length-take-le start list (omega arith), length-drop) (omega arith)) ∙ sym (list_length list);
}
  where
    front : List ℕ
    front = take (3 * start) (list_numbers list)

    rest : List Transition
    rest = drop (end - start) (drop start list)

    split : list_numbers (take start list ++ (new ++ rest)) ≡ front ++ (list_numbers new ++ list_numbers rest)
    split =
        flat_map-append transition_numbers (take start list) (new ++ rest)
        ∙ ap (λ q. list_numbers (take start list) ++ q) (flat_map-append transition_numbers new rest)
        ∙ ap (λ q. q ++ (list_numbers new ++ list_numbers rest)) (list_take start list)

    place : 3 * (start + m) ≡ length front + 3 * m
    place = omega (arith, length-take-le (3 * start) (list_numbers list) (omega (arith, list_length list)))

node_byte : {rows : List ℕ} {count k i at a : ℕ} {E : Expr} → Node rows count k i at (scope a E) → get_or rows (6 * k + 1) 0 ≡ a
unfolding nodes numbers
node_byte n = n.rows_of 1 (omega arith)

module _ (rows : List ℕ) (k start end : ℕ) (list part : List ℕ) {name lefts rights so_far : ℕ} (r : Option ℕ) {left right : List ℕ} (middle exit : List ℕ)
    (byte : name ≡ get_or rows (6 * k + 1) 0)
    (cut : (ts : List Labelled) → Part list start end ts → part ≡ flat ts)
    (gathers : (ts : List Labelled) → part ≡ flat ts → length (firsts name ts) ≤ 256 → Found lefts left (firsts name ts))
    (gathers-too : (ts : List Labelled) → part ≡ flat ts → length (firsts (name + 128) ts) ≤ 256 → Found rights right (firsts (name + 128) ts))
    (keeps : (ts : List Labelled) → Part list start end ts → Held so_far start (kept name ts) list middle)
    (joins : (count f at : ℕ) (E : Expr) → Node rows count (k + 1) f at E → Lists r so_far 0 (pairs_of (part_at_parallel f E) (take lefts left) (take rights right)) middle exit) where
  closed_by_name : (count i at : ℕ) (E : Expr) → Node rows count k i at (scope name E) → 1 ≤ name → actions E ≤ 256 → Part list start end (transitions i E)
      → Lists r start (actions E) (transitions i (scope name E)) list exit
  unfolding transitions
  closed_by_name count i at E n named few p =
      let ts = transitions i E in
      let lo = gathers ts (cut ts p) (omega (arith, firsts_few name named name named i E)) in
      let hi = gathers-too ts (cut ts p) (omega (arith, firsts_few name named (name + 128) (omega arith) i E)) in
      let both = joins count i (at + 4) E (scope_operand rows count E n) in
      let all : pairs_of (part_at_parallel i E) (take lefts left) (take rights right) ≡ joined i E name ts =
      ap (λ q. pairs_of (part_at_parallel i E) q (take rights right)) lo.numbers ∙ ap (pairs_of (part_at_parallel i E) (firsts name ts)) hi.numbers ∙ sym (joined_pairs i E name ts) in
      let none : actions E + 0 ≡ actions E = omega arith in
      subst (λ few. Lists r start few (kept name ts ++ joined i E name ts) list exit) none
      (held_then r (actions E) 0 (kept name ts) _ list middle exit (keeps ts p) (kept_weight i name E) (subst (λ q. Lists r so_far 0 q middle exit) all both))

  pub closed : (count i at a : ℕ) (E : Expr) → Node rows count k i at (scope a E) → ScopesNamed (scope a E) → actions E ≤ 256 → Part list start end (transitions i E)
      → Lists r start (actions E) (transitions i (scope a E)) list exit
  closed count i at a E n named few p =
      let e : name ≡ a = byte ∙ node_byte n in
      subst (λ b. Lists r start (actions E) (transitions i (scope b E)) list exit) e
      (closed_by_name count i at E (subst (λ b. Node rows count k i at (scope b E)) (sym e) n) (omega (arith, named.0)) few p)
