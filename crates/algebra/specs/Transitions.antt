-- 01, "Box construction": "Transitions stand in operand order. Scope a takes away those labelled a or a+128, keeps the rest in order, then adds a silent one for each pair".
use Rattle.std.specs.Prelude.{ℕ, ◌+◌, List, [], ◌∷◌, ◌++◌, map, Bool, true, false, cond, not, ◌&&◌, eqb, ltb}
use Rattle.algebra.specs.Expr.{Expr, action, sequence, choice, parallel, loop, scope, actions}
use Rattle.algebra.specs.Item.{Item, one, two, first}
use Rattle.algebra.specs.Places.{product}

-- A transition is told by its label and its actions.
pub record Labelled : Type 0 where
  pub label : ℕ
  pub item : Item

unfoldable pub select : {A : Type 0} → (A → Bool) → List A → List A
select ok [] = []
select ok (x ∷ xs) = cond (ok x) (x ∷ select ok xs) (select ok xs)

-- Both in the first operand, both in the rest, or parted here.
abbrev pub where_both : Bool → Bool → Bool → Bool → Bool → Bool
where_both true true in_first in_rest here = in_first
where_both false false in_first in_rest here = in_rest
where_both true false in_first in_rest here = here
where_both false true in_first in_rest here = here

abbrev pub is_parallel : Expr → Bool
is_parallel (action l) = false
is_parallel (sequence E F) = false
is_parallel (choice E F) = false
is_parallel (parallel E F) = true
is_parallel (loop E F G) = false
is_parallel (scope a E) = false

-- "whose actions part at a parallel field": the lowest field that holds both is a parallel, with one on each side.
unfoldable pub part_at_parallel : ℕ → Expr → ℕ → ℕ → Bool
unfolding actions
part_at_parallel n (action l) i j = false
part_at_parallel n (sequence E F) i j =
    where_both (ltb i (n + actions E)) (ltb j (n + actions E)) (part_at_parallel n E i j) (part_at_parallel (n + actions E) F i j) (is_parallel (sequence E F))
part_at_parallel n (choice E F) i j =
    where_both (ltb i (n + actions E)) (ltb j (n + actions E)) (part_at_parallel n E i j) (part_at_parallel (n + actions E) F i j) (is_parallel (choice E F))
part_at_parallel n (parallel E F) i j =
    where_both (ltb i (n + actions E)) (ltb j (n + actions E)) (part_at_parallel n E i j) (part_at_parallel (n + actions E) F i j) (is_parallel (parallel E F))
part_at_parallel n (loop E F G) i j =
    where_both (ltb i (n + actions E)) (ltb j (n + actions E)) (part_at_parallel n E i j)
    (where_both (ltb i (n + actions E + actions F)) (ltb j (n + actions E + actions F)) (part_at_parallel (n + actions E) F i j) (part_at_parallel (n + actions E + actions F) G i j) (is_parallel (loop E F G)))
    (is_parallel (loop E F G))
part_at_parallel n (scope a E) i j = part_at_parallel n E i j

abbrev pub labelled : ℕ → Labelled → Bool
labelled a t = eqb t.label a

-- "takes away those labelled a or a+128, keeps the rest in order"
abbrev pub stays : ℕ → Labelled → Bool
stays a t = not (labelled a t) && not (labelled (a + 128) t)

unfoldable pub kept : ℕ → List Labelled → List Labelled
unfolding select
kept a ts = select (stays a) ts

pub record Pair : Type 0 where
  pub t : Labelled
  pub u : Labelled

abbrev pub paired : Labelled → Labelled → Pair
paired t u = record { t = t; u = u }

abbrev pub silent : Pair → Labelled
silent p = record { label = 0; item = two (first p.t.item) (first p.u.item) }

-- "a silent one for each pair t (label a), u (label a+128) whose actions part at a parallel field, ordered by t, then u"
unfoldable pub joined : ℕ → Expr → ℕ → List Labelled → List Labelled
unfolding select product part_at_parallel
joined n E a ts =
    map silent
    (select (λ p. part_at_parallel n E (first p.t.item) (first p.u.item))
    (product paired (select (labelled a) ts) (select (labelled (a + 128)) ts)))

unfoldable pub transitions : ℕ → Expr → List Labelled
unfolding kept joined actions
transitions n (action l) = record { label = l; item = one n } ∷ []
transitions n (sequence E F) = transitions n E ++ transitions (n + actions E) F
transitions n (choice E F) = transitions n E ++ transitions (n + actions E) F
transitions n (parallel E F) = transitions n E ++ transitions (n + actions E) F
transitions n (loop E F G) = transitions n E ++ (transitions (n + actions E) F ++ transitions (n + actions E + actions F) G)
transitions n (scope a E) = kept a (transitions n E) ++ joined n E a (transitions n E)
