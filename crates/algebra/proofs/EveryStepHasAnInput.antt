-- No step can fire without an input: an opening step that is always enabled, and opens every filter, is in no box. Every transition has an input and an output.
-- An operand with no steps still has an entry and an exit. So no product is empty, and each place of an operand lives on in the whole, itself or as a part.
use Prim.Native.Nat.{ℕ, ◌+◌, ◌≤◌, ◌<◌}
use native.Mathlib.Omega.{arith}
use native.Mathlib.Decide.{dec_lt}
use mathlib.Core.Path.{◌≡◌, refl}
use mathlib.Core.Logic.{◌⊎◌, inl, inr, ⊎_elim}
use mathlib.Core.Bool.{Bool, false, ◌||◌}
use mathlib.Core.List.Memᴰ
use mathlib.Core.List.{List, ◌++◌, append_assoc, Memᴰ}
use lib.ListN.{length}
use lib.Dec.{T, eqb}
use Rattle.algebra.specs.Expr.{Expr, action, sequence, choice, parallel, loop, scope, actions}
use Rattle.algebra.specs.Item.{Item, one, two, first}
use Rattle.algebra.specs.Places.{Place, sequence_place, choice_entry, choice_exit, pair, loop_of, product, entries, exits, internals, places}
use Rattle.algebra.specs.Transitions.{Labelled, kept, joined, transitions}
use Rattle.algebra.specs.Arcs.{consumes, produces, by_item, transition_of}
use Rattle.field.proofs.Tests.{or_left, or_right, eqb_of}
use Rattle.algebra.proofs.Members.{kept_member, joined_member}
use Rattle.algebra.proofs.Products.{product_some}
use Rattle.algebra.proofs.Lengths.{entries_length, entries_some, exits_length, exits_some}
use Rattle.algebra.proofs.Anys.{any, any_left, any_right, any_weaker, any_product_left, any_product_right}
use Rattle.algebra.proofs.ArcNumbers.{numbers_length_some}

pub every_box_has_an_entry : (n : ℕ) (E : Expr) → 1 ≤ length (entries n E)
every_box_has_an_entry n E = omega (arith, entries_length n E, entries_some E)

pub every_box_has_an_exit : (n : ℕ) (E : Expr) → 1 ≤ length (exits n E)
every_box_has_an_exit n E = omega (arith, exits_length n E, exits_some E)

-- A place that passes is among a box's ends, its entries or its exits, or among its internals.
abbrev Found : (Place → Bool) → List Place → List Place → Type 0
Found f ends inner = T (any f ends) ⊎ T (any f inner)

-- Where the ends and the internals of the operands come into those of the whole.
module _ (f : Place → Bool) (ends : List Place) where
  behind : (i r : List Place) → Found f ends r → Found f ends (i ++ r)
  behind i r = ⊎_elim inl (λ t. inr (any_right f i r t))

  in_front : (e i r : List Place) → (T (any f e) → Found f ends r) → Found f e i → Found f ends (i ++ r)
  in_front e i r g = ⊎_elim (λ t. behind i r (g t)) (λ t. inr (any_left f i r t))

  module _ (e₁ i₁ e₂ i₂ : List Place) where
    -- choice and parallel: ends become ends
    of_sides : (T (any f e₁) → T (any f ends)) → (T (any f e₂) → T (any f ends)) → Found f e₁ i₁ ⊎ Found f e₂ i₂ → Found f ends (i₁ ++ i₂)
    of_sides g₁ g₂ (inl s) = in_front e₁ i₁ i₂ (λ t. inl (g₁ t)) s
    of_sides g₁ g₂ (inr s) = behind i₁ i₂ (⊎_elim (λ t. inl (g₂ t)) inr s)

    -- sequence: ends become ends or parts of new internals
    of_two : (new : List Place) → (T (any f e₁) → Found f ends new) → (T (any f e₂) → Found f ends new) → Found f e₁ i₁ ⊎ Found f e₂ i₂
        → Found f ends (i₁ ++ (i₂ ++ new))
    of_two new g₁ g₂ (inl s) = in_front e₁ i₁ (i₂ ++ new) (λ t. behind i₂ new (g₁ t)) s
    of_two new g₁ g₂ (inr s) = behind i₁ (i₂ ++ new) (in_front e₂ i₂ new g₂ s)

    -- loop
    of_three : (e₃ i₃ new : List Place) → (T (any f e₁) → Found f ends new) → (T (any f e₂) → Found f ends new) → (T (any f e₃) → Found f ends new)
        → Found f e₁ i₁ ⊎ (Found f e₂ i₂ ⊎ Found f e₃ i₃) → Found f ends (i₁ ++ (i₂ ++ (i₃ ++ new)))
    of_three e₃ i₃ new g₁ g₂ g₃ (inl s) = in_front e₁ i₁ (i₂ ++ (i₃ ++ new)) (λ t. behind i₂ (i₃ ++ new) (behind i₃ new (g₁ t))) s
    of_three e₃ i₃ new g₁ g₂ g₃ (inr (inl s)) = behind i₁ (i₂ ++ (i₃ ++ new)) (in_front e₂ i₂ (i₃ ++ new) (λ t. behind i₃ new (g₂ t)) s)
    of_three e₃ i₃ new g₁ g₂ g₃ (inr (inr s)) = behind i₁ (i₂ ++ (i₃ ++ new)) (behind i₂ (i₃ ++ new) (in_front e₃ i₃ new g₃ s))

-- An action of a whole is one of its first operand or of the rest.
operand : {X Y : Type 0} (n i a b : ℕ) → n ≤ i → i < n + (a + b) → (n ≤ i → i < n + a → X) → (n + a ≤ i → i < n + a + b → Y) → X ⊎ Y
operand {X} {Y} n i a b lo hi left right = go (dec_lt i (n + a))
  where
    go : Dec (i < n + a) → X ⊎ Y
    go (yes h) = inl (left lo h)
    go (no h) = inr (right (omega arith) (omega arith))

-- A product whose elements pass where either part passes has a part that passes, if the other side is not empty.
abbrev either : (Place → Bool) → Place × Place → Bool
either f p = f p.0 || f p.1

module _ {C : Type 0} (f : Place → Bool) (g : C → Bool) (new : Place → Place → C) (parts : (x y : Place) → g (new x y) ≡ (f x || f y)) (xs ys : List Place) where
  part_first : 1 ≤ length ys → T (any f xs) → T (any g (product new xs ys))
  part_first = any_product_left g new xs ys f (λ x y t. rw (parts x y) (or_left (f x) (f y) t))

  part_second : 1 ≤ length xs → T (any f ys) → T (any g (product new xs ys))
  part_second = any_product_right g new xs ys f (λ x y t. rw (parts x y) (or_right (f x) (f y) t))

module _ (f : Place → Bool) (e₁ i₁ e₂ i₂ : List Place) where
  of_choice : (new : Place → Place → Place) → ((x y : Place) → f (new x y) ≡ (f x || f y)) → 1 ≤ length e₁ → 1 ≤ length e₂ → Found f e₁ i₁ ⊎ Found f e₂ i₂
      → Found f (product new e₁ e₂) (i₁ ++ i₂)
  of_choice new parts some₁ some₂ = of_sides f (product new e₁ e₂) e₁ i₁ e₂ i₂ (part_first f f new parts e₁ e₂ some₂) (part_second f f new parts e₁ e₂ some₁)

  of_parallel : Found f e₁ i₁ ⊎ Found f e₂ i₂ → Found f (e₁ ++ e₂) (i₁ ++ i₂)
  of_parallel = of_sides f (e₁ ++ e₂) e₁ i₁ e₂ i₂ (any_left f e₁ e₂) (any_right f e₁ e₂)

consumed : (n : ℕ) (E : Expr) (i : ℕ) → n ≤ i → i < n + actions E → Found (consumes i) (entries n E) (internals n E)
unfolding entries internals any consumes
consumed n (action l) i lo hi = inl (or_left (eqb i n) false (eqb_of i n (omega arith)))
consumed n (sequence E F) i lo hi =
    let c = consumes i in
    let m = n + actions E in
    of_two c (entries n E) (entries n E) (internals n E) (entries m F) (internals m F) (product sequence_place (exits n E) (entries m F)) inl
    (λ t. inr (any_product_right c sequence_place (exits n E) (entries m F) c (λ x e t. t) (every_box_has_an_exit n E) t))
    (operand n i (actions E) (actions F) lo hi (consumed n E i) (consumed m F i))
consumed n (choice E F) i lo hi =
    let m = n + actions E in
    of_choice (consumes i) (entries n E) (internals n E) (entries m F) (internals m F) choice_entry (λ x y. refl) (every_box_has_an_entry n E) (every_box_has_an_entry m F)
    (operand n i (actions E) (actions F) lo hi (consumed n E i) (consumed m F i))
consumed n (parallel E F) i lo hi =
    let m = n + actions E in
    of_parallel (consumes i) (entries n E) (internals n E) (entries m F) (internals m F) (operand n i (actions E) (actions F) lo hi (consumed n E i) (consumed m F i))
consumed n (loop E F G) i lo hi =
    let c = consumes i in
    let m = n + actions E in
    let k = m + actions F in
    let before = product pair (exits n E) (exits m F) in
    let after = product pair (entries m F) (entries k G) in
    let into : T (any (either c) after) → T (any c (product loop_of before after)) =
    any_product_right c loop_of before after (either c) (λ x e t. t) (product_some pair (exits n E) (exits m F) (every_box_has_an_exit n E) (every_box_has_an_exit m F)) in
    of_three c (entries n E) (entries n E) (internals n E) (entries m F) (internals m F) (entries k G) (internals k G) (product loop_of before after) inl
    (λ t. inr (into (part_first c (either c) pair (λ x y. refl) (entries m F) (entries k G) (every_box_has_an_entry k G) t)))
    (λ t. inr (into (part_second c (either c) pair (λ x y. refl) (entries m F) (entries k G) (every_box_has_an_entry m F) t)))
    (operand n i (actions E) (actions F + actions G) lo (omega arith) (consumed n E i) (λ l h. operand m i (actions F) (actions G) l h (consumed m F i) (consumed k G i)))
consumed n (scope a E) i lo hi = consumed n E i lo hi

produced : (n : ℕ) (E : Expr) (i : ℕ) → n ≤ i → i < n + actions E → Found (produces i) (exits n E) (internals n E)
unfolding exits internals any produces
produced n (action l) i lo hi = inl (or_left (eqb i n) false (eqb_of i n (omega arith)))
produced n (sequence E F) i lo hi =
    let c = produces i in
    let m = n + actions E in
    of_two c (exits m F) (exits n E) (internals n E) (exits m F) (internals m F) (product sequence_place (exits n E) (entries m F))
    (λ t. inr (any_product_left c sequence_place (exits n E) (entries m F) c (λ x e t. t) (every_box_has_an_entry m F) t)) inl
    (operand n i (actions E) (actions F) lo hi (produced n E i) (produced m F i))
produced n (choice E F) i lo hi =
    let m = n + actions E in
    of_choice (produces i) (exits n E) (internals n E) (exits m F) (internals m F) choice_exit (λ x y. refl) (every_box_has_an_exit n E) (every_box_has_an_exit m F)
    (operand n i (actions E) (actions F) lo hi (produced n E i) (produced m F i))
produced n (parallel E F) i lo hi =
    let m = n + actions E in
    of_parallel (produces i) (exits n E) (internals n E) (exits m F) (internals m F) (operand n i (actions E) (actions F) lo hi (produced n E i) (produced m F i))
produced n (loop E F G) i lo hi =
    let c = produces i in
    let m = n + actions E in
    let k = m + actions F in
    let before = product pair (exits n E) (exits m F) in
    let after = product pair (entries m F) (entries k G) in
    let into : T (any (either c) before) → T (any c (product loop_of before after)) =
    any_product_left c loop_of before after (either c) (λ x e t. t) (product_some pair (entries m F) (entries k G) (every_box_has_an_entry m F) (every_box_has_an_entry k G)) in
    of_three c (exits k G) (exits n E) (internals n E) (exits m F) (internals m F) (exits k G) (internals k G) (product loop_of before after)
    (λ t. inr (into (part_first c (either c) pair (λ x y. refl) (exits n E) (exits m F) (every_box_has_an_exit m F) t)))
    (λ t. inr (into (part_second c (either c) pair (λ x y. refl) (exits n E) (exits m F) (every_box_has_an_exit n E) t))) inl
    (operand n i (actions E) (actions F + actions G) lo (omega arith) (produced n E i) (λ l h. operand m i (actions F) (actions G) l h (produced m F i) (produced k G i)))
produced n (scope a E) i lo hi = produced n E i lo hi

pub action_consumes : (n : ℕ) (E : Expr) (i : ℕ) → n ≤ i → i < n + actions E → T (any (consumes i) (entries n E ++ internals n E))
action_consumes n E i lo hi =
    ⊎_elim (any_left (consumes i) (entries n E) (internals n E)) (any_right (consumes i) (entries n E) (internals n E)) (consumed n E i lo hi)

pub action_produces : (n : ℕ) (E : Expr) (i : ℕ) → n ≤ i → i < n + actions E → T (any (produces i) (internals n E ++ exits n E))
action_produces n E i lo hi =
    ⊎_elim (any_right (produces i) (internals n E) (exits n E)) (any_left (produces i) (internals n E) (exits n E)) (produced n E i lo hi)

-- The actions of an item are at least one number and below another.
abbrev pub InRange : ℕ → ℕ → Item → Type 0
InRange lo hi (one i) = (lo ≤ i) × (i < hi)
InRange lo hi (two i j) = (lo ≤ i) × (i < hi) × (lo ≤ j) × (j < hi)

range_wider : (lo hi lo' hi' : ℕ) → lo' ≤ lo → hi ≤ hi' → (x : Item) → InRange lo hi x → InRange lo' hi' x
range_wider lo hi lo' hi' l h (one i) r = omega arith
range_wider lo hi lo' hi' l h (two i j) r = omega arith

pub first_in_range : (lo hi : ℕ) (x : Item) → InRange lo hi x → (lo ≤ first x) × (first x < hi)
first_in_range lo hi (one i) r = r
first_in_range lo hi (two i j) r = (r.0, r.1)

abbrev AllInRange : ℕ → ℕ → List Labelled → Type 0
AllInRange lo hi ts = (t : Labelled) → Memᴰ t ts → InRange lo hi t.item

operands_in_range : (n : ℕ) (E F : Expr) → AllInRange n (n + actions E) (transitions n E) → AllInRange (n + actions E) (n + actions E + actions F) (transitions (n + actions E) F)
    → AllInRange n (n + (actions E + actions F)) (transitions n E ++ transitions (n + actions E) F)
operands_in_range n E F p q t m =
    let l = n + actions E in
    let top = n + (actions E + actions F) in
    ⊎_elim (λ k. range_wider n l n top (omega arith) (omega arith) t.item (p t k)) (λ k. range_wider l (l + actions F) n top (omega arith) (omega arith) t.item (q t k))
    (Memᴰ.append_cases (transitions n E) m)

-- A scope keeps items or joins two of them.
scope_in_range : (lo hi n : ℕ) (E : Expr) (a : ℕ) (ts : List Labelled) → AllInRange lo hi ts → AllInRange lo hi (kept a ts ++ joined n E a ts)
scope_in_range lo hi n E a ts p v m = ⊎_elim (λ k. p v (kept_member a ts k)) new (Memᴰ.append_cases (kept a ts) m)
  where
    new : Memᴰ v (joined n E a ts) → InRange lo hi v.item
    new k =
        let j = joined_member n E a ts k in
        let t = first_in_range lo hi j.t.item (p j.t j.t_in) in
        let u = first_in_range lo hi j.u.item (p j.u j.u_in) in
        rw j.made (t.0, t.1, u.0, u.1)

pub items_in_range : (n : ℕ) (E : Expr) (t : Labelled) → Memᴰ t (transitions n E) → InRange n (n + actions E) t.item
unfolding transitions
items_in_range n (action l) t m = rw (Memᴰ.eq_of_singleton m) (omega arith)
items_in_range n (sequence E F) t m = operands_in_range n E F (items_in_range n E) (items_in_range (n + actions E) F) t m
items_in_range n (choice E F) t m = operands_in_range n E F (items_in_range n E) (items_in_range (n + actions E) F) t m
items_in_range n (parallel E F) t m = operands_in_range n E F (items_in_range n E) (items_in_range (n + actions E) F) t m
items_in_range n (loop E F G) t m =
    let l = n + actions E in
    range_wider n (n + (actions E + (actions F + actions G))) n (n + (actions E + actions F + actions G)) (omega arith) (omega arith) t.item
    (operands_in_range n E (sequence F G) (items_in_range n E) (operands_in_range l F G (items_in_range l F) (items_in_range (l + actions F) G)) t m)
items_in_range n (scope a E) t m = scope_in_range n (n + actions E) n E a (transitions n E) (items_in_range n E) t m

-- Where each action of a range has a place, so has each item of it.
item_has : (f : ℕ → Place → Bool) (ps : List Place) (lo hi : ℕ) → ((i : ℕ) → lo ≤ i → i < hi → T (any (f i) ps)) → (x : Item) → InRange lo hi x
    → T (any (by_item f x) ps)
item_has f ps lo hi has (one i) r = has i r.0 r.1
item_has f ps lo hi has (two i j) r = any_weaker (f i) (by_item f (two i j)) (λ p t. or_left (f i p) (f j p) t) ps (has i r.0 r.1)

pub every_step_has_an_input : (E : Expr) (t : Labelled) → Memᴰ t (transitions 0 E) → 1 ≤ length (transition_of (places 0 E) t).inputs
unfolding transition_of places
every_step_has_an_input E t m =
    numbers_length_some (by_item consumes t.item) 0 (places 0 E) (item_has consumes (places 0 E) 0 (0 + actions E) has t.item (items_in_range 0 E t m))
  where
    has : (i : ℕ) → 0 ≤ i → i < 0 + actions E → T (any (consumes i) (places 0 E))
    has i lo hi =
        rw (← append_assoc (entries 0 E) (internals 0 E) (exits 0 E)) (any_left (consumes i) (entries 0 E ++ internals 0 E) (exits 0 E) (action_consumes 0 E i lo hi))

pub every_step_has_an_output : (E : Expr) (t : Labelled) → Memᴰ t (transitions 0 E) → 1 ≤ length (transition_of (places 0 E) t).outputs
unfolding transition_of places
every_step_has_an_output E t m =
    numbers_length_some (by_item produces t.item) 0 (places 0 E) (item_has produces (places 0 E) 0 (0 + actions E) has t.item (items_in_range 0 E t m))
  where
    has : (i : ℕ) → 0 ≤ i → i < 0 + actions E → T (any (produces i) (places 0 E))
    has i lo hi = any_right (produces i) (entries 0 E) (internals 0 E ++ exits 0 E) (action_produces 0 E i lo hi)
