-- Which places of a box pass, from those of its operands, and none does where the action is not an operand's.
-- True because an exit is never consumed from and an entry never produced into: so a place made of others passes exactly if one of them does.
use Prim.Native.Nat.{ℕ, ◌+◌, ◌≤◌, ◌<◌}
use native.Mathlib.Omega.{arith}
use mathlib.Core.Path.{◌≡◌, refl, sym, ◌∙◌, ap, ap₂, subst}
use mathlib.Core.Logic.{◌⊎◌, inl, inr}
use mathlib.Core.Bool.{Bool, true, false, ◌||◌}
use mathlib.Core.List.{List, [], ◌∷◌, ◌++◌, map, map-append, Memᴰ}
use lib.Dec.{eqb}
use borrow.Author.Tests.{ne_eqb}
use Rattle.algebra.specs.Expr.{Expr, action, sequence, choice, parallel, loop, scope, actions}
use Rattle.algebra.specs.Places.{Place, sequence_place, choice_entry, choice_exit, product, pair, loop_of, entries, internals, exits}
use Rattle.algebra.specs.Arcs.{consumes, produces}
use Rattle.algebra.proofs.Products.{product_member}
use Rattle.algebra.proofs.EntriesAndExits.{entries_not_produced, exits_not_consumed}
use Rattle.arcs.specs.inner.Moves.{passes, Box, box, Off}
use Rattle.net.specs.declared.Side.{Side}
use Rattle.net.specs.declared.Side.TheVariants.{Inputs, Outputs}
use Rattle.arcs.proofs.Ones.{either, off_append, off_either}
use Rattle.arcs.proofs.Levels.{sequence_box, choice_box, parallel_box, loop_box, None}

-- ---- products
module _ {A B C : Type 0} (g : A → B → C) (h : C → Bool) (first : A → Bool) (second : B → Bool) where
  map_row : (x : A) (ys : List B) → ((y : B) → Memᴰ y ys → h (g x y) ≡ first x || second y) → map h (map (g x) ys) ≡ map (◌||◌ (first x)) (map second ys)
  map_row x [] e = refl
  map_row x (y ∷ ys) e = rw (e y (Memᴰ.head refl), map_row x ys (λ z m. e z (Memᴰ.tail m))) refl

  map_product : (xs : List A) (ys : List B) → ((x : A) (y : B) → Memᴰ x xs → Memᴰ y ys → h (g x y) ≡ first x || second y)
      → map h (product g xs ys) ≡ either (map first xs) (map second ys)
  unfolding product
  map_product [] ys e = refl
  map_product (x ∷ xs) ys e =
      map-append h (map (g x) ys) (product g xs ys)
      ∙ ap₂ ◌++◌ (map_row x ys (λ y m. e x y (Memᴰ.head refl) m)) (map_product xs ys (λ z y l m. e z y (Memᴰ.tail l) m))

or_false : (b c : Bool) → c ≡ false → b ≡ b || c
or_false true c e = refl
or_false false c e = sym e

false_or : (b c : Bool) → b ≡ false → c ≡ b || c
false_or b c e = ap (λ a. a || c) (sym e)

neither : (b c : Bool) → b ≡ false → c ≡ false → false ≡ b || c
neither b c p q = sym q ∙ false_or b c p

module _ (i : ℕ) where
  -- A place of two entries, of two exits, of an exit and an entry.
  two_entries : (side : Side) (n m : ℕ) (E F : Expr) (x y : Place) → Memᴰ x (entries n E) → Memᴰ y (entries m F)
      → passes side i (choice_entry x y) ≡ passes side i x || passes side i y
  unfolding consumes produces
  two_entries Inputs n m E F x y l r = refl
  two_entries Outputs n m E F x y l r = neither (produces i x) (produces i y) (entries_not_produced n E i x l) (entries_not_produced m F i y r)

  two_exits : (side : Side) (n m : ℕ) (E F : Expr) (x y : Place) → Memᴰ x (exits n E) → Memᴰ y (exits m F)
      → passes side i (choice_exit x y) ≡ passes side i x || passes side i y
  unfolding consumes produces
  two_exits Inputs n m E F x y l r = neither (consumes i x) (consumes i y) (exits_not_consumed n E i x l) (exits_not_consumed m F i y r)
  two_exits Outputs n m E F x y l r = refl

  exit_entry : (side : Side) (n m : ℕ) (E F : Expr) (x y : Place) → Memᴰ x (exits n E) → Memᴰ y (entries m F)
      → passes side i (sequence_place x y) ≡ passes side i x || passes side i y
  unfolding consumes produces
  exit_entry Inputs n m E F x y l r = false_or (consumes i x) (consumes i y) (exits_not_consumed n E i x l)
  exit_entry Outputs n m E F x y l r = or_false (produces i x) (produces i y) (entries_not_produced m F i y r)

  -- A place of two exits and two entries.
  abbrev either_passes : Side → Place × Place → Bool
  either_passes side q = passes side i q.0 || passes side i q.1

  loop_passes : (side : Side) (n m o : ℕ) (E F G : Expr) (p q : Place × Place)
      → Memᴰ p (product pair (exits n E) (exits m F)) → Memᴰ q (product pair (entries m F) (entries o G))
      → passes side i (loop_of p q) ≡ either_passes side p || either_passes side q
  unfolding consumes produces
  loop_passes Inputs n m o E F G p q l r =
      let (x, y, a, b, e) = product_member pair (exits n E) (exits m F) l in
      false_or (either_passes Inputs p) (either_passes Inputs q)
      (ap (either_passes Inputs) e ∙ sym (neither (consumes i x) (consumes i y) (exits_not_consumed n E i x a) (exits_not_consumed m F i y b)))
  loop_passes Outputs n m o E F G p q l r =
      let (x, y, a, b, e) = product_member pair (entries m F) (entries o G) r in
      or_false (either_passes Outputs p) (either_passes Outputs q)
      (ap (either_passes Outputs) e ∙ sym (neither (produces i x) (produces i y) (entries_not_produced m F i x a) (entries_not_produced o G i y b)))

same_box : {a b c d e f : List Bool} → a ≡ d → b ≡ e → c ≡ f
    → ◌≡◌ {A = Box} (record { entries = a; internals = b; exits = c }) (record { entries = d; internals = e; exits = f })
same_box p q r = λ k. record { entries = p k; internals = q k; exits = r k }

module _ (side : Side) (i : ℕ) where
  abbrev test : Place → Bool
  test = passes side i

  test_append : (xs ys : List Place) {zs : List Bool} → map test ys ≡ zs → map test (xs ++ ys) ≡ map test xs ++ zs
  test_append xs ys e = map-append test xs ys ∙ ap (λ l. map test xs ++ l) e

  module _ (n : ℕ) (E F : Expr) where
    abbrev m : ℕ
    m = n + actions E

    pub box_of_sequence : box side i n (sequence E F) ≡ sequence_box (box side i n E) (box side i m F)
    unfolding entries internals exits
    box_of_sequence = same_box refl
        (test_append (internals n E) _ (test_append (internals m F) _ (map_product sequence_place test test test (exits n E) (entries m F) (exit_entry i side n m E F)))) refl

    pub box_of_choice : box side i n (choice E F) ≡ choice_box (box side i n E) (box side i m F)
    unfolding entries internals exits
    box_of_choice = same_box
        (map_product choice_entry test test test (entries n E) (entries m F) (two_entries i side n m E F))
        (test_append (internals n E) (internals m F) refl)
        (map_product choice_exit test test test (exits n E) (exits m F) (two_exits i side n m E F))

    pub box_of_parallel : box side i n (parallel E F) ≡ parallel_box (box side i n E) (box side i m F)
    unfolding entries internals exits
    box_of_parallel = same_box (test_append (entries n E) (entries m F) refl) (test_append (internals n E) (internals m F) refl) (test_append (exits n E) (exits m F) refl)

    module _ (G : Expr) where
      abbrev o : ℕ
      o = n + actions E + actions F

      pairs : (xs ys : List Place) → map (either_passes i side) (product pair xs ys) ≡ either (map test xs) (map test ys)
      pairs xs ys = map_product pair (either_passes i side) test test xs ys (λ x y l r. refl)

      pub box_of_loop : box side i n (loop E F G) ≡ loop_box (box side i n E) (box side i m F) (box side i o G)
      unfolding entries internals exits
      box_of_loop = same_box refl
          (test_append (internals n E) _ (test_append (internals m F) _ (test_append (internals o G) _
          (map_product loop_of test (either_passes i side) (either_passes i side) (product pair (exits n E) (exits m F)) (product pair (entries m F) (entries o G))
          (loop_passes i side n m o E F G)
          ∙ ap₂ either (pairs (exits n E) (exits m F)) (pairs (entries m F) (entries o G)))))) refl

  pub box_of_scope : (n a : ℕ) (E : Expr) → box side i n (scope a E) ≡ box side i n E
  unfolding entries internals exits
  box_of_scope n a E = refl

-- ---- an action outside
abbrev pub Outside : ℕ → ℕ → ℕ → Type 0
Outside n count i = (i < n) ⊎ (n + count ≤ i)

not_own : (n i : ℕ) → Outside n 1 i → eqb i n ≡ false
not_own n i (inl h) = ne_eqb i n (λ e. omega arith)
not_own n i (inr h) = ne_eqb i n (λ e. omega arith)

outside_first : (n a b i : ℕ) → Outside n (a + b) i → Outside n a i
outside_first n a b i (inl h) = inl h
outside_first n a b i (inr h) = inr (omega arith)

outside_second : (n a b i : ℕ) → Outside n (a + b) i → Outside (n + a) b i
outside_second n a b i (inl h) = inl (omega arith)
outside_second n a b i (inr h) = inr (omega arith)

one_off : {b : Bool} → b ≡ false → Off (b ∷ [])
one_off e = ap (λ c. c ∷ []) e

action_none : (side : Side) (i n l : ℕ) → Outside n 1 i → None (box side i n (action l))
unfolding entries internals exits consumes produces
action_none Inputs i n l o = record { entries = one_off (not_own n i o); internals = refl; exits = refl }
action_none Outputs i n l o = record { entries = refl; internals = refl; exits = one_off (not_own n i o) }

pub none : (side : Side) (i n : ℕ) (E : Expr) → Outside n (actions E) i → None (box side i n E)
unfolding actions
none side i n (action l) o = action_none side i n l o
none side i n (sequence E F) o =
    let p = none side i n E (outside_first n (actions E) (actions F) i o) in
    let q = none side i (n + actions E) F (outside_second n (actions E) (actions F) i o) in
    subst None (sym (box_of_sequence side i n E F)) (record {
      entries = p.entries;
      internals = off_append _ _ p.internals (off_append _ _ q.internals (off_either _ _ p.exits q.entries));
      exits = q.exits;
    })
none side i n (choice E F) o =
    let p = none side i n E (outside_first n (actions E) (actions F) i o) in
    let q = none side i (n + actions E) F (outside_second n (actions E) (actions F) i o) in
    subst None (sym (box_of_choice side i n E F)) (record {
      entries = off_either _ _ p.entries q.entries;
      internals = off_append _ _ p.internals q.internals;
      exits = off_either _ _ p.exits q.exits;
    })
none side i n (parallel E F) o =
    let p = none side i n E (outside_first n (actions E) (actions F) i o) in
    let q = none side i (n + actions E) F (outside_second n (actions E) (actions F) i o) in
    subst None (sym (box_of_parallel side i n E F)) (record {
      entries = off_append _ _ p.entries q.entries;
      internals = off_append _ _ p.internals q.internals;
      exits = off_append _ _ p.exits q.exits;
    })
none side i n (loop E F G) o =
    let first = outside_first n (actions E + actions F) (actions G) i o in
    let p = none side i n E (outside_first n (actions E) (actions F) i first) in
    let q = none side i (n + actions E) F (outside_second n (actions E) (actions F) i first) in
    let w : n + (actions E + actions F) ≡ n + actions E + actions F = omega arith in
    let r = none side i (n + actions E + actions F) G (subst (λ m. Outside m (actions G) i) w (outside_second n (actions E + actions F) (actions G) i o)) in
    subst None (sym (box_of_loop side i n E F G)) (record {
      entries = p.entries;
      internals = off_append _ _ p.internals (off_append _ _ q.internals (off_append _ _ r.internals
          (off_either _ _ (off_either _ _ p.exits q.exits) (off_either _ _ q.entries r.entries))));
      exits = r.exits;
    })
none side i n (scope a E) o = subst None (sym (box_of_scope side i n a E)) (none side i n E o)
