-- What an item takes from a place by its arcs is what its actions take: one token or none, also where two actions are joined.
-- Each listed item is a step of some state, which has at most one token to give at every place; so its actions share no place.
use Prim.Native.Nat.{ℕ, ◌+◌, ◌≤◌}
use native.Mathlib.Omega.{arith}
use mathlib.Core.Path.{◌≡◌, refl, sym, ◌∙◌, subst}
use mathlib.Core.Logic.{inl, inr}
use mathlib.Core.Bool.{Bool, true, false, cond, ◌||◌}
use lib.Dec.{T, eqb, eqb→eq, eqb_refl}
use Rattle.algebra.specs.Expr.{Expr}
use Rattle.algebra.specs.Item.{Item, one, two}
use Rattle.algebra.specs.Exclusive.{LoopsExclusive}
use Rattle.algebra.specs.Scopes.{ScopesNamed}
use Rattle.algebra.specs.Places.{Place, entry, exit, sequence_place, choice_entry, choice_exit, loop_place}
use Rattle.algebra.specs.Arcs.{consumes, produces, by_item}
use Rattle.algebra.specs.Dynamic.{Dynamic}
use Rattle.algebra.proofs.Codes.{El}
use Rattle.algebra.proofs.Tokens.{tokens}
use Rattle.algebra.proofs.PlaceNames.{place_code, name}
use Rattle.algebra.proofs.Flows.{taken, given}
use Rattle.algebra.proofs.FlatSteps.{Flat}
use Rattle.algebra.proofs.StepsMoveTokens.{flat_entries, flat_exits, flat_internals, entries_given, exits_taken}
use Rattle.algebra.proofs.EnabledIsDerived.{Enabled}
use Rattle.algebra.proofs.LiveActions.{only, action_live, pair_live}
use Rattle.algebra.proofs.ListedItems.{Listed, listed_in_range, listed_parts}
use Rattle.algebra.proofs.StepsByItems.{item_times}
use Rattle.algebra.proofs.Marks.{at, place_safe}

-- ---- facts 6 and 7 over all places at once
abbrev pub Moves : (ℕ → ℕ) → (n : ℕ) {E : Expr} → Dynamic E → Dynamic E → El (place_code E) → Type 0
Moves A n {E} D D' k = (taken A (name n E k) ≤ at (tokens D) k) × (at (tokens D') k + taken A (name n E k) ≡ at (tokens D) k + given A (name n E k))

pub flat_moves : {A : ℕ → ℕ} {n : ℕ} {E : Expr} {D D' : Dynamic E} → Flat A n E D D' → (k : El (place_code E)) → Moves A n D D' k
unfolding name
flat_moves {A} {n} {E} s (inl e) = omega (arith, flat_entries s e, entries_given A n E e)
flat_moves s (inr (inl i)) = flat_internals s i
flat_moves {A} {n} {E} s (inr (inr x)) = omega (arith, flat_exits s x, exits_taken A n E x)

pub enabled_of : {A : ℕ → ℕ} {n : ℕ} {E : Expr} {D : Dynamic E} → ((k : El (place_code E)) → taken A (name n E k) ≤ at (tokens D) k) → Enabled A n E D
unfolding name
enabled_of f = record { on_entry = λ e. f (inl e); on_internal = λ i. f (inr (inl i)) }

-- ---- sums
pub taken_sum : (A B : ℕ → ℕ) (p : Place) → taken (λ k. A k + B k) p ≡ taken A p + taken B p
unfolding taken
taken_sum A B (entry i) = refl
taken_sum A B (exit i) = refl
taken_sum A B (sequence_place x e) = taken_sum A B e
taken_sum A B (choice_entry e f) = omega (arith, taken_sum A B e, taken_sum A B f)
taken_sum A B (choice_exit x y) = refl
taken_sum A B (loop_place x y e g) = omega (arith, taken_sum A B e, taken_sum A B g)

pub given_sum : (A B : ℕ → ℕ) (p : Place) → given (λ k. A k + B k) p ≡ given A p + given B p
unfolding given
given_sum A B (entry i) = refl
given_sum A B (exit i) = refl
given_sum A B (sequence_place x e) = given_sum A B x
given_sum A B (choice_entry e f) = refl
given_sum A B (choice_exit x y) = omega (arith, given_sum A B x, given_sum A B y)
given_sum A B (loop_place x y e g) = omega (arith, given_sum A B x, given_sum A B y)

-- ---- an arc or none
abbrev pub bit : Bool → ℕ
bit b = cond b 1 0

-- of two that hold together at most one token, one or the other
bit_or : (a b : Bool) (m n : ℕ) → bit a ≡ m → bit b ≡ n → m + n ≤ 1 → bit (a || b) ≡ m + n
bit_or true true m n e f h = absurd (omega arith)
bit_or true false m n e f h = omega arith
bit_or false b m n e f h = omega arith

own_action : (i j : ℕ) → bit (eqb i j) ≡ only i j
unfolding only
own_action i j = go (eqb i j) (eqb j i) (eqb→eq i j) (eqb→eq j i) (λ e. subst (λ k. T (eqb i k)) e (eqb_refl i)) (λ e. subst (λ k. T (eqb j k)) e (eqb_refl j))
  where
    go : (a b : Bool) → (T a → i ≡ j) → (T b → j ≡ i) → (i ≡ j → T a) → (j ≡ i → T b) → bit a ≡ bit b
    go true true f g h k = refl
    go true false f g h k = absurd (k (sym (f tt)))
    go false true f g h k = absurd (h (sym (g tt)))
    go false false f g h k = refl

pub consumes_taken : (i : ℕ) (p : Place) → taken (only i) p ≤ 1 → bit (consumes i p) ≡ taken (only i) p
unfolding consumes taken
consumes_taken i (entry j) h = own_action i j
consumes_taken i (exit j) h = refl
consumes_taken i (sequence_place x e) h = consumes_taken i e h
consumes_taken i (choice_entry e f) h = bit_or (consumes i e) (consumes i f) _ _ (consumes_taken i e (omega arith)) (consumes_taken i f (omega arith)) h
consumes_taken i (choice_exit x y) h = refl
consumes_taken i (loop_place x y e g) h = bit_or (consumes i e) (consumes i g) _ _ (consumes_taken i e (omega arith)) (consumes_taken i g (omega arith)) h

pub produces_given : (i : ℕ) (p : Place) → given (only i) p ≤ 1 → bit (produces i p) ≡ given (only i) p
unfolding produces given
produces_given i (entry j) h = refl
produces_given i (exit j) h = own_action i j
produces_given i (sequence_place x e) h = produces_given i x h
produces_given i (choice_entry e f) h = refl
produces_given i (choice_exit x y) h = bit_or (produces i x) (produces i y) _ _ (produces_given i x (omega arith)) (produces_given i y (omega arith)) h
produces_given i (loop_place x y e g) h = bit_or (produces i x) (produces i y) _ _ (produces_given i x (omega arith)) (produces_given i y (omega arith)) h

-- ---- items
module _ (n : ℕ) (E : Expr) (g : LoopsExclusive E) (c : ScopesNamed E) where
  -- a listed item is the step of some state
  item_live : (t : Item) → Listed n E t → (D : Dynamic E) × (D' : Dynamic E) × Flat (item_times t) n E D D'
  item_live (one i) l = let r = listed_in_range l in action_live n E i r.0 r.1
  item_live (two i j) l = let r = listed_in_range l in pair_live n E i j r.0 r.1 r.2 r.3 (listed_parts n E c i j l)

  -- so it takes at most one token, and gives at most one
  item_small : (t : Item) → Listed n E t → (k : El (place_code E)) → (taken (item_times t) (name n E k) ≤ 1) × (given (item_times t) (name n E k) ≤ 1)
  item_small t l k =
      let s = item_live t l in
      let m = flat_moves s.2 k in
      (omega (arith, m.0, place_safe s.0 g k), omega (arith, m.0, m.1, place_safe s.1 g k))

  pub item_takes : (t : Item) → Listed n E t → (k : El (place_code E)) → bit (by_item consumes t (name n E k)) ≡ taken (item_times t) (name n E k)
  item_takes (one i) l k = consumes_taken i (name n E k) (item_small (one i) l k).0
  item_takes (two i j) l k =
      let p = name n E k in
      let s = taken_sum (only i) (only j) p in
      let h = (item_small (two i j) l k).0 in
      bit_or (consumes i p) (consumes j p) _ _ (consumes_taken i p (omega arith)) (consumes_taken j p (omega arith)) (omega arith) ∙ sym s

  pub item_gives : (t : Item) → Listed n E t → (k : El (place_code E)) → bit (by_item produces t (name n E k)) ≡ given (item_times t) (name n E k)
  item_gives (one i) l k = produces_given i (name n E k) (item_small (one i) l k).1
  item_gives (two i j) l k =
      let p = name n E k in
      let s = given_sum (only i) (only j) p in
      let h = (item_small (two i j) l k).1 in
      bit_or (produces i p) (produces j p) _ _ (produces_given i p (omega arith)) (produces_given j p (omega arith)) (omega arith) ∙ sym s
