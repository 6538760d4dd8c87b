-- The answers of `move_tokens`, each with the marking that goes with it: where it refuses, the marking is restored.
-- Each is what `moves` gives after the tests so far; a test of all items is the test of their places in_one.
use Prim.Native.Nat.{ℕ, ◌≤◌, ◌<◌}
use mathlib.Core.Path.{◌≡◌, refl, sym, ap, ap₂, ◌∙◌}
use mathlib.Core.List.{List, [], ◌∷◌}
use mathlib.Core.Bool.{true, false, not, cond}
use native.Mathlib.Omega.{arith}
use lib.ListN.{length, get_or, length-map}
use borrow.Author.Tests.{le-leb, lt-leb, ltb-true, ltb-false}
use Rattle.std.specs.Prelude.{Option, None, Some, Result, Ok, Err, is_some, is_err, nat_lt, position, MatchResult, OnOk}
use Rattle.std.specs.List.{position_or_len}
use Rattle.field.proofs.Tests.{test}
use Rattle.field.specs.Answer.{Answer, good, refused}
use Rattle.field.specs.Says.{number_of}
use Rattle.field.specs.declared.Fault.{Fault}
use Rattle.field.specs.declared.Fault.TheVariants.{InputEmpty, InputShared, TwoTokens}
use Rattle.field.specs.declared.Refusal.{Refusal}
use Rattle.net.specs.declared.Side.{Side}
use Rattle.net.specs.declared.Side.TheVariants.{Inputs, Outputs}
use Rattle.moving.specs.inner.Moving.{side_of, sides, hold, holds_each, filled, shifts_each, in_one, passed, moves}
use Rattle.moving.specs.inner.Moves.{Moves, told, kept}
use Rattle.moving.proofs.MoveTurns.{Agree}
use Rattle.moving.proofs.Filled.{filled_length, filled_agrees, restored, holds_all}

-- a refusal leaves the marking, and a good answer gives it
pub moves_refused : (fault : Fault) (c : ℕ) (r : Refusal) → (r.fault ≡ fault) × (r.carried ≡ c) → (m m' : List ℕ) (a : Answer (List ℕ)) → a ≡ refused (number_of fault) c → m' ≡ m
    → Moves (Err r) m m' a
moves_refused fault c r is m m' a e f =
    let same : refused (number_of r.fault) r.carried ≡ a = ap₂ refused (ap number_of is.0) is.1 ∙ sym e in
    record { says = ap told same; leaves = f ∙ ap (kept m) same }

pub moves_done : (m m' : List ℕ) (a : Answer (List ℕ)) → a ≡ good m' → Moves (Ok tt) m m' a
moves_done m m' a e = record { says = ap told (sym e); leaves = ap (kept m) (sym e) }

-- how many items passed, by whether one is told that did not
module _ (tokens : ℕ) (m rows arcs : List ℕ) (side : Side) where
  passed_before : (ts : List ℕ) → position_or_len (λ t. not (hold tokens m (side_of side rows arcs t))) ts ≡ holds_each tokens m (sides side rows arcs ts)
  unfolding holds_each
  passed_before [] = refl
  passed_before (t ∷ ts) = test (hold tokens m (side_of side rows arcs t)) (λ e. rw e (omega (arith, passed_before ts))) (λ e. rw e)

  module _ (ts : List ℕ) where
    abbrev first : Option ℕ
    first = position (λ t. not (hold tokens m (side_of side rows arcs t))) ts

    first_is : first ≡ cond (nat_lt (holds_each tokens m (sides side rows arcs ts)) (length ts)) (Some (holds_each tokens m (sides side rows arcs ts))) None
    first_is = rw (passed_before ts)

    pub item_found : (o : Option ℕ) (i : ℕ) → o ≡ first → o ≡ Some i → (i ≡ holds_each tokens m (sides side rows arcs ts)) × (i < length ts)
    item_found o i e f =
        test (nat_lt (holds_each tokens m (sides side rows arcs ts)) (length ts))
        (λ l. let same : Some i ≡ Some (holds_each tokens m (sides side rows arcs ts)) = sym f ∙ e ∙ first_is ∙ rw l in let is : i ≡ holds_each tokens m (sides side rows arcs ts) = cc in (is, omega (arith, ltb-true _ _ l)))
        (λ l. absurd (let differ : Some i ≡ None = sym f ∙ e ∙ first_is ∙ rw l in cc))

    pub none_found : (o : Option ℕ) → o ≡ first → is_some o ≡ false → length ts ≤ holds_each tokens m (sides side rows arcs ts)
    none_found o e f =
        test (nat_lt (holds_each tokens m (sides side rows arcs ts)) (length ts))
        (λ l. absurd (let same : o ≡ Some (holds_each tokens m (sides side rows arcs ts)) = e ∙ first_is ∙ rw l in let differ : true ≡ false = sym (ap is_some same) ∙ f in cc))
        (λ l. ltb-false _ _ l)

    pub some_found : (o : Option ℕ) → o ≡ first → is_some o ≡ true → holds_each tokens m (sides side rows arcs ts) < length ts
    some_found o e f =
        test (nat_lt (holds_each tokens m (sides side rows arcs ts)) (length ts))
        (λ l. ltb-true _ _ l)
        (λ l. absurd (let same : o ≡ None = e ∙ first_is ∙ rw l in let differ : false ≡ true = sym (ap is_some same) ∙ f in cc))

pub item_shared : (n h : ℕ) (r : Result (Unit {0}) ℕ) → MatchResult r (λ _. n ≤ h) (λ i. (i ≡ h) × (i < n)) → is_err r ≡ true → h < n
item_shared n h (Ok u) f e = absurd (let z : false ≡ true = e in cc)
item_shared n h (Err i) f e = omega arith

pub no_item_shared : (n h : ℕ) (r : Result (Unit {0}) ℕ) → MatchResult r (λ _. n ≤ h) (λ i. (i ≡ h) × (i < n)) → is_err r ≡ false → n ≤ h
no_item_shared n h (Ok u) f e = f
no_item_shared n h (Err i) f e = absurd (let z : true ≡ false = e in cc)

pub on_ok : {P : Type 0} (r : Result (Unit {0}) ℕ) → OnOk r P → is_err r ≡ false → P
on_ok (Ok u) f e = f
on_ok (Err i) f e = absurd (let z : true ≡ false = e in cc)

module _ (rows arcs m ts : List ℕ) where
  abbrev ins : List (List ℕ)
  ins = sides Inputs rows arcs ts

  abbrev outs : List (List ℕ)
  outs = sides Outputs rows arcs ts

  all_passed : (side : Side) (n : ℕ) → length ts ≤ n → passed (sides side rows arcs ts) n ≡ true
  all_passed side n h = rw (length-map ts (side_of side rows arcs)) (le-leb (length ts) n h)

  not_passed : (side : Side) (n : ℕ) → n < length ts → passed (sides side rows arcs ts) n ≡ false
  not_passed side n h = rw (length-map ts (side_of side rows arcs)) (lt-leb (length ts) n h)

  pub input_empty : (item : ℕ) → (item ≡ holds_each 1 m ins) × (item < length ts) → (r : Refusal) → (r.fault ≡ InputEmpty) × (r.carried ≡ item) → Moves (Err r) m m (moves m ins outs)
  unfolding moves
  input_empty item h r is = moves_refused InputEmpty item r is m m (moves m ins outs) (rw (not_passed Inputs (holds_each 1 m ins) (omega arith), ← h.0)) refl

  module _ (h₁ : length ts ≤ holds_each 1 m ins) (w : List ℕ) where
    ones : hold 1 m (in_one ins) ≡ true
    ones = sym (holds_all 1 m ins) ∙ all_passed Inputs _ h₁

    pub input_shared : (item : ℕ) → (item ≡ shifts_each 1 0 m ins) × (item < length ts) → length w ≡ length m → Agree (in_one ins) m w → (w' : List ℕ) → w' ≡ filled 1 w (in_one ins)
        → (r : Refusal) → (r.fault ≡ InputShared) × (r.carried ≡ item) → Moves (Err r) m w' (moves m ins outs)
    unfolding moves
    input_shared item h l a w' f r is =
        moves_refused InputShared item r is m w' (moves m ins outs) (rw (all_passed Inputs _ h₁, not_passed Inputs (shifts_each 1 0 m ins) (omega arith), ← h.0))
        (f ∙ restored 1 m w (in_one ins) l a ones)

    module _ (h₂ : length ts ≤ shifts_each 1 0 m ins) (f₂ : w ≡ filled 0 m (in_one ins)) where
      back : filled 1 w (in_one ins) ≡ m
      back = restored 1 m w (in_one ins) (ap length f₂ ∙ filled_length 0 m (in_one ins)) (λ q z. ap (λ (x : List ℕ). get_or x q 0) f₂ ∙ filled_agrees 0 m (in_one ins) q z) ones

      full_is : holds_each 0 w outs ≡ holds_each 0 (filled 0 m (in_one ins)) outs
      full_is = ap (λ (x : List ℕ). holds_each 0 x outs) f₂

      pub output_full : holds_each 0 w outs < length ts → (w' : List ℕ) → w' ≡ filled 1 w (in_one ins)
          → (r : Refusal) → (r.fault ≡ TwoTokens) × (r.carried ≡ 0) → Moves (Err r) m w' (moves m ins outs)
      unfolding moves
      output_full h w' f r is =
          moves_refused TwoTokens 0 r is m w' (moves m ins outs) (rw (all_passed Inputs _ h₁, all_passed Inputs _ h₂, ← full_is, not_passed Outputs _ h)) (f ∙ back)

      module _ (h₃ : length ts ≤ holds_each 0 w outs) where
        twice_is : shifts_each 0 1 w outs ≡ shifts_each 0 1 (filled 0 m (in_one ins)) outs
        twice_is = ap (λ (x : List ℕ). shifts_each 0 1 x outs) f₂

        zeros : hold 0 w (in_one outs) ≡ true
        zeros = sym (holds_all 0 w outs) ∙ all_passed Outputs _ h₃

        pub output_twice : shifts_each 0 1 w outs < length ts → (x x' x'' : List ℕ) → length x ≡ length w → Agree (in_one outs) w x → x' ≡ filled 0 x (in_one outs) → x'' ≡ filled 1 x' (in_one ins)
            → (r : Refusal) → (r.fault ≡ TwoTokens) × (r.carried ≡ 0) → Moves (Err r) m x'' (moves m ins outs)
        unfolding moves
        output_twice h x x' x'' l a f g r is =
            moves_refused TwoTokens 0 r is m x'' (moves m ins outs)
            (rw (all_passed Inputs _ h₁, all_passed Inputs _ h₂, ← full_is, ← twice_is, all_passed Outputs _ h₃, not_passed Outputs _ h))
            (g ∙ ap (λ (y : List ℕ). filled 1 y (in_one ins)) (f ∙ restored 0 w x (in_one outs) l a zeros) ∙ back)

        pub moved_on : length ts ≤ shifts_each 0 1 w outs → (x : List ℕ) → x ≡ filled 1 w (in_one outs) → Moves (Ok tt) m x (moves m ins outs)
        unfolding moves
        moved_on h x f =
            moves_done m x (moves m ins outs)
            (rw (all_passed Inputs _ h₁, all_passed Inputs _ h₂, ← full_is, ← twice_is, all_passed Outputs _ h₃, all_passed Outputs _ h, f, f₂))
