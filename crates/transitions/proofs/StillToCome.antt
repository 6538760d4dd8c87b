-- A list that grows transition by transition: what it holds and what is still to come are at every turn the same list.
-- True because a transition that is stored behind those that the list holds was the first of those to come.
use Prim.Native.Nat.{ℕ, ◌+◌, ◌*◌, ◌≤◌}
use native.Mathlib.Omega.{arith}
use mathlib.Core.Path.{◌≡◌, sym, ◌∙◌, ap}
use mathlib.Core.List.{List, [], ◌∷◌, ◌++◌, append_assoc, append-nil}
use Rattle.std.specs.Prelude.{Option, Some, None}
use lib.ListN.{length, take, length-append}
use Rattle.algebra.specs.Item.{first}
use Rattle.algebra.specs.Transitions.{Labelled}
use Rattle.transitions.specs.inner.Numbers.{flat, second}
use Rattle.transitions.specs.inner.Listing.{Stored, Held, Lists, pairs}
use Rattle.transitions.proofs.FlatNumbers.{flat_append}
use Rattle.transitions.proofs.Weights.{pairs_append}

-- At entry the list holds n₀ transitions, and all of these are to come; now it holds n, and the rest is to come.
pub record Left (entry : List ℕ) (n₀ : ℕ) (list : List ℕ) (n : ℕ) (all rest : List Labelled) : Type 0 where
  pub count : n₀ + length all ≡ n + length rest
  pub numbers : take (3 * n₀) entry ++ flat all ≡ take (3 * n) list ++ flat rest
  pub long : length list ≡ length entry

module _ {entry list : List ℕ} {n₀ n : ℕ} {all : List Labelled} where
  pub all_held : Left entry n₀ list n all [] → Held n n₀ all entry list
  unfolding flat
  all_held w = record { count = omega (arith, w.count); numbers = sym (w.numbers ∙ append-nil (take (3 * n) list)); long = w.long }

  pub one_stored : {x : Labelled} {rest : List Labelled} {a b c : ℕ} {exit : List ℕ} → Left entry n₀ list n all (x ∷ rest) → Stored n a b c list exit
      → a ≡ x.label → b ≡ first x.item → c ≡ second x.item → Left entry n₀ exit (n + 1) all rest
  unfolding flat
  one_stored {x} {rest} {a} {b} {c} {exit} w s p q r = record {
    count = omega (arith, w.count);
    numbers =
        w.numbers
        ∙ rw (← p, ← q, ← r) at_front
        ∙ ap (λ l. l ++ flat rest) (sym s.here);
    long = s.long ∙ w.long;
  }
    where
      at_front : take (3 * n) list ++ (a ∷ (b ∷ (c ∷ flat rest))) ≡ (take (3 * n) list ++ (a ∷ (b ∷ (c ∷ [])))) ++ flat rest
      at_front = sym (append_assoc (take (3 * n) list) (a ∷ (b ∷ (c ∷ []))) (flat rest))

  pub some_held : {m : ℕ} (xs rest : List Labelled) {exit : List ℕ} → Left entry n₀ list n all (xs ++ rest) → Held m n xs list exit → Left entry n₀ exit m all rest
  some_held xs rest w h = record {
    count = omega (arith, w.count, h.count, length-append xs rest);
    numbers =
        w.numbers
        ∙ ap (λ l. take (3 * n) list ++ l) (flat_append xs rest)
        ∙ sym (append_assoc (take (3 * n) list) (flat xs) (flat rest))
        ∙ ap (λ l. l ++ flat rest) (sym h.numbers);
    long = h.long ∙ w.long;
  }

-- Lists one after another: of the first and of the rest.
pub held_then : (r : Option ℕ) {m n : ℕ} (few more : ℕ) (xs ys : List Labelled) (entry list exit : List ℕ) → Held m n xs entry list → length xs ≤ few + pairs xs
    → Lists r m more ys list exit → Lists r n (few + more) (xs ++ ys) entry exit
held_then None few more xs ys entry list exit h small l = omega (arith, h.count, pairs_append xs ys)
held_then (Some r) {m} {n} few more xs ys entry list exit h small g = record {
  count = omega (arith, h.count, g.count, length-append xs ys);
  numbers =
      g.numbers
      ∙ ap (λ q. q ++ flat ys) h.numbers
      ∙ append_assoc (take (3 * n) entry) (flat xs) (flat ys)
      ∙ ap (λ q. take (3 * n) entry ++ q) (sym (flat_append xs ys));
  long = g.long ∙ h.long;
}
