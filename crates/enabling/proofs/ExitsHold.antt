-- The exit places looked at one after another; and in the kinds of a net, whose exits stand last, they are the places behind all others.
-- True by recursion on the kinds.
use Prim.Native.Nat.{ℕ, zero, suc, ◌+◌}
use native.Mathlib.Omega.{arith}
use mathlib.Core.Path.{◌≡◌, refl, sym, ap, ap₂}
use mathlib.Core.Bool.{Bool, not, ◌&&◌, ◌||◌}
use mathlib.Core.List.{List, [], ◌∷◌, ◌++◌}
use lib.ListN.{length, drop, replicate}
use lib.Dec.{eqb, leb}
use borrow.Author.Tests.{ne_eqb, eqb-true, eqb-false, le-leb, lt-leb}
use Rattle.std.specs.List.{list_all, zip}
use Rattle.field.specs.Lists.{all}
use Rattle.field.proofs.Tests.{test}
use Rattle.enabling.specs.Enabled.{exits_hold}

-- A place whose kind is 3 holds a token.
abbrev pub ExitHolds : ℕ × ℕ → Bool
ExitHolds p = not (eqb p.0 3) || not (eqb p.1 0)

holds_one : (x : ℕ) → not (eqb x 0) ≡ leb 1 x
holds_one x =
    test (eqb x 0) (λ e. rw e (sym (lt-leb 1 x (omega (arith, eqb-true x 0 e))))) (λ e. rw e (sym (le-leb 1 x (omega (arith, eqb-false x 0 e)))))

pub exits_paired : (kinds m : List ℕ) → length kinds ≡ length m → list_all ExitHolds (zip kinds m) ≡ exits_hold kinds m
unfolding exits_hold
exits_paired [] m e = refl
exits_paired (k ∷ ks) [] e = absurd (omega arith)
exits_paired (k ∷ ks) (x ∷ m) e =
    ap₂ (λ (a b : Bool). (not (eqb k 3) || a) && b) (holds_one x) (exits_paired ks m (omega arith))

-- ---- in a net
pub last_hold : (c : ℕ) (m : List ℕ) → length m ≡ c → exits_hold (replicate c 3) m ≡ all (λ x. leb 1 x) m
unfolding exits_hold all
last_hold zero [] e = refl
last_hold zero (x ∷ m) e = absurd (omega arith)
last_hold (suc c) [] e = absurd (omega arith)
last_hold (suc c) (x ∷ m) e = ap (λ b. leb 1 x && b) (last_hold c m (omega arith))

pub others_passed : (k a : ℕ) (ks m : List ℕ) → (k ≡ 3 → ⊥) → a + length ks ≡ length m → exits_hold (replicate a k ++ ks) m ≡ exits_hold ks (drop a m)
unfolding exits_hold
others_passed k zero ks m n e = refl
others_passed k (suc a) ks [] n e = absurd (omega arith)
others_passed k (suc a) ks (x ∷ m) n e = rw (ne_eqb k 3 n) (others_passed k a ks m n (omega arith))
