-- No second action comes twice on a chain with nothing on it, and the chains above the highest first action have nothing on them.
-- True because a chain has only transitions with its own first action.
use Prim.Native.Nat.{ℕ, zero, suc, ◌+◌, ◌-◌, ◌≤◌, ◌<◌}
use native.Mathlib.Omega.{arith}
use mathlib.Core.Path.{◌≡◌, refl, ap, ap₂, ◌∙◌}
use mathlib.Core.Bool.{Bool, true, ◌&&◌}
use mathlib.Core.List.{List, [], map}
use borrow.Author.Tests.{ne_eqb}
use Rattle.net.specs.inner.Chains.{in_row, keep, with_first}
use Rattle.net.specs.inner.Passes.{second_or_256, differ, seconds_differ, each, FirstsBelow}

none_with : (rows : List ℕ) (i t n : ℕ) → ((k : ℕ) → k < t + n → in_row rows k 1 ≡ i → ⊥) → with_first rows i t n ≡ []
unfolding with_first
none_with rows i t zero h = refl
none_with rows i t (suc n) h =
    ap (λ b. keep b t (with_first rows i (suc t) n)) (ne_eqb (in_row rows t 1) i (h t (omega arith)))
    ∙ none_with rows i (suc t) n (λ k l. h k (omega arith))

-- Where each number passes a test, all do.
pub each_all : (test : ℕ → Bool) (i m : ℕ) → ((j : ℕ) → i ≤ j → j < i + m → test j ≡ true) → each test i m ≡ true
unfolding each
each_all test i zero h = refl
each_all test i (suc m) h = ap₂ ◌&&◌ (h i (omega arith) (omega arith)) (each_all test (suc i) m (λ j a b. h j (omega arith) (omega arith)))

pub rest_empty : (rows : List ℕ) (n above first : ℕ) → FirstsBelow rows n above → above ≤ first → first ≤ 256 → each (seconds_differ rows n) first (256 - first) ≡ true
unfolding seconds_differ differ
rest_empty rows n above first below h l =
    each_all (seconds_differ rows n) first (256 - first)
    (λ j a b. ap (λ ts. differ (map (second_or_256 rows) ts)) (none_with rows j 0 n (λ k q e. omega (arith, below k (omega arith) (omega arith)))))
