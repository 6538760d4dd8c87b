-- The list of enabled transitions from one transition on: that one if it is marked, and those from the next on.
-- True by the definitions, at the number where the loop stands.
use Prim.Native.Nat.{ℕ, zero, suc, ◌+◌, ◌-◌, ◌≤◌, ◌<◌}
use mathlib.Core.Path.{◌≡◌, refl, sym, ap, ◌∙◌}
use mathlib.Core.List.{List, [], ◌∷◌}
use mathlib.Core.Bool.{Bool, true, false, cond}
use native.Mathlib.Nat.{sub-zero}
use native.Mathlib.Numerals.{add-one}
use native.Mathlib.Omega.{arith}
use lib.ListN.{length}
use lib.Dec.{leb}
use Rattle.std.specs.Prelude.{count_by}
use Rattle.std.specs.List.{range_with_len}
use Rattle.std.proofs.lemmas.List.Sums.{sum_by-cons}
use Rattle.field.specs.Lists.{all}
use Rattle.algebra.specs.Firing.{marked, enabled_from}
use Rattle.net.specs.Tables.{transition_at, transitions_from}
use Rattle.net.specs.declared.Side.TheVariants.{Inputs}
use Rattle.moving.specs.inner.Moving.{side_of, hold}
use Rattle.moving.specs.inner.InOrder.{rows_and_arcs, transition_in, transitions_within}
use Rattle.moving.proofs.MovesAreFiring.{marked_hold}
use Rattle.moving.proofs.Outcome.{below_all}

-- The enabled ones of the transitions from t on, up to n.
abbrev pub enabled_at : List ℕ → List ℕ → List ℕ → ℕ → ℕ → List ℕ
enabled_at rows arcs m n t = enabled_from t m (transitions_from (rows_and_arcs rows arcs) t (n - t))

pub marked_held : (rows arcs m : List ℕ) (t : ℕ) (ps : List ℕ) (b : Bool) → all (λ x. leb x 1) m ≡ true → ps ≡ side_of Inputs rows arcs t → b ≡ hold 1 m ps → b ≡ marked m (transition_in rows arcs t)
unfolding side_of transition_at
marked_held rows arcs m t ps b safe e f = f ∙ ap (hold 1 m) e ∙ sym (marked_hold m (below_all m safe) (transition_in rows arcs t))

module _ (rows arcs m : List ℕ) (n : ℕ) where
  pub enabled_all : enabled_from 0 m (transitions_within rows arcs n) ≡ enabled_at rows arcs m n 0
  enabled_all = rw (sub-zero n)

  module _ (t : ℕ) where
    pub enabled_end : n ≤ t → enabled_at rows arcs m n t ≡ []
    unfolding enabled_from transitions_from
    enabled_end h = let e : n - t ≡ 0 = omega arith in rw e

    module _ (h : t < n) (b : Bool) (f : b ≡ marked m (transition_in rows arcs t)) where
      pub enabled_here : b ≡ true → enabled_at rows arcs m n t ≡ t ∷ enabled_at rows arcs m n (t + 1)
      unfolding enabled_from transitions_from
      enabled_here e = let z : n - t ≡ suc (n - (t + 1)) = omega arith in rw (z, ← f, e, add-one t)

      pub enabled_not : b ≡ false → enabled_at rows arcs m n t ≡ enabled_at rows arcs m n (t + 1)
      unfolding enabled_from transitions_from
      enabled_not e = let z : n - t ≡ suc (n - (t + 1)) = omega arith in rw (z, ← f, e, add-one t)

-- Counting the enabled ones is counting the numbers that pass.
pub enabled_count : (rows arcs m : List ℕ) (t n : ℕ)
    → count_by (λ k. marked m (transition_in rows arcs k)) (range_with_len t n) ≡ length (enabled_from t m (transitions_from (rows_and_arcs rows arcs) t n))
unfolding enabled_from transitions_from
enabled_count rows arcs m t zero = refl
enabled_count rows arcs m t (suc n) =
    sum_by-cons (λ k. cond (marked m (transition_in rows arcs k)) 1 0) t (range_with_len (t + 1) n)
    ∙ go (marked m (transition_in rows arcs t)) _ _ (ap (λ (k : ℕ). count_by (λ j. marked m (transition_in rows arcs j)) (range_with_len k n)) (add-one t) ∙ enabled_count rows arcs m (suc t) n)
  where
    go : (b : Bool) (k : ℕ) (rest : List ℕ) → k ≡ length rest → cond b 1 0 + k ≡ length (cond b (t ∷ rest) rest)
    go true k rest e = omega arith
    go false k rest e = omega arith

-- No more of so many transitions are enabled than there are.
pub enabled_few : (rows arcs m : List ℕ) (n : ℕ) → length (enabled_from 0 m (transitions_within rows arcs n)) ≤ n
unfolding enabled_from transitions_from
enabled_few rows arcs m n = from 0 n
  where
    from : (t n : ℕ) → length (enabled_from t m (transitions_from (rows_and_arcs rows arcs) t n)) ≤ n
    from t zero = omega arith
    from t (suc n) = go (marked m (transition_in rows arcs t)) (from (suc t) n)
      where
        go : (b : Bool) → length (enabled_from (suc t) m (transitions_from (rows_and_arcs rows arcs) (suc t) n)) ≤ n
            → length (cond b (t ∷ enabled_from (suc t) m (transitions_from (rows_and_arcs rows arcs) (suc t) n)) (enabled_from (suc t) m (transitions_from (rows_and_arcs rows arcs) (suc t) n))) ≤ suc n
        go true h = omega arith
        go false h = omega arith
