-- A walk of a chain, step by step: it stands at a transition of its first action, and the next it goes to is the next one of that action, or the end.
-- True because the numbers on a chain rise and are all those of the action: none lies between two that follow each other.
use Prim.Native.Nat.{ℕ, zero, suc, ◌+◌, ◌-◌, ◌≤◌, ◌<◌}
use mathlib.Core.Path.{◌≡◌, refl, sym, ap, subst, subst⁻¹, ◌∙◌}
use mathlib.Core.List.{List, [], ◌∷◌}
use mathlib.Core.Bool.{Bool, true, false}
use native.Mathlib.Nat.{sub-zero}
use native.Mathlib.Omega.{arith}
use lib.ListN.{get_or}
use lib.Dec.{eqb}
use Rattle.net.specs.Tables.{none}
use Rattle.net.specs.inner.Chains.{in_row, keep, with_first, Walk, Chains}
use Rattle.net.proofs.ChainTurns.{with_first_end, with_first_turn}

-- What lies ahead of a walk that stands at a number, among n transitions.
abbrev pub ahead : List ℕ → ℕ → ℕ → ℕ → List ℕ
ahead rows n i at = with_first rows i at (n - at)

-- A walk stands there: it visits just what lies ahead.
abbrev pub Stands : List ℕ → ℕ → List ℕ → ℕ → ℕ → Type 0
Stands rows n next i at = Walk next at (ahead rows n i at)

module _ (rows next : List ℕ) (i : ℕ) where
  -- A walk of the transitions from t on stands at none before t, and what it visits is what lies ahead of where it stands.
  walk_from : (m t n at : ℕ) → t + m ≡ n → n ≤ none → Walk next at (with_first rows i t m) → (t ≤ at) × (with_first rows i t m ≡ ahead rows n i at)
  unfolding with_first Walk
  walk_from zero t n at e h w = (omega arith, sym (with_first_end rows i at n (omega arith)))
  walk_from (suc m) t n at e h w = go (eqb (in_row rows t 1) i) refl w (λ v. walk_from m (suc t) n at (omega arith) h v)
    where
      go : (b : Bool) → eqb (in_row rows t 1) i ≡ b → Walk next at (keep b t (with_first rows i (suc t) m))
          → (Walk next at (with_first rows i (suc t) m) → (suc t ≤ at) × (with_first rows i (suc t) m ≡ ahead rows n i at))
          → (t ≤ at) × (keep b t (with_first rows i (suc t) m) ≡ ahead rows n i at)
      go true b v rest =
          let left : suc m ≡ n - t = omega arith in (
            omega (arith, v.0),
            ap (λ (c : Bool). keep c t (with_first rows i (suc t) m)) (sym b) ∙ ap (with_first rows i t) left ∙ ap (ahead rows n i) (sym v.0),
          )
      go false b v rest = let r = rest v in (omega arith, r.1)

  module _ (n : ℕ) (few : n ≤ none) where
    -- A walk of the transitions from t on stands where it begins.
    pub settle : (t at : ℕ) → t ≤ n → Walk next at (with_first rows i t (n - t)) → (t ≤ at) × (with_first rows i t (n - t) ≡ ahead rows n i at) × Stands rows n next i at
    settle t at h w =
        let r = walk_from (n - t) t n at (omega arith) few w in
        (r.0, r.1, subst (Walk next at) r.1 w)

    -- The walk begins at the head of the action's chain.
    pub walk_starts : (head : List ℕ) → Chains rows n head next → i < 256
        → (with_first rows i 0 n ≡ ahead rows n i (get_or head i 0)) × Stands rows n next i (get_or head i 0)
    walk_starts head chains h =
        let r = settle 0 (get_or head i 0) (omega arith) (subst⁻¹ (λ (m : ℕ). Walk next (get_or head i 0) (with_first rows i 0 m)) (sub-zero n) (chains i h)) in
        (ap (with_first rows i 0) (sym (sub-zero n)) ∙ r.1, r.2)

    -- Where it stands at a transition, that is the first of what lies ahead, and the walk goes on behind it.
    pub walk_goes_on : (at : ℕ) → at < n → Stands rows n next i at
        → (ahead rows n i at ≡ at ∷ ahead rows n i (get_or next at 0)) × (at < get_or next at 0) × Stands rows n next i (get_or next at 0)
    unfolding Walk
    walk_goes_on at h w =
        go (eqb (in_row rows at 1) i) (with_first_turn rows i at n h) (subst (Walk next at) (with_first_turn rows i at n h) w)
      where
        go : (b : Bool) → ahead rows n i at ≡ keep b at (with_first rows i (at + 1) (n - (at + 1)))
            → Walk next at (keep b at (with_first rows i (at + 1) (n - (at + 1))))
            → (ahead rows n i at ≡ at ∷ ahead rows n i (get_or next at 0)) × (at < get_or next at 0) × Stands rows n next i (get_or next at 0)
        go true e v =
            let r = settle (at + 1) (get_or next at 0) (omega arith) v.2 in
            (e ∙ ap (λ (l : List ℕ). at ∷ l) r.1, omega arith, r.2)
        go false e v = absurd (let r = settle (at + 1) at (omega arith) v in omega arith)

  -- Where it stands behind the transitions nothing lies ahead.
  pub walk_ends : (n at : ℕ) → n ≤ at → ahead rows n i at ≡ []
  walk_ends n at h = with_first_end rows i at n h
