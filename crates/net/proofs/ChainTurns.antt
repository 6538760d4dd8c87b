-- A turn of the loop that builds the chains: a transition goes to the front of the chain of its first action, and no other chain changes.
-- True because the numbers on the chains are those behind it, so no chain leads over the place that is written.
use Prim.Native.Nat.{ℕ, zero, suc, ◌+◌, ◌-◌, ◌≤◌, ◌<◌}
use mathlib.Core.Path.{◌≡◌, refl, sym, ap, subst, subst⁻¹, ◌∙◌}
use mathlib.Core.List.{List, []}
use mathlib.Core.Bool.{Bool, true, false}
use mathlib.Core.Logic.{◌⊎◌, inl, inr, ⊎_elim}
use native.Mathlib.Nat.{sub-zero}
use native.Mathlib.Numerals.{add-one}
use native.Mathlib.Omega.{arith}
use borrow.Author.Tests.{eqb-true, eqb-false, ne_eqb}
use lib.ListN.{length, get_or, get_or-replicate, set, replicate}
use lib.Seq.{get_or-set_same, get_or-set_other}
use lib.Dec.{eqb}
use Rattle.net.specs.Tables.{none}
use Rattle.net.specs.inner.Chains.{in_row, keep, with_first, Walk, Chains, Kept}

-- The chains of the transitions from t on.
abbrev pub ChainsFrom : List ℕ → ℕ → ℕ → List ℕ → List ℕ → Type 0
ChainsFrom rows t n head next = (i : ℕ) → i < 256 → Walk next (get_or head i 0) (with_first rows i t (n - t))

module _ (rows : List ℕ) where
  pub with_first_end : (i t n : ℕ) → n ≤ t → with_first rows i t (n - t) ≡ []
  unfolding with_first
  with_first_end i t n h = let left : n - t ≡ 0 = omega arith in rw left

  pub with_first_turn : (i t n : ℕ) → t < n → with_first rows i t (n - t) ≡ keep (eqb (in_row rows t 1) i) t (with_first rows i (t + 1) (n - (t + 1)))
  unfolding with_first
  with_first_turn i t n h = let left : n - t ≡ suc (n - (t + 1)) = omega arith in rw (left, add-one t)

  -- A walk of transitions from t on does not see what is written before t.
  walk_kept : (next : List ℕ) (u v i t n at : ℕ) → u < t → Walk next at (with_first rows i t n) → Walk (set next u v) at (with_first rows i t n)
  unfolding with_first Walk
  walk_kept next u v i t zero at h w = w
  walk_kept next u v i t (suc n) at h w = go (eqb (in_row rows t 1) i) w (λ m. walk_kept next u v i (suc t) n m (omega arith))
    where
      go : (b : Bool) → Walk next at (keep b t (with_first rows i (suc t) n))
          → ((m : ℕ) → Walk next m (with_first rows i (suc t) n) → Walk (set next u v) m (with_first rows i (suc t) n))
          → Walk (set next u v) at (keep b t (with_first rows i (suc t) n))
      go true w rest = (
        w.0,
        w.1,
        subst⁻¹ (λ (m : ℕ). Walk (set next u v) m (with_first rows i (suc t) n)) (get_or-set_other next u t v 0 (λ e. absurd (omega arith)))
            (rest (get_or next t 0) w.2),
      )
      go false w rest = rest at w

  module _ (u n : ℕ) (below : u < n) (few : n ≤ 1024) (head next : List ℕ) (inv : ChainsFrom rows (u + 1) n head next) where
    -- no chain for an action above 255
    pub chain_off : 256 ≤ in_row rows u 1 → ChainsFrom rows u n head next
    chain_off h i l =
        subst⁻¹ (Walk next (get_or head i 0)) (with_first_turn i u n below ∙ ap (λ (b : Bool). keep b u (with_first rows i (u + 1) (n - (u + 1)))) (ne_eqb (in_row rows u 1) i (λ e. omega arith)))
        (inv i l)

    pub chain_on : (f : ℕ) → f ≡ in_row rows u 1 → f < 256 → 256 ≤ length head → n ≤ length next → ChainsFrom rows u n (set head f u) (set next u (get_or head f 0))
    unfolding Walk
    chain_on f is_f l roomy long i k =
        subst⁻¹ (Walk next' (get_or (set head f u) i 0)) (with_first_turn i u n below ∙ ap (λ (m : ℕ). keep (eqb m i) u (with_first rows i (u + 1) (n - (u + 1)))) (sym is_f))
        (go (eqb f i) (eqb-true f i) (eqb-false f i))
      where
        next' : List ℕ
        next' = set next u (get_or head f 0)

        old : (j : ℕ) → j < 256 → Walk next' (get_or head j 0) (with_first rows j (u + 1) (n - (u + 1)))
        old j h = walk_kept next u (get_or head f 0) j (u + 1) (n - (u + 1)) (get_or head j 0) (omega arith) (inv j h)

        go : (b : Bool) → (b ≡ true → f ≡ i) → (b ≡ false → f ≡ i → ⊥) → Walk next' (get_or (set head f u) i 0) (keep b u (with_first rows i (u + 1) (n - (u + 1))))
        go true same unlike = (
          subst (λ (j : ℕ). get_or (set head f u) j 0 ≡ u) (same refl) (get_or-set_same head f u 0 (omega arith)),
          omega arith,
          subst⁻¹ (λ (m : ℕ). Walk next' m (with_first rows i (u + 1) (n - (u + 1)))) (get_or-set_same next u (get_or head f 0) 0 (omega arith))
              (subst⁻¹ (λ (j : ℕ). Walk next' (get_or head j 0) (with_first rows i (u + 1) (n - (u + 1)))) (same refl) (old i k)),
        )
        go false same unlike =
            subst⁻¹ (λ (m : ℕ). Walk next' m (with_first rows i (u + 1) (n - (u + 1)))) (get_or-set_other head f i u 0 (λ e. unlike refl (sym e))) (old i k)

  -- Before the first turn there is no chain, and after the last there are all.
  pub chains_none : (n : ℕ) (head next : List ℕ) → head ≡ replicate 256 none → ChainsFrom rows n n head next
  unfolding Walk
  chains_none n head next e i l =
      subst⁻¹ (Walk next (get_or head i 0)) (with_first_end i n n (omega arith)) (ap (λ (k : List ℕ). get_or k i 0) e ∙ get_or-replicate 256 i none 0 l)

  pub chains_all : (t n : ℕ) (head next : List ℕ) → t ≤ 0 → ChainsFrom rows t n head next → Chains rows n head next
  chains_all t n head next h inv i l =
      let first : t ≡ 0 = omega arith in
      let all : n - 0 ≡ n = sub-zero n in
      subst (λ (m : ℕ). Walk next (get_or head i 0) (with_first rows i 0 m)) all
      (subst (λ (m : ℕ). Walk next (get_or head i 0) (with_first rows i m (n - m))) first (inv i l))

  -- From t down to the one before it.
  pub chains_down : (t n : ℕ) (head next : List ℕ) → 0 < t → ChainsFrom rows t n head next → ChainsFrom rows (t - 1 + 1) n head next
  chains_down t n head next h inv = let e : t ≡ t - 1 + 1 = omega arith in subst (λ (m : ℕ). ChainsFrom rows m n head next) e inv

  pub kept_on : (n u v : ℕ) (next next' : List ℕ) → u < n → in_row rows u 1 < 256 → Kept rows n next next' → Kept rows n next (set next' u v)
  kept_on n u v next next' h l k w = go (eqb w u) (eqb-true w u) (eqb-false w u)
    where
      go : (b : Bool) → (b ≡ true → w ≡ u) → (b ≡ false → w ≡ u → ⊥) → (get_or (set next' u v) w 0 ≡ get_or next w 0) ⊎ ((w < n) × (in_row rows w 1 < 256))
      go true same unlike = inr (subst⁻¹ (λ (m : ℕ). (m < n) × (in_row rows m 1 < 256)) (same refl) (h, l))
      go false same unlike = ⊎_elim (λ e. inl (get_or-set_other next' u w v 0 (unlike refl) ∙ e)) (λ p. inr p) (k w)
