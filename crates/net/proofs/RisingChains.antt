-- Where the second actions rise on every chain, no two transitions have the same pair of actions.
-- True because a number of a list that rises is below all that follow it, so none comes twice.
use Prim.Native.Nat.{ℕ, ◌+◌, ◌-◌, ◌≤◌, ◌<◌}
use mathlib.Core.Path.{◌≡◌, refl, sym, ap, ap₂, subst, subst⁻¹, ◌∙◌}
use mathlib.Core.List.{List, [], ◌∷◌, map}
use mathlib.Core.Bool.{Bool, true, false, not, ◌&&◌}
use native.Mathlib.Omega.{arith}
use native.Mathlib.Decide.{dec_lt}
use native.Mathlib.Nat.{sub-zero}
use borrow.Author.Tests.{eqb-true, ne_eqb}
use lib.ListN.{get_or}
use lib.Dec.{T, eqb, ltb, ltb→lt, lt→ltb}
use Rattle.field.specs.Lists.{all}
use Rattle.field.proofs.Tests.{and_parts, parts_and, T_true, true_T}
use Rattle.net.specs.Tables.{none}
use Rattle.net.specs.inner.Chains.{in_row, keep, with_first, Walk}
use Rattle.net.specs.inner.Passes.{neighbours, second_or_256, differ, seconds_differ, pairs_pass}
use Rattle.net.proofs.ChainTurns.{ChainsFrom, with_first_end, with_first_turn}
use Rattle.net.proofs.Walks.{ahead, settle, walk_goes_on, walk_ends}
use Rattle.net.proofs.EmptyChains.{each_all}

-- A list of numbers each of which is above the one before it.
abbrev pub Rises : List ℕ → Type 0
Rises [] = Unit {0}
Rises (k ∷ ks) = T (neighbours ltb k ks)

differs_from : (k x : ℕ) (l : List ℕ) → k ≤ x → T (neighbours ltb x l) → all (λ y. not (eqb k y)) l ≡ true
unfolding neighbours all
differs_from k x [] h t = refl
differs_from k x (y ∷ l) h t =
    let p = and_parts (ltb x y) (neighbours ltb y l) t in
    let q = ltb→lt x y p.0 in
    ap₂ ◌&&◌ (ap not (ne_eqb k y (λ e. omega arith))) (differs_from k y l (omega arith) p.1)

rises_differ : (l : List ℕ) → Rises l → differ l ≡ true
unfolding differ neighbours
rises_differ [] t = refl
rises_differ (k ∷ []) t = refl
rises_differ (k ∷ y ∷ l) t = ap₂ ◌&&◌ (differs_from k k (y ∷ l) (omega arith) t) (rises_differ (y ∷ l) (and_parts (ltb k y) (neighbours ltb y l) t).1)

-- The second actions rise on the chains of the transitions from t on.
abbrev pub RisesFrom : List ℕ → ℕ → ℕ → Type 0
RisesFrom rows t n = (i : ℕ) → i < 256 → Rises (map (second_or_256 rows) (with_first rows i t (n - t)))

module _ (rows : List ℕ) where
  rises_as : (ts us : List ℕ) → ts ≡ us → Rises (map (second_or_256 rows) us) → Rises (map (second_or_256 rows) ts)
  rises_as ts us e r = subst⁻¹ (λ (l : List ℕ). Rises (map (second_or_256 rows) l)) e r

  -- Before the first turn there is no chain, and after the last there are all.
  pub rises_none : (n : ℕ) → RisesFrom rows n n
  rises_none n i l = rises_as _ [] (with_first_end rows i n n (omega arith)) tt

  pub rises_all : (t n : ℕ) → t ≤ 0 → RisesFrom rows t n → pairs_pass rows n ≡ true
  unfolding seconds_differ
  rises_all t n h r =
      let first : 0 ≡ t = omega arith in
      each_all (seconds_differ rows n) 0 256
      (λ i a b. rises_differ (map (second_or_256 rows) (with_first rows i 0 n)) (rises_as _ _ (ap₂ (with_first rows i) first (sym (sub-zero n) ∙ ap (λ (m : ℕ). n - m) first)) (r i b)))

  -- From t down to the one before it.
  pub rises_down : (t n : ℕ) → 0 < t → RisesFrom rows t n → RisesFrom rows (t - 1 + 1) n
  rises_down t n h r = let e : t ≡ t - 1 + 1 = omega arith in subst (λ (m : ℕ). RisesFrom rows m n) e r

  module _ (u n : ℕ) (below : u < n) where
    pub rises_off : 256 ≤ in_row rows u 1 → RisesFrom rows (u + 1) n → RisesFrom rows u n
    rises_off h r i l =
        rises_as _ _ (with_first_turn rows i u n below ∙ ap (λ (b : Bool). keep b u (with_first rows i (u + 1) (n - (u + 1)))) (ne_eqb (in_row rows u 1) i (λ e. omega arith))) (r i l)

    -- What goes to the front of a chain rises to what was its front.
    module _ (few : n ≤ none) (head next : List ℕ) (chains : ChainsFrom rows (u + 1) n head next) (f : ℕ) (is_f : f ≡ in_row rows u 1) (l : f < 256) (at : ℕ) (is_at : at ≡ get_or head f 0) where
      front : (at < n → second_or_256 rows u < second_or_256 rows at) → RisesFrom rows (u + 1) n → Rises (map (second_or_256 rows) (u ∷ with_first rows f (u + 1) (n - (u + 1))))
      unfolding neighbours
      front before r = go (dec_lt at n)
        where
          s : (u + 1 ≤ at) × (with_first rows f (u + 1) (n - (u + 1)) ≡ ahead rows n f at) × Walk next at (ahead rows n f at)
          s = settle rows next f n few (u + 1) at (omega arith) (subst⁻¹ (λ (m : ℕ). Walk next m (with_first rows f (u + 1) (n - (u + 1)))) is_at (chains f l))

          go : Dec (at < n) → Rises (map (second_or_256 rows) (u ∷ with_first rows f (u + 1) (n - (u + 1))))
          go (yes q) =
              let e = s.1 ∙ (walk_goes_on rows next f n few at q s.2).0 in
              rises_as _ (u ∷ at ∷ ahead rows n f (get_or next at 0)) (ap (λ (ts : List ℕ). u ∷ ts) e)
              (parts_and (ltb (second_or_256 rows u) (second_or_256 rows at)) _ (lt→ltb _ _ (before q)) (rises_as _ _ (sym e) (r f l)))
          go (no q) = rises_as _ (u ∷ []) (ap (λ (ts : List ℕ). u ∷ ts) (s.1 ∙ walk_ends rows next f n at (omega arith))) tt

      pub rises_on : (so_far b : Bool) → (so_far ≡ true → RisesFrom rows (u + 1) n) → (b ≡ true → at < n → second_or_256 rows u < second_or_256 rows at)
          → (so_far && b) ≡ true → RisesFrom rows u n
      rises_on so_far b inv before e i k =
          rises_as _ _ (with_first_turn rows i u n below ∙ ap (λ (m : ℕ). keep (eqb m i) u (with_first rows i (u + 1) (n - (u + 1)))) (sym is_f)) (go (eqb f i) (eqb-true f i))
        where
          both : T so_far × T b
          both = and_parts so_far b (true_T (so_far && b) e)

          r : RisesFrom rows (u + 1) n
          r = inv (T_true so_far both.0)

          go : (c : Bool) → (c ≡ true → f ≡ i) → Rises (map (second_or_256 rows) (keep c u (with_first rows i (u + 1) (n - (u + 1)))))
          go true same = subst (λ (j : ℕ). Rises (map (second_or_256 rows) (u ∷ with_first rows j (u + 1) (n - (u + 1))))) (same refl) (front (before (T_true b both.1)) r)
          go false same = r i k
