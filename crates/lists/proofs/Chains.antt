-- A chain of copies: a list is copied to no fewer numbers, of which it is the first, so that each copying has the room that the last one has.
-- True because every factor of a chain is more than one.
use Prim.Native.Nat.{ℕ, ◌+◌, ◌*◌, ◌%◌, ◌≤◌, ◌<◌}
use native.Mathlib.Omega.{arith}
use native.Mathlib.Nat.{mul-le-mul_right, one-mul, mod-eq_of_lt}
use mathlib.Core.Path.{◌≡◌, refl, sym, ◌∙◌, ap, subst}
use mathlib.Core.List.{List, [], ◌∷◌}
use lib.ListN.{length, get_or}
use lib.Seq.{ext_get_or}
use Rattle.plan.specs.inner.Table.{Stands}
use Rattle.arcs.specs.inner.Positions.{stretched, repeated}
use Rattle.arcs.specs.inner.Spreads.{Factor, Spread, copied, placed}
use Rattle.net.specs.declared.Side.{Side}
use Rattle.arcs.proofs.Positions.{stretched_length, repeated_length, repeated_first}
use Rattle.lists.specs.inner.Lists.{OneList, list_row, place_of, Chain, Means}
use Rattle.lists.specs.inner.Placing.{Small, Stepped, CopiedOn}
use Rattle.lists.proofs.Placings.{steps_stand, copies_stand}

pub no_fewer : (times count : ℕ) → 0 < times → count ≤ times * count
no_fewer times count h = omega (arith, mul-le-mul_right count h, one-mul count)

repeated_longer : (times step : ℕ) (ps : List ℕ) → 0 < times → length ps ≤ length (repeated times step ps)
repeated_longer times step ps h = omega (arith, repeated_length step ps times, no_fewer times (length ps) h)

module _ (lists : List ℕ) (side : Side) where
  pub copied_longer : (below times step up : ℕ) (fs : List Factor) (ps : List ℕ) → Chain lists side below times step up fs → length ps ≤ length (copied fs ps)
  unfolding Chain copied
  copied_longer below times step up [] ps c = omega arith
  copied_longer below times step up (f ∷ fs) ps c =
      omega (arith, repeated_longer f.times f.step ps (omega (arith, c.0, c.2)), copied_longer up _ _ _ fs (repeated f.times f.step ps) c.4)

  pub copied_first : (below times step up : ℕ) (fs : List Factor) (ps : List ℕ) → Chain lists side below times step up fs → (j : ℕ) → j < length ps → get_or (copied fs ps) j 0 ≡ get_or ps j 0
  unfolding Chain copied
  copied_first below times step up [] ps c j h = refl
  copied_first below times step up (f ∷ fs) ps c j h =
      let some : 0 < f.times = omega (arith, c.0, c.2) in
      copied_first up _ _ _ fs (repeated f.times f.step ps) c.4 j (omega (arith, repeated_longer f.times f.step ps some))
      ∙ repeated_first f.step ps f.times j some h

  pub copied_small : (below times step up : ℕ) (fs : List Factor) (ps : List ℕ) → Chain lists side below times step up fs → Small (copied fs ps) → Small ps
  copied_small below times step up fs ps c small j h =
      omega (arith, copied_first below times step up fs ps c j h, small j (omega (arith, copied_longer below times step up fs ps c)))

  -- The list that a chain goes on with, as it is read.
  chain_next : (up at : ℕ) (r : OneList) (fs : List Factor) → at ≡ place_of side up → r ≡ list_row lists at
      → Chain lists side up (get_or lists (place_of side up + 2) 0) (get_or lists (place_of side up + 3) 0) (get_or lists (place_of side up + 4) 0) fs
      → Chain lists side up r.times r.step r.up fs
  chain_next up at r fs p e c = subst (λ (s : OneList). Chain lists side up s.times s.step s.up fs) (sym (e ∙ ap (list_row lists) p)) c

  -- ---- the numbers that copying leaves
  abbrev pub Puts : ℕ → ℕ → ℕ → ℕ → ℕ → List ℕ → List ℕ → Type 0
  Puts below times step up count before after =
      (fs : List Factor) (ps : List ℕ) → Chain lists side below times step up fs → length ps ≡ count → Stands before 0 ps → length (copied fs ps) ≤ length before → Small (copied fs ps)
      → Stands after 0 (copied fs ps)

  module _ (below times step up count : ℕ) where
    pub puts_none : (out : List ℕ) → times ≡ 0 → Puts below times step up count out out
    unfolding Chain copied
    puts_none out z [] ps c l s room small = s
    puts_none out z (f ∷ fs) ps c l s room small = absurd (omega (arith, c.2))

    -- A copying that does not go on is not that of a chain, or there is no room for what it tells.
    pub puts_never : (before after : List ℕ) → (times ≡ 0 → ⊥) → 0 < count → (up < below → count < length before → times * count ≤ length before → ⊥)
        → Puts below times step up count before after
    unfolding Chain copied
    puts_never before after some count-some never [] ps c l s room small = absurd (some c)
    puts_never before after some count-some never (f ∷ fs) ps c l s room small =
        let all : times * count ≤ length before =
        omega (arith, repeated_length f.step ps f.times, copied_longer up _ _ _ fs (repeated f.times f.step ps) c.4, ap (λ n. n * length ps) c.0, ap (λ n. times * n) l) in
        let two : 2 * count ≤ times * count = mul-le-mul_right count c.2 in
        absurd (never c.3 (omega arith) all)

    pub puts_next : (before mid after : List ℕ) (at : ℕ) (r : OneList) → (times ≡ 0 → ⊥) → 0 < count → CopiedOn step count (times * count) before mid → at ≡ place_of side up → r ≡ list_row lists at
        → Puts up r.times r.step r.up (times * count) mid after → Puts below times step up count before after
    unfolding Chain copied
    puts_next before mid after at r some count-some on p e go [] ps c l s room small = absurd (some c)
    puts_next before mid after at r some count-some on p e go (f ∷ fs) ps c l s room small =
        let qs : List ℕ = repeated f.times f.step ps in
        let on' : CopiedOn f.step count (f.times * count) before mid =
        subst (λ n. CopiedOn n count (f.times * count) before mid) c.1 (subst (λ n. CopiedOn step count (n * count) before mid) c.0 on) in
        let long : length qs ≡ times * count = repeated_length f.step ps f.times ∙ ap (λ n. n * length ps) (sym c.0) ∙ ap (λ n. times * n) l in
        let low : Small qs = copied_small up _ _ _ fs qs c.4 small in
        go fs qs (chain_next up at r fs p e c.4) long
        (copies_stand before mid f.times f.step count ps (omega (arith, c.0, c.2)) count-some l s low on') (omega (arith, on.long)) small

  -- ---- how many there are
  abbrev pub Counts : ℕ → ℕ → ℕ → ℕ → ℕ → Type 0
  Counts below times up count r =
      (step : ℕ) (fs : List Factor) (ps : List ℕ) → Chain lists side below times step up fs → length ps ≡ count → length (copied fs ps) ≤ 65535 → r ≡ length (copied fs ps)

  module _ (below times up count : ℕ) where
    pub counts_none : times ≡ 0 → Counts below times up count count
    unfolding Chain copied
    counts_none z step [] ps c l few = sym l
    counts_none z step (f ∷ fs) ps c l few = absurd (omega (arith, c.2))

    pub counts_never : (r : ℕ) → (times ≡ 0 → ⊥) → below ≤ up → Counts below times up count r
    unfolding Chain copied
    counts_never r some never step [] ps c l few = absurd (some c)
    counts_never r some never step (f ∷ fs) ps c l few = absurd (omega (arith, c.3))

    pub counts_next : (n at : ℕ) (r : OneList) → (times ≡ 0 → ⊥) → at ≡ place_of side up → r ≡ list_row lists at → Counts up r.times r.up (times * count % 65536) n
        → Counts below times up count n
    unfolding Chain copied
    counts_next n at r some p e go step [] ps c l few = absurd (some c)
    counts_next n at r some p e go step (f ∷ fs) ps c l few =
        let qs : List ℕ = repeated f.times f.step ps in
        let long : length qs ≡ times * count = repeated_length f.step ps f.times ∙ ap (λ n. n * length ps) (sym c.0) ∙ ap (λ n. times * n) l in
        let low : times * count < 65536 = omega (arith, long, copied_longer up _ _ _ fs qs c.4) in
        go r.step fs qs (chain_next up at r fs p e c.4) (long ∙ sym (mod-eq_of_lt low)) few

-- ---- the list of a node, as it is read
module _ (lists : List ℕ) (side : Side) (k at : ℕ) (r : OneList) (p : at ≡ place_of side k) (e : r ≡ list_row lists at) (s : Spread)
    (told : Means lists side k (list_row lists (place_of side k)) s) where
  means : Means lists side k r s
  means = subst (λ (l : OneList). Means lists side k l s) (sym (e ∙ ap (list_row lists) p)) told

  pub placed_width : r.width ≡ s.width
  placed_width = means.width

  abbrev first : List ℕ
  first = stretched s.width s.base (0 ∷ [])

  first_length : length first ≡ r.width
  first_length = omega (arith, stretched_length s.width s.base (0 ∷ []), one-mul s.width, means.width)

  pub placed_longer : r.width ≤ length (placed s (0 ∷ []))
  unfolding placed
  placed_longer = omega (arith, first_length, copied_longer lists side k r.times r.step r.up s.over first means.over)

  pub placed_put : (before mid after : List ℕ) → Stepped r.base 1 r.width before mid → Puts lists side k r.times r.step r.up r.width mid after
      → length after ≡ length before → length before ≡ length (placed s (0 ∷ [])) → Small (placed s (0 ∷ [])) → after ≡ placed s (0 ∷ [])
  unfolding placed
  placed_put before mid after run go kept long small =
      let run' : Stepped s.base 1 s.width before mid =
      subst (λ n. Stepped n 1 s.width before mid) means.base (subst (λ n. Stepped r.base 1 n before mid) means.width run) in
      let low : Small first = copied_small lists side k r.times r.step r.up s.over first means.over small in
      let there : Stands after 0 (placed s (0 ∷ [])) =
      go s.over first means.over first_length (steps_stand before mid s.base s.width run' low) (omega (arith, run.long)) small in
      ext_get_or 0 after (placed s (0 ∷ [])) (kept ∙ long) (λ i h. let q : i ≡ 0 + i = omega arith in ap (λ n. get_or after n 0) q ∙ there i (omega arith))

  pub placed_count : (n : ℕ) → Counts lists side k r.times r.up r.width n → length (placed s (0 ∷ [])) ≤ 65535 → n ≡ length (placed s (0 ∷ []))
  unfolding placed
  placed_count n go few = go r.step s.over first means.over first_length few
