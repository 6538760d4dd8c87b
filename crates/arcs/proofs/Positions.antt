-- How long a stretched and a repeated list are, and what stands at each position of them.
-- True by the order of the parts: a run for each position, and one copy of the list after another.
use Prim.Native.Nat.{ℕ, zero, suc, ◌+◌, ◌*◌, ◌-◌, ◌≤◌, ◌<◌}
use native.Mathlib.Omega.{arith}
use native.Mathlib.Decide.{dec_lt}
use native.Mathlib.Nat.{suc-mul, zero-mul, mul-le-mul}
use mathlib.Core.Path.{◌≡◌, refl, sym, ◌∙◌, ap}
use mathlib.Core.List.{List, [], ◌∷◌, ◌++◌, map}
use lib.ListN.{length, get_or, length-append, length-map, get_or-append}
use lib.Seq.{get_or-append-add}
use Rattle.algebra.proofs.Products.{map_at}
use Rattle.arcs.specs.inner.Positions.{run, stretched, repeated}

pub run_length : (a n : ℕ) → length (run a n) ≡ n
unfolding run
run_length a zero = refl
run_length a (suc n) = ap suc (run_length (suc a) n)

pub run_at : (a n j : ℕ) → j < n → get_or (run a n) j 0 ≡ a + j
unfolding run
run_at a zero j h = absurd (omega arith)
run_at a (suc n) zero h = omega arith
run_at a (suc n) (suc j) h = omega (arith, run_at (suc a) n j (omega arith))

module _ (right off : ℕ) where
  pub stretched_length : (ps : List ℕ) → length (stretched right off ps) ≡ length ps * right
  unfolding stretched
  stretched_length [] = sym (zero-mul right)
  stretched_length (p ∷ ps) =
      omega (arith, length-append (run (p * right + off) right) (stretched right off ps), run_length (p * right + off) right, stretched_length ps, suc-mul (length ps) right)

  pub stretched_at : (i t : ℕ) (ps : List ℕ) → i < length ps → t < right → get_or (stretched right off ps) (i * right + t) 0 ≡ get_or ps i 0 * right + off + t
  unfolding stretched
  stretched_at i t [] h k = absurd (omega arith)
  stretched_at zero t (p ∷ ps) h k =
      let e : 0 * right + t ≡ t = omega (arith, zero-mul right) in
      ap (λ j. get_or (run (p * right + off) right ++ stretched right off ps) j 0) e
      ∙ get_or-append (run (p * right + off) right) (stretched right off ps) 0 t (omega (arith, run_length (p * right + off) right))
      ∙ run_at (p * right + off) right t k
  stretched_at (suc i) t (p ∷ ps) h k =
      let e : suc i * right + t ≡ length (run (p * right + off) right) + (i * right + t) = omega (arith, suc-mul i right, run_length (p * right + off) right) in
      ap (λ j. get_or (run (p * right + off) right ++ stretched right off ps) j 0) e
      ∙ get_or-append-add (run (p * right + off) right) (stretched right off ps) (i * right + t) 0
      ∙ stretched_at i t ps (omega arith) k

module _ (step : ℕ) (ps : List ℕ) where
  -- The next copy.
  abbrev more : List ℕ → List ℕ
  more qs = map (λ q. q + step) qs

  pub repeated_length : (left : ℕ) → length (repeated left step ps) ≡ left * length ps
  unfolding repeated
  repeated_length zero = sym (zero-mul (length ps))
  repeated_length (suc left) =
      omega (arith, length-append ps (more (repeated left step ps)), length-map (repeated left step ps) (λ q. q + step), repeated_length left, suc-mul left (length ps))

  pub repeated_first : (left j : ℕ) → 0 < left → j < length ps → get_or (repeated left step ps) j 0 ≡ get_or ps j 0
  unfolding repeated
  repeated_first zero j s h = absurd (omega arith)
  repeated_first (suc left) j s h = get_or-append ps (more (repeated left step ps)) 0 j h

  behind : (qs : List ℕ) (j : ℕ) → j < length qs → get_or (ps ++ more qs) (length ps + j) 0 ≡ get_or qs j 0 + step
  behind qs j h = get_or-append-add ps (more qs) j 0 ∙ map_at (λ q. q + step) qs j 0 0 h

  -- One copy more changes nothing in front: what stands in the first copy stays, and what stands behind is that of a copy less, one step more.
  in_front : (qs rs : List ℕ) → ((i : ℕ) → i < length qs → get_or rs i 0 ≡ get_or qs i 0) → length qs ≤ length rs
      → (j : ℕ) → j < length (ps ++ more qs) → get_or (ps ++ more rs) j 0 ≡ get_or (ps ++ more qs) j 0
  in_front qs rs same long j h = go (dec_lt j (length ps))
    where
      go : Dec (j < length ps) → get_or (ps ++ more rs) j 0 ≡ get_or (ps ++ more qs) j 0
      go (yes b) = get_or-append ps (more rs) 0 j b ∙ sym (get_or-append ps (more qs) 0 j b)
      go (no b) =
          let e : j ≡ length ps + (j - length ps) = omega arith in
          let l : j - length ps < length qs = omega (arith, length-append ps (more qs), length-map qs (λ q. q + step)) in
          ap (λ i. get_or (ps ++ more rs) i 0) e ∙ behind rs (j - length ps) (omega arith) ∙ ap (λ q. q + step) (same (j - length ps) l)
          ∙ sym (behind qs (j - length ps) l) ∙ ap (λ i. get_or (ps ++ more qs) i 0) (sym e)

  repeated_more : (left j : ℕ) → j < length (repeated left step ps) → get_or (repeated (suc left) step ps) j 0 ≡ get_or (repeated left step ps) j 0
  unfolding repeated
  repeated_more zero j h = absurd (omega arith)
  repeated_more (suc left) j h =
      in_front (repeated left step ps) (repeated (suc left) step ps) (repeated_more left)
      (omega (arith, repeated_length left, repeated_length (suc left), suc-mul left (length ps))) j h

  -- Each position is one step more than that of the copy before.
  pub repeated_next : (left j : ℕ) → length ps + j < length (repeated left step ps) → get_or (repeated left step ps) (length ps + j) 0 ≡ get_or (repeated left step ps) j 0 + step
  unfolding repeated
  repeated_next zero j h = absurd (omega arith)
  repeated_next (suc left) j h =
      let b : j < length (repeated left step ps) = omega (arith, length-append ps (more (repeated left step ps)), length-map (repeated left step ps) (λ q. q + step)) in
      behind (repeated left step ps) j b ∙ ap (λ q. q + step) (sym (repeated_more left j b))

  -- Copy a of position j.
  pub repeated_at : (left a j : ℕ) → a < left → j < length ps → get_or (repeated left step ps) (a * length ps + j) 0 ≡ get_or ps j 0 + a * step
  repeated_at left zero j h l =
      let e : 0 * length ps + j ≡ j = omega (arith, zero-mul (length ps)) in
      ap (λ i. get_or (repeated left step ps) i 0) e ∙ repeated_first left j (omega arith) l ∙ omega (arith, zero-mul step)
  repeated_at left (suc a) j h l =
      let e : suc a * length ps + j ≡ length ps + (a * length ps + j) = omega (arith, suc-mul a (length ps)) in
      let m : suc (suc a) * length ps ≤ left * length ps = mul-le-mul h (omega arith) in
      ap (λ i. get_or (repeated left step ps) i 0) e ∙ repeated_next left (a * length ps + j) (omega (arith, repeated_length left, m, suc-mul (suc a) (length ps), suc-mul a (length ps)))
      ∙ ap (λ x. x + step) (repeated_at left a j (omega arith) l) ∙ omega (arith, suc-mul a step)
