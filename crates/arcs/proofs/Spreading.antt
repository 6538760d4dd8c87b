-- Positions that are moved and then placed are placed by the lowered spread: one law for every operator, operand and list.
-- True because a run is stretched as a whole, and so is every copy.
use Prim.Native.Nat.{ℕ, zero, suc, ◌+◌, ◌*◌, ◌<◌}
use native.Mathlib.Omega.{arith}
use native.Mathlib.Nat.{suc-mul, zero-mul, add-mul, mul_assoc, mul-one, one-mul}
use mathlib.Core.Path.{◌≡◌, refl, sym, ◌∙◌, ap, ap₂}
use mathlib.Core.Bool.{Bool, true, false, cond}
use mathlib.Core.List.{List, [], ◌∷◌, ◌++◌, map, map-append, append-nil, append_assoc}
use lib.ListN.{length, get_or}
use lib.Dec.{eqb}
use borrow.Author.Tests.{eqb-true}
use Rattle.arcs.specs.inner.Positions.{run, stretched, repeated}
use Rattle.arcs.specs.inner.Moves.{Kind, Entry, Internal, Exit, Move, moved, move, shift}
use Rattle.arcs.specs.inner.Spreads.{Factor, Spread, copied, placed, more, lowered, Spreads, plain, list_of, under}
use Rattle.arcs.proofs.Positions.{stretched_length, stretched_at, repeated_at}

-- ---- runs and copies, stretched
map_run : (b a n : ℕ) → map (λ p. p + b) (run a n) ≡ run (a + b) n
unfolding run
map_run b a zero = refl
map_run b a (suc n) = let e : suc a + b ≡ suc (a + b) = omega arith in ap (λ l. (a + b) ∷ l) (map_run b (suc a) n ∙ ap (λ x. run x n) e)

run_append : (a m n : ℕ) → run a (m + n) ≡ run a m ++ run (a + m) n
unfolding run
run_append a zero n = let e : a ≡ a + 0 = omega arith in let z : 0 + n ≡ n = omega arith in ap₂ run e z
run_append a (suc m) n =
    let e : suc m + n ≡ suc (m + n) = omega arith in
    let z : suc a + m ≡ a + suc m = omega arith in
    ap (run a) e ∙ ap (λ l. a ∷ l) (run_append (suc a) m n ∙ ap (λ x. run (suc a) m ++ run x n) z)

module _ (right off : ℕ) where
  stretched_append : (ps qs : List ℕ) → stretched right off (ps ++ qs) ≡ stretched right off ps ++ stretched right off qs
  unfolding stretched
  stretched_append [] qs = refl
  stretched_append (p ∷ ps) qs =
      ap (λ l. run (p * right + off) right ++ l) (stretched_append ps qs) ∙ sym (append_assoc (run (p * right + off) right) (stretched right off ps) (stretched right off qs))

  stretched_run : (a n : ℕ) → stretched right off (run a n) ≡ run (a * right + off) (n * right)
  unfolding stretched run
  stretched_run a zero = ap (run (a * right + off)) (sym (zero-mul right))
  stretched_run a (suc n) =
      let e : suc a * right + off ≡ a * right + off + right = omega (arith, suc-mul a right) in
      let z : right + n * right ≡ suc n * right = omega (arith, suc-mul n right) in
      ap (λ l. run (a * right + off) right ++ l) (stretched_run (suc a) n ∙ ap (λ x. run x (n * right)) e)
      ∙ sym (run_append (a * right + off) right (n * right)) ∙ ap (run (a * right + off)) z

  stretched_map : (s : ℕ) (ps : List ℕ) → stretched right off (map (λ p. p + s) ps) ≡ map (λ p. p + s * right) (stretched right off ps)
  unfolding stretched
  stretched_map s [] = refl
  stretched_map s (p ∷ ps) =
      let e : (p + s) * right + off ≡ p * right + off + s * right = omega (arith, add-mul p s right) in
      ap₂ ◌++◌ (ap (λ x. run x right) e ∙ sym (map_run (s * right) (p * right + off) right)) (stretched_map s ps)
      ∙ sym (map-append (λ q. q + s * right) (run (p * right + off) right) (stretched right off ps))

  stretched_repeated : (left step : ℕ) (ps : List ℕ) → stretched right off (repeated left step ps) ≡ repeated left (step * right) (stretched right off ps)
  unfolding repeated stretched
  stretched_repeated zero step ps = refl
  stretched_repeated (suc left) step ps =
      stretched_append ps (map (λ p. p + step) (repeated left step ps))
      ∙ ap (λ l. stretched right off ps ++ l) (stretched_map step (repeated left step ps) ∙ ap (map (λ p. p + step * right)) (stretched_repeated left step ps))

  stretched_twice : (r o : ℕ) (ps : List ℕ) → stretched right off (stretched r o ps) ≡ stretched (r * right) (off + o * right) ps
  unfolding stretched
  stretched_twice r o [] = refl
  stretched_twice r o (p ∷ ps) =
      let e : (p * r + o) * right + off ≡ p * (r * right) + (off + o * right) = omega (arith, add-mul (p * r) o right, mul_assoc p r right) in
      stretched_append (run (p * r + o) r) (stretched r o ps)
      ∙ ap₂ ◌++◌ (stretched_run (p * r + o) r ∙ ap (λ x. run x (r * right)) e) (stretched_twice r o ps)

-- ---- the number of a product place, from the positions and the lengths
-- Position p of a list of n places, which is a factor of a product, stands behind a of the combinations before it and b of those behind it: the number is (a * n + p) * right + b.
-- A product of two, three or four lists is one of three: what stands before the list, the list, and what stands behind it.
pub place_number : (kind : Kind) (left right n off p a b : ℕ) → a < left → b < right → get_or (moved (move kind left right (n * right) off) (p ∷ [])) (a * right + b) 0 ≡ off + ((a * n + p) * right + b)
unfolding moved
place_number kind left right n off p a b l r =
    let ps = stretched right off (p ∷ []) in
    let w : length ps ≡ right = stretched_length right off (p ∷ []) ∙ one-mul right in
    let z : 0 * right + b ≡ b = omega (arith, zero-mul right) in
    ap (λ k. get_or (repeated left (n * right) ps) (a * k + b) 0) (sym w) ∙ repeated_at (n * right) ps left a b l (omega (arith, w))
    ∙ ap (λ x. x + a * (n * right)) (ap (λ j. get_or ps j 0) (sym z) ∙ stretched_at right off 0 b (p ∷ []) (omega arith) r)
    ∙ omega (arith, add-mul (a * n) p right, mul_assoc a n right)

-- ---- one factor more
more_copied : (left step : ℕ) (fs : List Factor) (ps : List ℕ) → copied fs (repeated left step ps) ≡ copied (more left step fs) ps
unfolding copied repeated
more_copied left step fs ps = go (eqb left 1) refl
  where
    go : (b : Bool) → eqb left 1 ≡ b → copied fs (repeated left step ps) ≡ copied (cond b fs (record { times = left; step = step } ∷ fs)) ps
    go true e = let q : left ≡ 1 = eqb-true left 1 e in ap (λ n. copied fs (repeated n step ps)) q ∙ ap (copied fs) (append-nil ps)
    go false e = refl

pub placed_moved : (m : Move) (s : Spread) (ps : List ℕ) → placed s (moved m ps) ≡ placed (lowered m s) ps
unfolding placed moved
placed_moved m s ps =
    ap (copied s.over) (stretched_repeated s.width s.base m.left m.step (stretched m.right m.off ps) ∙ ap (repeated m.left (m.step * s.width)) (stretched_twice s.width s.base m.right m.off ps))
    ∙ more_copied m.left (m.step * s.width) s.over (stretched (m.right * s.width) (s.base + m.off * s.width) ps)

-- ---- the three lists of an operand
same_spread : {a b : ℕ} {v w : ℕ} {fs gs : List Factor} → a ≡ b → v ≡ w → fs ≡ gs → ◌≡◌ {A = Spread} (record { base = a; width = v; over = fs }) (record { base = b; width = w; over = gs })
same_spread p q r = λ k. record { base = p k; width = q k; over = r k }

plain_lowered : (b off : ℕ) → lowered (shift Internal off) (plain b) ≡ plain (b + off)
plain_lowered b off = same_spread (ap (λ n. b + n) (mul-one off)) refl refl

pub under_list : (m : Kind → Move) (s : Spreads) → m Internal ≡ shift Internal (m Internal).off → (kind : Kind) → lowered (m kind) (list_of s (m kind).kind) ≡ list_of (under m s) kind
under_list m s e Entry = refl
under_list m s e Internal = ap (λ x. lowered x (list_of s x.kind)) e ∙ plain_lowered s.internal (m Internal).off
under_list m s e Exit = refl
