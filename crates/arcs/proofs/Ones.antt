-- The positions of the ones in joined lists and in products of bits, of which only one part or factor has ones.
-- A factor before repeats the list, and a factor behind repeats each bit; so the ones of a product are those of its factor, stretched and repeated.
use Prim.Native.Nat.{ℕ, zero, suc, ◌+◌, ◌*◌, ◌≤◌, ◌<◌}
use native.Mathlib.Omega.{arith}
use native.Mathlib.Nat.{suc-mul, zero-mul, add-zero, zero-add}
use mathlib.Core.Path.{◌≡◌, refl, sym, ◌∙◌, ap}
use mathlib.Core.Bool.{Bool, true, false, cond, ◌||◌}
use mathlib.Core.List.{List, [], ◌∷◌, ◌++◌, map, append_assoc, append-nil}
use lib.ListN.{length, get_or, replicate, length-append, length-replicate, replicate-append-replicate}
use Rattle.algebra.specs.Places.{Place, product}
use Rattle.algebra.specs.Arcs.{numbers}
use Rattle.arcs.specs.inner.Positions.{ones, run, stretched, repeated}
use Rattle.arcs.specs.inner.Moves.{Off}

-- The whole list so many times.
unfoldable pub rep : ℕ → List Bool → List Bool
rep zero bs = []
rep (suc k) bs = bs ++ rep k bs

-- Each bit so many times.
unfoldable pub each : ℕ → List Bool → List Bool
each k [] = []
each k (b ∷ bs) = replicate k b ++ each k bs

abbrev pub either : List Bool → List Bool → List Bool
either cs bs = product ◌||◌ cs bs

each_length : (k : ℕ) (bs : List Bool) → length (each k bs) ≡ length bs * k
unfolding each
each_length k [] = sym (zero-mul k)
each_length k (b ∷ bs) = omega (arith, length-append (replicate k b) (each k bs), length-replicate k b, each_length k bs, suc-mul (length bs) k)

-- ---- a product of which one factor has no ones
row_off : (b : Bool) (m : ℕ) → map (◌||◌ b) (replicate m false) ≡ replicate m b
row_off b zero = refl
row_off true (suc m) = ap (λ l. true ∷ l) (row_off true m)
row_off false (suc m) = ap (λ l. false ∷ l) (row_off false m)

row_on : (bs : List Bool) → map (◌||◌ false) bs ≡ bs
row_on [] = refl
row_on (b ∷ bs) = ap (λ l. b ∷ l) (row_on bs)

either_left : (bs : List Bool) (m : ℕ) → either bs (replicate m false) ≡ each m bs
unfolding product each
either_left [] m = refl
either_left (b ∷ bs) m = rw (row_off b m, either_left bs m) refl

either_right : (m : ℕ) (bs : List Bool) → either (replicate m false) bs ≡ rep m bs
unfolding product rep
either_right zero bs = refl
either_right (suc m) bs = rw (row_on bs, either_right m bs) refl

pub each_of : (cs bs : List Bool) → Off bs → either cs bs ≡ each (length bs) cs
each_of cs bs o = ap (λ l. either cs l) o ∙ either_left cs (length bs)

pub rep_of : (cs bs : List Bool) → Off cs → either cs bs ≡ rep (length cs) bs
rep_of cs bs o = ap (λ l. either l bs) o ∙ either_right (length cs) bs

-- ---- repetitions of repetitions
rep_append : (a b : ℕ) (bs : List Bool) → rep (a + b) bs ≡ rep a bs ++ rep b bs
unfolding rep
rep_append zero b bs = rw zero-add refl
rep_append (suc a) b bs = let e : suc a + b ≡ suc (a + b) = omega arith in rw (e, rep_append a b bs, append_assoc) refl

pub rep_rep : (a b : ℕ) (bs : List Bool) → rep a (rep b bs) ≡ rep (a * b) bs
unfolding rep
rep_rep zero b bs = rw zero-mul refl
rep_rep (suc a) b bs = let e : suc a * b ≡ b + a * b = omega (arith, suc-mul a b) in rw (e, rep_append b (a * b) bs, rep_rep a b bs) refl

each_append : (k : ℕ) (cs bs : List Bool) → each k (cs ++ bs) ≡ each k cs ++ each k bs
unfolding each
each_append k [] bs = refl
each_append k (a ∷ cs) bs = rw (each_append k cs bs, append_assoc) refl

each_replicate : (k j : ℕ) (b : Bool) → each k (replicate j b) ≡ replicate (j * k) b
unfolding each
each_replicate k zero b = rw zero-mul refl
each_replicate k (suc j) b =
    let e : suc j * k ≡ k + j * k = omega (arith, suc-mul j k) in rw (e, each_replicate k j b, replicate-append-replicate k (j * k) b) refl

pub each_each : (a b : ℕ) (bs : List Bool) → each a (each b bs) ≡ each (b * a) bs
unfolding each
each_each a b [] = refl
each_each a b (x ∷ bs) = rw (each_append a (replicate b x) (each b bs), each_replicate a b x, each_each a b bs) refl

pub each_rep : (a b : ℕ) (bs : List Bool) → each a (rep b bs) ≡ rep b (each a bs)
unfolding rep each
each_rep a zero bs = refl
each_rep a (suc b) bs = rw (each_append a bs (rep b bs), each_rep a b bs) refl

pub each_one : (bs : List Bool) → each 1 bs ≡ bs
unfolding each
each_one [] = refl
each_one (b ∷ bs) = ap (λ l. b ∷ l) (each_one bs)

pub rep_one : (bs : List Bool) → rep 1 bs ≡ bs
unfolding rep
rep_one bs = append-nil bs

-- ---- the ones
pub numbers_ones : (f : Place → Bool) (k : ℕ) (ps : List Place) → numbers f k ps ≡ ones k (map f ps)
unfolding numbers ones
numbers_ones f k [] = refl
numbers_ones f k (p ∷ ps) = go (f p) (numbers_ones f (suc k) ps)
  where
    go : (c : Bool) → numbers f (suc k) ps ≡ ones (suc k) (map f ps) → cond c (k ∷ numbers f (suc k) ps) (numbers f (suc k) ps) ≡ ones k (c ∷ map f ps)
    go true e = ap (λ l. k ∷ l) e
    go false e = e

-- Counted from a later number on.
ones_later : (a k : ℕ) (bs : List Bool) → ones (a + k) bs ≡ map (λ p. p + k) (ones a bs)
unfolding ones
ones_later a k [] = refl
ones_later a k (true ∷ bs) = let e : suc (a + k) ≡ suc a + k = omega arith in rw (e, ones_later (suc a) k bs) refl
ones_later a k (false ∷ bs) = let e : suc (a + k) ≡ suc a + k = omega arith in rw (e, ones_later (suc a) k bs) refl

ones_append : (a : ℕ) (cs bs : List Bool) → ones a (cs ++ bs) ≡ ones a cs ++ ones (a + length cs) bs
unfolding ones
ones_append a [] bs = rw add-zero refl
ones_append a (true ∷ cs) bs = let e : a + suc (length cs) ≡ suc a + length cs = omega arith in rw (e, ones_append (suc a) cs bs) refl
ones_append a (false ∷ cs) bs = let e : a + suc (length cs) ≡ suc a + length cs = omega arith in rw (e, ones_append (suc a) cs bs) refl

ones_none : (a k : ℕ) → ones a (replicate k false) ≡ []
unfolding ones
ones_none a zero = refl
ones_none a (suc k) = ones_none (suc a) k

ones_all : (a k : ℕ) → ones a (replicate k true) ≡ run a k
unfolding ones run
ones_all a zero = refl
ones_all a (suc k) = ap (λ l. a ∷ l) (ones_all (suc a) k)

off_ones : (a : ℕ) (bs : List Bool) → Off bs → ones a bs ≡ []
off_ones a bs o = ap (λ l. ones a l) o ∙ ones_none a (length bs)

-- In a joined list of which one part has none.
pub ones_before : (a : ℕ) (cs bs : List Bool) → Off bs → ones a (cs ++ bs) ≡ ones a cs
ones_before a cs bs o = rw (ones_append a cs bs, off_ones (a + length cs) bs o, append-nil) refl

pub ones_behind : (a : ℕ) (cs bs : List Bool) → Off cs → ones a (cs ++ bs) ≡ ones (a + length cs) bs
ones_behind a cs bs o = rw (ones_append a cs bs, off_ones a cs o) refl

-- In a list that is repeated, bit by bit or whole.
ones_each : (a k off : ℕ) (bs : List Bool) → ones (a * k + off) (each k bs) ≡ stretched k off (ones a bs)
unfolding ones each stretched
ones_each a k off [] = refl
ones_each a k off (true ∷ bs) =
    let e : a * k + off + length (replicate k true) ≡ suc a * k + off = omega (arith, suc-mul a k, length-replicate k true) in
    rw (ones_append (a * k + off) (replicate k true) (each k bs), e, ones_each (suc a) k off bs, ones_all (a * k + off) k) refl
ones_each a k off (false ∷ bs) =
    let e : a * k + off + length (replicate k false) ≡ suc a * k + off = omega (arith, suc-mul a k, length-replicate k false) in
    rw (ones_append (a * k + off) (replicate k false) (each k bs), e, ones_each (suc a) k off bs, ones_none (a * k + off) k) refl

ones_rep : (k off : ℕ) (bs : List Bool) → ones off (rep k bs) ≡ repeated k (length bs) (ones off bs)
unfolding ones rep repeated
ones_rep zero off bs = refl
ones_rep (suc k) off bs = rw (ones_append off bs (rep k bs), ones_later off (length bs) (rep k bs), ones_rep k off bs) refl

pub ones_widened : (left right off : ℕ) (bs : List Bool) → ones off (rep left (each right bs)) ≡ repeated left (length bs * right) (stretched right off (ones 0 bs))
ones_widened left right off bs =
    let e : ones off (each right bs) ≡ stretched right off (ones 0 bs) =
    ap (λ n. ones n (each right bs)) (sym (ap (λ n. n + off) (zero-mul right) ∙ zero-add off)) ∙ ones_each 0 right off bs in
    ones_rep left off (each right bs) ∙ rw (each_length right bs, e) refl

-- ---- where there are none
pub off_append : (cs bs : List Bool) → Off cs → Off bs → Off (cs ++ bs)
off_append cs bs o p = rw (length-append cs bs, ← replicate-append-replicate (length cs) (length bs) false, ← o, ← p) refl

off_each : (k : ℕ) (bs : List Bool) → Off bs → Off (each k bs)
off_each k bs o = ap (λ l. each k l) o ∙ each_replicate k (length bs) false ∙ ap (λ n. replicate n false) (sym (each_length k bs))

pub off_either : (cs bs : List Bool) → Off cs → Off bs → Off (either cs bs)
off_either cs bs o p = rw (each_of cs bs p) (off_each (length bs) cs o)

-- ---- how many there are, and how large
pub ones_few : (a : ℕ) (bs : List Bool) → length (ones a bs) ≤ length bs
unfolding ones
ones_few a [] = omega arith
ones_few a (true ∷ bs) = omega (arith, ones_few (suc a) bs)
ones_few a (false ∷ bs) = omega (arith, ones_few (suc a) bs)

pub ones_below : (a j : ℕ) (bs : List Bool) → j < length (ones a bs) → get_or (ones a bs) j 0 < a + length bs
unfolding ones
ones_below a j [] h = absurd (omega arith)
ones_below a zero (true ∷ bs) h = omega arith
ones_below a (suc j) (true ∷ bs) h = omega (arith, ones_below (suc a) j bs (omega arith))
ones_below a j (false ∷ bs) h = omega (arith, ones_below (suc a) j bs h)
