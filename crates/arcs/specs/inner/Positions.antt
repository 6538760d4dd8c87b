-- Positions in a list of places: those that pass a test, and how they change where the list becomes a factor of a product.
use Rattle.std.specs.Prelude.{ℕ, zero, suc, ◌+◌, ◌*◌, Bool, true, false, List, [], ◌∷◌, ◌++◌, map}

-- The positions of the ones, counted from k on.
unfoldable pub ones : ℕ → List Bool → List ℕ
ones k [] = []
ones k (true ∷ bs) = k ∷ ones (suc k) bs
ones k (false ∷ bs) = ones (suc k) bs

-- So many numbers from a on.
unfoldable pub run : ℕ → ℕ → List ℕ
run a zero = []
run a (suc n) = a ∷ run (suc a) n

-- Over each position run `right` others: p becomes the numbers from p * right + off on.
unfoldable pub stretched : ℕ → ℕ → List ℕ → List ℕ
unfolding run
stretched right off [] = []
stretched right off (p ∷ ps) = run (p * right + off) right ++ stretched right off ps

-- The positions `left` times, each time `step` more.
unfoldable pub repeated : ℕ → ℕ → List ℕ → List ℕ
repeated zero step ps = []
repeated (suc left) step ps = ps ++ map (λ p. p + step) (repeated left step ps)
