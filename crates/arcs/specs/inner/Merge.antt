-- Two rising lists made one: the numbers of both, in order, and a number of both once.
use Rattle.std.specs.Prelude.{ℕ, ◌≤◌, ◌<◌, ◌≡◌, cond, List, [], ◌∷◌, Option, IfSome, IfNone, length, take, ltb}
use Rattle.std.proofs.lemmas.List.Edits.{sets}

unfoldable pub into : ℕ → (List ℕ → List ℕ) → List ℕ → List ℕ
into a rest [] = a ∷ rest []
into a rest (b ∷ bs) = cond (ltb a b) (a ∷ rest (b ∷ bs)) (cond (ltb b a) (b ∷ into a rest bs) (a ∷ rest bs))

unfoldable pub union : List ℕ → List ℕ → List ℕ
unfolding into
union [] bs = bs
union (a ∷ rest) bs = into a (union rest) bs

-- Every number is below b.
abbrev pub Below : ℕ → List ℕ → Type 0
Below b [] = Unit {0}
Below b (a ∷ l) = (a < b) × Below b l

-- The first r numbers of a list are below a bound, and stand in front of what was there.
pub record Run (list : List ℕ) (bound : ℕ) (before : List ℕ) (r : ℕ) (after : List ℕ) : Type 0 where
  pub there : r ≤ length list
  pub room : r ≤ length before
  pub below : Below bound (take r list)
  pub written : after ≡ sets before 0 (take r list)

-- The list stands in front of what was there, and its length is told; or it is longer than the limit.
pub record Merged (limit : ℕ) (r : Option ℕ) (l before after : List ℕ) : Type 0 where
  pub some : IfSome r (λ n. (n ≤ limit) × (n ≡ length l) × (after ≡ sets before 0 l))
  pub none : IfNone r (limit < length l)
