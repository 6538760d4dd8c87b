-- A turn and the end of each loop over a list of places, or over the lists of a step's items.
-- Where the loop stands the list is its element there and what follows, and the definitions go by these two.
use Prim.Native.Nat.{ℕ, zero, suc, ◌+◌, ◌-◌, ◌≤◌, ◌<◌}
use mathlib.Core.Path.{◌≡◌, refl, sym, ap, subst, ◌∙◌}
use mathlib.Core.List.{List, [], ◌∷◌, ◌++◌}
use mathlib.Core.Bool.{true, false, ◌&&◌}
use native.Mathlib.Nat.{add-zero, add-suc, suc-add}
use native.Mathlib.Numerals.{add-one}
use native.Mathlib.Omega.{arith}
use lib.ListN.{length, get_or, set, take, drop, drop_of_length-le}
use lib.Seq.{drop-cons, get_or-set_other}
use lib.Dec.{eqb}
use Rattle.algebra.specs.Firing.{count}
use Rattle.algebra.proofs.Enough.{count_here, count_cons, count_append}
use Rattle.net.specs.inner.Chains.{in_row}
use Rattle.net.specs.declared.Side.{Side}
use Rattle.net.specs.declared.Side.TheVariants.{Inputs, Outputs}
use Rattle.moving.specs.inner.Moving.{side_of, sides, filled, shifts, shifts_each, in_one}

pub list_next : (l : List ℕ) (i p : ℕ) → i < length l → p ≡ get_or l i 0 → drop i l ≡ p ∷ drop (i + 1) l
list_next l i p h e = rw (add-one, drop-cons l i 0, e)

pub count_at : (l : List ℕ) (i p : ℕ) → i < length l → p ≡ get_or l i 0 → 1 ≤ count p l
unfolding count
count_at [] i p h e = absurd (omega arith)
count_at (x ∷ l) zero p h e = subst (λ (y : ℕ). 1 ≤ count p (y ∷ l)) e (omega (arith, count_here p l))
count_at (x ∷ l) (suc i) p h e = omega (arith, count_at l i p (omega arith) e, count_cons p x l)

-- A marking that agrees with another away from the places of a list.
abbrev pub Agree : List ℕ → List ℕ → List ℕ → Type 0
Agree ps m m' = (q : ℕ) → count q ps ≡ 0 → get_or m' q 0 ≡ get_or m q 0

pub agree_set : (ps m m' : List ℕ) (p x : ℕ) → 1 ≤ count p ps → Agree ps m m' → Agree ps m (set m' p x)
agree_set ps m m' p x h a q z =
    get_or-set_other m' p q x 0 (λ e. absurd (let f : count q ps ≡ count p ps = ap (λ (n : ℕ). count n ps) e in let w : ⊥ = omega arith in w)) ∙ a q z

-- over a list of places
module _ (l : List ℕ) (i p : ℕ) (h : i < length l) (e : p ≡ get_or l i 0) where
  pub filled_turn : (tokens : ℕ) (m : List ℕ) → filled tokens m (drop i l) ≡ filled tokens (set m p tokens) (drop (i + 1) l)
  unfolding filled
  filled_turn tokens m = rw (list_next l i p h e)

  pub shifts_turn : (from to : ℕ) (m : List ℕ) → shifts from to m (drop i l) ≡ (eqb (get_or m p 0) from && shifts from to (set m p to) (drop (i + 1) l))
  unfolding shifts
  shifts_turn from to m = rw (list_next l i p h e)

module _ (l : List ℕ) (i : ℕ) (h : length l ≤ i) where
  pub filled_end : (tokens : ℕ) (m : List ℕ) → filled tokens m (drop i l) ≡ m
  unfolding filled
  filled_end tokens m = rw (drop_of_length-le l h)

  pub shifts_end : (from to : ℕ) (m : List ℕ) → shifts from to m (drop i l) ≡ true
  unfolding shifts
  shifts_end from to m = rw (drop_of_length-le l h)

-- the part of the arcs that a row tells
module _ (rows arcs : List ℕ) (t start ins : ℕ) (p : start ≡ in_row rows t 3) (q : ins ≡ in_row rows t 4) where
  pub side_inputs : take (start + ins - start) (drop start arcs) ≡ side_of Inputs rows arcs t
  unfolding side_of
  side_inputs = let n : start + ins - start ≡ ins = omega arith in rw (n, ← p, ← q)

  pub side_outputs : (outs : ℕ) → outs ≡ in_row rows t 5 → take (start + ins + outs - (start + ins)) (drop (start + ins) arcs) ≡ side_of Outputs rows arcs t
  unfolding side_of
  side_outputs outs r = let n : start + ins + outs - (start + ins) ≡ outs = omega arith in rw (n, ← p, ← q, ← r)

pub filled_append : (tokens : ℕ) (m a b : List ℕ) → filled tokens m (a ++ b) ≡ filled tokens (filled tokens m a) b
unfolding filled
filled_append tokens m [] b = refl
filled_append tokens m (p ∷ a) b = filled_append tokens (set m p tokens) a b

-- the places of one item are among those of all
item_inside : (side : Side) (rows arcs : List ℕ) (q : ℕ) (ts : List ℕ) (i : ℕ) → i < length ts → count q (side_of side rows arcs (get_or ts i 0)) ≤ count q (in_one (sides side rows arcs ts))
unfolding in_one
item_inside side rows arcs q [] i h = absurd (omega arith)
item_inside side rows arcs q (t ∷ ts) zero h = omega (arith, count_append q (side_of side rows arcs t) (in_one (sides side rows arcs ts)))
item_inside side rows arcs q (t ∷ ts) (suc i) h =
    omega (arith, item_inside side rows arcs q ts i (omega arith), count_append q (side_of side rows arcs t) (in_one (sides side rows arcs ts)))

-- over a step's items: the loop stands at item i, transition t, whose places are l
module _ (rows arcs ts : List ℕ) (side : Side) (i t : ℕ) (h : i < length ts) (e : t ≡ get_or ts i 0) where
  module _ (l : List ℕ) (s : l ≡ side_of side rows arcs t) where
    sides_next : sides side rows arcs (drop i ts) ≡ l ∷ sides side rows arcs (drop (i + 1) ts)
    sides_next = ap (sides side rows arcs) (list_next ts i t h e) ∙ ap (λ (k : List ℕ). k ∷ sides side rows arcs (drop (i + 1) ts)) (sym s)

    module _ (from to : ℕ) (m : List ℕ) (n : ℕ) (inv : n ≡ i + shifts_each from to m (sides side rows arcs (drop i ts))) where
      pub shifting_more : shifts from to m l ≡ true → n ≡ i + 1 + shifts_each from to (filled to m l) (sides side rows arcs (drop (i + 1) ts))
      unfolding shifts_each
      shifting_more b = inv ∙ rw (sides_next, b, add-one i, add-suc, suc-add)

      pub shifting_no : shifts from to m l ≡ false → i ≡ n
      unfolding shifts_each
      shifting_no b = sym (inv ∙ rw (sides_next, b, add-zero i))

    pub filling_turn : (tokens : ℕ) (m : List ℕ) → filled tokens m (in_one (sides side rows arcs (drop i ts))) ≡ filled tokens (filled tokens m l) (in_one (sides side rows arcs (drop (i + 1) ts)))
    unfolding in_one
    filling_turn tokens m = rw sides_next (filled_append tokens m l (in_one (sides side rows arcs (drop (i + 1) ts))))

    pub agree_turn : (m m' m'' : List ℕ) → Agree (in_one (sides side rows arcs ts)) m m' → Agree l m' m'' → Agree (in_one (sides side rows arcs ts)) m m''
    agree_turn m m' m'' a b q z =
        b q (let k : count q l ≤ count q (in_one (sides side rows arcs ts))
        = subst (λ (u : List ℕ). count q u ≤ count q (in_one (sides side rows arcs ts))) (sym (s ∙ ap (side_of side rows arcs) e)) (item_inside side rows arcs q ts i h) in omega arith)
        ∙ a q z

module _ (rows arcs ts : List ℕ) (side : Side) (i : ℕ) (h : length ts ≤ i) where
  pub filling_end : (tokens : ℕ) (m : List ℕ) → filled tokens m (in_one (sides side rows arcs (drop i ts))) ≡ m
  unfolding in_one filled
  filling_end tokens m = rw (drop_of_length-le ts h)
