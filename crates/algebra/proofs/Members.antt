-- What is in a selection is in the list and passes, and the other way round; so a scope's joined transitions are those of its pairs, and the other way round.
-- A selection walks the list and leaves out what does not pass; the joined transitions are a selection of a product.
use Prim.Native.Nat.{ℕ, ◌+◌, ◌≤◌}
use native.Mathlib.Omega.{arith}
use mathlib.Core.Path.{◌≡◌, refl, sym, ◌∙◌, ap, subst}
use mathlib.Core.Logic.{◌⊎◌, inl, inr}
use mathlib.Core.Bool.{Bool, true, false, cond}
use mathlib.Core.List.Memᴰ
use mathlib.Core.List.{List, [], ◌∷◌, Memᴰ}
use lib.ListN.{length}
use lib.Dec.{T}
use Rattle.algebra.specs.Expr.{Expr}
use Rattle.algebra.specs.Item.{first}
use Rattle.algebra.specs.Places.{product}
use Rattle.algebra.specs.Transitions.{Labelled, Pair, paired, silent, labelled, select, stays, kept, joined, part_at_parallel}
use Rattle.algebra.proofs.Products.{product_member, product_of_members}

module _ {A : Type 0} where
  pub member_some : (xs : List A) → 1 ≤ length xs → (x : A) × Memᴰ x xs
  member_some [] h = absurd (omega arith)
  member_some (x ∷ xs) h = (x, Memᴰ.head refl)

  pub select_member : (ok : A → Bool) (xs : List A) {x : A} → Memᴰ x (select ok xs) → Memᴰ x xs × T (ok x)
  unfolding select
  select_member ok [] m = absurd (Memᴰ.not-nil m)
  select_member ok (y ∷ ys) {x} m = go (ok y) refl m (λ m. select_member ok ys m)
    where
      Rest : Type 0
      Rest = Memᴰ x (select ok ys) → Memᴰ x ys × T (ok x)

      behind : Memᴰ x ys × T (ok x) → Memᴰ x (y ∷ ys) × T (ok x)
      behind r = (Memᴰ.tail r.0, r.1)

      here : T (ok y) → (x ≡ y) ⊎ Memᴰ x (select ok ys) → Rest → Memᴰ x (y ∷ ys) × T (ok x)
      here t (inl e) rest = (Memᴰ.head e, subst (λ z. T (ok z)) (sym e) t)
      here t (inr m) rest = behind (rest m)

      go : (b : Bool) → ok y ≡ b → Memᴰ x (cond b (y ∷ select ok ys) (select ok ys)) → Rest → Memᴰ x (y ∷ ys) × T (ok x)
      go true e m rest = here (subst T (sym e) tt) (Memᴰ.cases_cons m) rest
      go false e m rest = behind (rest m)

  pub select_of_member : (ok : A → Bool) {x : A} {xs : List A} → Memᴰ x xs → T (ok x) → Memᴰ x (select ok xs)
  unfolding select
  select_of_member ok {x} (Memᴰ.head {x = y} {xs = ys} e) t = go (ok y) (subst (λ z. T (ok z)) e t)
    where
      go : (b : Bool) → T b → Memᴰ x (cond b (y ∷ select ok ys) (select ok ys))
      go true t = Memᴰ.head e
      go false t = absurd t
  select_of_member ok {x} (Memᴰ.tail {x = y} {xs = ys} m) t = go (ok y) (select_of_member ok m t)
    where
      go : (b : Bool) → Memᴰ x (select ok ys) → Memᴰ x (cond b (y ∷ select ok ys) (select ok ys))
      go true m = Memᴰ.tail m
      go false m = m

-- what a joined transition v of scope a is made of
pub record JoinedOf (n : ℕ) (E : Expr) (a : ℕ) (ts : List Labelled) (v : Labelled) : Type 0 where
  pub t : Labelled
  pub u : Labelled
  pub t_in : Memᴰ t ts
  pub u_in : Memᴰ u ts
  pub t_labelled : T (labelled a t)
  pub u_labelled : T (labelled (a + 128) u)
  pub parts : T (part_at_parallel n E (first t.item) (first u.item))
  pub made : v ≡ silent (paired t u)

pub joined_member : (n : ℕ) (E : Expr) (a : ℕ) (ts : List Labelled) {v : Labelled} → Memᴰ v (joined n E a ts) → JoinedOf n E a ts v
unfolding joined
joined_member n E a ts m =
    let ok : Pair → Bool = λ p. part_at_parallel n E (first p.t.item) (first p.u.item) in
    let left = select (labelled a) ts in
    let right = select (labelled (a + 128)) ts in
    let r = Memᴰ.of_map silent (select ok (product paired left right)) m in
    let s = select_member ok (product paired left right) r.1 in
    let q = product_member paired left right s.0 in
    let t = select_member (labelled a) ts q.2 in
    let u = select_member (labelled (a + 128)) ts q.3 in
    record {
      t = q.0;
      u = q.1;
      t_in = t.0;
      u_in = u.0;
      t_labelled = t.1;
      u_labelled = u.1;
      parts = subst (λ p. T (ok p)) q.4 s.1;
      made = sym r.2 ∙ ap silent q.4;
    }

pub joined_of_member : (n : ℕ) (E : Expr) (a : ℕ) (ts : List Labelled) {v : Labelled} → JoinedOf n E a ts v → Memᴰ v (joined n E a ts)
unfolding joined
joined_of_member n E a ts j =
    let ok : Pair → Bool = λ p. part_at_parallel n E (first p.t.item) (first p.u.item) in
    Memᴰ.cast j.made
    (Memᴰ.map silent
    (select_of_member ok (product_of_members paired (select_of_member (labelled a) j.t_in j.t_labelled) (select_of_member (labelled (a + 128)) j.u_in j.u_labelled)) j.parts))

-- What a scope keeps was there.
pub kept_member : (a : ℕ) (ts : List Labelled) {t : Labelled} → Memᴰ t (kept a ts) → Memᴰ t ts
unfolding kept
kept_member a ts m = (select_member (stays a) ts m).0
