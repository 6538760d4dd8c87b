-- No two transitions of a box have the same action pair, for every expression whose scope bytes are at least 1.
-- Operands have actions apart. A scope joins single actions only, each pair of them once, and takes them away; the joined one is silent, so that no outer scope joins it again.
use Prim.Native.Nat.{ℕ, ◌+◌, ◌≤◌, ◌<◌}
use native.Mathlib.Omega.{arith}
use mathlib.Core.Path.{◌≡◌, refl, sym, ◌∙◌, ap, subst}
use mathlib.Core.Logic.{◌⊎◌, inl, inr, ⊎_elim}
use mathlib.Core.Bool.{Bool, true, false, cond, not}
use mathlib.Core.List.Memᴰ
use mathlib.Core.List.{List, [], ◌∷◌, ◌++◌, map, Memᴰ}
use lib.Dec.{T, T_not, eqb→eq}
use Rattle.algebra.specs.Expr.{Expr, action, sequence, choice, parallel, loop, scope, actions}
use Rattle.algebra.specs.Item.{Item, one, two, first}
use Rattle.algebra.specs.Scopes.{ScopesNamed}
use Rattle.algebra.specs.Places.{product}
use Rattle.algebra.specs.Transitions.{Labelled, Pair, paired, silent, labelled, select, stays, kept, joined, part_at_parallel, transitions}
use Rattle.field.proofs.Tests.{and_parts}
use Rattle.algebra.proofs.Members.{select_member, JoinedOf, joined_member}
use Rattle.algebra.proofs.Products.{product_member}
use Rattle.algebra.proofs.EveryStepHasAnInput.{first_in_range, items_in_range}

-- No two elements of a list have the same key.
abbrev pub Differ : {A K : Type 0} → (A → K) → List A → Type 0
Differ key [] = Unit {0}
Differ {A} key (x ∷ xs) = ((y : A) → Memᴰ y xs → key x ≡ key y → ⊥) × Differ key xs

abbrev pub its_item : Labelled → Item
its_item t = t.item

abbrev pub Unlike : List Labelled → Type 0
Unlike ts = Differ its_item ts

abbrev first_of : Labelled → ℕ
first_of t = first t.item

module _ {A K : Type 0} (key : A → K) where
  differ_append : (xs ys : List A) → Differ key xs → Differ key ys → ((x y : A) → Memᴰ x xs → Memᴰ y ys → key x ≡ key y → ⊥) → Differ key (xs ++ ys)
  differ_append [] ys d e apart = e
  differ_append (x ∷ xs) ys d e apart = (
    λ y m p. ⊎_elim (λ k. d.0 y k p) (λ k. apart x y (Memᴰ.head refl) k p) (Memᴰ.append_cases xs m),
    differ_append xs ys d.1 e (λ x y m. apart x y (Memᴰ.tail m)),
  )

  differ_select : (ok : A → Bool) (xs : List A) → Differ key xs → Differ key (select ok xs)
  unfolding select
  differ_select ok [] d = tt
  differ_select ok (x ∷ xs) d = go (ok x) (differ_select ok xs d.1)
    where
      go : (b : Bool) → Differ key (select ok xs) → Differ key (cond b (x ∷ select ok xs) (select ok xs))
      go true e = (λ y m. d.0 y (select_member ok xs m).0, e)
      go false e = e

  -- two elements with the same key are one
  differ_same : (xs : List A) → Differ key xs → (x y : A) → Memᴰ x xs → Memᴰ y xs → key x ≡ key y → x ≡ y
  differ_same [] d x y m k p = absurd (Memᴰ.not-nil m)
  differ_same (z ∷ zs) d x y m k p = go (Memᴰ.cases_cons m) (Memᴰ.cases_cons k) (differ_same zs d.1 x y)
    where
      go : (x ≡ z) ⊎ Memᴰ x zs → (y ≡ z) ⊎ Memᴰ y zs → (Memᴰ x zs → Memᴰ y zs → key x ≡ key y → x ≡ y) → x ≡ y
      go (inl e) (inl f) rest = e ∙ sym f
      go (inl e) (inr k) rest = absurd (d.0 y k (ap key (sym e) ∙ p))
      go (inr m) (inl f) rest = absurd (d.0 x m (ap key (sym f) ∙ sym p))
      go (inr m) (inr k) rest = rest m k p

-- where a finer key is the same, a coarser one is
differ_finer : {A K L : Type 0} (key : A → K) (finer : A → L) (xs : List A) → ((x y : A) → Memᴰ x xs → Memᴰ y xs → finer x ≡ finer y → key x ≡ key y)
    → Differ key xs → Differ finer xs
differ_finer key finer [] same d = tt
differ_finer key finer (x ∷ xs) same d =
    (λ y m p. d.0 y m (same x y (Memᴰ.head refl) (Memᴰ.tail m) p), differ_finer key finer xs (λ x y m k. same x y (Memᴰ.tail m) (Memᴰ.tail k)) d.1)

differ_map : {A B K : Type 0} (f : A → B) (key : B → K) (xs : List A) → Differ (λ (x : A). key (f x)) xs → Differ key (map f xs)
differ_map f key [] d = tt
differ_map f key (x ∷ xs) d = (λ y m p. let r = Memᴰ.of_map f xs m in d.0 r.0 r.1 (p ∙ ap key (sym r.2)), differ_map f key xs d.1)

-- a product of lists, where the key of a pair tells both keys
differ_product : {A B C K L M : Type 0} (f : A → B → C) (k : A → K) (l : B → L) (key : C → M)
    → ((x x' : A) (y y' : B) → key (f x y) ≡ key (f x' y') → (k x ≡ k x') × (l y ≡ l y'))
    → (xs : List A) (ys : List B) → Differ k xs → Differ l ys → Differ key (product f xs ys)
unfolding product
differ_product f k l key tells [] ys d e = tt
differ_product {A} {B} {C} f k l key tells (x ∷ xs) ys d e =
    differ_append key (map (f x) ys) (product f xs ys)
    (differ_map (f x) key ys (differ_finer l (λ (y : B). key (f x y)) ys (λ y y' m m' p. (tells x x y y' p).1) e))
    (differ_product f k l key tells xs ys d.1 e) apart
  where
    apart : (z w : C) → Memᴰ z (map (f x) ys) → Memᴰ w (product f xs ys) → key z ≡ key w → ⊥
    apart z w m n p =
        let r = Memᴰ.of_map (f x) ys m in
        let s = product_member f xs ys n in
        d.0 s.0 s.2 (tells x s.0 r.0 s.1 (ap key r.2 ∙ p ∙ ap key s.4)).0

-- What is carried up an expression: items differ; the first action of a pair is not there alone; a pair is silent.
record Told (ts : List Labelled) : Type 0 where
  unlike : Unlike ts
  not_alone : (t u : Labelled) (i j : ℕ) → Memᴰ t ts → Memᴰ u ts → t.item ≡ two i j → u.item ≡ one i → ⊥
  pair_silent : (t : Labelled) (i j : ℕ) → Memᴰ t ts → t.item ≡ two i j → t.label ≡ 0

told_append : (m : ℕ) (ts us : List Labelled) → ((t : Labelled) → Memᴰ t ts → first t.item < m) → ((u : Labelled) → Memᴰ u us → m ≤ first u.item)
    → Told ts → Told us → Told (ts ++ us)
told_append m ts us below above p q = record {
  unlike = differ_append its_item ts us p.unlike q.unlike (λ t u k l e. apart t u k l (ap first e));
  not_alone = λ t u i j k l e f. alone t u i j (Memᴰ.append_cases ts k) (Memᴰ.append_cases ts l) e f;
  pair_silent = λ t i j k e. ⊎_elim (λ k. p.pair_silent t i j k e) (λ k. q.pair_silent t i j k e) (Memᴰ.append_cases ts k);
}
  where
    apart : (t u : Labelled) → Memᴰ t ts → Memᴰ u us → first t.item ≡ first u.item → ⊥
    apart t u k l e = omega (arith, below t k, above u l)

    alone : (t u : Labelled) (i j : ℕ) → Memᴰ t ts ⊎ Memᴰ t us → Memᴰ u ts ⊎ Memᴰ u us → t.item ≡ two i j → u.item ≡ one i → ⊥
    alone t u i j (inl k) (inl l) e f = p.not_alone t u i j k l e f
    alone t u i j (inl k) (inr l) e f = apart t u k l (ap first e ∙ sym (ap first f))
    alone t u i j (inr k) (inl l) e f = apart u t l k (ap first f ∙ sym (ap first e))
    alone t u i j (inr k) (inr l) e f = q.not_alone t u i j k l e f

never_both : (x : Item) (h i j : ℕ) → x ≡ one h → x ≡ two i j → ⊥
never_both x h i j e f = let z : ◌≡◌ {A = ℕ} 0 1 = cc in omega arith

told_action : (n l : ℕ) → Told (record { label = l; item = one n } ∷ [])
told_action n l = record {
  unlike = (λ u m e. Memᴰ.not-nil m, tt);
  not_alone = λ t u i j k m e f. no_pair t i j k e;
  pair_silent = λ t i j k e. absurd (no_pair t i j k e);
}
  where
    no_pair : (t : Labelled) (i j : ℕ) → Memᴰ t (record { label = l; item = one n } ∷ []) → t.item ≡ two i j → ⊥
    no_pair t i j k e = never_both t.item n i j (ap its_item (Memᴰ.eq_of_singleton k)) e

two_same : (i i' j j' : ℕ) → two i j ≡ two i' j' → (i ≡ i') × (j ≡ j')
two_same i i' j j' e = (cc, cc)

module _ (n : ℕ) (E : Expr) (a : ℕ) (ts : List Labelled) (some : 1 ≤ a) (told : Told ts) where
  -- what a scope takes away is a single action
  single : (b : ℕ) → 1 ≤ b → (t : Labelled) → Memᴰ t ts → T (labelled b t) → t.item ≡ one (first t.item)
  single b h t m l = go t.item refl
    where
      go : (x : Item) → t.item ≡ x → x ≡ one (first x)
      go (one i) e = refl
      go (two i j) e = absurd (omega (arith, told.pair_silent t i j m e, eqb→eq t.label b l))

  single_firsts_differ : (b : ℕ) → 1 ≤ b → Differ first_of (select (labelled b) ts)
  single_firsts_differ b h =
      differ_finer its_item first_of (select (labelled b) ts) same
      (differ_select its_item (labelled b) ts told.unlike)
    where
      same : (t u : Labelled) → Memᴰ t (select (labelled b) ts) → Memᴰ u (select (labelled b) ts) → first t.item ≡ first u.item → t.item ≡ u.item
      same t u k l e =
          let r = select_member (labelled b) ts k in
          let s = select_member (labelled b) ts l in
          single b h t r.0 r.1 ∙ ap one e ∙ sym (single b h u s.0 s.1)

  joined_unlike : Unlike (joined n E a ts)
  unfolding joined
  joined_unlike =
      let left = select (labelled a) ts in
      let right = select (labelled (a + 128)) ts in
      let ok : Pair → Bool = λ p. part_at_parallel n E (first p.t.item) (first p.u.item) in
      differ_map silent its_item (select ok (product paired left right))
      (differ_select (λ (p : Pair). (silent p).item) ok (product paired left right)
      (differ_product paired first_of first_of (λ (p : Pair). (silent p).item)
      (λ t t' u u'. two_same (first_of t) (first_of t') (first_of u) (first_of u')) left right
      (single_firsts_differ a some) (single_firsts_differ (a + 128) (omega arith))))

  -- a joined transition has the pair of two single actions that are taken away
  joined_item : (v : Labelled) → (j : JoinedOf n E a ts v) → v.item ≡ two (first j.t.item) (first j.u.item)
  joined_item v j = ap its_item j.made

  joined_first : (v : Labelled) → (j : JoinedOf n E a ts v) → j.t.item ≡ one (first j.t.item)
  joined_first v j = single a some j.t j.t_in j.t_labelled

  told_scope : Told (kept a ts ++ joined n E a ts)
  unfolding kept
  told_scope = record {
    unlike = differ_append its_item (kept a ts) (joined n E a ts) (differ_select its_item (stays a) ts told.unlike) joined_unlike apart;
    not_alone = λ t u i j k l e f. alone t u i j (Memᴰ.append_cases (kept a ts) k) (Memᴰ.append_cases (kept a ts) l) e f;
    pair_silent = λ t i j k e.
        ⊎_elim (λ k. told.pair_silent t i j (select_member (stays a) ts k).0 e) (λ k. ap (λ (t : Labelled). t.label) (joined_member n E a ts k).made) (Memᴰ.append_cases (kept a ts) k);
  }
    where
      apart : (t v : Labelled) → Memᴰ t (select (stays a) ts) → Memᴰ v (joined n E a ts) → t.item ≡ v.item → ⊥
      apart t v k l e =
          let j = joined_member n E a ts l in
          told.not_alone t j.t (first j.t.item) (first j.u.item) (select_member (stays a) ts k).0 j.t_in (e ∙ joined_item v j) (joined_first v j)

      -- a kept transition is none that the scope takes away
      gone : (v u : Labelled) (i k : ℕ) → JoinedOf n E a ts v → Memᴰ u (select (stays a) ts) → v.item ≡ two i k → u.item ≡ one i → ⊥
      gone v u i k j m e f =
          let r = select_member (stays a) ts m in
          let firsts = two_same (first j.t.item) i (first j.u.item) k (sym (joined_item v j) ∙ e) in
          let same : j.t ≡ u = differ_same its_item ts told.unlike j.t u j.t_in r.0 (joined_first v j ∙ ap one firsts.0 ∙ sym f) in
          T_not (labelled a u) (and_parts (not (labelled a u)) (not (labelled (a + 128) u)) r.1).0 (subst (λ t. T (labelled a t)) same j.t_labelled)

      alone : (t u : Labelled) (i j : ℕ) → Memᴰ t (select (stays a) ts) ⊎ Memᴰ t (joined n E a ts) → Memᴰ u (select (stays a) ts) ⊎ Memᴰ u (joined n E a ts)
          → t.item ≡ two i j → u.item ≡ one i → ⊥
      alone t u i j (inl k) (inl l) e f = told.not_alone t u i j (select_member (stays a) ts k).0 (select_member (stays a) ts l).0 e f
      alone t u i j (inr k) (inl l) e f = gone t u i j (joined_member n E a ts k) l e f
      alone t u i j k (inr l) e f = let r = joined_member n E a ts l in never_both u.item i (first_of r.t) (first_of r.u) f (joined_item u r)

-- two operands, the second's actions behind the first's
told_operands : (n : ℕ) (E F : Expr) → Told (transitions n E) → Told (transitions (n + actions E) F) → Told (transitions n E ++ transitions (n + actions E) F)
told_operands n E F =
    told_append (n + actions E) (transitions n E) (transitions (n + actions E) F) (λ t m. (first_in_range n (n + actions E) t.item (items_in_range n E t m)).1)
    (λ u m. (first_in_range (n + actions E) (n + actions E + actions F) u.item (items_in_range (n + actions E) F u m)).0)

told_transitions : (n : ℕ) (E : Expr) → ScopesNamed E → Told (transitions n E)
unfolding transitions
told_transitions n (action l) s = told_action n l
told_transitions n (sequence E F) s = told_operands n E F (told_transitions n E s.0) (told_transitions (n + actions E) F s.1)
told_transitions n (choice E F) s = told_operands n E F (told_transitions n E s.0) (told_transitions (n + actions E) F s.1)
told_transitions n (parallel E F) s = told_operands n E F (told_transitions n E s.0) (told_transitions (n + actions E) F s.1)
told_transitions n (loop E F G) s =
    let m = n + actions E in
    told_operands n E (sequence F G) (told_transitions n E s.0) (told_operands m F G (told_transitions m F s.1) (told_transitions (m + actions F) G s.2))
told_transitions n (scope a E) s = told_scope n E a (transitions n E) s.0 (told_transitions n E s.1)

pub pairs_unlike : (n : ℕ) (E : Expr) → ScopesNamed E → Unlike (transitions n E)
pairs_unlike n E s = (told_transitions n E s).unlike
