-- Which items are listed: those of a sequence, choice, parallel or loop are those of its operands, those of a scope are the free ones and its pairs.
-- A transition's label is that of its one action, or 0 where it has two, so a scope, whose byte is at least 1, takes away and joins single actions only.
use Prim.Native.Nat.{ℕ, ◌+◌, ◌≤◌, ◌<◌}
use native.Mathlib.Omega.{arith}
use mathlib.Core.Path.{◌≡◌, refl, sym, ◌∙◌, ap, subst}
use mathlib.Core.Logic.{◌⊎◌, inl, inr, ⊎_elim, ◌↔◌}
use mathlib.Core.Bool.{Bool, true, false, cond, not}
use mathlib.Core.List.Memᴰ
use mathlib.Core.List.{◌++◌, Memᴰ}
use lib.Dec.{T, T_not, not_T, ltb, ltb→lt, nltb→le, eqb, eqb→eq}
use Rattle.algebra.specs.Expr.{Expr, action, sequence, choice, parallel, loop, scope, actions, label}
use Rattle.algebra.specs.Item.{Item, one, two, first}
use Rattle.algebra.specs.Transitions.{Labelled, where_both, part_at_parallel, labelled, kept, joined, transitions, stays}
use Rattle.field.proofs.Tests.{parts_and, and_parts, eqb_of}
use Rattle.algebra.proofs.Members.{select_member, select_of_member, JoinedOf, joined_member, joined_of_member}
use Rattle.algebra.proofs.EveryStepHasAnInput.{InRange, items_in_range}
use Rattle.algebra.specs.Scopes.{ScopesNamed}
use Rattle.algebra.specs.Steps.{Free}
use Rattle.algebra.proofs.PartedActions.{parts_first, parts_rest}

-- t is the item of a transition of E, whose first action has the number n.
pub record Listed (n : ℕ) (E : Expr) (t : Item) : Type 0 where
  pub label : ℕ
  pub listed : Memᴰ (record { label = label; item = t }) (transitions n E)

pub listed_of : (n : ℕ) (E : Expr) (x : Labelled) → Memᴰ x (transitions n E) → Listed n E x.item
listed_of n E x m = record { label = x.label; listed = m }

pub listed_in_range : {n : ℕ} {E : Expr} {t : Item} → Listed n E t → InRange n (n + actions E) t
listed_in_range {n} {E} {t} l = items_in_range n E (record { label = l.label; item = t }) l.listed

-- W lists the transitions of E, then those of F, each action with its label; here says whether it is a parallel.
pub record Operands (n : ℕ) (E F W : Expr) : Type 0 where
  pub here : Bool
  pub lists : transitions n W ≡ transitions n E ++ transitions (n + actions E) F
  pub labels : (i : ℕ) → label n W i ≡ cond (ltb i (n + actions E)) (label n E i) (label (n + actions E) F i)
  pub parts : (i j : ℕ) → part_at_parallel n W i j ≡ where_both (ltb i (n + actions E)) (ltb j (n + actions E)) (part_at_parallel n E i j) (part_at_parallel (n + actions E) F i j) here

module _ (n : ℕ) (E F : Expr) where
  pub of_sequence : Operands n E F (sequence E F)
  unfolding transitions label part_at_parallel
  of_sequence = record { here = false; lists = refl; labels = λ i. refl; parts = λ i j. refl }

  pub of_choice : Operands n E F (choice E F)
  unfolding transitions label part_at_parallel
  of_choice = record { here = false; lists = refl; labels = λ i. refl; parts = λ i j. refl }

  pub of_parallel : Operands n E F (parallel E F)
  unfolding transitions label part_at_parallel
  of_parallel = record { here = true; lists = refl; labels = λ i. refl; parts = λ i j. refl }

-- a loop is here as a sequence of three
pub of_loop : (n : ℕ) (E F G : Expr) → Operands n E (sequence F G) (loop E F G)
unfolding transitions label part_at_parallel
of_loop n E F G = record { here = false; lists = refl; labels = λ i. refl; parts = λ i j. refl }

-- The label of an item: of two, which only a scope joins, it is the silent one.
abbrev pub item_label : ℕ → Expr → Item → ℕ
item_label n E (one i) = label n E i
item_label n E (two i j) = 0

cond_below : (i m : ℕ) (x y : ℕ) → i < m → cond (ltb i m) x y ≡ x
cond_below i m x y h = go (ltb i m) (nltb→le i m)
  where
    go : (b : Bool) → (T (not b) → m ≤ i) → cond b x y ≡ x
    go true f = refl
    go false f = absurd (omega (arith, f tt))

cond_from : (i m : ℕ) (x y : ℕ) → m ≤ i → cond (ltb i m) x y ≡ y
cond_from i m x y h = go (ltb i m) (ltb→lt i m)
  where
    go : (b : Bool) → (T b → i < m) → cond b x y ≡ y
    go true f = absurd (omega (arith, f tt))
    go false f = refl

module _ {n : ℕ} {E F W : Expr} (o : Operands n E F W) where
  label_first : (t : Item) → InRange n (n + actions E) t → item_label n E t ≡ item_label n W t
  label_first (one i) r = sym (o.labels i ∙ cond_below i (n + actions E) (label n E i) (label (n + actions E) F i) r.1)
  label_first (two i j) r = refl

  label_second : (t : Item) → InRange (n + actions E) (n + actions E + actions F) t → item_label (n + actions E) F t ≡ item_label n W t
  label_second (one i) r = sym (o.labels i ∙ cond_from i (n + actions E) (label n E i) (label (n + actions E) F i) r.0)
  label_second (two i j) r = refl

  -- the one law for the three operators of two operands
  pub listed_operands : (t : Item) → Listed n W t ↔ (Listed n E t ⊎ Listed (n + actions E) F t)
  listed_operands t = (back, ⊎_elim first_of second_of)
    where
      back : Listed n W t → Listed n E t ⊎ Listed (n + actions E) F t
      back l =
          ⊎_elim (λ m. inl (record { label = l.label; listed = m })) (λ m. inr (record { label = l.label; listed = m })) (Memᴰ.append_cases (transitions n E) (rw o.lists at l.listed))

      first_of : Listed n E t → Listed n W t
      first_of l = record { label = l.label; listed = rw o.lists (Memᴰ.append_left (transitions (n + actions E) F) l.listed) }

      second_of : Listed (n + actions E) F t → Listed n W t
      second_of l = record { label = l.label; listed = rw o.lists (Memᴰ.append_right (transitions n E) l.listed) }

  label_operands : (x : Labelled) → (Memᴰ x (transitions n E) → x.label ≡ item_label n E x.item) → (Memᴰ x (transitions (n + actions E) F) → x.label ≡ item_label (n + actions E) F x.item)
      → Memᴰ x (transitions n W) → x.label ≡ item_label n W x.item
  label_operands x f g m =
      ⊎_elim (λ k. f k ∙ label_first x.item (items_in_range n E x k)) (λ k. g k ∙ label_second x.item (items_in_range (n + actions E) F x k))
      (Memᴰ.append_cases (transitions n E) (rw o.lists at m))

  parts_operands : (i j : ℕ) → (Listed n E (two i j) → T (part_at_parallel n E i j)) → (Listed (n + actions E) F (two i j) → T (part_at_parallel (n + actions E) F i j)) → Listed n W (two i j) → T (part_at_parallel n W i j)
  parts_operands i j f g l =
      rw (o.parts i j)
      (⊎_elim (λ k. let r = listed_in_range k in parts_first (n + actions E) i j _ _ _ r.1 r.3 (f k)) (λ k. let r = listed_in_range k in parts_rest (n + actions E) i j _ _ _ r.0 r.2 (g k))
      ((listed_operands (two i j)).0 l))

pub listed_action : (n l : ℕ) (t : Item) → Listed n (action l) t ↔ (t ≡ one n)
unfolding transitions
listed_action n l t = (λ k. ap (λ (x : Labelled). x.item) (Memᴰ.eq_of_singleton k.listed), λ e. record { label = l; listed = Memᴰ.head (ap (λ (u : Item). record { label = l; item = u }) e) })

pub listed_loop : (n : ℕ) (E F G : Expr) (t : Item) → Listed n (loop E F G) t ↔ (Listed n E t ⊎ (Listed (n + actions E) F t ⊎ Listed (n + actions E + actions F) G t))
listed_loop n E F G t =
    let whole = listed_operands (of_loop n E F G) t in
    let rest = listed_operands (of_sequence (n + actions E) F G) t in
    (λ l. ⊎_elim inl (λ r. inr (rest.0 r)) (whole.0 l), λ l. whole.1 (⊎_elim inl (λ r. inr (rest.1 r)) l))

label_scope : (n a : ℕ) (E : Expr) (t : Item) → item_label n E t ≡ item_label n (scope a E) t
unfolding label
label_scope n a E (one i) = refl
label_scope n a E (two i j) = refl

-- What a scope lists is a transition that it keeps, or a pair that it joins.
scope_member : (n a : ℕ) (E : Expr) (x : Labelled) → Memᴰ x (transitions n (scope a E)) → (Memᴰ x (transitions n E) × T (stays a x)) ⊎ JoinedOf n E a (transitions n E) x
unfolding transitions kept
scope_member n a E x m =
    ⊎_elim (λ k. inl (select_member (stays a) (transitions n E) k)) (λ k. inr (joined_member n E a (transitions n E) k)) (Memᴰ.append_cases (kept a (transitions n E)) m)

scope_kept : (n a : ℕ) (E : Expr) (x : Labelled) → Memᴰ x (transitions n E) → T (stays a x) → Memᴰ x (transitions n (scope a E))
unfolding transitions kept
scope_kept n a E x m k = Memᴰ.append_left (joined n E a (transitions n E)) (select_of_member (stays a) m k)

scope_joined : (n a : ℕ) (E : Expr) (x : Labelled) → JoinedOf n E a (transitions n E) x → Memᴰ x (transitions n (scope a E))
unfolding transitions
scope_joined n a E x j = Memᴰ.append_right (kept a (transitions n E)) (joined_of_member n E a (transitions n E) j)

pub listed_label : (n : ℕ) (E : Expr) (x : Labelled) → Memᴰ x (transitions n E) → x.label ≡ item_label n E x.item
unfolding transitions label
listed_label n (action l) x m = rw (Memᴰ.eq_of_singleton m)
listed_label n (sequence E F) x m = label_operands (of_sequence n E F) x (listed_label n E x) (listed_label (n + actions E) F x) m
listed_label n (choice E F) x m = label_operands (of_choice n E F) x (listed_label n E x) (listed_label (n + actions E) F x) m
listed_label n (parallel E F) x m = label_operands (of_parallel n E F) x (listed_label n E x) (listed_label (n + actions E) F x) m
listed_label n (loop E F G) x m =
    let k = n + actions E in
    label_operands (of_loop n E F G) x (listed_label n E x) (label_operands (of_sequence k F G) x (listed_label k F x) (listed_label (k + actions F) G x)) m
listed_label n (scope a E) x m = ⊎_elim (λ k. listed_label n E x k.0 ∙ label_scope n a E x.item) (λ j. rw j.made) (scope_member n a E x m)

-- Two actions that a scope joins, the one labelled a first.
pub record Joined (n : ℕ) (E : Expr) (a : ℕ) (t : Item) : Type 0 where
  pub i : ℕ
  pub j : ℕ
  pub i_listed : Listed n E (one i)
  pub j_listed : Listed n E (one j)
  pub i_label : label n E i ≡ a
  pub j_label : label n E j ≡ a + 128
  pub parts : T (part_at_parallel n E i j)
  pub made : t ≡ two i j

free_of : (n a : ℕ) (E : Expr) (l : ℕ) (t : Item) → l ≡ item_label n E t → T (stays a (record { label = l; item = t })) → Free (label n E) a t
free_of n a E l (one i) e f =
    let r = and_parts (not (eqb l a)) (not (eqb l (a + 128))) f in
    (λ p. T_not (eqb l a) r.0 (eqb_of l a (e ∙ p)), λ p. T_not (eqb l (a + 128)) r.1 (eqb_of l (a + 128) (e ∙ p)))
free_of n a E l (two i j) e f = tt

-- what is not labelled a or a + 128 stays
stays_of : (a l : ℕ) (t : Item) → (l ≡ a → ⊥) → (l ≡ a + 128 → ⊥) → T (stays a (record { label = l; item = t }))
stays_of a l t p q = parts_and (not (eqb l a)) (not (eqb l (a + 128))) (not_T (eqb l a) (λ k. p (eqb→eq l a k))) (not_T (eqb l (a + 128)) (λ k. q (eqb→eq l (a + 128) k)))

of_free : (n a : ℕ) (E : Expr) (l : ℕ) (t : Item) → 1 ≤ a → l ≡ item_label n E t → Free (label n E) a t → T (stays a (record { label = l; item = t }))
of_free n a E l (one i) h e f = stays_of a l (one i) (λ p. f.0 (sym e ∙ p)) (λ p. f.1 (sym e ∙ p))
of_free n a E l (two i j) h e f = stays_of a l (two i j) (omega arith) (omega arith)

-- a transition that is not silent is a single action
single : (n : ℕ) (E : Expr) (t : Item) (l : ℕ) → 1 ≤ l → l ≡ item_label n E t → (t ≡ one (first t)) × (label n E (first t) ≡ l)
single n E (one i) l h e = (refl, sym e)
single n E (two i j) l h e = absurd (omega arith)

module _ (n a : ℕ) (E : Expr) (named : ScopesNamed (scope a E)) (t : Item) where
  -- the action of a transition with the label b
  taken_away : (b : ℕ) → 1 ≤ b → (x : Labelled) → Memᴰ x (transitions n E) → T (labelled b x) → Listed n E (one (first x.item)) × (label n E (first x.item) ≡ b)
  taken_away b h x m k =
      let r = single n E x.item b h (sym (eqb→eq x.label b k) ∙ listed_label n E x m) in
      (subst (Listed n E) r.0 (listed_of n E x m), r.1)

  scope_joins : (x : Labelled) → x.item ≡ t → JoinedOf n E a (transitions n E) x → Joined n E a t
  scope_joins x e j =
      let p = taken_away a named.0 j.t j.t_in j.t_labelled in
      let q = taken_away (a + 128) (omega arith) j.u j.u_in j.u_labelled in
      record {
        i = first j.t.item;
        j = first j.u.item;
        i_listed = p.0;
        j_listed = q.0;
        i_label = p.1;
        j_label = q.1;
        parts = j.parts;
        made = sym e ∙ ap (λ (y : Labelled). y.item) j.made;
      }

  joined_listed : Joined n E a t → Listed n (scope a E) t
  joined_listed j =
      let x : Labelled = record { label = j.i_listed.label; item = one j.i } in
      let y : Labelled = record { label = j.j_listed.label; item = one j.j } in
      record {
        label = 0;
        listed = scope_joined n a E (record { label = 0; item = t }) (record {
          t = x;
          u = y;
          t_in = j.i_listed.listed;
          u_in = j.j_listed.listed;
          t_labelled = eqb_of x.label a (listed_label n E x j.i_listed.listed ∙ j.i_label);
          u_labelled = eqb_of y.label (a + 128) (listed_label n E y j.j_listed.listed ∙ j.j_label);
          parts = j.parts;
          made = ap (λ (u : Item). record { label = 0; item = u }) j.made;
        });
      }

  pub listed_scope : Listed n (scope a E) t ↔ ((Listed n E t × Free (label n E) a t) ⊎ Joined n E a t)
  listed_scope = (
    λ l.
        let x : Labelled = record { label = l.label; item = t } in
        ⊎_elim (λ k. inl (record { label = l.label; listed = k.0 }, free_of n a E l.label t (listed_label n E x k.0) k.1)) (λ j. inr (scope_joins x refl j)) (scope_member n a E x l.listed),
    ⊎_elim stays_listed joined_listed,
  )
    where
      stays_listed : Listed n E t × Free (label n E) a t → Listed n (scope a E) t
      stays_listed k =
          let x : Labelled = record { label = k.0.label; item = t } in
          let e = listed_label n E x k.0.listed in
          record { label = k.0.label; listed = scope_kept n a E x k.0.listed (of_free n a E k.0.label t named.0 e k.1) }

pub listed_parts : (n : ℕ) (E : Expr) → ScopesNamed E → (i j : ℕ) → Listed n E (two i j) → T (part_at_parallel n E i j)
unfolding part_at_parallel
listed_parts n (action l) s i j k = let e = (listed_action n l (two i j)).0 k in let z : ◌≡◌ {A = ℕ} 0 1 = cc in absurd (omega arith)
listed_parts n (sequence E F) s i j k = parts_operands (of_sequence n E F) i j (listed_parts n E s.0 i j) (listed_parts (n + actions E) F s.1 i j) k
listed_parts n (choice E F) s i j k = parts_operands (of_choice n E F) i j (listed_parts n E s.0 i j) (listed_parts (n + actions E) F s.1 i j) k
listed_parts n (parallel E F) s i j k = parts_operands (of_parallel n E F) i j (listed_parts n E s.0 i j) (listed_parts (n + actions E) F s.1 i j) k
listed_parts n (loop E F G) s i j k =
    let m = n + actions E in
    parts_operands (of_loop n E F G) i j (listed_parts n E s.0 i j) (parts_operands (of_sequence m F G) i j (listed_parts m F s.1 i j) (listed_parts (m + actions F) G s.2 i j)) k
listed_parts n (scope a E) s i j k = ⊎_elim (λ r. listed_parts n E s.1 i j r.0) here ((listed_scope n a E s (two i j)).0 k)
  where
    here : Joined n E a (two i j) → T (part_at_parallel n E i j)
    here r =
        let e = r.made in
        let p : i ≡ r.i = cc in
        let q : j ≡ r.j = cc in
        rw (p, q) r.parts
