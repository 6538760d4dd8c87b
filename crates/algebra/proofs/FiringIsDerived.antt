-- A step fires at the marking of a state exactly when the state derives it, and the marking afterwards is that of the state it becomes.
-- By the arcs of its items a step takes at each place what its actions take there (ItemFlows); facts 6, 7 and 9 do the rest.
use Prim.Native.Nat.{ℕ, zero, suc, ◌+◌, ◌≤◌, ◌<◌}
use native.Mathlib.Omega.{arith}
use native.Mathlib.Decide.{dec_lt}
use mathlib.Core.Path.{◌≡◌, refl, sym, ◌∙◌, ap, subst}
use mathlib.Core.Logic.{◌⊎◌, inl, inr}
use mathlib.Core.Bool.{Bool, true, false, cond}
use mathlib.Core.List.Memᴰ
use mathlib.Core.List.{List, [], ◌∷◌, Memᴰ}
use lib.ListN.{length, get_or}
use lib.Seq.{ext_get_or}
use lib.Dec.{T, leb}
use Rattle.field.specs.Answer.{good}
use Rattle.algebra.specs.Expr.{Expr, actions}
use Rattle.algebra.specs.Item.{Item, first}
use Rattle.algebra.specs.Exclusive.{LoopsExclusive}
use Rattle.algebra.specs.Scopes.{ScopesNamed}
use Rattle.algebra.specs.Net.{Transition}
use Rattle.field.specs.Lists.{all}
use Rattle.algebra.specs.Places.{Place, entry, places}
use Rattle.algebra.specs.Transitions.{Labelled, transitions}
use Rattle.algebra.specs.Arcs.{consumes, produces, by_item, numbers, transition_of, net_of}
use Rattle.algebra.proofs.EveryStepHasAnInput.{first_in_range}
use Rattle.algebra.specs.Firing.{transitions_named, marked, check_marked, check_apart, count, inputs_at, outputs_at, moved, fire_items}
use Rattle.algebra.proofs.Named.{Names, NamedAll, no_more, one_more, all_named, named_good}
use Rattle.algebra.proofs.Enough.{OnceEach, marked_at, checked_enough, enough_checked, count_here, count_other}
use Rattle.algebra.proofs.Fires.{moved_length, moved_at, fires_of, of_fires}
use Rattle.algebra.specs.Dynamic.{Dynamic, finished, Equal}
use Rattle.algebra.specs.Steps.{Step}
use Rattle.algebra.proofs.Lists.{AllOf}
use Rattle.algebra.proofs.Codes.{El}
use Rattle.algebra.proofs.Tokens.{tokens}
use Rattle.algebra.proofs.Numbering.{position}
use Rattle.algebra.proofs.PlaceNames.{place_code, name}
use Rattle.algebra.proofs.Flows.{taken, given, Quiet}
use Rattle.algebra.proofs.FlatSteps.{Flat}
use Rattle.algebra.proofs.EqualKeepsTokens.{equal_tokens}
use Rattle.algebra.proofs.StepsMoveTokens.{flat_entries, flat_internals}
use Rattle.algebra.proofs.FindsAnInput.{finds_none}
use Rattle.algebra.proofs.EnabledIsDerived.{enabled_flat}
use Rattle.algebra.proofs.ListedItems.{Listed, listed_of, listed_in_range}
use Rattle.algebra.proofs.StepsByItems.{item_times, item_has_first, times, step_flat, flat_step}
use Rattle.algebra.proofs.Marks.{at, marking_of, marking_length, Stands, stands, stands_at, number_below, marking_safe, marking_flat}
use Rattle.algebra.proofs.ItemFlows.{flat_moves, enabled_of, taken_sum, given_sum, bit, item_takes, item_gives}

-- ---- how often a place number is among the numbers of the places that pass
count_before : (f : Place → Bool) (k p : ℕ) (ps : List Place) → p < k → count p (numbers f k ps) ≡ 0
unfolding numbers count
count_before f k p [] h = refl
count_before f k p (q ∷ ps) h = go (f q) (count_before f (suc k) p ps (omega arith))
  where
    go : (b : Bool) → count p (numbers f (suc k) ps) ≡ 0 → count p (cond b (k ∷ numbers f (suc k) ps) (numbers f (suc k) ps)) ≡ 0
    go true e = count_other p k (numbers f (suc k) ps) (λ z. omega arith) ∙ e
    go false e = e

count_from : (f : Place → Bool) (k off p : ℕ) (ps : List Place) (d : Place) → k + off ≡ p → off < length ps → count p (numbers f k ps) ≡ bit (f (get_or ps off d))
unfolding numbers
count_from f k off p [] d e h = absurd (omega arith)
count_from f k zero p (q ∷ ps) d e h = go (f q) (count_before f (suc k) p ps (omega arith))
  where
    go : (b : Bool) → count p (numbers f (suc k) ps) ≡ 0 → count p (cond b (k ∷ numbers f (suc k) ps) (numbers f (suc k) ps)) ≡ bit b
    go true z = let r : k ≡ p = omega arith in subst (λ x. count p (x ∷ numbers f (suc k) ps) ≡ 1) (sym r) (count_here p (numbers f (suc k) ps) ∙ ap suc z)
    go false z = z
count_from f k (suc off) p (q ∷ ps) d e h = go (f q) (count_from f (suc k) off p ps d (omega arith) (omega arith))
  where
    go : (b : Bool) → count p (numbers f (suc k) ps) ≡ bit (f (get_or ps off d)) → count p (cond b (k ∷ numbers f (suc k) ps) (numbers f (suc k) ps)) ≡ bit (f (get_or ps off d))
    go true z = count_other p k (numbers f (suc k) ps) (λ w. omega arith) ∙ z
    go false z = z

count_after : (f : Place → Bool) (k p : ℕ) (ps : List Place) → k + length ps ≤ p → count p (numbers f k ps) ≡ 0
unfolding numbers count
count_after f k p [] h = refl
count_after f k p (q ∷ ps) h = go (f q) (count_after f (suc k) p ps (omega arith))
  where
    go : (b : Bool) → count p (numbers f (suc k) ps) ≡ 0 → count p (cond b (k ∷ numbers f (suc k) ps) (numbers f (suc k) ps)) ≡ 0
    go true e = count_other p k (numbers f (suc k) ps) (λ z. omega arith) ∙ e
    go false e = e

bit_small : (b : Bool) → bit b ≤ 1
bit_small true = omega arith
bit_small false = omega arith

count_once : (f : Place → Bool) (p : ℕ) (ps : List Place) → count p (numbers f 0 ps) ≤ 1
count_once f p ps = go (dec_lt p (length ps))
  where
    go : Dec (p < length ps) → count p (numbers f 0 ps) ≤ 1
    go (yes h) = omega (arith, count_from f 0 p p ps (entry 0) (omega arith) h, bit_small (f (get_or ps p (entry 0))))
    go (no h) = omega (arith, count_after f 0 p ps (omega arith))

module _ (E : Expr) (g : LoopsExclusive E) (c : ScopesNamed E) where
  -- ---- the transitions of a step's items
  record Made (i : Item) (t : Transition) : Type 0 where
    listed : Listed 0 E i
    inputs : t.inputs ≡ numbers (by_item consumes i) 0 (places 0 E)
    outputs : t.outputs ≡ numbers (by_item produces i) 0 (places 0 E)

  made : (i : Item) (t : Transition) → Names (net_of E).transitions i t → Made i t
  unfolding net_of transition_of
  made i t n =
      let m = Memᴰ.of_map (transition_of (places 0 E)) (transitions 0 E) n.listed in
      let same : m.0.item ≡ i = ap (λ u. u.item) m.2 ∙ n.item in
      record {
        listed = subst (Listed 0 E) same (listed_of 0 E m.0 m.1);
        inputs = sym (ap (λ u. u.inputs) m.2) ∙ ap (λ j. numbers (by_item consumes j) 0 (places 0 E)) same;
        outputs = sym (ap (λ u. u.outputs) m.2) ∙ ap (λ j. numbers (by_item produces j) 0 (places 0 E)) same;
      }

  all_listed : {S : List Item} {ts : List Transition} → NamedAll (net_of E).transitions S ts → AllOf (Listed 0 E) S
  all_listed no_more = tt
  all_listed (one_more {i = i} {t = t} n r) = ((made i t n).listed, all_listed r)

  once_each : {S : List Item} {ts : List Transition} → NamedAll (net_of E).transitions S ts → OnceEach ts
  once_each no_more t m = absurd (Memᴰ.not-nil m)
  once_each (one_more {i = i} {t = u} {ts = ts} n r) t m = go (Memᴰ.cases_cons m) (once_each r t)
    where
      go : (t ≡ u) ⊎ Memᴰ t ts → (Memᴰ t ts → (p : ℕ) → count p t.inputs ≤ 1) → (p : ℕ) → count p t.inputs ≤ 1
      go (inl e) f p = subst (λ l. count p l ≤ 1) (sym (ap (λ v. v.inputs) e ∙ (made i u n).inputs)) (count_once (by_item consumes i) p (places 0 E))
      go (inr k) f p = f k p

  -- By its arcs a step takes and gives at each place what its actions do.
  arcs_flow : {S : List Item} {ts : List Transition} → NamedAll (net_of E).transitions S ts → (p : ℕ) → (s : Stands 0 E p) → p < length (places 0 E)
      → (inputs_at p ts ≡ taken (times S) (name 0 E s.place)) × (outputs_at p ts ≡ given (times S) (name 0 E s.place))
  unfolding inputs_at outputs_at times
  arcs_flow no_more p s h = (sym (nothing_taken (name 0 E s.place)), sym (nothing_given (name 0 E s.place)))
    where
      nothing_taken : (q : Place) → taken (λ k. 0) q ≡ 0
      nothing_taken q = omega (arith, taken_sum (λ k. 0) (λ k. 0) q)

      nothing_given : (q : Place) → given (λ k. 0) q ≡ 0
      nothing_given q = omega (arith, given_sum (λ k. 0) (λ k. 0) q)
  arcs_flow (one_more {i = i} {is = S} {t = t} {ts = ts} n r) p s h =
      let m = made i t n in
      let q = name 0 E s.place in
      let rest = arcs_flow r p s h in
      let ins : count p t.inputs ≡ taken (item_times i) q =
      ap (count p) m.inputs ∙ count_from (by_item consumes i) 0 p p (places 0 E) (entry 0) (omega arith) h ∙ ap (λ w. bit (by_item consumes i w)) s.named ∙ item_takes 0 E g c i m.listed s.place in
      let outs : count p t.outputs ≡ given (item_times i) q =
      ap (count p) m.outputs ∙ count_from (by_item produces i) 0 p p (places 0 E) (entry 0) (omega arith) h ∙ ap (λ w. bit (by_item produces i w)) s.named ∙ item_gives 0 E g c i m.listed s.place in
      (omega (arith, taken_sum (item_times i) (times S) q, rest.0), omega (arith, given_sum (item_times i) (times S) q, rest.1))

  -- No arc leads to a number that is no place.
  inputs_outside : {S : List Item} {ts : List Transition} → NamedAll (net_of E).transitions S ts → (p : ℕ) → length (places 0 E) ≤ p → inputs_at p ts ≡ 0
  unfolding inputs_at
  inputs_outside no_more p h = refl
  inputs_outside (one_more {i = i} {t = t} n r) p h =
      omega (arith, ap (count p) (made i t n).inputs, count_after (by_item consumes i) 0 p (places 0 E) (omega arith), inputs_outside r p h)

  -- The marking afterwards is the marking of the state that the flat step leads to.
  moved_marking : {S : List Item} {ts : List Transition} {D D' : Dynamic E} → NamedAll (net_of E).transitions S ts → Flat (times S) 0 E D D' → moved 0 ts (marking_of D) ≡ marking_of D'
  moved_marking {S} {ts} {D} {D'} n f =
      ext_get_or 0 (moved 0 ts (marking_of D)) (marking_of D') (omega (arith, moved_length 0 ts (marking_of D), marking_length 0 D, marking_length 0 D'))
      (λ p h. same p (omega (arith, moved_length 0 ts (marking_of D), marking_length 0 D)))
    where
      same : (p : ℕ) → p < length (places 0 E) → get_or (moved 0 ts (marking_of D)) p 0 ≡ get_or (marking_of D') p 0
      same p h =
          let s = stands 0 E p h in
          let a = arcs_flow n p s h in
          let m = flat_moves f s.place in
          omega (arith, moved_at ts (marking_of D) p (omega (arith, marking_length 0 D)), s.marked D, s.marked D', a.0, a.1, m.0, m.1)

  -- ---- the two directions
  pub record Derives (D : Dynamic E) (S : List Item) (m : List ℕ) : Type 0 where
    pub to : Dynamic E
    pub step : Step 0 E D S to
    pub marked : marking_of to ≡ m

  -- What passes 31, 32 and 33 is derived, and leads to the marking that the tokens move to.
  pub checked_derives : (D : Dynamic E) (S : List Item) (ts : List Transition) → transitions_named (net_of E).transitions 0 S ≡ good ts → check_marked (marking_of D) 0 ts ≡ good tt
      → check_apart [] 0 ts ≡ good tt → Derives D S (moved 0 ts (marking_of D))
  unfolding stands_at
  checked_derives D S ts named marked apart =
      let n = all_named (net_of E).transitions 0 S ts named in
      let enough = checked_enough (marking_of D) ts (once_each n) marked apart in
      let r = enabled_flat E 0 (times S) D (enabled_of (λ k. at_place n enough k)) in
      record { to = r.0; step = flat_step c r.1 S (all_listed n) (λ i lo hi. refl); marked = sym (moved_marking n r.1) }
    where
      at_place : NamedAll (net_of E).transitions S ts → ((p : ℕ) → inputs_at p ts ≤ get_or (marking_of D) p 0) → (k : El (place_code E)) → taken (times S) (name 0 E k) ≤ at (tokens D) k
      at_place n enough k =
          let p = position (place_code E) k in
          let s = stands_at 0 E k p refl in
          omega (arith, enough p, s.marked D, (arcs_flow n p s (number_below 0 E k)).0)

  pub fires_derives : (D : Dynamic E) (S : List Item) (m : List ℕ) → fire_items (net_of E).transitions (marking_of D) S ≡ good m → Derives D S m
  fires_derives D S m e =
      let f = fires_of (net_of E).transitions (marking_of D) S m e in
      let d = checked_derives D S f.ts f.named f.marked f.apart in
      record { to = d.to; step = d.step; marked = d.marked ∙ f.after }

  pub derives_fires : (D D' : Dynamic E) (S : List Item) → Step 0 E D S D' → fire_items (net_of E).transitions (marking_of D) S ≡ good (marking_of D')
  unfolding net_of transition_of
  derives_fires D D' S s =
      let f = step_flat c s in
      let t = named_good (net_of E).transitions 0 S (λ i m. names_of i (member_of S f.0 i m)) in
      let n = all_named (net_of E).transitions 0 S t.0 t.1 in
      let after = moved_marking n f.1 in
      let checks = enough_checked (marking_of D) t.0 (marking_safe D g) (enough n f.1) in
      let fits = subst (λ m. T (all (λ x. leb x 1) m)) (sym after) (marking_flat D' g) in
      of_fires (net_of E).transitions (marking_of D) S t.0 t.1 checks.0 checks.1 fits ∙ ap good after
    where
      member_of : (R : List Item) → AllOf (Listed 0 E) R → (i : Item) → Memᴰ i R → Listed 0 E i
      member_of [] a i m = absurd (Memᴰ.not-nil m)
      member_of (j ∷ R) a i m = go (Memᴰ.cases_cons m) (member_of R a.1 i)
        where
          go : (i ≡ j) ⊎ Memᴰ i R → (Memᴰ i R → Listed 0 E i) → Listed 0 E i
          go (inl e) f = subst (Listed 0 E) (sym e) a.0
          go (inr k) f = f k

      names_of : (i : Item) → Listed 0 E i → (t : Transition) × Names (net_of E).transitions i t
      names_of i l =
          let x : Labelled = record { label = l.label; item = i } in
          (transition_of (places 0 E) x, record { listed = Memᴰ.map (transition_of (places 0 E)) l.listed; item = refl })

      enough : {ts : List Transition} → NamedAll (net_of E).transitions S ts → Flat (times S) 0 E D D' → (p : ℕ) → inputs_at p ts ≤ get_or (marking_of D) p 0
      enough {ts} n f p = go (dec_lt p (length (places 0 E)))
        where
          go : Dec (p < length (places 0 E)) → inputs_at p ts ≤ get_or (marking_of D) p 0
          go (yes h) = let q = stands 0 E p h in omega (arith, (arcs_flow n p q h).0, (flat_moves f q.place).0, q.marked D)
          go (no h) = omega (arith, inputs_outside n p (omega arith))

  -- ---- one transition alone
  -- An enabled transition is the step of its item alone.
  pub enabled_derives : (D : Dynamic E) (t : Transition) → Memᴰ t (net_of E).transitions → T (marked (marking_of D) t) → (D' : Dynamic E) × Step 0 E D (t.item ∷ []) D'
  unfolding stands_at times inputs_at
  enabled_derives D t m h =
      let n = one_more (record { listed = m; item = refl }) no_more in
      let r = enabled_flat E 0 (times (t.item ∷ [])) D (enabled_of (λ k. small n k)) in
      (r.0, flat_step c r.1 (t.item ∷ []) (all_listed n) (λ i lo hi. refl))
    where
      small : NamedAll (net_of E).transitions (t.item ∷ []) (t ∷ []) → (k : El (place_code E)) → taken (times (t.item ∷ [])) (name 0 E k) ≤ at (tokens D) k
      small n k =
          let p = position (place_code E) k in
          let s = stands_at 0 E k p refl in
          let f = (arcs_flow n p s (number_below 0 E k)).0 in
          let o = once_each n t (Memᴰ.head refl) p in
          go (count p t.inputs) refl (λ d. marked_at (marking_of D) t h p d) o f (s.marked D)
        where
          go : (w : ℕ) → count (position (place_code E) k) t.inputs ≡ w → (1 ≤ count (position (place_code E) k) t.inputs → 1 ≤ get_or (marking_of D) (position (place_code E) k) 0)
              → count (position (place_code E) k) t.inputs ≤ 1 → count (position (place_code E) k) t.inputs + 0 ≡ taken (times (t.item ∷ [])) (name 0 E k)
              → get_or (marking_of D) (position (place_code E) k) 0 ≡ at (tokens D) k → taken (times (t.item ∷ [])) (name 0 E k) ≤ at (tokens D) k
          go zero e q o f v = omega arith
          go (suc w) e q o f v = omega (arith, q (omega arith))

  -- A finished state derives no step of an item, so no transition is enabled.
  pub finished_stuck : (D : Dynamic E) → Equal E D finished → (t : Transition) → Memᴰ t (net_of E).transitions → T (marked (marking_of D) t) → ⊥
  unfolding tokens times
  finished_stuck D q t m h =
      let s = enabled_derives D t m h in
      let f = step_flat c s.1 in
      let none : Quiet 0 (actions E) (times (t.item ∷ [])) =
      finds_none (times (t.item ∷ [])) 0 E (λ e. omega (arith, flat_entries f.1 e, ap (λ u. u.entry e) (equal_tokens q))) (λ i. omega (arith, (flat_internals f.1 i).0, ap (λ u. u.internal i) (equal_tokens q))) in
      let r = first_in_range 0 (0 + actions E) t.item (listed_in_range f.0.0) in
      omega (arith, none (first t.item) r.0 r.1, item_has_first t.item)
