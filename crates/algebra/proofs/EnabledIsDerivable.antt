-- The enabled list at a marking that steps have reached has the numbers of exactly those transitions whose step of one item the rules derive next.
-- True because a marked transition's step is derived, and a derived step fires, so that every input of the transition that it names is marked.
use Prim.Native.Nat.{ℕ, suc}
use mathlib.Core.Path.{◌≡◌, refl, sym, ◌∙◌, ap, subst}
use mathlib.Core.Logic.{◌⊎◌, inl, inr, ◌↔◌}
use mathlib.Core.Bool.{Bool, true, false, cond}
use mathlib.Core.List.Memᴰ
use mathlib.Core.List.{List, [], ◌∷◌, Memᴰ}
use lib.ListN.{get_or}
use lib.Dec.{T, leb}
use Rattle.field.specs.Answer.{good}
use Rattle.field.specs.Refusals.{input_empty}
use Rattle.field.specs.Lists.{all}
use Rattle.field.proofs.Answers.{check_good}
use Rattle.field.proofs.Tests.{true_T, T_true}
use Rattle.algebra.specs.Expr.{Expr}
use Rattle.algebra.specs.Item.{Item}
use Rattle.algebra.specs.Exclusive.{LoopsExclusive}
use Rattle.algebra.specs.Scopes.{ScopesNamed}
use Rattle.algebra.specs.Net.{Transition}
use Rattle.algebra.specs.Places.{places}
use Rattle.algebra.specs.Transitions.{transitions}
use Rattle.algebra.specs.Arcs.{consumes, numbers, by_item, transition_of, net_of}
use Rattle.algebra.specs.Firing.{marked, check_marked, fire_items, enabled_from}
use Rattle.algebra.specs.Dynamic.{Dynamic}
use Rattle.algebra.specs.Steps.{Step}
use Rattle.algebra.specs.Derived.{Derived}
use Rattle.algebra.proofs.Marks.{marking_of}
use Rattle.algebra.proofs.Named.{NamedAll, one_more, all_named}
use Rattle.algebra.proofs.Fires.{fires_of}
use Rattle.algebra.proofs.FiringIsDerived.{enabled_derives, derives_fires}
use Rattle.algebra.proofs.Agreement.{FiredTo, one_state}

-- The transition that has the number k, in a list whose first has the number j.
unfoldable pub Numbered : ℕ → List Transition → ℕ → Transition → Type 0
Numbered j [] k t = ⊥
Numbered j (u ∷ us) k t = ((k ≡ j) × (t ≡ u)) ⊎ Numbered (suc j) us k t

numbered_listed : (j : ℕ) (ts : List Transition) (k : ℕ) (t : Transition) → Numbered j ts k t → Memᴰ t ts
unfolding Numbered
numbered_listed j [] k t n = absurd n
numbered_listed j (u ∷ us) k t (inl e) = Memᴰ.head e.1
numbered_listed j (u ∷ us) k t (inr n) = Memᴰ.tail (numbered_listed (suc j) us k t n)

-- ---- the list has the numbers of the marked transitions
enabled_marked : (j : ℕ) (m : List ℕ) (ts : List Transition) (k : ℕ) → Memᴰ k (enabled_from j m ts) → (t : Transition) × Numbered j ts k t × T (marked m t)
unfolding enabled_from Numbered
enabled_marked j m [] k i = absurd (Memᴰ.not-nil i)
enabled_marked j m (u ∷ us) k i = go (marked m u) refl i (enabled_marked (suc j) m us k)
  where
    later : (t : Transition) × Numbered (suc j) us k t × T (marked m t) → (t : Transition) × (((k ≡ j) × (t ≡ u)) ⊎ Numbered (suc j) us k t) × T (marked m t)
    later r = (r.0, inr r.1, r.2)

    first : marked m u ≡ true → (k ≡ j) ⊎ Memᴰ k (enabled_from (suc j) m us) → (Memᴰ k (enabled_from (suc j) m us) → (t : Transition) × Numbered (suc j) us k t × T (marked m t)) → (t : Transition) × (((k ≡ j) × (t ≡ u)) ⊎ Numbered (suc j) us k t) × T (marked m t)
    first e (inl q) rest = (u, inl (q, refl), true_T (marked m u) e)
    first e (inr i) rest = later (rest i)

    go : (b : Bool) → marked m u ≡ b → Memᴰ k (cond b (j ∷ enabled_from (suc j) m us) (enabled_from (suc j) m us))
        → (Memᴰ k (enabled_from (suc j) m us) → (t : Transition) × Numbered (suc j) us k t × T (marked m t)) → (t : Transition) × (((k ≡ j) × (t ≡ u)) ⊎ Numbered (suc j) us k t) × T (marked m t)
    go true e i rest = first e (Memᴰ.cases_cons i) rest
    go false e i rest = later (rest i)

marked_enabled : (j : ℕ) (m : List ℕ) (ts : List Transition) (k : ℕ) (t : Transition) → Numbered j ts k t → T (marked m t) → Memᴰ k (enabled_from j m ts)
unfolding enabled_from Numbered
marked_enabled j m [] k t n h = absurd n
marked_enabled j m (u ∷ us) k t (inl e) h = rw (T_true (marked m u) (subst (λ v. T (marked m v)) e.1 h)) (Memᴰ.head e.0)
marked_enabled j m (u ∷ us) k t (inr n) h = go (marked m u) (marked_enabled (suc j) m us k t n h)
  where
    go : (b : Bool) → Memᴰ k (enabled_from (suc j) m us) → Memᴰ k (cond b (j ∷ enabled_from (suc j) m us) (enabled_from (suc j) m us))
    go true i = Memᴰ.tail i
    go false i = i

module _ (E : Expr) (exclusive : LoopsExclusive E) (scopes : ScopesNamed E) where
  -- A transition's inputs go by its item alone.
  inputs_of : (t : Transition) → Memᴰ t (net_of E).transitions → t.inputs ≡ numbers (by_item consumes t.item) 0 (places 0 E)
  unfolding net_of transition_of
  inputs_of t l =
      let m = Memᴰ.of_map (transition_of (places 0 E)) (transitions 0 E) l in
      sym (ap (λ u. u.inputs) m.2) ∙ ap (λ j. numbers (by_item consumes j) 0 (places 0 E)) (ap (λ u. u.item) m.2)

  -- A step of one item that fires has every input of its transition marked.
  fired_marked : (m m' : List ℕ) (t : Transition) → Memᴰ t (net_of E).transitions → fire_items (net_of E).transitions m (t.item ∷ []) ≡ good m' → T (marked m t)
  unfolding check_marked marked
  fired_marked m m' t l e = let f = fires_of (net_of E).transitions m (t.item ∷ []) m' e in go f.ts (all_named (net_of E).transitions 0 (t.item ∷ []) f.ts f.named) f.marked
    where
      go : (ts : List Transition) → NamedAll (net_of E).transitions (t.item ∷ []) ts → check_marked m 0 ts ≡ good tt → T (marked m t)
      go _ (one_more {t = u} n r) c =
          let same : u.inputs ≡ t.inputs = inputs_of u n.listed ∙ ap (λ j. numbers (by_item consumes j) 0 (places 0 E)) n.item ∙ sym (inputs_of t l) in
          subst (λ ps. T (all (λ p. leb 1 (get_or m p 0)) ps)) same (true_T (marked m u) (check_good (marked m u) input_empty 0 _ tt c).0)

  pub enabled_iff_derivable : (R : List (List Item)) (m : List ℕ) → FiredTo E exclusive scopes R m → (k : ℕ)
      → Memᴰ k (enabled_from 0 m (net_of E).transitions) ↔ ((t : Transition) × Numbered 0 (net_of E).transitions k t × ((D : Dynamic E) × Derived E R D × ((D' : Dynamic E) × Step 0 E D (t.item ∷ []) D')))
  enabled_iff_derivable R m e k = (there, back)
    where
      at : (D : Dynamic E) → Derived E R D → marking_of D ≡ m
      at = (one_state E exclusive scopes R m e).marking

      there : Memᴰ k (enabled_from 0 m (net_of E).transitions) → (t : Transition) × Numbered 0 (net_of E).transitions k t × ((D : Dynamic E) × Derived E R D × ((D' : Dynamic E) × Step 0 E D (t.item ∷ []) D'))
      there i =
          let r = enabled_marked 0 m (net_of E).transitions k i in
          let s = (one_state E exclusive scopes R m e).some in
          (r.0, r.1, (s.0, s.1, enabled_derives E exclusive scopes s.0 r.0 (numbered_listed 0 (net_of E).transitions k r.0 r.1) (subst (λ l. T (marked l r.0)) (sym (at s.0 s.1)) r.2)))

      back : (t : Transition) × Numbered 0 (net_of E).transitions k t × ((D : Dynamic E) × Derived E R D × ((D' : Dynamic E) × Step 0 E D (t.item ∷ []) D')) → Memᴰ k (enabled_from 0 m (net_of E).transitions)
      back (t, n, s) =
          let f = derives_fires E exclusive scopes s.0 s.2.0 (t.item ∷ []) s.2.1 in
          marked_enabled 0 m (net_of E).transitions k t n (subst (λ l. T (marked l t)) (at s.0 s.1) (fired_marked (marking_of s.0) (marking_of s.2.0) t (numbered_listed 0 (net_of E).transitions k t n) f))
