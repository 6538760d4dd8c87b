-- Steps in order: they fire one after another from the marking of a state exactly when the state derives them in that order.
-- An induction over the steps: the marking after each is the marking of the state it leads to.
use Prim.Native.Nat.{ℕ}
use mathlib.Core.Path.{◌≡◌, refl, sym, ◌∙◌, subst}
use mathlib.Core.List.{List, [], ◌∷◌}
use Rattle.field.specs.Answer.{good}
use Rattle.field.proofs.Answers.{bind_good, good_same}
use Rattle.algebra.specs.Expr.{Expr}
use Rattle.algebra.specs.Item.{Item}
use Rattle.algebra.specs.Exclusive.{LoopsExclusive}
use Rattle.algebra.specs.Scopes.{ScopesNamed}
use Rattle.algebra.specs.Arcs.{net_of}
use Rattle.algebra.specs.Firing.{fire_items}
use Rattle.algebra.specs.Dynamic.{Dynamic, Equal}
use Rattle.algebra.specs.Derived.{Derives, nothing, step}
use Rattle.algebra.specs.InOrder.{fire_in_order}
use Rattle.algebra.proofs.Marks.{marking_of, marking_equal}
use Rattle.algebra.proofs.FiringIsDerived.{fires_derives, derives_fires}

module _ (E : Expr) (g : LoopsExclusive E) (c : ScopesNamed E) where
  -- A state that the steps lead to, with the marking after them.
  pub record LeadsTo (D : Dynamic E) (R : List (List Item)) (m : List ℕ) : Type 0 where
    pub to : Dynamic E
    pub steps : Derives E D R to
    pub marked : marking_of to ≡ m

  pub fired_derived : (D : Dynamic E) (R : List (List Item)) (m : List ℕ) → fire_in_order (net_of E).transitions (marking_of D) R ≡ good m → LeadsTo D R m
  unfolding fire_in_order
  fired_derived D [] m e = record { to = D; steps = nothing; marked = good_same (marking_of D) m e }
  fired_derived D (S ∷ R) m e =
      let a = bind_good (fire_items (net_of E).transitions (marking_of D) S) _ m e in
      let s = fires_derives E g c D S a.0 a.1 in
      let r = fired_derived s.to R m (subst (λ l. fire_in_order (net_of E).transitions l R ≡ good m) (sym s.marked) a.2) in
      record { to = r.to; steps = step s.step r.steps; marked = r.marked }

  pub derived_fired : {D C : Dynamic E} {R : List (List Item)} → Derives E D R C → fire_in_order (net_of E).transitions (marking_of D) R ≡ good (marking_of C)
  unfolding fire_in_order
  derived_fired nothing = refl
  derived_fired (step {D = D} {D' = D'} {S = S} s r) = rw (derives_fires E g c D D' S s) (derived_fired r)

  -- All states that the steps lead to have the marking after them, and are one, up to ≡.
  pub derived_marking : {D C : Dynamic E} {R : List (List Item)} {m : List ℕ} → fire_in_order (net_of E).transitions (marking_of D) R ≡ good m → Derives E D R C → marking_of C ≡ m
  derived_marking {C = C} {m = m} e r = good_same (marking_of C) m (sym (derived_fired r) ∙ e)

  pub derived_equal : {D C C' : Dynamic E} {R : List (List Item)} → Derives E D R C → Derives E D R C' → Equal E C C'
  derived_equal {C = C} {C' = C'} r s = marking_equal C C' (good_same (marking_of C) (marking_of C') (sym (derived_fired r) ∙ derived_fired s))
