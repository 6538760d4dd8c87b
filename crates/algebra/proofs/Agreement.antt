-- The calculus and the box agree: demand 3 on the definitions. For every expression whose loop bodies are exclusive and whose
-- scope bytes are not 0; nothing else is assumed, neither a limit nor that a marking is reached in any other way than by the steps named.
use Prim.Native.Nat.{ℕ, suc}
use mathlib.Core.Path.{◌≡◌, refl, sym, ◌∙◌, ap, subst}
use mathlib.Core.Logic.{◌⊎◌, inl, inr, ◌↔◌}
use mathlib.Core.Bool.{Bool, true, false, cond}
use mathlib.Core.List.Memᴰ
use mathlib.Core.List.{List, [], ◌∷◌, ◌++◌, Memᴰ}
use lib.ListN.{replicate}
use lib.Dec.{T, leb}
use Rattle.field.specs.Answer.{good, refused}
use Rattle.field.proofs.Answers.{good_not_refused}
use Rattle.algebra.specs.Expr.{Expr}
use Rattle.algebra.specs.Item.{Item}
use Rattle.algebra.specs.Exclusive.{LoopsExclusive}
use Rattle.algebra.specs.Scopes.{ScopesNamed}
use Rattle.algebra.specs.Net.{Transition}
use Rattle.field.specs.Lists.{all}
use Rattle.algebra.specs.Marking.{entry_marking, exits_marked}
use Rattle.algebra.specs.Places.{places}
use Rattle.algebra.specs.Transitions.{Labelled, transitions}
use Rattle.algebra.specs.Arcs.{transition_of, net_of}
use Rattle.algebra.specs.Firing.{marked, fire_items, enabled_from}
use Rattle.algebra.proofs.FiringRefused.{FireRefused, of_31, of_32, of_33, of_36, fire_refused}
use Rattle.algebra.specs.Dynamic.{Dynamic, started, Equal}
use Rattle.algebra.specs.Steps.{Bag, Step, in_any_order}
use Rattle.algebra.specs.Derived.{Derived}
use Rattle.algebra.specs.InOrder.{fire_in_order}
use Rattle.algebra.proofs.Marks.{marking_of, marking_flat, started_marking, finished_marking, equal_marking, exits_finished}
use Rattle.algebra.proofs.FiringIsDerived.{checked_derives, derives_fires, finished_stuck}
use Rattle.algebra.proofs.RecordsAgree.{LeadsTo, fired_derived, derived_fired, derived_marking, derived_equal}
use Rattle.algebra.proofs.ListedItems.{Listed, listed_of}
use Rattle.algebra.proofs.ListedIsDerivable.{listed_iff}

-- no transition of a list is enabled
none_enabled : (k : ℕ) (m : List ℕ) (ts : List Transition) → ((t : Transition) → Memᴰ t ts → T (marked m t) → ⊥) → enabled_from k m ts ≡ []
unfolding enabled_from
none_enabled k m [] f = refl
none_enabled k m (t ∷ ts) f = go (marked m t) (f t (Memᴰ.head refl)) (none_enabled (suc k) m ts (λ u i. f u (Memᴰ.tail i)))
  where
    go : (b : Bool) → (T b → ⊥) → enabled_from (suc k) m ts ≡ [] → cond b (k ∷ enabled_from (suc k) m ts) (enabled_from (suc k) m ts) ≡ []
    go true h e = absurd (h tt)
    go false h e = e

module _ (E : Expr) (exclusive : LoopsExclusive E) (scopes : ScopesNamed E) where
  -- The net of the plan, and the marking after some steps in order from the entry marking.
  abbrev pub net : List Transition
  net = (net_of E).transitions

  abbrev pub FiredTo : List (List Item) → List ℕ → Type 0
  FiredTo R m = fire_in_order net (entry_marking (net_of E)) R ≡ good m

  from_started : (R : List (List Item)) (m : List ℕ) → FiredTo R m → fire_in_order net (marking_of (started {E = E})) R ≡ good m
  from_started R m e = subst (λ l. fire_in_order net l R ≡ good m) (sym (started_marking E)) e

  reached : (R : List (List Item)) (m : List ℕ) → FiredTo R m → LeadsTo E exclusive scopes started R m
  reached R m e = fired_derived E exclusive scopes started R m (from_started R m e)

  -- A list of steps fires in order from the entry marking if and only if the calculus derives it from the started plan.
  pub fires_iff_derived : (R : List (List Item)) → ((m : List ℕ) × FiredTo R m) ↔ ((D : Dynamic E) × Derived E R D)
  fires_iff_derived R = (
    λ f. let l = reached R f.0 f.1 in (l.to, l.steps),
    λ d. (marking_of d.0, subst (λ l. fire_in_order net l R ≡ good (marking_of d.0)) (started_marking E) (derived_fired E exclusive scopes d.1)),
  )

  -- The marking after fired steps is the marking of every dynamic expression that they lead to; there is one, and two such are ≡.
  pub record OneState (R : List (List Item)) (m : List ℕ) : Type 0 where
    pub some : (D : Dynamic E) × Derived E R D
    pub marking : (D : Dynamic E) → Derived E R D → marking_of D ≡ m
    pub equal : (D C : Dynamic E) → Derived E R D → Derived E R C → Equal E D C

  pub one_state : (R : List (List Item)) (m : List ℕ) → FiredTo R m → OneState R m
  one_state R m e = record {
    some = let l = reached R m e in (l.to, l.steps);
    marking = λ D d. derived_marking E exclusive scopes (from_started R m e) d;
    equal = λ D C d f. derived_equal E exclusive scopes d f;
  }

  -- Where the next step is refused, the steps before it are derived, and no dynamic expression that they lead to derives it,
  -- in whatever order its items are taken; and the refusal is 31, 32 or 33: 36 is never given.
  pub record NextRefused (R : List (List Item)) (S : List Item) (n : ℕ) : Type 0 where
    pub before : (D : Dynamic E) × Derived E R D
    pub not_derived : (D D' : Dynamic E) (S' : List Item) → Derived E R D → Bag S' S → Step 0 E D S' D' → ⊥
    pub number : (n ≡ 31) ⊎ ((n ≡ 32) ⊎ (n ≡ 33))

  pub next_refused : (R : List (List Item)) (S : List Item) (m : List ℕ) (n c : ℕ) → FiredTo R m → fire_items net m S ≡ refused n c → NextRefused R S n
  next_refused R S m n c e r = record { before = (one_state R m e).some; not_derived = never; number = which (subst (λ k. FireRefused net k S n) (sym l.marked) (fire_refused net m S n c r)) }
    where
      l : LeadsTo E exclusive scopes started R m
      l = reached R m e

      never : (D D' : Dynamic E) (S' : List Item) → Derived E R D → Bag S' S → Step 0 E D S' D' → ⊥
      never D D' S' d b s =
          let fires = subst (λ l. fire_items net l S ≡ good (marking_of D')) ((one_state R m e).marking D d) (derives_fires E exclusive scopes D D' S (in_any_order s b)) in
          good_not_refused (fire_items net m S) (marking_of D') n c fires r

      which : FireRefused net (marking_of l.to) S n → (n ≡ 31) ⊎ ((n ≡ 32) ⊎ (n ≡ 33))
      which (of_31 q) = inl q
      which (of_32 q) = inr (inl q)
      which (of_33 q) = inr (inr q)
      which (of_36 q ts named marked apart two) =
          let d = checked_derives E exclusive scopes l.to S ts named marked apart in
          let fits = subst (λ k. T (all (λ x. leb x 1) k)) d.marked (marking_flat d.to exclusive) in
          absurd (subst T two fits)

  -- At each point so reached every place holds at most one token; when all exit places hold one, no other place does and nothing is enabled.
  pub record SafeAndClean (m : List ℕ) : Type 0 where
    pub safe : T (all (λ x. leb x 1) m)
    pub clean : T (exits_marked (net_of E) m) → m ≡ replicate (net_of E).entries 0 ++ (replicate (net_of E).internals 0 ++ replicate (net_of E).exits 1)
    pub stuck : T (exits_marked (net_of E) m) → enabled_from 0 m net ≡ []

  pub safe_and_clean : (R : List (List Item)) (m : List ℕ) → FiredTo R m → SafeAndClean m
  safe_and_clean R m e = subst SafeAndClean l.marked (record {
    safe = marking_flat l.to exclusive;
    clean = λ h. equal_marking (exits_finished l.to h) ∙ finished_marking E;
    stuck = λ h. none_enabled 0 (marking_of l.to) net (finished_stuck E exclusive scopes l.to (exits_finished l.to h));
  })
    where
      l : LeadsTo E exclusive scopes started R m
      l = reached R m e

  -- The listed transitions are exactly the items that some dynamic expression of the plan derives as a step of one item.
  pub listed_iff_derivable : (t : Item) → ((u : Transition) × Memᴰ u net × (u.item ≡ t)) ↔ ((D : Dynamic E) × (D' : Dynamic E) × Step 0 E D (t ∷ []) D')
  unfolding net_of transition_of
  listed_iff_derivable t = (λ u. (listed_iff 0 E scopes t).0 (to_listed u), λ s. of_listed ((listed_iff 0 E scopes t).1 s))
    where
      to_listed : (u : Transition) × Memᴰ u net × (u.item ≡ t) → Listed 0 E t
      to_listed u = let x = Memᴰ.of_map (transition_of (places 0 E)) (transitions 0 E) u.1 in subst (Listed 0 E) (ap (λ v. v.item) x.2 ∙ u.2) (listed_of 0 E x.0 x.1)

      of_listed : Listed 0 E t → (u : Transition) × Memᴰ u net × (u.item ≡ t)
      of_listed l = let x : Labelled = record { label = l.label; item = t } in (transition_of (places 0 E) x, Memᴰ.map (transition_of (places 0 E)) l.listed, refl)
