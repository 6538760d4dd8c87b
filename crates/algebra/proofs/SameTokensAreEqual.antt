-- The converse of fact 1: two states with the same tokens are ≡. Where two operands meet, some shared place is empty, and then the active operand's
-- tokens can be read off the whole's and are not none; or all are full, and then the state is ≡ the one between the two operands.
use Prim.Native.Nat.{ℕ, ◌+◌, ◌≤◌}
use native.Mathlib.Omega.{arith}
use native.Mathlib.Nat.{eq-zero-or-pos}
use mathlib.Core.Path.{◌≡◌, refl, sym, ◌∙◌, ap, subst}
use mathlib.Core.Logic.{◌⊎◌, inl, inr, ⊎_elim, ⊎_swap}
use Rattle.algebra.specs.Expr.{Expr, action, sequence, choice, parallel, loop, scope}
use Rattle.algebra.specs.Dynamic.{Dynamic, started, finished, sequence_first, sequence_second, choice_first, choice_second, parallel_both, loop_first, loop_body, loop_last, scope_inside, Equal, back, then, in_sequence_first, in_sequence_second, in_choice_first, in_choice_second, in_parallel, in_loop_first, in_loop_body, in_loop_last, in_scope, sequence_goes_on, loop_enters, loop_repeats, loop_leaves}
use Rattle.algebra.proofs.Codes.{Code, El, prod, entry_code, exit_code, Entry, Exit, some_entry, some_exit, search_places}
use Rattle.algebra.proofs.Tokens.{Tokens, none, tokens}
use Rattle.algebra.proofs.Full.{full_exits, full_entries}

-- The tokens of an operand, read off those of the whole at given places of the other operands.
module _ {E F : Expr} where
  abbrev from_sequence_first : Entry F → Tokens (sequence E F) → Tokens E
  from_sequence_first f t = record { entry = t.entry; internal = λ i. t.internal (inl i); exit = λ x. t.internal (inr (inr (x, f))) }

  abbrev from_sequence_second : Exit E → Tokens (sequence E F) → Tokens F
  from_sequence_second x t = record { entry = λ f. t.internal (inr (inr (x, f))); internal = λ i. t.internal (inr (inl i)); exit = t.exit }

  abbrev from_choice_first : Entry F → Exit F → Tokens (choice E F) → Tokens E
  from_choice_first f y t = record { entry = λ e. t.entry (e, f); internal = λ i. t.internal (inl i); exit = λ x. t.exit (x, y) }

  abbrev from_choice_second : Entry E → Exit E → Tokens (choice E F) → Tokens F
  from_choice_second e x t = record { entry = λ f. t.entry (e, f); internal = λ i. t.internal (inr i); exit = λ y. t.exit (x, y) }

  abbrev from_parallel_first : Tokens (parallel E F) → Tokens E
  from_parallel_first t = record { entry = λ e. t.entry (inl e); internal = λ i. t.internal (inl i); exit = λ x. t.exit (inl x) }

  abbrev from_parallel_second : Tokens (parallel E F) → Tokens F
  from_parallel_second t = record { entry = λ e. t.entry (inr e); internal = λ i. t.internal (inr i); exit = λ x. t.exit (inr x) }

-- the places where a loop's three operands meet
abbrev meeting_code : Expr → Expr → Expr → Code
meeting_code E F G = prod (prod (exit_code E) (exit_code F)) (prod (entry_code F) (entry_code G))

abbrev some_meeting : (E F G : Expr) → El (meeting_code E F G)
some_meeting E F G = ((some_exit E, some_exit F), (some_entry F, some_entry G))

module _ {E F G : Expr} where
  abbrev meeting : Tokens (loop E F G) → El (meeting_code E F G) → ℕ
  meeting t p = t.internal (inr (inr (inr p)))

  abbrev from_loop_first : El (meeting_code E F G) → Tokens (loop E F G) → Tokens E
  from_loop_first p t = record { entry = t.entry; internal = λ i. t.internal (inl i); exit = λ x. meeting t ((x, p.0.1), p.1) }

  abbrev from_loop_body : El (meeting_code E F G) → Tokens (loop E F G) → Tokens F
  from_loop_body p t = record { entry = λ f. meeting t (p.0, (f, p.1.1)); internal = λ i. t.internal (inr (inl i)); exit = λ y. meeting t ((p.0.0, y), p.1) }

  abbrev from_loop_last : El (meeting_code E F G) → Tokens (loop E F G) → Tokens G
  from_loop_last p t = record { entry = λ g. meeting t (p.0, (p.1.0, g)); internal = λ i. t.internal (inr (inr (inl i))); exit = t.exit }

abbrev from_scope : {a : ℕ} {E : Expr} → Tokens (scope a E) → Tokens E
from_scope t = record { entry = t.entry; internal = t.internal; exit = t.exit }

-- a loop's body has its exits and entries added where they meet; where one sum is 0, each can be read alone
body_read : {F : Expr} (t : Tokens F) (y : Exit F) (f : Entry F) → t.exit y + t.entry f ≡ 0 → t ≡ record { entry = λ e. t.exit y + t.entry e; internal = t.internal; exit = λ x. t.exit x + t.entry f }
body_read {F} t y f z =
    let a : (e : Entry F) → t.entry e ≡ t.exit y + t.entry e = λ e. omega (arith, z) in
    let b : (x : Exit F) → t.exit x ≡ t.exit x + t.entry f = λ x. omega (arith, z) in
    λ i. record { entry = λ e. a e i; internal = t.internal; exit = λ x. b x i }

abbrev empty : {E : Expr} → Tokens E
empty = record { entry = none; internal = none; exit = none }

-- an operand that is not active reads the one number of a shared place everywhere
only_ends : {E : Expr} {n m : ℕ} → n ≡ 0 → m ≡ 0 → ◌≡◌ {A = Tokens E} (record { entry = λ e. n; internal = none; exit = λ x. m }) empty
only_ends p q = λ i. record { entry = λ e. p i; internal = none; exit = λ x. q i }

-- Every state has a token.
some_token : {E : Expr} (D : Dynamic E) → tokens D ≡ empty → ⊥
unfolding tokens
some_token (started {E = E}) s = omega (arith, ap (λ t. t.entry (some_entry E)) s)
some_token (finished {E = E}) s = omega (arith, ap (λ t. t.exit (some_exit E)) s)
some_token (sequence_first {F = F} D) s = some_token D (ap (from_sequence_first (some_entry F)) s)
some_token (sequence_second {E = E} D) s = some_token D (ap (from_sequence_second (some_exit E)) s)
some_token (choice_first {F = F} D) s = some_token D (ap (from_choice_first (some_entry F) (some_exit F)) s)
some_token (choice_second {E = E} D) s = some_token D (ap (from_choice_second (some_entry E) (some_exit E)) s)
some_token (parallel_both D C) s = some_token D (ap from_parallel_first s)
some_token (loop_first {E = E} {F = F} {G = G} D) s = some_token D (ap (from_loop_first (some_meeting E F G)) s)
some_token (loop_body {E = E} {F = F} {G = G} D) s =
    let p = some_meeting E F G in
    some_token D (body_read (tokens D) (some_exit F) (some_entry F) (ap (λ t. meeting t p) s) ∙ ap (from_loop_body p) s)
some_token (loop_last {E = E} {F = F} {G = G} D) s = some_token D (ap (from_loop_last (some_meeting E F G)) s)
some_token (scope_inside D) s = some_token D (ap from_scope s)

-- The state of a sequence or a loop between two operands is ≡ every state that fills the places where they meet.
abbrev between_code : Expr → Expr → Code
between_code E F = prod (exit_code E) (entry_code F)

middle_of_sequence : {E F : Expr} (D : Dynamic (sequence E F)) → ((p : El (between_code E F)) → 1 ≤ (tokens D).internal (inr (inr p))) → Equal (sequence E F) D (sequence_second started)
unfolding tokens
middle_of_sequence {E} {F} started h = absurd (omega (arith, h (some_exit E, some_entry F)))
middle_of_sequence {E} {F} finished h = absurd (omega (arith, h (some_exit E, some_entry F)))
middle_of_sequence {F = F} (sequence_first D) h = then (in_sequence_first (full_exits D (λ x. h (x, some_entry F)))) sequence_goes_on
middle_of_sequence {E} (sequence_second D) h = in_sequence_second (full_entries D (λ f. h (some_exit E, f)))

full_or_empty : (c : Code) (f : El c → ℕ) → ((k : El c) → 1 ≤ f k) ⊎ ((k : El c) × (f k ≡ 0))
full_or_empty c f = search_places c (λ k. ⊎_swap (eq-zero-or-pos (f k)))

middle_of_loop : {E F G : Expr} (D : Dynamic (loop E F G)) → ((p : El (meeting_code E F G)) → 1 ≤ meeting (tokens D) p) → Equal (loop E F G) D (loop_body started)
unfolding tokens
middle_of_loop {E} {F} {G} started h = absurd (omega (arith, h (some_meeting E F G)))
middle_of_loop {E} {F} {G} finished h = absurd (omega (arith, h (some_meeting E F G)))
middle_of_loop {F = F} {G = G} (loop_first D) h = then (in_loop_first (full_exits D (λ x. h ((x, some_exit F), (some_entry F, some_entry G))))) loop_enters
middle_of_loop {E} {F} {G} (loop_body D) h =
    ⊎_elim (λ k. then (in_loop_body (full_exits D k)) loop_repeats)
    (λ r. in_loop_body (full_entries D (λ f. omega (arith, r.1, h ((some_exit E, r.0), (f, some_entry G))))))
    (full_or_empty (exit_code F) (tokens D).exit)
middle_of_loop {E} {F} (loop_last D) h = then (in_loop_last (full_entries D (λ g. h ((some_exit E, some_exit F), (some_entry F, g))))) (back loop_leaves)

abbrev Meets : (E : Expr) → Dynamic E → Dynamic E → Type 0
Meets E D C = tokens D ≡ tokens C → Equal E D C

-- Of places that only states ≡ M fill, two states with the same tokens fill all, and are ≡, or leave one and the same empty.
unless_empty : {E : Expr} {M : Dynamic E} (c : Code) (at : Tokens E → El c → ℕ) → ((D : Dynamic E) → ((k : El c) → 1 ≤ at (tokens D) k) → Equal E D M)
    → (D C : Dynamic E) → ((k : El c) → at (tokens D) k ≡ 0 → at (tokens C) k ≡ 0 → Meets E D C) → Meets E D C
unless_empty c at m D C f s =
    ⊎_elim (λ h. then (m D h) (back (m C (λ k. subst (λ t. 1 ≤ at t k) s (h k)))))
    (λ r. f r.0 r.1 (subst (λ t. at t r.0 ≡ 0) s r.1) s)
    (full_or_empty c (at (tokens D)))

-- Two states with different active operands: from an empty place where the operands meet, one of them would have no token.
module _ {E F : Expr} where
  first_meets_second : (D : Dynamic E) (C : Dynamic F) → Meets (sequence E F) (sequence_first D) (sequence_second C)
  unfolding tokens
  first_meets_second D C =
      unless_empty (between_code E F) (λ t p. t.internal (inr (inr p))) middle_of_sequence _ _ λ p z w s.
      absurd (some_token D (ap (from_sequence_first p.1) s ∙ only_ends refl w))

  sides_meet : (D : Dynamic E) (C : Dynamic F) → Meets (choice E F) (choice_first D) (choice_second C)
  unfolding tokens
  sides_meet D C =
      unless_empty (entry_code (choice E F)) (λ t. t.entry) full_entries _ _ λ e z w.
      unless_empty (exit_code (choice E F)) (λ t. t.exit) full_exits _ _ λ x z' w' s.
      absurd (some_token D (ap (from_choice_first e.1 x.1) s ∙ only_ends w w'))

module _ {E F G : Expr} where
  unless_meeting_empty : (D C : Dynamic (loop E F G)) → ((p : El (meeting_code E F G)) → meeting (tokens D) p ≡ 0 → meeting (tokens C) p ≡ 0 → Meets (loop E F G) D C) → Meets (loop E F G) D C
  unless_meeting_empty = unless_empty (meeting_code E F G) meeting middle_of_loop

  first_meets : (D : Dynamic E) (C : Dynamic (loop E F G))
      → ((p : El (meeting_code E F G)) → from_loop_first p (tokens C) ≡ record { entry = none; internal = none; exit = λ x. meeting (tokens C) p }) → Meets (loop E F G) (loop_first D) C
  unfolding tokens
  first_meets D C r = unless_meeting_empty _ _ λ p z w s. absurd (some_token D (ap (from_loop_first p) s ∙ r p ∙ only_ends refl w))

  body_meets_last : (D : Dynamic F) (C : Dynamic G) → Meets (loop E F G) (loop_body D) (loop_last C)
  unfolding tokens
  body_meets_last D C = unless_meeting_empty _ _ λ p z w s. absurd (some_token C (ap (from_loop_last p) (sym s) ∙ only_ends z refl))

meets_started : {E : Expr} (D : Dynamic E) → Meets E D started
unfolding tokens
meets_started D s = full_entries D (λ e. omega (arith, ap (λ t. t.entry e) s))

meets_finished : {E : Expr} (D : Dynamic E) → Meets E D finished
unfolding tokens
meets_finished D s = full_exits D (λ x. omega (arith, ap (λ t. t.exit x) s))

-- What is left to show of a state: that it meets those with an active operand.
abbrev Inside : (E : Expr) → (Dynamic E → Type 0) → Type 0
Inside (action l) P = Unit {0}
Inside (sequence E F) P = ((D : Dynamic E) → P (sequence_first D)) × ((D : Dynamic F) → P (sequence_second D))
Inside (choice E F) P = ((D : Dynamic E) → P (choice_first D)) × ((D : Dynamic F) → P (choice_second D))
Inside (parallel E F) P = (D : Dynamic E) (C : Dynamic F) → P (parallel_both D C)
Inside (loop E F G) P = ((D : Dynamic E) → P (loop_first D)) × ((D : Dynamic F) → P (loop_body D)) × ((D : Dynamic G) → P (loop_last D))
Inside (scope a E) P = (D : Dynamic E) → P (scope_inside D)

meets_all : {E : Expr} (D : Dynamic E) → Inside E (Meets E D) → (C : Dynamic E) → Meets E D C
meets_all D f started = meets_started D
meets_all D f finished = meets_finished D
meets_all D f (sequence_first C) = f.0 C
meets_all D f (sequence_second C) = f.1 C
meets_all D f (choice_first C) = f.0 C
meets_all D f (choice_second C) = f.1 C
meets_all D f (parallel_both C C') = f C C'
meets_all D f (loop_first C) = f.0 C
meets_all D f (loop_body C) = f.1 C
meets_all D f (loop_last C) = f.2 C
meets_all D f (scope_inside C) = f C

turned : {E : Expr} {D C : Dynamic E} → Meets E D C → Meets E C D
turned f s = back (f (sym s))

pub tokens_equal : {E : Expr} (D C : Dynamic E) → tokens D ≡ tokens C → Equal E D C
unfolding tokens
tokens_equal started = λ C. turned (meets_started C)
tokens_equal finished = λ C. turned (meets_finished C)
tokens_equal (sequence_first {F = F} D) = meets_all _ (λ C s. in_sequence_first (tokens_equal D C (ap (from_sequence_first (some_entry F)) s)), first_meets_second D)
tokens_equal (sequence_second {E = E} D) =
    meets_all _ (λ C. turned (first_meets_second C D), λ C s. in_sequence_second (tokens_equal D C (ap (from_sequence_second (some_exit E)) s)))
tokens_equal (choice_first {F = F} D) = meets_all _ (λ C s. in_choice_first (tokens_equal D C (ap (from_choice_first (some_entry F) (some_exit F)) s)), sides_meet D)
tokens_equal (choice_second {E = E} D) =
    meets_all _ (λ C. turned (sides_meet C D), λ C s. in_choice_second (tokens_equal D C (ap (from_choice_second (some_entry E) (some_exit E)) s)))
tokens_equal (parallel_both D D') =
    meets_all _ λ C C' s. in_parallel (tokens_equal D C (ap from_parallel_first s)) (tokens_equal D' C' (ap from_parallel_second s))
tokens_equal (loop_first {E = E} {F = F} {G = G} D) =
    meets_all _ (
      λ C s. in_loop_first (tokens_equal D C (ap (from_loop_first (some_meeting E F G)) s)),
      λ C. first_meets D (loop_body C) (λ p. refl),
      λ C. first_meets D (loop_last C) (λ p. refl),
    )
tokens_equal (loop_body D) =
    meets_all _ (
      λ C. turned (first_meets C (loop_body D) (λ p. refl)),
      λ C. unless_meeting_empty _ _ λ p z w s.
          in_loop_body (tokens_equal D C (body_read (tokens D) p.0.1 p.1.0 z ∙ ap (from_loop_body p) s ∙ sym (body_read (tokens C) p.0.1 p.1.0 w))),
      body_meets_last D,
    )
tokens_equal (loop_last {E = E} {F = F} {G = G} D) =
    meets_all _ (
      λ C. turned (first_meets C (loop_last D) (λ p. refl)),
      λ C. turned (body_meets_last C D),
      λ C s. in_loop_last (tokens_equal D C (ap (from_loop_last (some_meeting E F G)) s)),
    )
tokens_equal (scope_inside D) = meets_all _ λ C s. in_scope (tokens_equal D C (ap from_scope s))
