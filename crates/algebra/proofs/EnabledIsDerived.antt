-- Fact 7: what the tokens allow is a step. Where a step moves in an operand that is not active, that operand's internal places are empty,
-- so the step takes from one of its entries; then all parts that are joined with that entry hold a token, so the active operand is finished
-- (of a choice: started), takes nothing, and by ≡ the other operand is the active one. Else it is the active operand alone that moves.
use Prim.Native.Nat.{ℕ, ◌+◌, ◌≤◌}
use native.Mathlib.Nat.{eq-zero-or-pos}
use native.Mathlib.Omega.{arith}
use mathlib.Core.Path.{◌≡◌, ap}
use mathlib.Core.Logic.{inl, inr, ⊎_elim, ⊎_swap}
use Rattle.algebra.specs.Expr.{Expr, action, sequence, choice, parallel, loop, scope, actions}
use Rattle.algebra.specs.Dynamic.{Dynamic, started, finished, sequence_first, sequence_second, choice_first, choice_second, parallel_both, loop_first, loop_body, loop_last, scope_inside, Equal, same, back, then, in_sequence_first, in_choice_first, in_choice_second, in_loop_first, in_loop_body, in_loop_last, sequence_starts, sequence_goes_on, sequence_finishes, choice_starts_first, choice_starts_second, choice_first_finishes, parallel_starts, parallel_finishes, loop_starts, loop_enters, loop_repeats, loop_leaves, loop_finishes, scope_starts, scope_finishes}
use Rattle.algebra.proofs.Codes.{Entry, Internal, exit_code, some_entry, some_exit, search_places}
use Rattle.algebra.proofs.Tokens.{tokens}
use Rattle.algebra.proofs.EqualKeepsTokens.{equal_tokens}
use Rattle.algebra.proofs.Full.{full_entries, full_exits}
use Rattle.algebra.proofs.PlaceNames.{entry_name, internal_name}
use Rattle.algebra.proofs.Flows.{taken, Quiet}
use Rattle.algebra.proofs.FlatSteps.{Flat, flat_idle, flat_acts, flat_sequence_first, flat_sequence_second, flat_choice_first, flat_choice_second, flat_parallel, flat_loop_first, flat_loop_body, flat_loop_last, flat_scope, flat_equal}
use Rattle.algebra.proofs.FindsAnInput.{finds_entry, finds_none}

-- every place that the step takes from holds enough
pub record Enabled (A : ℕ → ℕ) (n : ℕ) (E : Expr) (D : Dynamic E) : Type 0 where
  pub on_entry : (e : Entry E) → taken A (entry_name n E e) ≤ (tokens D).entry e
  pub on_internal : (i : Internal E) → taken A (internal_name n E i) ≤ (tokens D).internal i

-- what is enabled moves, and does from every state
abbrev Derives : (A : ℕ → ℕ) (n : ℕ) (E : Expr) → Dynamic E → Type 0
Derives A n E D = Enabled A n E D → (D' : Dynamic E) × Flat A n E D D'

abbrev Complete : (A : ℕ → ℕ) (n : ℕ) (E : Expr) → Type 0
Complete A n E = (D : Dynamic E) → Derives A n E D

-- to go on from a state that is ≡
via : {A : ℕ → ℕ} {n : ℕ} {E : Expr} {D D' : Dynamic E} → Equal E D D' → Derives A n E D' → Derives A n E D
via p f h =
    let m = f (record { on_entry = λ e. omega (arith, ap (λ t. t.entry e) (equal_tokens p), h.on_entry e); on_internal = λ i. omega (arith, ap (λ t. t.internal i) (equal_tokens p), h.on_internal i) }) in
    (m.0, flat_equal p m.1 same)

action_moves : {A : ℕ → ℕ} {n : ℕ} (l : ℕ) → Complete A n (action l)
unfolding tokens taken entry_name
action_moves {A} {n} l D h =
    finds_entry A n (action l) (λ i. absurd i) (λ q. (D, flat_idle q))
    (λ e t. via (full_entries D (λ e. omega (arith, h.on_entry tt))) (λ k. (finished, flat_acts (omega (arith, k.on_entry tt)))) h)

module _ {A : ℕ → ℕ} {n : ℕ} {E F : Expr} (first : Complete A n E) (second : Complete A (n + actions E) F) where
  second_of_sequence_moves : (D : Dynamic F) → Derives A n (sequence E F) (sequence_second D)
  unfolding tokens taken entry_name internal_name
  second_of_sequence_moves D h =
      let m = second D (record { on_entry = λ f. h.on_internal (inr (inr (some_exit E, f))); on_internal = λ i. h.on_internal (inr (inl i)) }) in
      (sequence_second m.0, flat_sequence_second (finds_none A n E h.on_entry (λ i. h.on_internal (inl i))) m.1)

  first_of_sequence_moves : (D : Dynamic E) → Derives A n (sequence E F) (sequence_first D)
  unfolding tokens taken entry_name internal_name
  first_of_sequence_moves D h =
      finds_entry A (n + actions E) F (λ i. h.on_internal (inr (inl i)))
      (λ q. let m = first D (record { on_entry = h.on_entry; on_internal = λ i. h.on_internal (inl i) }) in (sequence_first m.0, flat_sequence_first q m.1))
      (λ f t. via (then (in_sequence_first (full_exits D (λ x. omega (arith, h.on_internal (inr (inr (x, f))))))) sequence_goes_on) (second_of_sequence_moves started) h)

  sequence_moves : Complete A n (sequence E F)
  sequence_moves started h = via sequence_starts (first_of_sequence_moves started) h
  sequence_moves finished h = via (back sequence_finishes) (second_of_sequence_moves finished) h
  sequence_moves (sequence_first D) h = first_of_sequence_moves D h
  sequence_moves (sequence_second D) h = second_of_sequence_moves D h

  -- A side that moves alone, as the other is quiet.
  first_of_choice_alone : (D : Dynamic E) → Quiet (n + actions E) (actions F) A → Derives A n (choice E F) (choice_first D)
  unfolding tokens taken entry_name internal_name
  first_of_choice_alone D q h =
      let m = first D (record { on_entry = λ e. omega (arith, h.on_entry (e, some_entry F)); on_internal = λ i. h.on_internal (inl i) }) in
      (choice_first m.0, flat_choice_first q m.1)

  second_of_choice_alone : (D : Dynamic F) → Quiet n (actions E) A → Derives A n (choice E F) (choice_second D)
  unfolding tokens taken entry_name internal_name
  second_of_choice_alone D q h =
      let m = second D (record { on_entry = λ f. omega (arith, h.on_entry (some_entry E, f)); on_internal = λ i. h.on_internal (inr i) }) in
      (choice_second m.0, flat_choice_second q m.1)

  -- A started choice moves on either side; a side that does not move alone is started.
  started_choice_moves : Derives A n (choice E F) started
  unfolding tokens taken entry_name internal_name
  started_choice_moves h =
      finds_entry A n E (λ i. h.on_internal (inl i)) (λ q. via choice_starts_second (second_of_choice_alone started q) h)
      (λ e t. via choice_starts_first (first_of_choice_alone started (finds_none A (n + actions E) F (λ f. omega (arith, h.on_entry (e, f))) (λ i. h.on_internal (inr i)))) h)

  first_of_choice_moves : (D : Dynamic E) → Derives A n (choice E F) (choice_first D)
  unfolding tokens taken entry_name internal_name
  first_of_choice_moves D h =
      finds_entry A (n + actions E) F (λ i. h.on_internal (inr i)) (λ q. first_of_choice_alone D q h)
      (λ f t. via (then (in_choice_first (full_entries D (λ e. omega (arith, h.on_entry (e, f))))) (back choice_starts_first)) started_choice_moves h)

  second_of_choice_moves : (D : Dynamic F) → Derives A n (choice E F) (choice_second D)
  unfolding tokens taken entry_name internal_name
  second_of_choice_moves D h =
      finds_entry A n E (λ i. h.on_internal (inl i)) (λ q. second_of_choice_alone D q h)
      (λ e t. via (then (in_choice_second (full_entries D (λ f. omega (arith, h.on_entry (e, f))))) (back choice_starts_second)) started_choice_moves h)

  choice_moves : Complete A n (choice E F)
  choice_moves started h = started_choice_moves h
  choice_moves finished h = via (back choice_first_finishes) (first_of_choice_moves finished) h
  choice_moves (choice_first D) h = first_of_choice_moves D h
  choice_moves (choice_second D) h = second_of_choice_moves D h

  both_of_parallel_move : (D : Dynamic E) (C : Dynamic F) → Derives A n (parallel E F) (parallel_both D C)
  unfolding tokens taken entry_name internal_name
  both_of_parallel_move D C h =
      let m = first D (record { on_entry = λ e. h.on_entry (inl e); on_internal = λ i. h.on_internal (inl i) }) in
      let k = second C (record { on_entry = λ e. h.on_entry (inr e); on_internal = λ i. h.on_internal (inr i) }) in
      (parallel_both m.0 k.0, flat_parallel m.1 k.1)

  parallel_moves : Complete A n (parallel E F)
  parallel_moves started h = via parallel_starts (both_of_parallel_move started started) h
  parallel_moves finished h = via (back parallel_finishes) (both_of_parallel_move finished finished) h
  parallel_moves (parallel_both D C) h = both_of_parallel_move D C h

module _ {A : ℕ → ℕ} {n : ℕ} {E F G : Expr} (first : Complete A n E) (body : Complete A (n + actions E) F) (last : Complete A (n + actions E + actions F) G) where
  -- The body and the last operand alone, as the other two are quiet; the first is, for nothing that it takes holds a token.
  body_of_loop_alone : (D : Dynamic F) → Quiet (n + actions E + actions F) (actions G) A → ((f : Entry F) → taken A (entry_name (n + actions E) F f) ≤ (tokens D).entry f)
      → Derives A n (loop E F G) (loop_body D)
  unfolding tokens taken entry_name internal_name
  body_of_loop_alone D r entries h =
      let m = body D (record { on_entry = entries; on_internal = λ i. h.on_internal (inr (inl i)) }) in
      (loop_body m.0, flat_loop_body (finds_none A n E h.on_entry (λ i. h.on_internal (inl i))) r m.1)

  last_of_loop_alone : (D : Dynamic G) → Quiet (n + actions E) (actions F) A → Derives A n (loop E F G) (loop_last D)
  unfolding tokens taken entry_name internal_name
  last_of_loop_alone D r h =
      let entries : (g : Entry G) → taken A (entry_name (n + actions E + actions F) G g) ≤ (tokens D).entry g = λ g. omega (arith, h.on_internal (inr (inr (inr ((some_exit E, some_exit F), (some_entry F, g)))))) in
      let m = last D (record { on_entry = entries; on_internal = λ i. h.on_internal (inr (inr (inl i))) }) in
      (loop_last m.0, flat_loop_last (finds_none A n E h.on_entry (λ i. h.on_internal (inl i))) r m.1)

  -- The one state of finished E, finished F, started F and started G.
  middle_of_loop_moves : Derives A n (loop E F G) (loop_body started)
  unfolding tokens taken entry_name internal_name
  middle_of_loop_moves h =
      let at : (f : Entry F) (g : Entry G) → taken A (entry_name (n + actions E) F f) + taken A (entry_name (n + actions E + actions F) G g) ≤ 1
      = λ f g. h.on_internal (inr (inr (inr ((some_exit E, some_exit F), (f, g))))) in
      finds_entry A (n + actions E) F (λ i. h.on_internal (inr (inl i))) (λ q. via loop_leaves (last_of_loop_alone started q) h)
      (λ f t. body_of_loop_alone started (finds_none A (n + actions E + actions F) G (λ g. omega (arith, at f g)) (λ i. h.on_internal (inr (inr (inl i))))) (λ e. omega (arith, at e (some_entry G))) h)

  first_of_loop_moves : (D : Dynamic E) → Derives A n (loop E F G) (loop_first D)
  unfolding tokens taken entry_name internal_name
  first_of_loop_moves D h =
      let go_on : (f : Entry F) (g : Entry G) → 1 ≤ taken A (entry_name (n + actions E) F f) + taken A (entry_name (n + actions E + actions F) G g) → Derives A n (loop E F G) (loop_first D)
      = λ f g t. via (then (in_loop_first (full_exits D (λ x. omega (arith, h.on_internal (inr (inr (inr ((x, some_exit F), (f, g))))))))) loop_enters) middle_of_loop_moves in
      finds_entry A (n + actions E) F (λ i. h.on_internal (inr (inl i)))
      (λ q. finds_entry A (n + actions E + actions F) G (λ i. h.on_internal (inr (inr (inl i))))
      (λ r. let m = first D (record { on_entry = h.on_entry; on_internal = λ i. h.on_internal (inl i) }) in (loop_first m.0, flat_loop_first q r m.1))
      (λ g t. go_on (some_entry F) g (omega arith) h))
      (λ f t. go_on f (some_entry G) (omega arith) h)

  -- Where all exits of the body hold a token it is finished; one that holds none leaves all that is taken to the entries.
  body_of_loop_moves : (D : Dynamic F) → Derives A n (loop E F G) (loop_body D)
  unfolding tokens taken entry_name internal_name
  body_of_loop_moves D h =
      ⊎_elim (λ full. via (then (in_loop_body (full_exits D full)) loop_repeats) middle_of_loop_moves h)
      (λ y.
      let at : (f : Entry F) (g : Entry G) → taken A (entry_name (n + actions E) F f) + taken A (entry_name (n + actions E + actions F) G g) ≤ (tokens D).entry f
      = λ f g. omega (arith, y.1, h.on_internal (inr (inr (inr ((some_exit E, y.0), (f, g)))))) in
      finds_entry A (n + actions E + actions F) G (λ i. h.on_internal (inr (inr (inl i)))) (λ q. body_of_loop_alone D q (λ f. omega (arith, at f (some_entry G))) h)
      (λ g t. via (in_loop_body (full_entries D (λ f. omega (arith, at f g)))) middle_of_loop_moves h))
      (search_places (exit_code F) {P = λ y. 1 ≤ (tokens D).exit y} {Q = λ y. (tokens D).exit y ≡ 0} (λ y. ⊎_swap (eq-zero-or-pos ((tokens D).exit y))))

  last_of_loop_moves : (D : Dynamic G) → Derives A n (loop E F G) (loop_last D)
  unfolding tokens taken entry_name internal_name
  last_of_loop_moves D h =
      finds_entry A (n + actions E) F (λ i. h.on_internal (inr (inl i))) (λ q. last_of_loop_alone D q h)
      (λ f t. via (then (in_loop_last (full_entries D (λ g. omega (arith, h.on_internal (inr (inr (inr ((some_exit E, some_exit F), (f, g))))))))) (back loop_leaves)) middle_of_loop_moves h)

  loop_moves : Complete A n (loop E F G)
  loop_moves started h = via loop_starts (first_of_loop_moves started) h
  loop_moves finished h = via (back loop_finishes) (last_of_loop_moves finished) h
  loop_moves (loop_first D) h = first_of_loop_moves D h
  loop_moves (loop_body D) h = body_of_loop_moves D h
  loop_moves (loop_last D) h = last_of_loop_moves D h

module _ {A : ℕ → ℕ} {n a : ℕ} {E : Expr} (inside : Complete A n E) where
  inside_scope_moves : (D : Dynamic E) → Derives A n (scope a E) (scope_inside D)
  unfolding tokens taken entry_name internal_name
  inside_scope_moves D h = let m = inside D (record { on_entry = h.on_entry; on_internal = h.on_internal }) in (scope_inside m.0, flat_scope m.1)

  scope_moves : Complete A n (scope a E)
  scope_moves started h = via scope_starts (inside_scope_moves started) h
  scope_moves finished h = via (back scope_finishes) (inside_scope_moves finished) h
  scope_moves (scope_inside D) h = inside_scope_moves D h

-- a loop's body need not be exclusive here
pub enabled_flat : (E : Expr) (n : ℕ) (A : ℕ → ℕ) (D : Dynamic E) → Enabled A n E D → (D' : Dynamic E) × Flat A n E D D'
enabled_flat (action l) n A D h = action_moves l D h
enabled_flat (sequence E F) n A D h = sequence_moves (enabled_flat E n A) (enabled_flat F (n + actions E) A) D h
enabled_flat (choice E F) n A D h = choice_moves (enabled_flat E n A) (enabled_flat F (n + actions E) A) D h
enabled_flat (parallel E F) n A D h = parallel_moves (enabled_flat E n A) (enabled_flat F (n + actions E) A) D h
enabled_flat (loop E F G) n A D h = loop_moves (enabled_flat E n A) (enabled_flat F (n + actions E) A) (enabled_flat G (n + actions E + actions F) A) D h
enabled_flat (scope a E) n A D h = scope_moves (enabled_flat E n A) D h
