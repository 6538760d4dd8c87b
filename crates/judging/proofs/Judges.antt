-- The judgement as far as 12, from what the reader, the check for loops, the counts and the list of transitions say of one expression.
-- True by cases on each test: the first refusal is the answer. What is left of the compile call's judgement is the test of the arcs.
use Prim.Native.Nat.{ℕ, ◌+◌, ◌*◌, ◌≤◌, ◌<◌}
use native.Mathlib.Omega.{arith}
use mathlib.Core.Path.{◌≡◌, refl, sym, ◌∙◌, ap, ap₂, subst}
use mathlib.Core.List.{List, ◌++◌}
use mathlib.Core.Bool.{Bool, true, false}
use lib.ListN.{length, get_or, take, drop}
use lib.Seq.{take_at, take-take}
use lib.Dec.{T, leb}
use borrow.Author.Tests.{leb-true, leb-false}
use Rattle.field.specs.Limits.{plan_limit, place_limit, transition_limit}
use Rattle.field.specs.Refusals.{too_many_places, too_many_transitions}
use Rattle.std.specs.Prelude.{Result, Ok, Err}
use Rattle.field.specs.Says.{says, number_of}
use Rattle.field.specs.declared.Refusal.{Refusal}
use Rattle.field.specs.declared.Fault.TheVariants.{TooManyPlaces}
use Rattle.field.specs.Answer.{Answer, good, refused, ◌>>=◌, ◌>>◌, check}
use Rattle.field.proofs.Answers.{good_not_refused, good_same, bind_good}
use Rattle.algebra.specs.Expr.{Expr, action, sequence, choice, parallel, loop, scope, actions}
use Rattle.algebra.specs.Transitions.{transitions}
use Rattle.plan.specs.Reading.{read_plan}
use Rattle.plan.specs.Loops.{bytes, check_loops}
use Rattle.plan.specs.Bytes.{named}
use Rattle.plan.specs.inner.Nodes.{node_count, node_table, sizes_of}
use Rattle.plan.specs.inner.Says.{sizes_told as read_told, read_sizes, RowsAre}
use Rattle.plan.specs.declared.Sizes as read
use Rattle.plan.specs.inner.Table.{Table, values}
use Rattle.plan.proofs.NodeTable.{rows_length}
use Rattle.plan.proofs.Exact.{read_within, read_length}
use Rattle.plan.proofs.Within.{limits_within}
use Rattle.plan.proofs.ReadBack.{encode_length}
use Rattle.boxes.specs.Counts.{cut, entry_count, internal_count, exit_count, places_cut_off, check_size}
use Rattle.boxes.specs.inner.NodeCounts.{box_counts, node_counts}
use Rattle.boxes.specs.Compile.{accept}
use Rattle.transitions.specs.inner.Numbers.{flat, too_many}
use Rattle.judging.specs.inner.Judged.{check_places, check_transitions, check_arcs, judge, judged}
use Rattle.judging.specs.inner.Ready.{sizes_told, ready_sizes, ready, ListIsOf, CountsAreOf, TableIsOf, TablesAre, Fine}
use Rattle.judging.specs.declared.front.Ready.{Ready}

-- A test of a count that is cut off is the test of the count.
pub leb_cut : (limit n : ℕ) → leb (cut limit n) limit ≡ leb n limit
leb_cut limit n = go (leb (cut limit n) limit) (leb n limit) refl refl
  where
    go : (a b : Bool) → leb (cut limit n) limit ≡ a → leb n limit ≡ b → a ≡ b
    go true true e f = refl
    go false false e f = refl
    go true false e f = absurd (omega (arith, leb-true (cut limit n) limit e, leb-false n limit f))
    go false true e f = absurd (omega (arith, leb-false (cut limit n) limit e, leb-true n limit f))

pub leb_is_true : {n limit : ℕ} → n ≤ limit → leb n limit ≡ true
leb_is_true {n} {limit} h = go (leb n limit) refl
  where
    go : (b : Bool) → leb n limit ≡ b → b ≡ true
    go true e = refl
    go false e = absurd (omega (arith, leb-false n limit e))

pub leb_is_false : {n limit : ℕ} → limit < n → leb n limit ≡ false
leb_is_false {n} {limit} h = go (leb n limit) refl
  where
    go : (b : Bool) → leb n limit ≡ b → b ≡ false
    go false e = refl
    go true e = absurd (omega (arith, leb-true n limit e))

-- 12, by the number of transitions.
transitions_few : (E : Expr) → length (transitions 0 E) ≤ transition_limit → check_transitions E ≡ good tt
unfolding check_transitions
transitions_few E h = ap (λ b. check b too_many_transitions 0) (leb_cut transition_limit (length (transitions 0 E)) ∙ leb_is_true h)

transitions_many : (E : Expr) → transition_limit < length (transitions 0 E) → check_transitions E ≡ refused too_many_transitions 0
unfolding check_transitions
transitions_many E h = ap (λ b. check b too_many_transitions 0) (leb_cut transition_limit (length (transitions 0 E)) ∙ leb_is_false h)

refused_not_ready : {A : Type 0} {e : Refusal} {sizes : Ready} → ◌≡◌ {A = Result Ready Refusal} (Err e) (Ok sizes) → A
refused_not_ready e = absurd (let z : ◌≡◌ {A = ℕ} 0 1 = cc in omega arith)

-- The counts of the whole plan stand first.
pub counts_first : (E : Expr) (l : List ℕ) → (get_or (node_counts E ++ l) 0 0 ≡ entry_count E) × (get_or (node_counts E ++ l) 1 0 ≡ internal_count E) × (get_or (node_counts E ++ l) 2 0 ≡ exit_count E)
unfolding node_counts values box_counts
counts_first (action a) l = (refl, refl, refl)
counts_first (sequence E F) l = (refl, refl, refl)
counts_first (choice E F) l = (refl, refl, refl)
counts_first (parallel E F) l = (refl, refl, refl)
counts_first (loop E F G) l = (refl, refl, refl)
counts_first (scope a E) l = (refl, refl, refl)

-- 11, by the counts of the whole plan.
abbrev pub fits : List ℕ → Bool
fits counts = leb (get_or counts 0 0 + (get_or counts 1 0 + get_or counts 2 0)) place_limit

places_by : (E : Expr) (l : List ℕ) {counts : List ℕ} → counts ≡ node_counts E ++ l → check_places E ≡ check (fits counts) too_many_places 0
unfolding check_places places_cut_off
places_by E l {counts} e =
    let (a, b, d) = counts_first E l in
    let s : entry_count E + (internal_count E + exit_count E) ≡ get_or counts 0 0 + (get_or counts 1 0 + get_or counts 2 0) =
    omega (arith, a, b, d, ap (λ t. get_or t 0 0) e, ap (λ t. get_or t 1 0) e, ap (λ t. get_or t 2 0) e) in
    ap (λ b. check b too_many_places 0) (leb_cut place_limit (entry_count E + (internal_count E + exit_count E)) ∙ ap (λ n. leb n place_limit) s)

-- 10, 11, 12 in turn.
judge_by : (E : Expr) {l p : Answer (Unit {0})} → check_loops E ≡ l → check_places E ≡ p → judge E ≡ (l >> (p >> (check_transitions E >> good E)))
unfolding judge
judge_by E e f = ap₂ (λ l p. l >> (p >> (check_transitions E >> good E))) e f

judge_same : (E F : Expr) → judge E ≡ good F → E ≡ F
unfolding judge
judge_same E F e =
    let (u, _, f) = bind_good (check_loops E) _ F e in
    let (v, _, g) = bind_good (check_places E) _ F f in
    let (w, _, h) = bind_good (check_transitions E) _ F g in
    good_same E F h

-- A refusal of one of the tests.
stops : (E : Expr) (e : Refusal) (counts counts' list' : List ℕ) → judge E ≡ refused (number_of e.fault) e.carried → Fine E (Err e) counts counts' list'
stops E e counts counts' list' j = record { told = ap (λ r. r >>= λ F. good (ready_sizes F)) (sym j); written = λ sizes g. refused_not_ready g }

pub loops_stop : (E : Expr) (e : Refusal) (counts counts' list' : List ℕ) → refused (number_of e.fault) e.carried ≡ check_loops E → Fine E (Err e) counts counts' list'
loops_stop E e counts counts' list' h = stops E e counts counts' list' (judge_by E (sym h) refl)

module _ (E : Expr) (nodes : ℕ) (counts counts' list' : List ℕ) (loops : good tt ≡ check_loops E) (count : nodes ≡ node_count E)
    (counted : counts' ≡ node_counts E ++ drop (3 * nodes) counts) where
  pub places_stop : (e : Refusal) → e ≡ record { fault = TooManyPlaces; carried = 0 } → fits counts' ≡ false → Fine E (Err e) counts counts' list'
  places_stop e is f =
      stops E e counts counts' list'
      (judge_by E (sym loops) (places_by E (drop (3 * nodes) counts) counted ∙ ap (λ b. check b too_many_places 0) f)
      ∙ ap (λ e. refused (number_of e.fault) e.carried) (sym is))

  judged_last : fits counts' ≡ true → judge E ≡ (check_transitions E >> good E)
  judged_last f = judge_by E (sym loops) (places_by E (drop (3 * nodes) counts) counted ∙ ap (λ b. check b too_many_places 0) f)

  pub transitions_stop : fits counts' ≡ true → (e : Refusal) → e ≡ too_many → transition_limit < length (transitions 0 E) → Fine E (Err e) counts counts' list'
  transitions_stop f e is h =
      stops E e counts counts' list'
      (judged_last f ∙ ap (λ r. r >> good E) (transitions_many E h) ∙ ap (λ e. refused (number_of e.fault) e.carried) (sym is))

  pub all_fine : fits counts' ≡ true → (n : ℕ) → n ≤ transition_limit → (n ≡ length (transitions 0 E)) × (take (3 * n) list' ≡ flat (transitions 0 E))
      → Fine E (Ok (record { nodes = nodes; transitions = n })) counts counts' list'
  unfolding ready_sizes
  all_fine f n few m =
      let j : judge E ≡ good E = judged_last f ∙ ap (λ r. r >> good E) (transitions_few E (omega (arith, m.0))) in
      record {
        told = (λ i. good (record { nodes = count i; transitions = m.0 i })) ∙ ap (λ r. r >>= λ F. good (ready_sizes F)) (sym j);
        written = λ _ _. (counted ∙ ap (λ n. node_counts E ++ drop (3 * n) counts) count, ap (λ k. take (3 * k) list') (sym m.0) ∙ m.1);
      }

-- A field takes 3 bytes at least.
pub bytes_of_nodes : (E : Expr) → 3 * node_count E ≤ bytes E
unfolding node_count bytes
bytes_of_nodes (action l) = omega arith
bytes_of_nodes (sequence E F) = omega (arith, bytes_of_nodes E, bytes_of_nodes F)
bytes_of_nodes (choice E F) = omega (arith, bytes_of_nodes E, bytes_of_nodes F)
bytes_of_nodes (parallel E F) = omega (arith, bytes_of_nodes E, bytes_of_nodes F)
bytes_of_nodes (loop E F G) = omega (arith, bytes_of_nodes E, bytes_of_nodes F, bytes_of_nodes G)
bytes_of_nodes (scope a E) = omega (arith, bytes_of_nodes E)

-- What is known of a plan that was read.
pub record IsRead (plan : List ℕ) (nodes : ℕ) (table table' : List ℕ) : Type 0 where
  pub expr : Expr
  pub read : read_plan plan ≡ good expr
  pub holds : Table (take (6 * nodes) table') nodes expr
  pub few : actions expr ≤ 256
  pub labelled : T (named expr)
  pub room : nodes ≤ 1366
  pub short : length plan ≤ plan_limit
  pub three_bytes : 3 * nodes ≤ length plan
  pub rows : TableIsOf expr table table'

pub is_read : (plan : List ℕ) (sizes : read.Sizes) (table table' : List ℕ) (r : Result read.Sizes Refusal) → says read_told r ≡ read_sizes plan → RowsAre (read_plan plan) table table'
    → r ≡ Ok sizes → IsRead plan sizes.nodes table table'
unfolding sizes_of node_table
is_read plan sizes table table' r s w e = go (read_plan plan) refl (sym (ap (says read_told) e) ∙ s) w
  where
    go : (a : Answer Expr) → read_plan plan ≡ a → good (read_told sizes) ≡ (a >>= λ E. good (sizes_of E)) → RowsAre a table table' → IsRead plan sizes.nodes table table'
    go (refused n c) p f w = good_not_refused _ _ n c (sym f) refl
    go (good E) p f w =
        let b = limits_within E (read_within plan E p) in
        let d : sizes.nodes ≡ node_count E = ap (λ z. z.nodes) (good_same _ _ f) in
        record {
          expr = E;
          read = p;
          holds = record { nodes = d; rows_of = take-take (6 * sizes.nodes) (6 * sizes.nodes) table' (omega arith) ∙ ap (take (6 * sizes.nodes)) w ∙ take_at (node_table E) (drop (6 * node_count E) table) (6 * sizes.nodes) (omega (arith, rows_length 0 0 0 E)) };
          few = b.few;
          labelled = b.labelled;
          room = omega (arith, bytes_of_nodes E, encode_length E, b.short);
          short = omega (arith, read_length plan E p, encode_length E, b.short);
          three_bytes = omega (arith, bytes_of_nodes E, read_length plan E p);
          rows = w;
        }

-- The judgement of a plan that is refused as it is read, and of one that is read.
pub unread : (plan : List ℕ) (e : Refusal) (r : Result read.Sizes Refusal) → says read_told r ≡ read_sizes plan → r ≡ Err e → refused (number_of e.fault) e.carried ≡ ready plan
unfolding judged
unread plan e r s is = go (read_plan plan) (sym (ap (says read_told) is) ∙ s)
  where
    go : (a : Answer Expr) → refused (number_of e.fault) e.carried ≡ (a >>= λ E. good (sizes_of E)) → refused (number_of e.fault) e.carried ≡ ((a >>= judge) >>= λ E. good (ready_sizes E))
    go (good E) f = good_not_refused _ _ (number_of e.fault) e.carried refl (sym f)
    go (refused m d) f = let p : number_of e.fault ≡ m = cc in let q : e.carried ≡ d = cc in λ i. refused (p i) (q i)

module _ (plan : List ℕ) (nodes : ℕ) (table table' counts counts' list' : List ℕ) (w : IsRead plan nodes table table') where
  pub front_answer : (r : Result Ready Refusal) → Fine w.expr r counts counts' list' → says sizes_told r ≡ ready plan
  unfolding judged
  front_answer r fine = fine.told ∙ ap (λ a. (a >>= judge) >>= λ E. good (ready_sizes E)) (sym w.read)

  ready_tables : (sizes : Ready) → Fine w.expr (Ok sizes) counts counts' list' → (a : Answer Expr) → judge w.expr ≡ a → TablesAre (Ok sizes) a table table' counts counts' list'
  ready_tables sizes fine (refused k c) e = tt
  ready_tables sizes fine (good F) e =
      let d : w.expr ≡ F = judge_same w.expr F e in
      let (x, y) = fine.written sizes refl in
      subst (λ E. TableIsOf E table table' × CountsAreOf E counts counts' × ListIsOf E list') d (w.rows, x, y)

  pub front_tables : (r : Result Ready Refusal) → Fine w.expr r counts counts' list' → TablesAre r (judged plan) table table' counts counts' list'
  unfolding judged
  front_tables (Err e) fine = tt
  front_tables (Ok sizes) fine =
      subst (λ a. TablesAre (Ok sizes) (a >>= judge) table table' counts counts' list') (sym w.read) (ready_tables sizes fine (judge w.expr) refl)

-- What is left of the compile call's judgement: the test of the arcs.
in_turn : (l p t : Answer (Unit {0})) (arcs : Expr → Answer (Unit {0})) (E : Expr)
    → (l >> ((p >> (t >> arcs E)) >> good E)) ≡ ((l >> (p >> (t >> good E))) >>= λ F. arcs F >> good F)
in_turn (good _) (good _) (good _) arcs E = refl
in_turn (good _) (good _) (refused n c) arcs E = refl
in_turn (good _) (refused n c) t arcs E = refl
in_turn (refused n c) p t arcs E = refl

pub accept_judged : (plan : List ℕ) → accept plan ≡ (judged plan >>= λ E. check_arcs E >> good E)
unfolding accept judged judge check_places check_transitions check_arcs check_size
accept_judged plan = go (read_plan plan)
  where
    go : (a : Answer Expr) → (a >>= λ E. check_loops E >> (check_size E >> good E)) ≡ ((a >>= judge) >>= λ E. check_arcs E >> good E)
    go (good E) = in_turn (check_loops E) (check_places E) (check_transitions E) check_arcs E
    go (refused n c) = refl
