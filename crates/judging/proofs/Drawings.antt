-- What the judgement leaves is what writing asks: the work tables are the plan's, each action's places are told, and the counts told are the net's.
-- True because the list that is left is the plan's transitions, and the pass over the nodes tells of every action of the plan.
use Prim.Native.Nat.{ℕ, zero, suc, ◌+◌, ◌*◌, ◌≤◌, ◌<◌}
use native.Mathlib.Omega.{arith}
use mathlib.Core.Path.{◌≡◌, refl, sym, ◌∙◌, ap, ap₂, subst}
use mathlib.Core.Bool.{Bool, true, false}
use mathlib.Core.List.{List, [], ◌∷◌, Memᴰ}
use lib.ListN.{length, get_or, take, drop, length-map, length-take}
use lib.Seq.{take_at, take-take}
use lib.Dec.{leb}
use borrow.Author.Tests.{leb-true}
use Rattle.field.specs.Limits.{plan_limit, place_limit, transition_limit, arc_limit}
use Rattle.field.specs.Refusals.{too_many_places, too_many_transitions, too_many_arcs}
use Rattle.std.specs.Prelude.{Result, Ok, Err}
use Rattle.field.specs.Says.{says, number_of}
use Rattle.field.specs.declared.Refusal.{Refusal}
use Rattle.field.specs.Answer.{Answer, good, refused, ◌>>=◌, ◌>>◌, check}
use Rattle.field.proofs.Answers.{good_not_refused, good_same, bind_good}
use Rattle.algebra.specs.Expr.{Expr, actions}
use Rattle.algebra.specs.Exclusive.{LoopsExclusive}
use Rattle.algebra.specs.Scopes.{ScopesNamed}
use Rattle.algebra.specs.Item.{Item, one, two, first}
use Rattle.algebra.specs.Places.{places}
use Rattle.algebra.specs.Transitions.{Labelled, transitions}
use Rattle.algebra.specs.Arcs.{transition_of, net_of}
use Rattle.algebra.proofs.EveryStepHasAnInput.{InRange, items_in_range}
use Rattle.algebra.proofs.Lengths.{entries_of, internals_of, exits_of, entries_length, internals_length, exits_length, places_length}
use Rattle.net.specs.Tables.{none, second, item_of, arcs_of, tables_of}
use Rattle.plan.specs.Reading.{read_plan}
use Rattle.plan.specs.Loops.{check_loops}
use Rattle.plan.specs.inner.Nodes.{node_count, node_table}
use Rattle.plan.proofs.Exact.{read_within, read_length}
use Rattle.plan.proofs.Within.{limits_within}
use Rattle.plan.proofs.ReadBack.{encode_length}
use Rattle.plan.proofs.Stands.{stands_take}
use Rattle.plan.proofs.Loops.{loops_exclusive}
use Rattle.plan.proofs.Scopes.{named_scopes}
use Rattle.boxes.specs.Counts.{places_cut_off, transition_count}
use Rattle.boxes.specs.inner.NodeCounts.{node_counts}
use Rattle.boxes.specs.Compile.{Counts, counts_of, accept}
use Rattle.boxes.proofs.CountsCutOff.{place_count_is, arc_count_is}
use Rattle.transitions.specs.inner.Numbers.{flat}
use Rattle.transitions.specs.inner.Listing.{Part}
use Rattle.transitions.proofs.FlatNumbers.{flat_length, label_at, first_at, second_at, part_behind}
use Rattle.arcs.proofs.Transitions.{item_of_one, item_of_two}
use Rattle.arcs.proofs.Sizes.{counts_here}
use Rattle.arcs.proofs.AskedMet.{table_length, counted_in_front}
use Rattle.spread.specs.inner.Spread.{Of, Told}
use Rattle.sides.specs.inner.Sides.{told_arcs}
use Rattle.tables.specs.inner.Rows.{listed_from, Whole}
use Rattle.tables.proofs.Counted.{arcs_told}
use Rattle.boxes.specs.inner.ArcCounts.{listed_arcs}
use Rattle.judging.specs.inner.Judged.{check_places, check_transitions, check_arcs, judge, judged}
use Rattle.judging.specs.inner.Ready.{ready_sizes, sizes_told, ready, TablesAre}
use Rattle.judging.specs.inner.Judging.{counted, counts_told, net_counts, Drawn}
use Rattle.judging.specs.declared.NetCounts.{NetCounts}
use Rattle.judging.specs.declared.front.Ready.{Ready}
use Rattle.judging.proofs.Judges.{leb_cut, leb_is_true, leb_is_false, bytes_of_nodes, accept_judged}

-- ---- 13
arcs_few : (E : Expr) → length (arcs_of (net_of E)) ≤ arc_limit → check_arcs E ≡ good tt
unfolding check_arcs
arcs_few E h = ap (λ b. check b too_many_arcs 0) (ap (λ n. leb n arc_limit) (arc_count_is E) ∙ leb_cut arc_limit (length (arcs_of (net_of E))) ∙ leb_is_true h)

arcs_many : (E : Expr) → arc_limit < length (arcs_of (net_of E)) → check_arcs E ≡ refused too_many_arcs 0
unfolding check_arcs
arcs_many E h = ap (λ b. check b too_many_arcs 0) (ap (λ n. leb n arc_limit) (arc_count_is E) ∙ leb_cut arc_limit (length (arcs_of (net_of E))) ∙ leb_is_false h)

-- ---- the list that the judgement leaves is the plan's transitions
item_back : (hi : ℕ) → hi ≤ 256 → (x : Item) → InRange 0 hi x → item_of (first x) (second x) ≡ x
item_back hi h (one i) r = item_of_one i none refl
item_back hi h (two i j) r = item_of_two i j (λ e. omega arith)

same_listed : {l m : ℕ} {x y : Item} → l ≡ m → x ≡ y → ◌≡◌ {A = Labelled} (record { label = l; item = x }) (record { label = m; item = y })
same_listed p q = λ k. record { label = p k; item = q k }

module _ (list : List ℕ) (hi : ℕ) (low : hi ≤ 256) where
  listed_back : (t end : ℕ) (ts : List Labelled) → ((u : Labelled) → Memᴰ u ts → InRange 0 hi u.item) → Part list t end ts → listed_from list t (length ts) ≡ ts
  unfolding listed_from
  listed_back t end [] r p = refl
  listed_back t end (u ∷ us) r p =
      let e = ap₂ item_of (first_at u us p) (second_at u us p) ∙ item_back hi low u.item (r u (Memᴰ.head refl)) in
      let f : t + 1 ≡ suc t = omega arith in
      ap₂ (λ x (xs : List Labelled). x ∷ xs) (same_listed (label_at u us p) e)
      (ap (λ k. listed_from list k (length us)) (sym f) ∙ listed_back (t + 1) end us (λ v m. r v (Memᴰ.tail m)) (part_behind u us p))

listed_length : (list : List ℕ) (t n : ℕ) → length (listed_from list t n) ≡ n
unfolding listed_from
listed_length list t zero = refl
listed_length list t (suc n) = ap suc (listed_length list (suc t) n)

-- What is known of a plan that is ready.
pub record IsReady (plan : List ℕ) (nodes many : ℕ) (table counts list : List ℕ) : Type 0 where
  pub expr : Expr
  pub passed : judged plan ≡ good expr
  pub of : Of table nodes counts expr
  pub loops : LoopsExclusive expr
  pub scopes : ScopesNamed expr
  pub few_actions : actions expr ≤ 256
  pub listed : listed_from list 0 many ≡ transitions 0 expr
  pub few : many ≤ 1024
  pub room : 3 * many ≤ length list
  pub three_bytes : 3 * nodes ≤ length plan
  pub short : length plan ≤ plan_limit

-- what the judgement has asked
pub record Asked12 (plan : List ℕ) (E : Expr) : Type 0 where
  pub read : read_plan plan ≡ good E
  pub loops_fine : check_loops E ≡ good tt
  pub places_few : length (places 0 E) ≤ place_limit
  pub transitions_few : length (transitions 0 E) ≤ transition_limit

check_passed : (b : Bool) (n c : ℕ) {u : Unit {0}} → check b n c ≡ good u → b ≡ true
check_passed true n c e = refl
check_passed false n c e = good_not_refused _ _ n c e refl

few_places : (E : Expr) {u : Unit {0}} → check_places E ≡ good u → length (places 0 E) ≤ place_limit
unfolding check_places
few_places E e =
    let b = check_passed (leb (places_cut_off E) place_limit) too_many_places 0 e in
    leb-true (length (places 0 E)) place_limit (sym (leb_cut place_limit (length (places 0 E))) ∙ sym (ap (λ n. leb n place_limit) (place_count_is 0 E)) ∙ b)

few_transitions : (E : Expr) {u : Unit {0}} → check_transitions E ≡ good u → length (transitions 0 E) ≤ transition_limit
unfolding check_transitions
few_transitions E e =
    let b = check_passed (leb (transition_count E) transition_limit) too_many_transitions 0 e in
    leb-true (length (transitions 0 E)) transition_limit (sym (leb_cut transition_limit (length (transitions 0 E))) ∙ b)

asked_12 : (plan : List ℕ) (E : Expr) → judged plan ≡ good E → Asked12 plan E
unfolding judged judge check_places check_transitions
asked_12 plan E e =
    let (F, p, f) = bind_good (read_plan plan) judge E e in
    let (u, l, g) = bind_good (check_loops F) _ E f in
    let (v, a, h) = bind_good (check_places F) _ E g in
    let (x, b, i) = bind_good (check_transitions F) _ E h in
    subst (Asked12 plan) (good_same F E i) (record { read = p; loops_fine = l; places_few = few_places F a; transitions_few = few_transitions F b })

pub is_ready : (plan : List ℕ) (sizes : Ready) (table table' counts counts' list' : List ℕ) (r : Result Ready Refusal) → says sizes_told r ≡ ready plan
    → TablesAre r (judged plan) table table' counts counts' list' → r ≡ Ok sizes
    → IsReady plan sizes.nodes sizes.transitions (take (6 * sizes.nodes) table') counts' (take (3 * sizes.transitions) list')
unfolding ready_sizes
is_ready plan sizes table table' counts counts' list' r s w e =
    go (judged plan) refl (sym (ap (says sizes_told) e) ∙ s) (subst (λ q. TablesAre q (judged plan) table table' counts counts' list') e w)
  where
    go : (a : Answer Expr) → judged plan ≡ a → good (sizes_told sizes) ≡ (a >>= λ E. good (ready_sizes E)) → TablesAre (Ok sizes) a table table' counts counts' list'
        → IsReady plan sizes.nodes sizes.transitions (take (6 * sizes.nodes) table') counts' (take (3 * sizes.transitions) list')
    go (refused n c) p f w = good_not_refused _ _ n c (sym f) refl
    go (good E) p f w =
        let a = asked_12 plan E p in
        let b = limits_within E (read_within plan E a.read) in
        let low : actions E ≤ 256 = b.few in
        let ns : sizes.nodes ≡ node_count E = ap (λ z. z.nodes) (good_same _ _ f) in
        let ms : sizes.transitions ≡ length (transitions 0 E) = ap (λ z. z.transitions) (good_same _ _ f) in
        let front : take (3 * sizes.transitions) list' ≡ flat (transitions 0 E) = ap (λ k. take (3 * k) list') ms ∙ w.2 in
        let again : take (3 * sizes.transitions) (take (3 * sizes.transitions) list') ≡ flat (transitions 0 E) = take-take (3 * sizes.transitions) (3 * sizes.transitions) list' (omega arith) ∙ front in
        let part : Part (take (3 * sizes.transitions) list') 0 sizes.transitions (transitions 0 E) = record { count = omega arith; stands = stands_take (take (3 * sizes.transitions) list') (3 * sizes.transitions) (flat (transitions 0 E)) again } in
        record {
          expr = E;
          passed = p;
          of = record {
            table = record { nodes = ns; rows_of = take-take (6 * sizes.nodes) (6 * sizes.nodes) table' (omega arith) ∙ ap (take (6 * sizes.nodes)) w.0 ∙ take_at (node_table E) (drop (6 * node_count E) table) (6 * sizes.nodes) (table_length E ∙ ap (λ n. 6 * n) (sym ns)) };
            counted = ap (take (3 * sizes.nodes)) w.1 ∙ counted_in_front E sizes.nodes (drop (3 * node_count E) counts) ns;
            few = a.places_few;
          };
          loops = loops_exclusive E a.loops_fine;
          scopes = named_scopes E b.labelled;
          few_actions = low;
          listed = ap (listed_from (take (3 * sizes.transitions) list') 0) ms ∙ listed_back (take (3 * sizes.transitions) list') (0 + actions E) (omega arith) 0 sizes.transitions (transitions 0 E) (items_in_range 0 E) part;
          few = omega (arith, a.transitions_few);
          room = omega (arith, ap length front, flat_length (transitions 0 E), ms);
          three_bytes = omega (arith, bytes_of_nodes E, read_length plan E a.read, ns);
          short = omega (arith, read_length plan E a.read, encode_length E, b.short);
        }

-- ---- the answers of the whole
pub not_ready : (plan : List ℕ) (e : Refusal) (r : Result Ready Refusal) → says sizes_told r ≡ ready plan → r ≡ Err e → refused (number_of e.fault) e.carried ≡ net_counts plan
unfolding net_counts
not_ready plan e r s is = go (judged plan) (sym (ap (says sizes_told) is) ∙ s) ∙ ap (λ a. a >>= λ E. good (counts_of (net_of E))) (sym (accept_judged plan))
  where
    go : (a : Answer Expr) → refused (number_of e.fault) e.carried ≡ (a >>= λ E. good (ready_sizes E)) → refused (number_of e.fault) e.carried ≡ ((a >>= λ E. check_arcs E >> good E) >>= λ E. good (counts_of (net_of E)))
    go (good E) f = good_not_refused _ _ (number_of e.fault) e.carried refl (sym f)
    go (refused m d) f = let p : number_of e.fault ≡ m = cc in let q : e.carried ≡ d = cc in λ k. refused (p k) (q k)

module _ (plan : List ℕ) (nodes many : ℕ) (table counts list : List ℕ) (w : IsReady plan nodes many table counts list) where
  abbrev E : Expr
  E = w.expr

  accept_by : {a : Answer (Unit {0})} → check_arcs E ≡ a → accept plan ≡ (a >> good E)
  accept_by e = accept_judged plan ∙ ap (λ x. x >>= λ F. check_arcs F >> good F) w.passed ∙ ap (λ x. x >> good E) e

  module _ (lists index : List ℕ) (told : (i : ℕ) → i < actions E → Told lists index E i) where
    pub whole : Whole lists index list many E
    whole = record { draft = record { told = told; few = w.of.few; loops = w.loops; scopes = w.scopes }; few_actions = w.few_actions; listed = w.listed }

    arcs_are : {arcs : ℕ} → arcs ≡ listed_arcs (told_arcs index) (listed_from list 0 many) → arcs ≡ length (arcs_of (net_of E))
    arcs_are e = e ∙ arcs_told E whole

    pub too_many : {arcs : ℕ} → arcs ≡ listed_arcs (told_arcs index) (listed_from list 0 many) → arc_limit < arcs → refused too_many_arcs 0 ≡ net_counts plan
    unfolding net_counts
    too_many e h = sym (ap (λ a. a >>= λ F. good (counts_of (net_of F))) (accept_by (arcs_many E (omega (arith, arcs_are e)))))

    -- the first three counts are the net's
    counts_are : (get_or counts 0 0 ≡ (net_of E).entries) × (get_or counts 1 0 ≡ (net_of E).internals) × (get_or counts 2 0 ≡ (net_of E).exits)
    unfolding net_of node_counts
    counts_are =
        let stand = stands_take counts (3 * nodes) (node_counts E) w.of.counted in
        let few : entries_of E + (internals_of E + exits_of E) ≤ 2048 = omega (arith, w.of.few, places_length 0 E) in
        let c = counts_here counts 0 E stand (omega arith) (omega arith) (omega arith) in
        (ap (λ k. k.entries) c ∙ sym (entries_length 0 E), ap (λ k. k.internals) c ∙ sym (internals_length 0 E), ap (λ k. k.exits) c ∙ sym (exits_length 0 E))

    how_many : many ≡ length (net_of E).transitions
    unfolding net_of
    how_many = sym (listed_length list 0 many) ∙ ap length w.listed ∙ sym (length-map (transitions 0 E) (transition_of (places 0 E)))

    counts_same : {arcs : ℕ} → arcs ≡ listed_arcs (told_arcs index) (listed_from list 0 many) → counted counts many arcs ≡ counts_of (net_of E)
    unfolding counts_of tables_of
    counts_same e =
        let (a, b, c) = counts_are in
        let l = arcs_are e in
        λ k. record { places = a k + (b k + c k); transitions = how_many k; arcs = l k; entries = a k; internals = b k }

    pub fine_says : {arcs : ℕ} → arcs ≡ listed_arcs (told_arcs index) (listed_from list 0 many) → arcs ≤ arc_limit → (c : NetCounts) → counts_told c ≡ counted counts many arcs → good (counts_told c) ≡ net_counts plan
    unfolding net_counts
    fine_says e h c t = ap good (t ∙ counts_same e) ∙ sym (ap (λ a. a >>= λ F. good (counts_of (net_of F))) (accept_by (arcs_few E (omega (arith, arcs_are e)))))

    pub fine_drawn : {arcs : ℕ} → arcs ≡ listed_arcs (told_arcs index) (listed_from list 0 many) → arcs ≤ arc_limit → (c : NetCounts) → counts_told c ≡ counted counts many arcs
        → (whole_list : List ℕ) → list ≡ take (3 * many) whole_list → (F : Expr) → accept plan ≡ good F → Drawn (Ok c) lists index whole_list F
    fine_drawn e h c t whole_list cut F a =
        let same : E ≡ F = good_same E F (sym (accept_by (arcs_few E (omega (arith, arcs_are e)))) ∙ a) in
        let m : c.transitions ≡ many = ap (λ (c : Counts). c.transitions) t in
        let l : 3 * many ≤ length (take (3 * many) whole_list) = subst (λ l. 3 * many ≤ length l) cut w.room in (
          subst (λ X. Whole lists index (take (3 * c.transitions) whole_list) c.transitions X) same
              (subst (λ k. Whole lists index (take (3 * k) whole_list) k E) (sym m) (subst (λ l. Whole lists index l many E) cut whole)),
          omega (arith, l, length-take (3 * many) whole_list, m),
        )
