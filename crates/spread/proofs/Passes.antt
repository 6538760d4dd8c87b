-- The pass over the node table: at each node all parts that are still to come have their lists, and every action that was passed is told of.
-- True by the node's operator: its operands take its place among what is to come; and an action's own lists are its places in the whole.
use Prim.Native.Nat.{ℕ, ◌+◌, ◌*◌, ◌≤◌, ◌<◌}
use native.Mathlib.Omega.{arith}
use native.Mathlib.Decide.{dec_lt}
use native.Mathlib.Nat.{mul-one}
use mathlib.Core.Path.{◌≡◌, refl, sym, ◌∙◌, ap, ap₂, subst}
use mathlib.Core.Logic.{inl, inr}
use mathlib.Core.List.{List, [], ◌∷◌, ◌++◌}
use lib.ListN.{length, get_or}
use lib.Seq.{sets, length-sets}
use Rattle.field.specs.Limits.{place_limit}
use borrow.Author.Tests.{le-leb}
use Rattle.algebra.specs.Expr.{Expr, action, sequence, choice, parallel, loop, scope, actions}
use Rattle.algebra.specs.Places.{places}
use Rattle.algebra.specs.Arcs.{numbers}
use Rattle.algebra.proofs.Lengths.{entries_of, internals_of, exits_of, places_length}
use Rattle.plan.specs.inner.Nodes.{node_count}
use Rattle.plan.specs.inner.Table.{tag_at, after_at, values}
use Rattle.plan.specs.inner.Numbers.{spelt}
use Rattle.plan.proofs.Stands.{stands_take}
use Rattle.plan.proofs.NodeValues.{table_node}
use Rattle.boxes.specs.inner.NodeCounts.{box_counts, node_counts}
use Rattle.arcs.specs.inner.Moves.{Kind, Entry, Exit, Operand, First, Second, Third, Move, passes, own, sequence_move, choice_move, parallel_move, loop_move}
use Rattle.boxes.specs.inner.Counted.{counts_at}
use Rattle.arcs.specs.inner.Nodes.{first_at, At}
use Rattle.arcs.specs.inner.Spreads.{Spreads, placed, plain, list_of, under}
use Rattle.net.specs.declared.Side.{Side}
use Rattle.net.specs.declared.Side.TheVariants.{Inputs, Outputs}
use Rattle.boxes.specs.declared.counts.Counts.{Counts}
use Rattle.arcs.proofs.Sizes.{sizes, counts_here}
use Rattle.arcs.proofs.Children as kids
use Rattle.arcs.proofs.Transitions.{numbers_few}
use Rattle.arcs.proofs.Leads.{Leads, arcs, root, root_leads, action_leads, sequence_leads, choice_leads, parallel_leads, loop_leads, scope_leads}
use Rattle.arcs.proofs.SpreadsFit.{AllFit, Parts, all_lower, sequence_parts, choice_parts, parallel_parts, loop_parts, scope_part}
use Rattle.lists.specs.inner.Lists.{OneList, one_list, Short, list_row, place_of, Chain, Means, Has}
use Rattle.spread.specs.inner.Walk.{root_put, two_put, three_put, operands_put, CountsOf, index_numbers, index_put, ActionPut}
use Rattle.spread.specs.inner.Spread.{Of, Listed, count_of, Told}
use Rattle.spread.proofs.OperandRows.{Rooted, Stays}
use Rattle.lists.proofs.RowsPut.{mod_small, sets_other, sets_at, node_long, node_in, node_out, node_inner}
use Rattle.spread.proofs.Walks.{Knot, Ahead, Here, Next, means_kept, ahead_kept, ahead_actions, counts_are, two_next, three_next, one_next}

module _ (rows counts : List ℕ) (nodes : ℕ) (R : Expr) where
  -- ---- a node that is no action
  -- Its operands take its place among the parts to come.
  abbrev parts_of : Expr → List Expr
  parts_of (action l) = []
  parts_of (sequence E F) = E ∷ (F ∷ [])
  parts_of (choice E F) = E ∷ (F ∷ [])
  parts_of (parallel E F) = E ∷ (F ∷ [])
  parts_of (loop E F G) = E ∷ (F ∷ (G ∷ []))
  parts_of (scope a E) = E ∷ []

  abbrev Goes : List ℕ → List ℕ → ℕ → ℕ → Expr → Type 0
  Goes lists other k n X = Next rows counts nodes R lists other k n (k + node_count X) (n + actions X) (parts_of X)

  module _ (lists : List ℕ) (k n : ℕ) (s : Spreads) (h : Here rows counts nodes R lists k s) where
    -- The subtree's end as it is counted.
    ends : {other : List ℕ} {a b c d : ℕ} (Xs : List Expr) → a ≡ b → c ≡ d → Next rows counts nodes R lists other k n a c Xs → Next rows counts nodes R lists other k n b d Xs
    ends {other} {a} {b} {c} {d} Xs p q x = subst (λ z. Next rows counts nodes R lists other k n b z Xs) q (subst (λ z. Next rows counts nodes R lists other k n z c Xs) p x)

    -- A node of two operands: the second operand's node and the counts are read off the tables.
    two_goes : (P E F : Expr) (m : Operand → Kind → Counts → Counts → Move) → At rows counts nodes (k + 1) n E × At rows counts nodes (k + 1 + node_count E) (n + actions E) F
        → Parts P E (λ k. m First k (sizes E) (sizes F)) × Parts P F (λ k. m Second k (sizes E) (sizes F))
        → Leads R n E (under (λ k. m First k (sizes E) (sizes F)) s) × Leads R (n + actions E) F (under (λ k. m Second k (sizes E) (sizes F)) s) → AllFit 2048 P s
        → Stays Inputs (m First Entry (sizes E) (sizes F)).kind × Stays Outputs (m First Exit (sizes E) (sizes F)).kind
        × Stays Inputs (m Second Entry (sizes E) (sizes F)).kind × Stays Outputs (m Second Exit (sizes E) (sizes F)).kind
        → {other : List ℕ} → other ≡ two_put m lists k (after_at rows (k + 1)) (counts_at counts (k + 1)) (counts_at counts (after_at rows (k + 1)))
        → Next rows counts nodes R lists other k n (k + 1 + node_count E + node_count F) (n + actions E + actions F) (E ∷ (F ∷ []))
    two_goes P E F m ats p l fit stays read =
        let m₁ : Kind → Move = λ k. m First k (sizes E) (sizes F) in
        let m₂ : Kind → Move = λ k. m Second k (sizes E) (sizes F) in
        let second = kids.second_at rows counts nodes k n E F ats in
        let e = counts_are rows counts nodes R (k + 1) n E (under m₁ s) ats.0 (all_lower 2048 P E m₁ s p.0 fit).fit in
        let f = ap (counts_at counts) second ∙ counts_are rows counts nodes R (k + 1 + node_count E) (n + actions E) F (under m₂ s) ats.1 (all_lower 2048 P F m₂ s p.1 fit).fit in
        subst (λ o. Next rows counts nodes R lists o k n (k + 1 + node_count E + node_count F) (n + actions E + actions F) (E ∷ (F ∷ [])))
        (sym (read ∙ ap₂ (λ x y. two_put m lists k (after_at rows (k + 1)) x y) e f ∙ ap (λ z. two_put m lists k z (sizes E) (sizes F)) second))
        (two_next rows counts nodes R lists k n P s h fit E F ats m₁ m₂ p l stays)

    node_goes : (X : Expr) → (tag_at rows k ≡ 1 → ⊥) → At rows counts nodes k n X → Leads R n X s → AllFit 2048 X s → Goes lists (operands_put rows counts k (spelt (tag_at rows k)) lists) k n X
    unfolding actions node_count
    node_goes (action l) inner at leads fit = absurd (inner (kids.tag_is rows counts nodes (action l) at))
    node_goes (sequence E F) inner at leads fit =
        ends (E ∷ (F ∷ [])) (omega arith) (omega arith)
        (two_goes (sequence E F) E F sequence_move (kids.sequence_parts rows counts nodes E F at) (sequence_parts E F) (sequence_leads R n s E F leads) fit (tt, tt, tt, tt)
        (ap (λ t. operands_put rows counts k (spelt t) lists) (kids.tag_is rows counts nodes (sequence E F) at)))
    node_goes (choice E F) inner at leads fit =
        ends (E ∷ (F ∷ [])) (omega arith) (omega arith)
        (two_goes (choice E F) E F choice_move (kids.choice_parts rows counts nodes E F at) (choice_parts E F) (choice_leads R n s E F leads) fit (tt, tt, tt, tt)
        (ap (λ t. operands_put rows counts k (spelt t) lists) (kids.tag_is rows counts nodes (choice E F) at)))
    node_goes (parallel E F) inner at leads fit =
        ends (E ∷ (F ∷ [])) (omega arith) (omega arith)
        (two_goes (parallel E F) E F (λ o kind e f. parallel_move o kind e) (kids.parallel_parts rows counts nodes E F at) (parallel_parts E F) (parallel_leads R n s E F leads) fit (tt, tt, tt, tt)
        (ap (λ t. operands_put rows counts k (spelt t) lists) (kids.tag_is rows counts nodes (parallel E F) at)))
    node_goes (loop E F G) inner at leads fit =
        let (ats, last) = kids.loop_parts rows counts nodes E F G at in
        let p = loop_parts E F G in
        let l = loop_leads R n s E F G leads in
        let fe = all_lower 2048 (loop E F G) E (λ k. loop_move First k (sizes E) (sizes F) (sizes G)) s p.0 fit in
        let ff = all_lower 2048 (loop E F G) F (λ k. loop_move Second k (sizes E) (sizes F) (sizes G)) s p.1 fit in
        let fg = all_lower 2048 (loop E F G) G (λ k. loop_move Third k (sizes E) (sizes F) (sizes G)) s p.2 fit in
        let second = kids.second_at rows counts nodes k n E F ats in
        let third = kids.third_at rows counts nodes k n E F ats in
        let e = counts_are rows counts nodes R (k + 1) n E (under (λ k. loop_move First k (sizes E) (sizes F) (sizes G)) s) ats.0 fe.fit in
        let f = ap (counts_at counts) second ∙ counts_are rows counts nodes R (k + 1 + node_count E) (n + actions E) F (under (λ k. loop_move Second k (sizes E) (sizes F) (sizes G)) s) ats.1 ff.fit in
        let g = ap (counts_at counts) third ∙ counts_are rows counts nodes R (k + 1 + node_count E + node_count F) (n + actions E + actions F) G (under (λ k. loop_move Third k (sizes E) (sizes F) (sizes G)) s) last fg.fit in
        let q : operands_put rows counts k (spelt (tag_at rows k)) lists ≡ three_put lists k (k + 1 + node_count E) (k + 1 + node_count E + node_count F) (sizes E) (sizes F) (sizes G) =
        ap (λ t. operands_put rows counts k (spelt t) lists) (kids.tag_is rows counts nodes (loop E F G) at)
        ∙ ap₂ (λ x y. three_put lists k (after_at rows (k + 1)) (after_at rows (after_at rows (k + 1))) x y (counts_at counts (after_at rows (after_at rows (k + 1))))) e f
        ∙ ap (λ x. three_put lists k (after_at rows (k + 1)) (after_at rows (after_at rows (k + 1))) (sizes E) (sizes F) x) g
        ∙ ap₂ (λ x y. three_put lists k x y (sizes E) (sizes F) (sizes G)) second third in
        subst (λ o. Goes lists o k n (loop E F G)) (sym q)
        (ends (E ∷ (F ∷ (G ∷ []))) (omega arith) (omega arith)
        (three_next rows counts nodes R lists k n (loop E F G) s h fit E F ats (λ k. loop_move First k (sizes E) (sizes F) (sizes G)) (λ k. loop_move Second k (sizes E) (sizes F) (sizes G)) (p.0, p.1) (l.0, l.1) (tt, tt, tt, tt)
        G last (λ k. loop_move Third k (sizes E) (sizes F) (sizes G)) p.2 l.2 tt tt))
    node_goes (scope a E) inner at leads fit =
        subst (λ o. Goes lists o k n (scope a E)) (sym (ap (λ t. operands_put rows counts k (spelt t) lists) (kids.tag_is rows counts nodes (scope a E) at)))
        (ends (E ∷ []) (omega arith) (omega arith)
        (one_next rows counts nodes R lists k n (scope a E) s h fit E (kids.scope_part rows counts nodes E at) (scope_part a E) (scope_leads R n s a E leads)))

  -- ---- the pass
  -- The actions before n are told of, and their nodes were passed.
  abbrev Passed : List ℕ → List ℕ → ℕ → ℕ → Type 0
  Passed lists index k n = (i : ℕ) → i < n → Told lists index R i × (get_or index (3 * i) 0 < k)

  pub record Reached (lists index : List ℕ) (k : ℕ) : Type 0 where
    pub n : ℕ
    pub parts : List Expr
    pub ahead : Ahead rows counts nodes R lists k k n parts
    pub rooted : Rooted lists
    pub room : 11 * nodes ≤ length lists
    pub long : 3 * actions R ≤ length index
    pub passed : Passed lists index k n

  -- What was told stays told where the rows passed and the index's numbers for these actions stay.
  told_kept : (lists other index index' : List ℕ) (k n : ℕ) → 11 * k ≤ length other → ((j : ℕ) → j < 11 * k → get_or other j 0 ≡ get_or lists j 0) → ((j : ℕ) → j < 3 * n → get_or index' j 0 ≡ get_or index j 0) → Passed lists index k n → Passed other index' (k + 1) n
  told_kept lists other index index' k n reach low same p i h =
      let (t, b) = p i h in
      let e = same (3 * i) (omega arith) in (
        record { listed = λ side. subst (λ x. Listed other side x (numbers (passes side i) 0 (places 0 R))) (sym e) (kept side (t.listed side) b); counted = λ side. same (count_of side i) (count_low side) ∙ t.counted side },
        omega (arith, e, b),
      )
    where
      count_low : (side : Side) → count_of side i < 3 * n
      count_low Inputs = omega arith
      count_low Outputs = omega arith

      kept : {l : List ℕ} (side : Side) → Listed lists side (get_or index (3 * i) 0) l → get_or index (3 * i) 0 < k → Listed other side (get_or index (3 * i) 0) l
      kept side x b = record {
        spread = x.spread;
        wide = x.wide;
        inside = omega arith;
        means = means_kept lists other (get_or index (3 * i) 0) (get_or index (3 * i) 0) (λ j l. low j (omega arith)) (λ j l u. low j (omega arith)) side x.means;
        is = x.is;
      }

  module _ (few : length (places 0 R) ≤ place_limit) (small : nodes ≤ 65535) where
    -- The next is an action: its own lists are its places in the whole.
    module _ (lists index index' : List ℕ) (k : ℕ) (put : ActionPut (first_at rows k) lists k index index') (n l : ℕ) (x : Knot rows counts nodes R lists k k n (action l)) (inside : k < nodes) (reach : 11 * nodes ≤ length lists) (room : 3 * n + 3 ≤ length index) where
      abbrev s : Spreads
      s = x.spreads

      places_few : (side : Side) → length (arcs R side n) ≤ 2048
      places_few side = omega (arith, numbers_few (passes side n) (places 0 R), few)

      fits : (side : Side) → 0 < (list_of s (own side)).width
      fits Inputs = x.fit.entries.wide
      fits Outputs = x.fit.exits.wide

      means : (side : Side) → Means lists side k (list_row lists (place_of side k)) (list_of s (own side))
      means Inputs = x.has.entries
      means Outputs = x.has.exits

      is : (side : Side) → arcs R side n ≡ placed (list_of s (own side)) (0 ∷ [])
      is side = action_leads R n l s x.leads side

      counts_it : (side : Side) {m : ℕ} → CountsOf lists side k m → (m ≡ length (arcs R side n)) × (m ≤ 2048)
      counts_it side {m} c =
          let e = ap length (is side) in
          let p = c (list_of s (own side)) (omega arith) (means side) (omega (arith, e, places_few side)) in
          (p ∙ sym e, omega (arith, p, e, places_few side))

      abbrev told_numbers : List ℕ
      told_numbers = index_numbers k put.inputs put.outputs

      stored : index' ≡ sets index (3 * n) told_numbers
      stored =
          put.stored ∙ ap (λ i. index_put index i told_numbers) (kids.first_is rows counts nodes (action l) x.at)
          ∙ rw (le-leb (3 * n + 3) (length index) room) refl

      index_long : length index' ≡ length index
      index_long = ap length stored ∙ length-sets index (3 * n) told_numbers

      index_low : (j : ℕ) → j < 3 * n → get_or index' j 0 ≡ get_or index j 0
      index_low j h = ap (λ z. get_or z j 0) stored ∙ sets_other told_numbers index (3 * n) j (inl h)

      number : (j i : ℕ) → i ≡ 3 * n + j → j < 3 → get_or index' i 0 ≡ get_or told_numbers j 0
      number j i e h = ap (λ z. get_or z i 0) stored ∙ sets_at told_numbers index (3 * n) j i e h room

      node_told : get_or index' (3 * n) 0 ≡ k
      node_told = number 0 (3 * n) (omega arith) (omega arith) ∙ mod_small k (omega arith)

      counts_told : (side : Side) → get_or index' (count_of side n) 0 ≡ length (arcs R side n)
      counts_told Inputs = let (e, b) = counts_it Inputs put.inputs_are in number 1 (3 * n + 1) (omega arith) (omega arith) ∙ mod_small put.inputs (omega arith) ∙ e
      counts_told Outputs = let (e, b) = counts_it Outputs put.outputs_are in number 2 (3 * n + 2) (omega arith) (omega arith) ∙ mod_small put.outputs (omega arith) ∙ e

      told : Told lists index' R n
      told = record {
        listed = λ side. subst (λ j. Listed lists side j (arcs R side n)) (sym node_told) (record { spread = list_of s (own side); wide = fits side; inside = omega arith; means = means side; is = is side });
        counted = counts_told;
      }

      all_passed : Passed lists index k n → Passed lists index' (k + 1) (n + 1)
      all_passed p i h = go (dec_lt i n)
        where
          go : Dec (i < n) → Told lists index' R i × (get_or index' (3 * i) 0 < k + 1)
          go (yes b) = told_kept lists lists index index' k n (omega arith) (λ j l. refl) index_low p i b
          go (no b) = let e : n ≡ i = omega arith in subst (λ j. Told lists index' R j × (get_or index' (3 * j) 0 < k + 1)) e (told, omega (arith, node_told))

    pub action_step : (lists index index' : List ℕ) (k : ℕ) → k < nodes → tag_at rows k ≡ 1 → ActionPut (first_at rows k) lists k index index' → (n : ℕ) (Xs : List Expr) → Ahead rows counts nodes R lists k k n Xs → Rooted lists
        → 11 * nodes ≤ length lists → 3 * actions R ≤ length index → Passed lists index k n → Reached lists index' (k + 1)
    unfolding Ahead node_count actions
    action_step lists index index' k inside tag put n [] a rooted room long p = absurd (omega (arith, a.0))
    action_step lists index index' k inside tag put n (action l ∷ Xs) (x, xs) rooted room long p =
        let b : 3 * n + 3 ≤ length index = omega (arith, ahead_actions rows counts nodes R lists k (k + 1) (n + 1) Xs xs) in
        record {
          n = n + 1;
          parts = Xs;
          ahead = ahead_kept rows counts nodes R lists lists k (k + 1) (omega arith) (λ j l. refl) (k + 1) (n + 1) Xs (λ j l. refl) xs;
          rooted = rooted;
          room = room;
          long = omega (arith, index_long lists index index' k put n l x inside room b);
          passed = all_passed lists index index' k put n l x inside room b p;
        }
    action_step lists index index' k inside tag put n (sequence E F ∷ Xs) (x, xs) rooted room long p = absurd (omega (arith, tag, kids.tag_is rows counts nodes (sequence E F) x.at))
    action_step lists index index' k inside tag put n (choice E F ∷ Xs) (x, xs) rooted room long p = absurd (omega (arith, tag, kids.tag_is rows counts nodes (choice E F) x.at))
    action_step lists index index' k inside tag put n (parallel E F ∷ Xs) (x, xs) rooted room long p = absurd (omega (arith, tag, kids.tag_is rows counts nodes (parallel E F) x.at))
    action_step lists index index' k inside tag put n (loop E F G ∷ Xs) (x, xs) rooted room long p = absurd (omega (arith, tag, kids.tag_is rows counts nodes (loop E F G) x.at))
    action_step lists index index' k inside tag put n (scope a E ∷ Xs) (x, xs) rooted room long p = absurd (omega (arith, tag, kids.tag_is rows counts nodes (scope a E) x.at))

    -- The next is no action.
    pub operator_step : (lists other index : List ℕ) (k : ℕ) → k < nodes → (tag_at rows k ≡ 1 → ⊥) → other ≡ operands_put rows counts k (spelt (tag_at rows k)) lists → (n : ℕ) (Xs : List Expr) → Ahead rows counts nodes R lists k k n Xs → Rooted lists
        → 11 * nodes ≤ length lists → 3 * actions R ≤ length index → Passed lists index k n → Reached other index (k + 1)
    unfolding Ahead
    operator_step lists other index k inside inner put n [] a rooted room long p = absurd (omega (arith, a.0))
    operator_step lists other index k inside inner put n (X ∷ Xs) (x, xs) rooted room long p =
        let g = node_goes lists k n x.spreads (record { has = x.has; rooted = rooted; room = room; small = small }) X inner x.at x.leads x.fit in
        let after = operands_put rows counts k (spelt (tag_at rows k)) lists in
        subst (λ o. Reached o index (k + 1)) (sym put) (record {
          n = n;
          parts = parts_of X ++ Xs;
          ahead = g.operands Xs (ahead_kept rows counts nodes R lists after k (k + 1) (omega arith) (λ j l. g.kept j (inl (omega arith))) (k + node_count X) (n + actions X) Xs (λ j l. g.kept j (inr l)) xs);
          rooted = g.rooted;
          room = g.room;
          long = long;
          passed = told_kept lists after index index k n (omega (arith, g.room)) (λ j l. g.kept j (inl (omega arith))) (λ j l. refl) p;
        })

    -- At the end every action was passed.
    pub all_told : (lists index : List ℕ) (k : ℕ) → nodes ≤ k → (n : ℕ) (Xs : List Expr) → Ahead rows counts nodes R lists k k n Xs → Passed lists index k n → (i : ℕ) → i < actions R → Told lists index R i
    unfolding Ahead
    all_told lists index k h n [] a p i l = (p i (omega (arith, a.1))).0
    all_told lists index k h n (X ∷ Xs) (x, xs) p i l = absurd (omega (arith, kids.node_inside rows counts nodes X x.at))

-- ---- the root
module _ (rows counts : List ℕ) (nodes : ℕ) (R : Expr) (o : Of rows nodes counts R) (lists : List ℕ) (room : 11 * nodes ≤ length lists) (some : 0 < nodes) where
  root_at : At rows counts nodes 0 0 R
  unfolding node_counts
  root_at = record { offset = 0; node = table_node o.table; counted = stands_take counts (3 * nodes) (values box_counts R) o.counted }

  all_few : entries_of R + (internals_of R + exits_of R) ≤ 2048
  all_few = omega (arith, o.few, places_length 0 R)

  counts_root : counts_at counts 0 ≡ sizes R
  counts_root = counts_here counts 0 R root_at.counted (omega (arith, all_few)) (omega (arith, all_few)) (omega (arith, all_few))

  abbrev first : OneList
  first = one_list 0 1 0 0 0

  abbrev last : OneList
  last = one_list (entries_of R + internals_of R) 1 0 0 0

  ins : Short first
  ins = record { base = omega arith; width = omega arith; times = omega arith; step = omega arith; up = omega arith }

  outs : Short last
  outs = record { base = omega (arith, all_few); width = omega arith; times = omega arith; step = omega arith; up = omega arith }

  low : entries_of R ≤ 65535
  low = omega (arith, all_few)

  reach : 11 ≤ length lists
  reach = omega arith

  abbrev after : List ℕ
  after = root_put (sizes R) lists

  row_in : list_row after 0 ≡ first
  row_in = node_in lists 0 first last (entries_of R) reach ins outs low

  row_out : list_row after 5 ≡ last
  row_out = node_out lists 0 first last (entries_of R) reach ins outs low

  row_at : (side : Side) → ((list_row after (place_of side 0)).times ≡ 0) × Short (list_row after (place_of side 0))
  row_at Inputs = (ap (λ (r : OneList). r.times) row_in, subst Short (sym row_in) ins)
  row_at Outputs = (ap (λ (r : OneList). r.times) row_out, subst Short (sym row_out) outs)

  root_has : Has after 0 0 (root (sizes R))
  unfolding Chain
  root_has = record {
    entries = subst (λ (r : OneList). Means after Inputs 0 r (plain 0)) (sym row_in) (record { base = refl; width = refl; over = refl });
    internal = node_inner lists 0 first last (entries_of R) reach ins outs low;
    exits = subst (λ (r : OneList). Means after Outputs 0 r (plain (entries_of R + internals_of R))) (sym row_out) (record { base = refl; width = refl; over = refl });
    short = λ side. (row_at side).1;
  }

  -- The pass begins at the root, with no action passed.
  pub begins : (index : List ℕ) → 3 * actions R ≤ length index → Reached rows counts nodes R (root_put (counts_at counts 0) lists) index 0
  unfolding Ahead
  begins index long = subst (λ l. Reached rows counts nodes R l index 0) (sym (ap (λ (c : Counts). root_put c lists) counts_root)) (record {
    n = 0;
    parts = R ∷ [];
    ahead = (
      record {
        at = root_at;
        spreads = root (sizes R);
        has = root_has;
        leads = root_leads R;
        fit = record {
          entries = record { wide = omega arith; ends = omega (arith, all_few, mul-one (entries_of R)) };
          internals = omega (arith, all_few);
          exits = record { wide = omega arith; ends = omega (arith, all_few, mul-one (exits_of R)) };
        };
      },
      (omega (arith, o.table.nodes), omega arith),
    );
    rooted = record { none = λ side. (row_at side).0 };
    room = omega (arith, node_long lists 0 first last (entries_of R) reach ins outs low);
    long = long;
    passed = λ i h. absurd (omega arith);
  })
