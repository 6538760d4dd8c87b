-- A node puts the lists of its operands, and all parts that are still to come keep theirs.
-- True because an operand's row stands behind its node's, the rows of what comes after the node stand behind those of its operands, and no list goes on with a row that changes.
use Prim.Native.Nat.{ℕ, ◌+◌, ◌*◌, ◌≤◌, ◌<◌}
use native.Mathlib.Omega.{arith}
use native.Mathlib.Nat.{le-mul_of_pos_right}
use mathlib.Core.Path.{◌≡◌, sym, ◌∙◌, subst}
use mathlib.Core.Logic.{◌⊎◌, inl, inr}
use mathlib.Core.List.{List, [], ◌∷◌, ◌++◌}
use lib.ListN.{length, get_or}
use Rattle.algebra.specs.Expr.{Expr, actions}
use Rattle.plan.specs.inner.Nodes.{node_count}
use Rattle.plan.proofs.NodeValues.{node_count_positive}
use Rattle.arcs.specs.inner.Moves.{Kind, Entry, Internal, Exit, Move, shift}
use Rattle.boxes.specs.inner.Counted.{counts_at}
use Rattle.arcs.specs.inner.Nodes.{At}
use Rattle.arcs.specs.inner.Spreads.{Spread, Spreads, under}
use Rattle.net.specs.declared.Side.{Side}
use Rattle.net.specs.declared.Side.TheVariants.{Inputs, Outputs}
use Rattle.arcs.proofs.Sizes.{sizes, counts_here}
use Rattle.arcs.proofs.Children as kids
use Rattle.arcs.proofs.Leads.{Leads}
use Rattle.arcs.proofs.SpreadsFit.{Fits, AllFit, Parts, all_lower}
use Rattle.lists.specs.inner.Lists.{OneList, Short, list_row, operand_put, place_of, Means, Has}
use Rattle.spread.specs.inner.Walk.{one_put}
use Rattle.spread.proofs.OperandRows.{Rooted, Stays, row_same, chain_below, chain_kept, operand_from, operand_has, operand_kept, operand_long}

-- ---- rows that do not change
side_low : (side : Side) (k : ℕ) → (11 * k ≤ place_of side k) × (place_of side k + 5 ≤ 11 * k + 10)
side_low Inputs k = (omega arith, omega arith)
side_low Outputs k = (omega arith, omega arith)

module _ (lists other : List ℕ) (below k : ℕ) (low : (j : ℕ) → j < 11 * below → get_or other j 0 ≡ get_or lists j 0) (own : (j : ℕ) → 11 * k ≤ j → j < 11 * k + 11 → get_or other j 0 ≡ get_or lists j 0) where
  kept : (side : Side) → list_row other (place_of side k) ≡ list_row lists (place_of side k)
  kept side = let (l, h) = side_low side k in row_same lists other (place_of side k) (λ j a b. own j (omega arith) (omega arith))

  pub means_kept : (side : Side) {t : Spread} → Means lists side below (list_row lists (place_of side k)) t → Means other side below (list_row other (place_of side k)) t
  means_kept side {t} m = subst (λ (r : OneList). Means other side below r t) (sym (kept side)) (record {
    base = m.base;
    width = m.width;
    over = chain_kept lists other side below low _ _ _ t.over m.over;
  })

  has_kept : {s : Spreads} → Has lists below k s → Has other below k s
  has_kept h = record {
    entries = means_kept Inputs h.entries;
    internal = own (11 * k + 10) (omega arith) (omega arith) ∙ h.internal;
    exits = means_kept Outputs h.exits;
    short = λ side. subst (λ (r : OneList). Short r) (sym (kept side)) (h.short side);
  }

has_raised : (lists : List ℕ) {a b : ℕ} (k : ℕ) {s : Spreads} → a ≤ b → Has lists a k s → Has lists b k s
has_raised lists {a} {b} k {s} l h = record {
  entries = raised Inputs h.entries;
  internal = h.internal;
  exits = raised Outputs h.exits;
  short = h.short;
}
  where
    raised : (side : Side) {t : Spread} → Means lists side a (list_row lists (place_of side k)) t → Means lists side b (list_row lists (place_of side k)) t
    raised side {t} m = record { base = m.base; width = m.width; over = chain_below lists side l _ _ _ t.over m.over }

rooted_kept : (lists other : List ℕ) → ((j : ℕ) → j < 11 → get_or other j 0 ≡ get_or lists j 0) → Rooted lists → Rooted other
rooted_kept lists other same r = record { none = λ side. same (place_of side 0 + 2) (omega (arith, (side_low side 0).1)) ∙ r.none side }

-- ---- the parts that are still to come
module _ (rows counts : List ℕ) (nodes : ℕ) (R : Expr) where
  -- A node with its lists; what they go on with stands below a node.
  pub record Knot (lists : List ℕ) (below k n : ℕ) (X : Expr) : Type 0 where
    pub at : At rows counts nodes k n X
    pub spreads : Spreads
    pub has : Has lists below k spreads
    pub leads : Leads R n X spreads
    pub fit : AllFit 2048 X spreads

  -- One part after another, up to the last.
  unfoldable pub Ahead : List ℕ → ℕ → ℕ → ℕ → List Expr → Type 0
  Ahead lists below k n [] = (k ≡ nodes) × (n ≡ actions R)
  Ahead lists below k n (X ∷ Xs) = Knot lists below k n X × Ahead lists below (k + node_count X) (n + actions X) Xs

  pub ahead_kept : (lists other : List ℕ) (a b : ℕ) → a ≤ b → ((j : ℕ) → j < 11 * a → get_or other j 0 ≡ get_or lists j 0) → (k n : ℕ) (Xs : List Expr) → ((j : ℕ) → 11 * k ≤ j → get_or other j 0 ≡ get_or lists j 0)
      → Ahead lists a k n Xs → Ahead other b k n Xs
  unfolding Ahead
  ahead_kept lists other a b l low k n [] high h = h
  ahead_kept lists other a b l low k n (X ∷ Xs) high (x, xs) = (
    record { at = x.at; spreads = x.spreads; has = has_raised other k l (has_kept lists other a k low (λ j p q. high j p) x.has); leads = x.leads; fit = x.fit },
    ahead_kept lists other a b l low (k + node_count X) (n + actions X) Xs (λ j p. high j (omega arith)) xs,
  )

  pub ahead_actions : (lists : List ℕ) (below k n : ℕ) (Xs : List Expr) → Ahead lists below k n Xs → n ≤ actions R
  unfolding Ahead
  ahead_actions lists below k n [] h = omega (arith, h.1)
  ahead_actions lists below k n (X ∷ Xs) (x, xs) = omega (arith, ahead_actions lists below (k + node_count X) (n + actions X) Xs xs)

  -- ---- one operand
  -- What is known when the pass is on a node.
  pub record Here (lists : List ℕ) (k : ℕ) (s : Spreads) : Type 0 where
    pub has : Has lists k k s
    pub rooted : Rooted lists
    pub room : 11 * nodes ≤ length lists
    pub small : nodes ≤ 65535

  -- The row of operand c is put: it has the operand's lists, and no other row changes.
  pub record Placed (lists other : List ℕ) (k c : ℕ) (X : Expr) (m : Kind → Move) (s : Spreads) : Type 0 where
    pub has : Has other (k + 1) c (under m s)
    pub fit : AllFit 2048 X (under m s)
    pub here : Here other k s
    pub kept : (j : ℕ) → (j < 11 * c) ⊎ (11 * c + 11 ≤ j) → get_or other j 0 ≡ get_or lists j 0

  place : (lists : List ℕ) (k c : ℕ) (P X : Expr) (m : Kind → Move) (s : Spreads) → Here lists k s → AllFit 2048 P s → k < c → c < nodes → Parts P X m → Stays Inputs (m Entry).kind → Stays Outputs (m Exit).kind
      → Placed lists (operand_put lists lists k c (m Entry) (m Exit) (m Internal).off) k c X m s
  place lists k c P X m s h fit later inside parts ins outs =
      let f = all_lower 2048 P X m s parts fit in
      let i : s.internal + (m Internal).off ≤ 2048 = omega (arith, parts.internals, fit.internals) in
      let r : 11 * c + 11 ≤ length lists = omega (arith, h.room) in
      let b : c ≤ 65535 = omega (arith, h.small) in
      let other = operand_put lists lists k c (m Entry) (m Exit) (m Internal).off in
      let kept : (j : ℕ) → (j < 11 * c) ⊎ (11 * c + 11 ≤ j) → get_or other j 0 ≡ get_or lists j 0 = operand_kept lists k s h.has h.rooted c later b r X m f ins outs i in
      record {
        has = operand_has lists k s h.has h.rooted c later b r X m f ins outs i;
        fit = f.fit;
        here = record {
          has = has_kept lists other k k (λ j l. kept j (inl (omega arith))) (λ j l u. kept j (inl (omega arith))) h.has;
          rooted = rooted_kept lists other (λ j l. kept j (inl (omega arith))) h.rooted;
          room = omega (arith, h.room, operand_long lists k s h.has h.rooted c later b r X m f ins outs i);
          small = h.small;
        };
        kept = kept;
      }

  -- ---- the operands of a node
  -- The pass goes on behind node k, whose subtree ends before node `after`.
  pub record Next (lists other : List ℕ) (k n after upto : ℕ) (Xs : List Expr) : Type 0 where
    pub operands : (Ys : List Expr) → Ahead other (k + 1) after upto Ys → Ahead other (k + 1) (k + 1) n (Xs ++ Ys)
    pub kept : (j : ℕ) → (j < 11 * (k + 1)) ⊎ (11 * after ≤ j) → get_or other j 0 ≡ get_or lists j 0
    pub rooted : Rooted other
    pub room : 11 * nodes ≤ length other

  -- Each count of an operand is within the limit, so the counts in the table are the true ones.
  few : {limit count : ℕ} {t : Spread} → Fits limit count t → count ≤ limit
  few {limit} {count} {t} f = omega (arith, f.ends, le-mul_of_pos_right count f.wide)

  pub counts_are : (k n : ℕ) (X : Expr) (s : Spreads) → At rows counts nodes k n X → AllFit 2048 X s → counts_at counts k ≡ sizes X
  counts_are k n X s a f = counts_here counts k X a.counted (few f.entries) (omega (arith, f.internals)) (few f.exits)

  -- ---- two operands, three, one
  module _ (lists : List ℕ) (k n : ℕ) (P : Expr) (s : Spreads) (h : Here lists k s) (fit : AllFit 2048 P s) where
    module _ (E F : Expr) (ats : At rows counts nodes (k + 1) n E × At rows counts nodes (k + 1 + node_count E) (n + actions E) F) (m₁ m₂ : Kind → Move) (parts : Parts P E m₁ × Parts P F m₂)
        (leads : Leads R n E (under m₁ s) × Leads R (n + actions E) F (under m₂ s))
        (stays : Stays Inputs (m₁ Entry).kind × Stays Outputs (m₁ Exit).kind × Stays Inputs (m₂ Entry).kind × Stays Outputs (m₂ Exit).kind) where
      abbrev c₂ : ℕ
      c₂ = k + 1 + node_count E

      abbrev one : List ℕ
      one = operand_put lists lists k (k + 1) (m₁ Entry) (m₁ Exit) (m₁ Internal).off

      abbrev two : List ℕ
      two = operand_put lists one k c₂ (m₂ Entry) (m₂ Exit) (m₂ Internal).off

      p₁ : Placed lists one k (k + 1) E m₁ s
      p₁ = place lists k (k + 1) P E m₁ s h fit (omega arith) (kids.node_inside rows counts nodes E ats.0) parts.0 stays.0 stays.1

      p₂ : Placed one two k c₂ F m₂ s
      p₂ = subst (λ o. Placed one o k c₂ F m₂ s) (sym (operand_from lists one k c₂ (m₂ Entry) (m₂ Exit) (m₂ Internal).off (λ j l h. p₁.kept j (inl (omega arith)))))
          (place one k c₂ P F m₂ s p₁.here fit (omega arith) (kids.node_inside rows counts nodes F ats.1) parts.1 stays.2 stays.3)

      knot₂ : Knot two (k + 1) c₂ (n + actions E) F
      knot₂ = record { at = ats.1; spreads = under m₂ s; has = p₂.has; leads = leads.1; fit = p₂.fit }

      has₁ : Has two (k + 1) (k + 1) (under m₁ s)
      has₁ = let z = node_count_positive E in has_kept one two (k + 1) (k + 1) (λ j l. p₂.kept j (inl (omega arith))) (λ j l u. p₂.kept j (inl (omega arith))) p₁.has

      pub two_next : Next lists two k n (k + 1 + node_count E + node_count F) (n + actions E + actions F) (E ∷ (F ∷ []))
      unfolding Ahead
      two_next =
          let z = node_count_positive E in
          let y = node_count_positive F in
          record {
            operands = λ Ys rest. (record { at = ats.0; spreads = under m₁ s; has = has₁; leads = leads.0; fit = p₁.fit }, (knot₂, rest));
            kept = λ j o. go j o;
            rooted = p₂.here.rooted;
            room = p₂.here.room;
          }
        where
          go : (j : ℕ) → (j < 11 * (k + 1)) ⊎ (11 * (k + 1 + node_count E + node_count F) ≤ j) → get_or two j 0 ≡ get_or lists j 0
          go j (inl b) = p₂.kept j (inl (omega arith)) ∙ p₁.kept j (inl b)
          go j (inr b) = let y = node_count_positive F in let z = node_count_positive E in p₂.kept j (inr (omega arith)) ∙ p₁.kept j (inr (omega arith))

      module _ (G : Expr) (at : At rows counts nodes (k + 1 + node_count E + node_count F) (n + actions E + actions F) G) (m₃ : Kind → Move) (part : Parts P G m₃)
          (lead : Leads R (n + actions E + actions F) G (under m₃ s)) (in₃ : Stays Inputs (m₃ Entry).kind) (out₃ : Stays Outputs (m₃ Exit).kind) where
        abbrev c₃ : ℕ
        c₃ = k + 1 + node_count E + node_count F

        abbrev three : List ℕ
        three = operand_put lists two k c₃ (m₃ Entry) (m₃ Exit) (m₃ Internal).off

        p₃ : Placed two three k c₃ G m₃ s
        p₃ = subst (λ o. Placed two o k c₃ G m₃ s) (sym (operand_from lists two k c₃ (m₃ Entry) (m₃ Exit) (m₃ Internal).off (λ j l h. two_next.kept j (inl (omega arith)))))
            (place two k c₃ P G m₃ s p₂.here fit (omega arith) (kids.node_inside rows counts nodes G at) part in₃ out₃)

        pub three_next : Next lists three k n (k + 1 + node_count E + node_count F + node_count G) (n + actions E + actions F + actions G) (E ∷ (F ∷ (G ∷ [])))
        unfolding Ahead
        three_next =
            let z = node_count_positive E in
            let y = node_count_positive F in
            record {
              operands = λ Ys rest. (
                record { at = ats.0; spreads = under m₁ s; has = has_kept two three (k + 1) (k + 1) (λ j l. p₃.kept j (inl (omega arith))) (λ j l u. p₃.kept j (inl (omega arith))) has₁; leads = leads.0; fit = p₁.fit },
                (
                  record { at = ats.1; spreads = under m₂ s; has = has_kept two three (k + 1) c₂ (λ j l. p₃.kept j (inl (omega arith))) (λ j l u. p₃.kept j (inl (omega arith))) p₂.has; leads = leads.1; fit = p₂.fit },
                  (record { at = at; spreads = under m₃ s; has = p₃.has; leads = lead; fit = p₃.fit }, rest),
                ),
              );
              kept = λ j o. go j o;
              rooted = p₃.here.rooted;
              room = p₃.here.room;
            }
          where
            go : (j : ℕ) → (j < 11 * (k + 1)) ⊎ (11 * (k + 1 + node_count E + node_count F + node_count G) ≤ j) → get_or three j 0 ≡ get_or lists j 0
            go j (inl b) = p₃.kept j (inl (omega arith)) ∙ two_next.kept j (inl b)
            go j (inr b) = let y = node_count_positive G in p₃.kept j (inr (omega arith)) ∙ two_next.kept j (inr (omega arith))

    pub one_next : (E : Expr) → At rows counts nodes (k + 1) n E → Parts P E (λ k. shift k 0) → Leads R n E (under (λ k. shift k 0) s)
        → Next lists (one_put lists k) k n (k + 1 + node_count E) (n + actions E) (E ∷ [])
    unfolding Ahead
    one_next E at part lead =
        let p = place lists k (k + 1) P E (λ k. shift k 0) s h fit (omega arith) (kids.node_inside rows counts nodes E at) part tt tt in
        record {
          operands = λ Ys rest. (record { at = at; spreads = under (λ k. shift k 0) s; has = p.has; leads = lead; fit = p.fit }, rest);
          kept = λ j o. go (one_put lists k) p.kept j o;
          rooted = p.here.rooted;
          room = p.here.room;
        }
      where
        go : (other : List ℕ) → ((j : ℕ) → (j < 11 * (k + 1)) ⊎ (11 * (k + 1) + 11 ≤ j) → get_or other j 0 ≡ get_or lists j 0) → (j : ℕ) → (j < 11 * (k + 1)) ⊎ (11 * (k + 1 + node_count E) ≤ j) → get_or other j 0 ≡ get_or lists j 0
        go other f j (inl b) = f j (inl b)
        go other f j (inr b) = let z = node_count_positive E in f j (inr (omega arith))
