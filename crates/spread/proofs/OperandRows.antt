-- The row that is put for an operand has the operand's spreads, and no other row changes.
-- True because its lists are the node's, lowered, and what a list goes on with stands in earlier rows.
use Prim.Native.Nat.{ℕ, ◌+◌, ◌*◌, ◌≤◌, ◌<◌}
use native.Mathlib.Omega.{arith}
use mathlib.Core.Path.{◌≡◌, refl, sym, ◌∙◌, ap, ap₂, subst}
use mathlib.Core.Bool.{Bool, true, false, cond}
use mathlib.Core.Logic.{◌⊎◌, inl}
use mathlib.Core.List.{List, [], ◌∷◌}
use lib.ListN.{length, get_or}
use lib.Dec.{eqb}
use borrow.Author.Tests.{eqb-true, eqb-false}
use Rattle.algebra.specs.Expr.{Expr}
use Rattle.arcs.specs.inner.Moves.{Kind, Entry, Internal, Exit, Move}
use Rattle.arcs.specs.inner.Spreads.{Factor, Spread, lowered, Spreads, list_of, under}
use Rattle.net.specs.declared.Side.{Side}
use Rattle.net.specs.declared.Side.TheVariants.{Inputs, Outputs}
use Rattle.arcs.proofs.SpreadsFit.{Lowers, AllLower}
use Rattle.lists.specs.inner.Lists.{OneList, one_list, Short, list_row, list_by, lower, node_put, operand_put, place_of, Chain, Means, Has}
use Rattle.lists.proofs.RowsPut.{node_long, node_kept, node_in, node_out, node_inner}

-- The root's lists are not copied, so that what goes on with them ends there.
pub record Rooted (lists : List ℕ) : Type 0 where
  pub none : (side : Side) → get_or lists (place_of side 0 + 2) 0 ≡ 0

-- Five numbers that are the same are the same list.
pub row_same : (lists other : List ℕ) (at : ℕ) → ((j : ℕ) → at ≤ j → j < at + 5 → get_or other j 0 ≡ get_or lists j 0) → list_row other at ≡ list_row lists at
row_same lists other at same =
    let a = same at (omega arith) (omega arith) in
    let b = same (at + 1) (omega arith) (omega arith) in
    let c = same (at + 2) (omega arith) (omega arith) in
    let d = same (at + 3) (omega arith) (omega arith) in
    let e = same (at + 4) (omega arith) (omega arith) in
    λ i. one_list (a i) (b i) (c i) (d i) (e i)

-- An operand's lists are lowered from the node's, which may stand in another table too.
pub operand_from : (from lists : List ℕ) (k c : ℕ) (entry exit : Move) (off : ℕ) → ((j : ℕ) → 11 * k ≤ j → j < 11 * k + 11 → get_or lists j 0 ≡ get_or from j 0)
    → operand_put from lists k c entry exit off ≡ operand_put lists lists k c entry exit off
operand_from from lists k c entry exit off same =
    λ i. node_put lists c (lower entry k (list_same entry.kind i)) (lower exit k (list_same exit.kind i)) (sym (same (11 * k + 10) (omega arith) (omega arith)) i + off)
  where
    list_same : (kind : Kind) → list_by from k kind ≡ list_by lists k kind
    list_same Entry = sym (row_same from lists (11 * k) (λ j l h. same j l (omega arith)))
    list_same Internal = ap (λ n. one_list n 1 0 0 0) (sym (same (11 * k + 10) (omega arith) (omega arith)))
    list_same Exit = sym (row_same from lists (11 * k + 5) (λ j l h. same j (omega arith) (omega arith)))

-- ---- what a list goes on with stands before a row
pub chain_below : (lists : List ℕ) (side : Side) {a b : ℕ} → a ≤ b → (times step up : ℕ) (fs : List Factor) → Chain lists side a times step up fs → Chain lists side b times step up fs
unfolding Chain
chain_below lists side h times step up [] c = c
chain_below lists side h times step up (f ∷ fs) c = (c.0, c.1, c.2, omega (arith, c.3), c.4)

side_low : (side : Side) (k : ℕ) → place_of side k + 4 < 11 * k + 10
side_low Inputs k = omega arith
side_low Outputs k = omega arith

pub chain_kept : (lists other : List ℕ) (side : Side) (below : ℕ) → ((j : ℕ) → j < 11 * below → get_or other j 0 ≡ get_or lists j 0) → (times step up : ℕ) (fs : List Factor)
    → Chain lists side below times step up fs → Chain other side below times step up fs
unfolding Chain
chain_kept lists other side below same times step up [] c = c
chain_kept lists other side below same times step up (f ∷ fs) c =
    let low = side_low side up in
    let a = same (place_of side up + 2) (omega (arith, low, c.3)) in
    let b = same (place_of side up + 3) (omega (arith, low, c.3)) in
    let d = same (place_of side up + 4) (omega (arith, low, c.3)) in
    let rest = chain_kept lists other side up (λ j l. same j (omega (arith, c.3))) _ _ _ fs c.4 in
    (c.0, c.1, c.2, c.3, go _ _ _ _ _ _ (sym a) (sym b) (sym d) rest)
  where
    go : (t t' s s' u u' : ℕ) → t ≡ t' → s ≡ s' → u ≡ u' → Chain other side up t s u fs → Chain other side up t' s' u' fs
    go t t' s s' u u' p q r x = subst (λ z. Chain other side up t' s' z fs) r (subst (λ z. Chain other side up t' z u fs) q (subst (λ z. Chain other side up z s u fs) p x))

-- ---- a list of the node, and the same lowered
-- A side's places stand in its own list of the node, or among the internals.
abbrev pub Stays : Side → Kind → Type 0
Stays Inputs Entry = Unit {0}
Stays Inputs Internal = Unit {0}
Stays Inputs Exit = ⊥
Stays Outputs Entry = ⊥
Stays Outputs Internal = Unit {0}
Stays Outputs Exit = Unit {0}

module _ (lists : List ℕ) (k : ℕ) (s : Spreads) (h : Has lists k k s) where
  list_means : (side : Side) (kind : Kind) → Stays side kind → Means lists side k (list_by lists k kind) (list_of s kind)
  unfolding Chain
  list_means Inputs Entry t = h.entries
  list_means Inputs Internal t = record { base = h.internal; width = refl; over = refl }
  list_means Inputs Exit t = absurd t
  list_means Outputs Entry t = absurd t
  list_means Outputs Internal t = record { base = h.internal; width = refl; over = refl }
  list_means Outputs Exit t = h.exits

  -- A list that is copied is its side's own.
  own_row : (side : Side) (kind : Kind) → Stays side kind → ((list_by lists k kind).times ≡ 0 → ⊥) → list_by lists k kind ≡ list_row lists (place_of side k)
  own_row Inputs Entry t n = refl
  own_row Inputs Internal t n = absurd (n refl)
  own_row Inputs Exit t n = absurd t
  own_row Outputs Entry t n = absurd t
  own_row Outputs Internal t n = absurd (n refl)
  own_row Outputs Exit t n = refl

  list_short : (kind : Kind) → ((list_by lists k kind).times ≤ 65535) × ((list_by lists k kind).step ≤ 65535)
  list_short Entry = ((h.short Inputs).times, (h.short Inputs).step)
  list_short Internal = (omega arith, omega arith)
  list_short Exit = ((h.short Outputs).times, (h.short Outputs).step)

  module _ (rooted : Rooted lists) (c : ℕ) (later : k < c) (side : Side) (m : Move) (stays : Stays side m.kind) (some : 0 < m.left) where
    abbrev l : OneList
    l = list_by lists k m.kind

    abbrev t : Spread
    t = list_of s m.kind

    means : Means lists side k l t
    means = list_means side m.kind stays

    first_chain : l.times ≡ 0 → (m.left ≡ 1 → ⊥) → (fs : List Factor) → Chain lists side k l.times l.step l.up fs
        → Chain lists side c m.left (m.step * l.width) 0 (record { times = m.left; step = m.step * t.width } ∷ fs)
    unfolding Chain
    first_chain z n [] x = (refl, ap (λ w. m.step * w) means.width, omega arith, omega arith, rooted.none side)
    first_chain z n (f ∷ fs) x = absurd (omega (arith, z, x.2))

    more_chain : (l.times ≡ 0 → ⊥) → (m.left ≡ 1 → ⊥) → (fs : List Factor) → Chain lists side k l.times l.step l.up fs
        → Chain lists side c m.left (m.step * l.width) k (record { times = m.left; step = m.step * t.width } ∷ fs)
    unfolding Chain
    more_chain z n fs x =
        (refl, ap (λ w. m.step * w) means.width, omega arith, omega arith, subst (λ (r : OneList). Chain lists side k r.times r.step r.up fs) (own_row side m.kind stays z) x)

    lower_means : Means lists side c (lower m k l) (lowered m t)
    lower_means = go (eqb m.left 1) refl (eqb l.times 0) refl
      where
        base : l.base + m.off * l.width ≡ t.base + m.off * t.width
        base = ap₂ (λ a b. a + m.off * b) means.base means.width

        width : m.right * l.width ≡ m.right * t.width
        width = ap (λ w. m.right * w) means.width

        go : (a : Bool) → eqb m.left 1 ≡ a → (b : Bool) → eqb l.times 0 ≡ b
            → Means lists side c
            (cond a (one_list (l.base + m.off * l.width) (m.right * l.width) l.times l.step l.up)
            (one_list (l.base + m.off * l.width) (m.right * l.width) m.left (m.step * l.width) (cond b 0 k)))
            (record { base = t.base + m.off * t.width; width = m.right * t.width; over = cond a t.over (record { times = m.left; step = m.step * t.width } ∷ t.over) })
        go true e b f = record { base = base; width = width; over = chain_below lists side (omega arith) l.times l.step l.up t.over means.over }
        go false e true f = record { base = base; width = width; over = first_chain (eqb-true l.times 0 f) (eqb-false m.left 1 e) t.over means.over }
        go false e false f = record { base = base; width = width; over = more_chain (eqb-false l.times 0 f) (eqb-false m.left 1 e) t.over means.over }

-- ---- the row of an operand
module _ (lists : List ℕ) (k : ℕ) (s : Spreads) (h : Has lists k k s) (rooted : Rooted lists) (c : ℕ) (later : k < c) (small : c ≤ 65535) (room : 11 * c + 11 ≤ length lists) where
  list_up : (kind : Kind) → (list_by lists k kind).up ≤ 65535
  list_up Entry = (h.short Inputs).up
  list_up Internal = omega arith
  list_up Exit = (h.short Outputs).up

  lower_short : (m : Move) (limit count : ℕ) → limit ≤ 65535 → (side : Side) → Stays side m.kind → Lowers limit count m (list_of s m.kind) → Short (lower m k (list_by lists k m.kind))
  lower_short m limit count low side stays f = go (eqb m.left 1) (eqb l.times 0)
    where
      l : OneList
      l = list_by lists k m.kind

      same : Means lists side k l (list_of s m.kind)
      same = list_means lists k s h side m.kind stays

      base : l.base + m.off * l.width ≤ 65535
      base = let e = ap₂ (λ a b. a + m.off * b) same.base same.width in omega (arith, e, f.base)

      width : m.right * l.width ≤ 65535
      width = let e = ap (λ b. m.right * b) same.width in omega (arith, e, f.width)

      step : m.step * l.width ≤ 65535
      step = let e = ap (λ b. m.step * b) same.width in omega (arith, e, f.step)

      times : m.left ≤ 65535
      times = omega (arith, f.copies)

      go : (a b : Bool)
          → Short (cond a (one_list (l.base + m.off * l.width) (m.right * l.width) l.times l.step l.up)
          (one_list (l.base + m.off * l.width) (m.right * l.width) m.left (m.step * l.width) (cond b 0 k)))
      go true b = record { base = base; width = width; times = (list_short lists k s h m.kind).0; step = (list_short lists k s h m.kind).1; up = list_up m.kind }
      go false true = record { base = base; width = width; times = times; step = step; up = omega arith }
      go false false = record { base = base; width = width; times = times; step = step; up = omega arith }

  module _ (X : Expr) (m : Kind → Move) (f : AllLower 2048 X m s) (ins : Stays Inputs (m Entry).kind) (outs : Stays Outputs (m Exit).kind) (inner : s.internal + (m Internal).off ≤ 2048) where
    abbrev first : OneList
    first = lower (m Entry) k (list_by lists k (m Entry).kind)

    abbrev second : OneList
    second = lower (m Exit) k (list_by lists k (m Exit).kind)

    ins_short : Short first
    ins_short = lower_short (m Entry) 2048 _ (omega arith) Inputs ins f.entries

    outs_short : Short second
    outs_short = lower_short (m Exit) 2048 _ (omega arith) Outputs outs f.exits

    internal_is : get_or lists (11 * k + 10) 0 + (m Internal).off ≡ s.internal + (m Internal).off
    internal_is = ap (λ n. n + (m Internal).off) h.internal

    abbrev off : ℕ
    off = get_or lists (11 * k + 10) 0 + (m Internal).off

    low : off ≤ 65535
    low = omega (arith, internal_is)

    abbrev after : List ℕ
    after = operand_put lists lists k c (m Entry) (m Exit) (m Internal).off

    pub operand_long : length after ≡ length lists
    operand_long = node_long lists c first second off room ins_short outs_short low

    pub operand_kept : (j : ℕ) → (j < 11 * c) ⊎ (11 * c + 11 ≤ j) → get_or after j 0 ≡ get_or lists j 0
    operand_kept = node_kept lists c first second off room ins_short outs_short low

    row_in : list_row after (11 * c) ≡ first
    row_in = node_in lists c first second off room ins_short outs_short low

    row_out : list_row after (11 * c + 5) ≡ second
    row_out = node_out lists c first second off room ins_short outs_short low

    kept_means : (side : Side) {l : OneList} {t : Spread} → Means lists side (k + 1) l t → Means after side (k + 1) l t
    kept_means side {l} {t} x = record {
      base = x.base;
      width = x.width;
      over = chain_kept lists after side (k + 1) (λ j b. operand_kept j (inl (omega arith))) l.times l.step l.up t.over x.over;
    }

    pub operand_has : Has after (k + 1) c (under m s)
    operand_has = record {
      entries = subst (λ (r : OneList). Means after Inputs (k + 1) r (under m s).entries) (sym row_in) (kept_means Inputs (lower_means lists k s h rooted (k + 1) (omega arith) Inputs (m Entry) ins f.entries.some));
      internal = node_inner lists c first second off room ins_short outs_short low ∙ internal_is;
      exits = subst (λ (r : OneList). Means after Outputs (k + 1) r (under m s).exits) (sym row_out) (kept_means Outputs (lower_means lists k s h rooted (k + 1) (omega arith) Outputs (m Exit) outs f.exits.some));
      short = λ side. go side;
    }
      where
        go : (side : Side) → Short (list_row after (place_of side c))
        go Inputs = subst Short (sym row_in) ins_short
        go Outputs = subst Short (sym row_out) outs_short
