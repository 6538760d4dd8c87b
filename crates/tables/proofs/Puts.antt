-- The rows and the arcs of the transitions, put one behind another: what each store leaves is what the rows and arcs of all of them leave.
-- True because stores one behind another are one store of the lists joined, and a transition's arcs end where those of the next one start.
use Prim.Native.Nat.{ℕ, zero, suc, ◌+◌, ◌-◌, ◌*◌, ◌≤◌, ◌<◌}
use native.Mathlib.Omega.{arith}
use mathlib.Core.Path.{◌≡◌, refl, sym, ◌∙◌, ap, ap₂, subst}
use mathlib.Core.List.{List, [], ◌∷◌, ◌++◌, map, append_assoc, Memᴰ}
use lib.ListN.{length, get_or, take, drop, length-append}
use lib.Seq.{sets, sets-eq, drop-drop}
use Rattle.algebra.specs.Expr.{Expr}
use Rattle.algebra.specs.Item.{first}
use Rattle.algebra.specs.Net.{Transition}
use Rattle.algebra.specs.Places.{places}
use Rattle.algebra.specs.Transitions.{transitions}
use Rattle.algebra.specs.Arcs.{transition_of, net_of}
use Rattle.net.specs.Tables.{second, item_of, rows_from, arcs_from, rows_of, arcs_of}
use Rattle.boxes.specs.inner.ArcCounts.{item_arcs}
use Rattle.net.specs.declared.Side.TheVariants.{Inputs, Outputs}
use Rattle.sides.specs.inner.Sides.{told_count, told_arcs, Drafted, PlacedBoth}
use Rattle.sides.proofs.Told.{its_numbers}
use Rattle.tables.specs.inner.Rows.{item_at, listed_at, listed_from, Whole, Asked, Room, Put}
use Rattle.tables.proofs.Counted.{both_sides, side_told, its_actions, item_told, item_few, arcs_told, listed_next, listed_none, Counts, none_counted, one_counted, next_counted}
use Rattle.sides.proofs.Runs.{sets_both}

-- ---- one transition
-- A part of a table that was written whole.
pub part_set : (arcs l : List ℕ) (at n : ℕ) → length l ≡ n → at + n ≤ length arcs → take at arcs ++ (l ++ drop n (drop at arcs)) ≡ sets arcs at l
part_set arcs l at n e h = ap (λ r. take at arcs ++ (l ++ r)) (drop-drop n at arcs ∙ ap (λ k. drop (at + k) arcs) (sym e)) ∙ sym (append_assoc (take at arcs) l (drop (at + length l) arcs)) ∙ sym (sets-eq l arcs at (omega arith))

module _ {lists index : List ℕ} {E : Expr} (d : Drafted lists index E) (list : List ℕ) (t at : ℕ) (m : Memᴰ (listed_at list t) (transitions 0 E)) where
  abbrev T : Transition
  T = transition_of (places 0 E) (listed_at list t)

  row_is : {ins outs : ℕ} → ins ≡ item_arcs (told_count index Inputs) (item_at list t) → outs ≡ item_arcs (told_count index Outputs) (item_at list t)
      → (get_or list (3 * t) 0 ∷ (get_or list (3 * t + 1) 0 ∷ (get_or list (3 * t + 2) 0 ∷ (at ∷ (ins ∷ (outs ∷ [])))))) ≡ rows_from at (T ∷ [])
  unfolding rows_from transition_of
  row_is a b =
      let f = its_numbers (get_or list (3 * t + 1) 0) (get_or list (3 * t + 2) 0) in
      let p = a ∙ item_told d (listed_at list t) m Inputs in
      let q = b ∙ item_told d (listed_at list t) m Outputs in
      λ k. get_or list (3 * t) 0 ∷ (sym f.0 k ∷ (sym f.1 k ∷ (at ∷ (p k ∷ (q k ∷ [])))))

  ends_at : at + item_arcs (told_arcs index) (item_at list t) ≡ at + (length T.inputs + length T.outputs)
  unfolding transition_of
  ends_at = omega (arith, both_sides index (item_at list t), item_told d (listed_at list t) m Inputs, item_told d (listed_at list t) m Outputs)

  arcs_are : {after : List ℕ} → PlacedBoth lists index (item_at list t) after → after ≡ T.inputs ++ T.outputs
  unfolding transition_of
  arcs_are p = p E d (its_actions d (listed_at list t) m) (item_told d (listed_at list t) m)

-- What is left where a transition's part of the arcs and its row were written.
pub transition_put : (lists index list : List ℕ) (t at : ℕ) {rows rows' arcs after : List ℕ} {i j ins outs end : ℕ} → i ≡ get_or list (3 * t + 1) 0 → j ≡ get_or list (3 * t + 2) 0
    → ins ≡ item_arcs (told_count index Inputs) (item_of i j) → outs ≡ item_arcs (told_count index Outputs) (item_of i j) → end ≡ at + ins + outs → end ≤ length arcs
    → rows' ≡ sets rows (6 * t) (get_or list (3 * t) 0 ∷ (get_or list (3 * t + 1) 0 ∷ (get_or list (3 * t + 2) 0 ∷ (at ∷ (ins ∷ (outs ∷ [])))))) → PlacedBoth lists index (item_of i j) after
    → (E : Expr) → Drafted lists index E → Memᴰ (listed_at list t) (transitions 0 E)
    → Put t at (transition_of (places 0 E) (listed_at list t)) rows rows' arcs (take at arcs ++ (after ++ drop (end - at) (drop at arcs)))
transition_put lists index list t at {rows} {rows'} {arcs} {after} {i} {j} {ins} {outs} {end} ei ej a b e h r p E d m =
    let item : item_of i j ≡ item_at list t = ap₂ item_of ei ej in
    let a' = side_told index list t ei ej Inputs a in
    let b' = side_told index list t ei ej Outputs b in
    let w = arcs_are d list t at m (subst (λ x. PlacedBoth lists index x after) item p) in
    let u = T d list t at m in
    let n : length after ≡ end - at = omega (arith, ap length w, length-append u.inputs u.outputs, ends_at d list t at m, both_sides index (item_at list t), a', b') in
    record {
      in_rows = r ∙ ap (sets rows (6 * t)) (row_is d list t at m a' b');
      in_arcs = part_set arcs after at (end - at) n (omega arith) ∙ ap (sets arcs at) w;
    }

-- ---- one before the others
module _ {t at : ℕ} {T : Transition} {rows rows' arcs arcs' : List ℕ} (w : Put t at T rows rows' arcs arcs') (ts : List Transition) {end : ℕ} (e : end ≡ at + (length T.inputs + length T.outputs)) where
  row_first : sets rows (6 * t) (rows_from at (T ∷ ts)) ≡ sets rows' (6 * (t + 1)) (rows_from end ts)
  unfolding rows_from
  row_first =
      ap (λ k. sets rows (6 * t) (T.label ∷ (first T.item ∷ (second T.item ∷ (at ∷ (length T.inputs ∷ (length T.outputs ∷ rows_from k ts))))))) (sym e)
      ∙ sym (sets_both (rows_from at (T ∷ [])) (rows_from end ts) rows (6 * t) (6 * (t + 1)) (omega arith))
      ∙ ap (λ r. sets r (6 * (t + 1)) (rows_from end ts)) (sym w.in_rows)

  arcs_first : sets arcs at (arcs_from (T ∷ ts)) ≡ sets arcs' end (arcs_from ts)
  unfolding arcs_from
  arcs_first =
      ap (sets arcs at) (sym (append_assoc T.inputs T.outputs (arcs_from ts)))
      ∙ sym (sets_both (T.inputs ++ T.outputs) (arcs_from ts) arcs at end (omega (arith, length-append T.inputs T.outputs)))
      ∙ ap (λ r. sets r end (arcs_from ts)) (sym w.in_arcs)

-- ---- all of them, from one turn to the next
listed_member : (list : List ℕ) (s n k t : ℕ) → k < n → t ≡ s + k → Memᴰ (listed_at list t) (listed_from list s n)
unfolding listed_from
listed_member list s zero k t h e = absurd (omega arith)
listed_member list s (suc n) zero t h e = let f : t ≡ s = omega arith in Memᴰ.head (ap (listed_at list) f)
listed_member list s (suc n) (suc k) t h e = Memᴰ.tail (listed_member list (suc s) n k t (omega arith) (omega arith))

member : {lists index list : List ℕ} {many : ℕ} {E : Expr} → Whole lists index list many E → (t : ℕ) → t < many → Memᴰ (listed_at list t) (transitions 0 E)
member {list = list} {many} w t h = subst (Memᴰ (listed_at list t)) w.listed (listed_member list 0 many t t h (omega arith))

-- The transitions of E from t on.
abbrev left : Expr → List ℕ → ℕ → ℕ → List Transition
left E list t many = map (transition_of (places 0 E)) (listed_from list t (many - t))

-- Before transition t: what is left to be put leaves what all of them leave.
pub record Putting (lists index list : List ℕ) (many t at : ℕ) (rows₀ rows arcs₀ arcs : List ℕ) : Type 0 where
  pub counts : Counts (told_arcs index) list t many at
  pub there : t ≤ many
  pub rows_long : length rows ≡ length rows₀
  pub arcs_long : length arcs ≡ length arcs₀
  pub in_rows : (E : Expr) → Whole lists index list many E → sets rows₀ 0 (rows_of (net_of E)) ≡ sets rows (6 * t) (rows_from at (left E list t many))
  pub in_arcs : (E : Expr) → Whole lists index list many E → sets arcs₀ 0 (arcs_of (net_of E)) ≡ sets arcs at (arcs_from (left E list t many))

pub none_put : (lists index list : List ℕ) (many : ℕ) (rows arcs : List ℕ) → Putting lists index list many 0 0 rows rows arcs arcs
unfolding rows_of arcs_of net_of
none_put lists index list many rows arcs =
    let e : many - 0 ≡ many = omega arith in
    record {
      counts = none_counted (told_arcs index) list many;
      there = omega arith;
      rows_long = refl;
      arcs_long = refl;
      in_rows = λ E w. ap (λ ts. sets rows 0 (rows_from 0 (map (transition_of (places 0 E)) ts))) (sym (ap (listed_from list 0) e ∙ w.listed));
      in_arcs = λ E w. ap (λ ts. sets arcs 0 (arcs_from (map (transition_of (places 0 E)) ts))) (sym (ap (listed_from list 0) e ∙ w.listed));
    }

module _ {lists index list : List ℕ} {many t at : ℕ} {rows₀ rows arcs₀ arcs : List ℕ} (p : Putting lists index list many t at rows₀ rows arcs₀ arcs) where
  -- There is room for the next one.
  pub room : Asked lists index list many rows₀ arcs₀ → t < many → Room index list t at rows arcs
  room q h =
      let n = one_counted p.counts h in
      let e = arcs_told q.E q.whole in
      record {
        few = omega (arith, q.few);
        rows_long = omega (arith, q.rows_long, p.rows_long);
        list_long = omega (arith, q.list_long);
        arcs_long = omega (arith, q.arcs_long, p.arcs_long);
        arcs_few = omega (arith, q.arcs_few);
        side_few = item_few q.whole.draft (listed_at list t) (member q.whole t h);
      }

  module _ (h : t < many) {end : ℕ} {rows' arcs' : List ℕ} (n : end ≡ at + item_arcs (told_arcs index) (item_at list t))
      (w : (E : Expr) → Drafted lists index E → Memᴰ (listed_at list t) (transitions 0 E) → Put t at (transition_of (places 0 E) (listed_at list t)) rows rows' arcs arcs') where
    next : (E : Expr) → left E list t many ≡ transition_of (places 0 E) (listed_at list t) ∷ left E list (t + 1) many
    next E = ap (map (transition_of (places 0 E))) (listed_next list t many h)

    pub one_put : length rows' ≡ length rows → length arcs' ≡ length arcs → Putting lists index list many (t + 1) end rows₀ rows' arcs₀ arcs'
    one_put a b = record {
      counts = next_counted p.counts h n;
      there = omega arith;
      rows_long = a ∙ p.rows_long;
      arcs_long = b ∙ p.arcs_long;
      in_rows = λ E v.
          let m = member v t h in
          p.in_rows E v ∙ ap (λ ts. sets rows (6 * t) (rows_from at ts)) (next E)
          ∙ row_first (w E v.draft m) (left E list (t + 1) many) (n ∙ ends_at v.draft list t at m);
      in_arcs = λ E v.
          let m = member v t h in
          p.in_arcs E v ∙ ap (λ ts. sets arcs at (arcs_from ts)) (next E)
          ∙ arcs_first (w E v.draft m) (left E list (t + 1) many) (n ∙ ends_at v.draft list t at m);
    }

  -- Behind the last there is nothing left.
  pub all_rows : many ≤ t → (E : Expr) → Whole lists index list many E → rows ≡ sets rows₀ 0 (rows_of (net_of E))
  unfolding rows_from
  all_rows h E v = sym (p.in_rows E v ∙ ap (λ ts. sets rows (6 * t) (rows_from at (map (transition_of (places 0 E)) ts))) (listed_none list t many h))

  pub all_arcs : many ≤ t → (E : Expr) → Whole lists index list many E → arcs ≡ sets arcs₀ 0 (arcs_of (net_of E))
  unfolding arcs_from
  all_arcs h E v = sym (p.in_arcs E v ∙ ap (λ ts. sets arcs at (arcs_from (map (transition_of (places 0 E)) ts))) (listed_none list t many h))
