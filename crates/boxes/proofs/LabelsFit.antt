-- Every transition of an accepted plan has a label and actions that fit the tables: labels 0 to 127 and 129 to 255, actions up to 255.
-- A label is an action's own or 0 of a joined pair, and the actions are those of the plan, of which there are at most 256.
use Prim.Native.Nat.{ℕ, ◌+◌, ◌≤◌}
use native.Mathlib.Omega.{arith}
use mathlib.Core.Path.{sym, subst}
use mathlib.Core.Logic.{◌⊎◌, inl, inr, ⊎_elim}
use mathlib.Core.Bool.{not, ◌&&◌}
use mathlib.Core.List.Memᴰ
use mathlib.Core.List.{List, ◌++◌, map, Memᴰ}
use lib.Dec.{T, eqb, leb, eqb→eq, leb→le, le→leb, not_T}
use Rattle.field.proofs.Tests.{and_parts, parts_and, or_cases}
use Rattle.algebra.specs.Expr.{Expr, action, sequence, choice, parallel, loop, scope, actions}
use Rattle.algebra.specs.Item.{Item, one, two}
use Rattle.plan.specs.Reading.{is_label, is_name}
use Rattle.plan.specs.Bytes.{named}
use Rattle.algebra.specs.Net.{Transition}
use Rattle.field.specs.Lists.{all}
use Rattle.net.specs.Check.{actions_fit, codes_fit}
use Rattle.field.proofs.Alls.{all_of}
use Rattle.algebra.specs.Places.{places}
use Rattle.algebra.specs.Transitions.{Labelled, kept, transitions}
use Rattle.algebra.specs.Arcs.{transition_of, net_of}
use Rattle.algebra.proofs.Members.{kept_member, joined_member}
use Rattle.algebra.proofs.EveryStepHasAnInput.{InRange, items_in_range}

-- A label of the box is a label of the plan.
Told : Labelled → Type 0
Told t = T (is_label t.label)

either : {ts us : List Labelled} {t : Labelled} → Memᴰ t (ts ++ us) → (Memᴰ t ts → Told t) → (Memᴰ t us → Told t) → Told t
either {ts} m f g = ⊎_elim f g (Memᴰ.append_cases ts m)

pub labels_told : (n : ℕ) (E : Expr) → T (named E) → (t : Labelled) → Memᴰ t (transitions n E) → T (is_label t.label)
unfolding transitions named kept Told
labels_told n (action l) h t m = subst (λ u. T (is_label u.label)) (sym (Memᴰ.eq_of_singleton m)) h
labels_told n (sequence E F) h t m = let p = and_parts (named E) (named F) h in either m (labels_told n E p.0 t) (labels_told (n + actions E) F p.1 t)
labels_told n (choice E F) h t m = let p = and_parts (named E) (named F) h in either m (labels_told n E p.0 t) (labels_told (n + actions E) F p.1 t)
labels_told n (parallel E F) h t m = let p = and_parts (named E) (named F) h in either m (labels_told n E p.0 t) (labels_told (n + actions E) F p.1 t)
labels_told n (loop E F G) h t m =
    let p = and_parts (named E) (named F && named G) h in
    let q = and_parts (named F) (named G) p.1 in
    either m (labels_told n E p.0 t) (λ k. either k (labels_told (n + actions E) F q.0 t) (labels_told (n + actions E + actions F) G q.1 t))
labels_told n (scope a E) h t m =
    let p = and_parts (is_name a) (named E) h in
    either {ts = kept a (transitions n E)} m (λ k. labels_told n E p.1 t (kept_member a (transitions n E) k))
    (λ k. let j = joined_member n E a (transitions n E) k in subst (λ u. T (is_label u.label)) (sym j.made) tt)

label_fits : (l : ℕ) → T (is_label l) → T (not (eqb l 128)) × T (leb l 255)
label_fits l h = go (or_cases (leb l 127) (leb 129 l && leb l 255) h)
  where
    go : T (leb l 127) ⊎ T (leb 129 l && leb l 255) → T (not (eqb l 128)) × T (leb l 255)
    go (inl p) = let q = leb→le l 127 p in (not_T (eqb l 128) (λ e. omega (arith, eqb→eq l 128 e)), le→leb l 255 (omega arith))
    go (inr p) =
        let q = and_parts (leb 129 l) (leb l 255) p in
        let r = leb→le 129 l q.0 in
        (not_T (eqb l 128) (λ e. omega (arith, eqb→eq l 128 e)), q.1)

items_fit : (hi : ℕ) → hi ≤ 256 → (t : Item) → InRange 0 hi t → T (actions_fit t)
items_fit hi h (one i) r = le→leb i 255 (omega (arith, r.1))
items_fit hi h (two i j) r = parts_and (leb i 255) (leb j 255) (le→leb i 255 (omega (arith, r.1))) (le→leb j 255 (omega (arith, r.3)))

pub codes_fit_in : (E : Expr) → T (named E) → actions E ≤ 256 → T (all codes_fit (net_of E).transitions)
unfolding net_of codes_fit transition_of
codes_fit_in E h few = all_of codes_fit (map (transition_of (places 0 E)) (transitions 0 E)) each
  where
    each : (u : Transition) → Memᴰ u (map (transition_of (places 0 E)) (transitions 0 E)) → T (codes_fit u)
    each u m =
        let q = Memᴰ.of_map (transition_of (places 0 E)) (transitions 0 E) m in
        let l = label_fits q.0.label (labels_told 0 E h q.0 q.1) in
        subst (λ v. T (codes_fit v)) q.2
        (parts_and (not (eqb q.0.label 128)) _ l.0 (parts_and (leb q.0.label 255) _ l.1 (items_fit (0 + actions E) (omega arith) q.0.item (items_in_range 0 E q.0 q.1))))
