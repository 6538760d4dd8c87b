-- Moving tokens place by place, as the code does, is the firing of 01: the same refusal at the same item, and the same marking.
-- A place holds at most one token and a transition's inputs rise, so an input that is taken a second time is one that is shared; and
-- putting a token on a place that holds one is what makes a place hold two.
use Prim.Native.Nat.{ℕ, zero, suc, ◌+◌, ◌≤◌, ◌<◌}
use mathlib.Core.Path.{◌≡◌, refl, sym, ap, subst, ◌∙◌}
use mathlib.Core.List.{List, [], ◌∷◌, ◌++◌, map}
use mathlib.Core.Bool.{Bool, true, false, ◌&&◌}
use mathlib.Core.Logic.{⊎_elim}
use native.Mathlib.Nat.{add-zero, add-suc, suc-add}
use native.Mathlib.Omega.{arith}
use borrow.Author.Tests.{eqb-true, eqb-false, eq-eqb, ne_eqb, le-leb, lt-leb, leb-true, leb-false, ltb-true}
use lib.ListN.{length, get_or, set, get_or-eq_default}
use lib.Seq.{get_or-set_other}
use lib.Dec.{T, eqb, leb, ltb, leb-suc-suc}
use Rattle.field.specs.Refusals.{input_empty, input_shared}
use Rattle.field.specs.Answer.{check}
use Rattle.std.proofs.lemmas.List.Folds.{list_all-append}
use Rattle.field.specs.Lists.{all}
use Rattle.field.proofs.Tests.{and_parts, T_true, true_T}
use Rattle.algebra.specs.Net.{Transition}
use Rattle.algebra.specs.Firing.{marked, check_marked, count, check_apart}
use Rattle.algebra.proofs.Enough.{count_here, count_other}
use Rattle.net.specs.Check.{rising, lists_rise}
use Rattle.moving.specs.inner.Moving.{hold, holds_each, filled, shifts, shifts_each, in_one, passed}
use Rattle.field.proofs.Tests.{test}
use Rattle.moving.proofs.Filled.{zero_or_more, filled_other, filled_here, hold_at}
use Rattle.moving.proofs.MoveTurns.{filled_append}

abbrev pub ins_of : List Transition → List (List ℕ)
ins_of ts = map (λ t. t.inputs) ts

abbrev pub outs_of : List Transition → List (List ℕ)
outs_of ts = map (λ t. t.outputs) ts

-- No place of a marking holds more than one token.
abbrev pub Safe : List ℕ → Type 0
Safe m = (p : ℕ) → get_or m p 0 ≤ 1

-- 32: in a marking with at most one token a place, marked is holding one.
pub marked_hold : (m : List ℕ) → Safe m → (t : Transition) → marked m t ≡ hold 1 m t.inputs
unfolding marked all
marked_hold m safe t = go t.inputs
  where
    one : (x : ℕ) → x ≤ 1 → leb 1 x ≡ eqb x 1
    one x h = test (eqb x 1) (λ e. rw e (le-leb 1 x (omega (arith, eqb-true x 1 e)))) (λ e. rw e (lt-leb 1 x (let n = eqb-false x 1 e in below x h n)))
      where
        below : (x : ℕ) → x ≤ 1 → (x ≡ 1 → ⊥) → x < 1
        below zero h n = omega arith
        below (suc zero) h n = absurd (n refl)
        below (suc (suc x)) h n = absurd (omega arith)

    go : (ps : List ℕ) → all (λ p. leb 1 (get_or m p 0)) ps ≡ hold 1 m ps
    go [] = refl
    go (p ∷ ps) = rw (one (get_or m p 0) (safe p), go ps)

pub marked_each : (m : List ℕ) → Safe m → (at : ℕ) (ts : List Transition)
    → check_marked m at ts ≡ check (passed (ins_of ts) (holds_each 1 m (ins_of ts))) input_empty (at + holds_each 1 m (ins_of ts))
unfolding check_marked holds_each
marked_each m safe at [] = refl
marked_each m safe at (t ∷ ts) =
    rw (marked_hold m safe t)
    (test (hold 1 m t.inputs)
    (λ e. rw (e, leb-suc-suc, add-suc at (holds_each 1 m (ins_of ts)), ← suc-add at (holds_each 1 m (ins_of ts))) (marked_each m safe (suc at) ts))
    (λ e. rw (e, add-zero at, lt-leb (suc (length (ins_of ts))) 0 (omega arith))))

-- 33: of a rising list of places that all hold one, those are still there that were not taken.
rising_apart : (places least : ℕ) (w taken l : List ℕ) → rising least places l ≡ true → ((q : ℕ) → least ≤ q → 1 ≤ count q l → eqb (get_or w q 0) 1 ≡ eqb (count q taken) 0)
    → shifts 1 0 w l ≡ all (λ p. eqb (count p taken) 0) l
unfolding shifts all rising
rising_apart places least w taken [] r h = refl
rising_apart places least w taken (p ∷ l) r h =
    let a = and_parts (leb least p) (ltb p places && rising (suc p) places l) (true_T _ r) in
    let b = and_parts (ltb p places) (rising (suc p) places l) a.1 in
    let here : eqb (get_or w p 0) 1 ≡ eqb (count p taken) 0 = h p (leb-true least p (T_true (leb least p) a.0)) (omega (arith, count_here p l)) in
    rw here
    (ap (λ (x : Bool). eqb (count p taken) 0 && x)
    (rising_apart places (suc p) (set w p 0) taken l (T_true (rising (suc p) places l) b.1)
    (λ q k c. ap (λ (n : ℕ). eqb n 1) (get_or-set_other w p q 0 0 (λ e. absurd (let z : ⊥ = omega arith in z))) ∙ h q (omega (arith, leb-true least p (T_true (leb least p) a.0))) (subst (λ (n : ℕ). 1 ≤ n) (sym (count_other q p l (λ e. absurd (let z : ⊥ = omega arith in z)))) c))))

still_there : (m taken : List ℕ) (q : ℕ) → get_or m q 0 ≡ 1 → eqb (get_or (filled 0 m taken) q 0) 1 ≡ eqb (count q taken) 0
still_there m taken q e =
    ⊎_elim
    (λ z. rw (filled_other 0 m taken q z, e, z))
    (λ k. rw (filled_here 0 m taken q k inside, ne_eqb (count q taken) 0 (λ z. absurd (let w : ⊥ = omega arith in w))))
    (zero_or_more (count q taken))
  where
    inside : q < length m
    inside = test (ltb q (length m)) (λ t. ltb-true q (length m) t) (λ t. absurd (let z : get_or m q 0 ≡ 0 = get_or-eq_default m 0 {n = q} (borrow.Author.Tests.ltb-false q (length m) t) in let w : ⊥ = omega arith in w))

-- Each transition's lists of places rise.
abbrev pub Rising : ℕ → List Transition → Type 0
Rising places ts = T (all (lists_rise places) ts)

pub rising_lists : (places : ℕ) (t : Transition) → T (lists_rise places t) → (rising 0 places t.inputs ≡ true) × (rising 0 places t.outputs ≡ true)
unfolding lists_rise
rising_lists places t h =
    let a = and_parts (leb 1 (length t.inputs)) _ h in
    let b = and_parts (rising 0 places t.inputs) _ a.1 in
    let c = and_parts (leb 1 (length t.outputs)) _ b.1 in
    (T_true _ b.0, T_true _ c.1)

pub apart_each : (places : ℕ) (m taken : List ℕ) (at : ℕ) (ts : List Transition) → Rising places ts → hold 1 m (in_one (ins_of ts)) ≡ true
    → check_apart taken at ts ≡ check (passed (ins_of ts) (shifts_each 1 0 (filled 0 m taken) (ins_of ts))) input_shared (at + shifts_each 1 0 (filled 0 m taken) (ins_of ts))
unfolding check_apart shifts_each in_one all
apart_each places m taken at [] r h = refl
apart_each places m taken at (t ∷ ts) r h =
    let a = and_parts (lists_rise places t) (all (lists_rise places) ts) r in
    let hs = and_parts (hold 1 m t.inputs) (hold 1 m (in_one (ins_of ts))) (true_T _ (sym (list_all-append (λ p. eqb (get_or m p 0) 1) t.inputs (in_one (ins_of ts))) ∙ h)) in
    let now : shifts 1 0 (filled 0 m taken) t.inputs ≡ all (λ p. eqb (count p taken) 0) t.inputs
    = rising_apart places 0 (filled 0 m taken) taken t.inputs (rising_lists places t a.0).0
    (λ q k c. still_there m taken q (hold_at 1 m t.inputs q (T_true _ hs.0) c)) in
    test (all (λ p. eqb (count p taken) 0) t.inputs)
    (λ e.
    let s : shifts 1 0 (filled 0 m taken) t.inputs ≡ true = now ∙ e in
    let rest : ℕ = shifts_each 1 0 (filled 0 (filled 0 m taken) t.inputs) (ins_of ts) in
    rw (e, s, leb-suc-suc, ← filled_append 0 m taken t.inputs, add-suc, ← suc-add)
    (apart_each places m (taken ++ t.inputs) (suc at) ts a.1 (T_true _ hs.1)))
    (λ e.
    let s : shifts 1 0 (filled 0 m taken) t.inputs ≡ false = now ∙ e in
    rw (e, s, add-zero at, lt-leb (suc (length (ins_of ts))) 0 (omega arith)))
