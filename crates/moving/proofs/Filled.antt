-- A marking with the places of a list filled, place by place; and a marking restored by filling what may have been touched.
-- A place of the list holds what was put there last, and every other place what it held before.
use Prim.Native.Nat.{ℕ, zero, suc, ◌≤◌, ◌<◌}
use mathlib.Core.Path.{◌≡◌, refl, sym, ap, subst, ◌∙◌}
use mathlib.Core.List.{List, [], ◌∷◌, ◌++◌}
use mathlib.Core.Bool.{Bool, true, ◌&&◌}
use mathlib.Core.Logic.{◌⊎◌, inl, inr, ⊎_elim}
use native.Mathlib.Omega.{arith}
use lib.ListN.{length, get_or, set, length-set}
use lib.Seq.{get_or-set_same, get_or-set_other, ext_get_or}
use lib.Dec.{eqb, leb, eqb→eq, leb-suc-suc}
use borrow.Author.Tests.{eqb-true, eqb-false, lt-leb}
use Rattle.std.proofs.lemmas.List.Folds.{list_all-append}
use Rattle.field.specs.Lists.{all}
use Rattle.field.proofs.Alls.{all_at, and_assoc}
use Rattle.field.proofs.Tests.{true_T}
use Rattle.algebra.specs.Firing.{count}
use Rattle.algebra.proofs.Enough.{count_here, count_other, count_member}
use Rattle.moving.specs.inner.Moving.{hold, holds_each, filled, shifts, shifts_each, in_one}
use Rattle.field.proofs.Tests.{test}
use Rattle.moving.proofs.MoveTurns.{Agree}

pub zero_or_more : (n : ℕ) → (n ≡ 0) ⊎ (1 ≤ n)
zero_or_more zero = inl refl
zero_or_more (suc n) = inr (omega arith)

pub filled_length : (tokens : ℕ) (m ps : List ℕ) → length (filled tokens m ps) ≡ length m
unfolding filled
filled_length tokens m [] = refl
filled_length tokens m (p ∷ ps) = filled_length tokens (set m p tokens) ps ∙ length-set m p tokens

-- a place that is not, or is, the first of a list
not_here : (q p : ℕ) (ps : List ℕ) → count q (p ∷ ps) ≡ 0 → (q ≡ p → ⊥) × (count q ps ≡ 0)
not_here q p ps z = test (eqb p q) (λ e. absurd (let w : ⊥ = omega (arith, ap (λ (n : ℕ). count q (n ∷ ps)) (eqb-true p q e), count_here q ps) in w)) (λ e. (λ f. eqb-false p q e (sym f), sym (count_other q p ps (eqb-false p q e)) ∙ z))

pub filled_other : (tokens : ℕ) (m ps : List ℕ) (q : ℕ) → count q ps ≡ 0 → get_or (filled tokens m ps) q 0 ≡ get_or m q 0
unfolding filled
filled_other tokens m [] q z = refl
filled_other tokens m (p ∷ ps) q z =
    let n = not_here q p ps z in
    filled_other tokens (set m p tokens) ps q n.1 ∙ get_or-set_other m p q tokens 0 n.0

pub filled_here : (tokens : ℕ) (m ps : List ℕ) (q : ℕ) → 1 ≤ count q ps → q < length m → get_or (filled tokens m ps) q 0 ≡ tokens
unfolding filled count
filled_here tokens m [] q h l = absurd (omega arith)
filled_here tokens m (p ∷ ps) q h l =
    ⊎_elim
    (λ z.
    let same : q ≡ p = test (eqb p q) (λ e. sym (eqb-true p q e)) (λ e. absurd (let w : ⊥ = omega (arith, count_other q p ps (eqb-false p q e)) in w)) in
    filled_other tokens (set m p tokens) ps q z ∙ subst (λ (n : ℕ). get_or (set m n tokens) q 0 ≡ tokens) same (get_or-set_same m q tokens 0 l))
    (λ k. filled_here tokens (set m p tokens) ps q k (omega (arith, length-set m p tokens)))
    (zero_or_more (count q ps))

pub hold_is_all : (tokens : ℕ) (m ps : List ℕ) → hold tokens m ps ≡ all (λ p. eqb (get_or m p 0) tokens) ps
unfolding all
hold_is_all tokens m [] = refl
hold_is_all tokens m (p ∷ ps) = ap (λ (b : Bool). eqb (get_or m p 0) tokens && b) (hold_is_all tokens m ps)

pub hold_at : (tokens : ℕ) (m ps : List ℕ) (q : ℕ) → hold tokens m ps ≡ true → 1 ≤ count q ps → get_or m q 0 ≡ tokens
hold_at tokens m ps q e h = eqb→eq (get_or m q 0) tokens (all_at (λ p. eqb (get_or m p 0) tokens) ps (true_T _ (sym (hold_is_all tokens m ps) ∙ e)) q (count_member q ps h))

-- Only places of the list were touched, and each of them held so many tokens: filled again, the marking is what it was.
pub restored : (tokens : ℕ) (m w ps : List ℕ) → length w ≡ length m → Agree ps m w → hold tokens m ps ≡ true → filled tokens w ps ≡ m
restored tokens m w ps l a h =
    ext_get_or 0 (filled tokens w ps) m (filled_length tokens w ps ∙ l)
    (λ q k.
    ⊎_elim
    (λ z. filled_other tokens w ps q z ∙ a q z)
    (λ c. filled_here tokens w ps q c (omega (arith, filled_length tokens w ps)) ∙ sym (hold_at tokens m ps q h c))
    (zero_or_more (count q ps)))

pub filled_agrees : (tokens : ℕ) (m ps : List ℕ) → Agree ps m (filled tokens m ps)
filled_agrees tokens m ps q z = filled_other tokens m ps q z

-- All lists pass exactly when the in_one list does.
pub holds_all : (tokens : ℕ) (m : List ℕ) (ls : List (List ℕ)) → leb (length ls) (holds_each tokens m ls) ≡ hold tokens m (in_one ls)
unfolding holds_each in_one
holds_all tokens m [] = refl
holds_all tokens m (ps ∷ ls) =
    test (hold tokens m ps)
    (λ e. rw (e, list_all-append, e, leb-suc-suc) (holds_all tokens m ls))
    (λ e. rw (e, list_all-append, e) (lt-leb (suc (length ls)) 0 (omega arith)))

pub shifts_append : (from to : ℕ) (m a b : List ℕ) → shifts from to m (a ++ b) ≡ (shifts from to m a && shifts from to (filled to m a) b)
unfolding shifts filled
shifts_append from to m [] b = refl
shifts_append from to m (p ∷ a) b =
    ap (λ (x : Bool). eqb (get_or m p 0) from && x) (shifts_append from to (set m p to) a b)
    ∙ sym (and_assoc (eqb (get_or m p 0) from) (shifts from to (set m p to) a) (shifts from to (filled to (set m p to) a) b))

pub shifts_all : (from to : ℕ) (m : List ℕ) (ls : List (List ℕ)) → leb (length ls) (shifts_each from to m ls) ≡ shifts from to m (in_one ls)
unfolding shifts_each in_one shifts
shifts_all from to m [] = refl
shifts_all from to m (ps ∷ ls) =
    test (shifts from to m ps)
    (λ e. rw (e, shifts_append, e, leb-suc-suc) (shifts_all from to (filled to m ps) ls))
    (λ e. rw (e, shifts_append, e) (lt-leb (suc (length ls)) 0 (omega arith)))
