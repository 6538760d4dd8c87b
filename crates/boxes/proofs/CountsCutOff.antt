-- The counts that 11, 12 and 13 are judged by are the true counts, cut off at one above the limit: equal within the limit, beyond it where the true count is.
-- Cutting parts off early changes no sum and no product once that is cut off too, and each count is made of sums and products.
use Prim.Native.Nat.{ℕ, zero, suc, ◌+◌, ◌*◌, ◌≤◌, ◌<◌}
use native.Mathlib.Omega.{arith}
use native.Mathlib.Decide.{dec_lt}
use native.Mathlib.Nat.{mul_comm, mul-zero, le-mul_of_pos_right}
use mathlib.Core.Path.{◌≡◌, refl, sym, ◌∙◌, ap, ap₂}
use mathlib.Core.List.{List, [], ◌∷◌}
use mathlib.Core.Bool.{Bool, true, false}
use lib.ListN.{length, length-append, length-map}
use lib.Dec.{leb}
use borrow.Author.Tests.{leb-true, leb-false}
use Rattle.field.specs.Limits.{place_limit, transition_limit, arc_limit}
use Rattle.field.specs.Refusals.{too_many_places, too_many_transitions, too_many_arcs}
use Rattle.field.specs.Answer.{Answer, good, refused, ◌>>◌, check}
use Rattle.algebra.specs.Expr.{Expr, action, sequence, choice, parallel, loop, scope}
use Rattle.algebra.specs.Net.{Transition}
use Rattle.net.specs.Tables.{arcs_from, arcs_of}
use Rattle.algebra.specs.Places.{places}
use Rattle.algebra.specs.Transitions.{transitions}
use Rattle.algebra.specs.Arcs.{transition_of, net_of}
use Rattle.boxes.specs.Counts.{cut, entry_count, exit_count, internal_count, places_cut_off, transition_count, arcs_up_to, arc_count, check_size}
use Rattle.algebra.proofs.Lengths.{entries_of, exits_of, internals_of, places_length}

pub cut_within : (limit n : ℕ) → n ≤ limit → cut limit n ≡ n
cut_within limit n h = omega arith

pub cut_again : (limit n : ℕ) → cut limit (cut limit n) ≡ cut limit n
cut_again limit n = omega arith

-- cutting early
pub cut_sum : (limit a b : ℕ) → cut limit (cut limit a + cut limit b) ≡ cut limit (a + b)
cut_sum limit a b = omega arith

-- a factor above the limit takes the product above it, or the other factor is 0
pub cut_factor : (limit a b : ℕ) → cut limit (cut limit a * b) ≡ cut limit (a * b)
cut_factor limit a b = go (dec_lt limit a) b
  where
    go : Dec (limit < a) → (b : ℕ) → cut limit (cut limit a * b) ≡ cut limit (a * b)
    go (no h) b = ap (λ c. cut limit (c * b)) (cut_within limit a (omega arith))
    go (yes h) zero = ap (cut limit) (mul-zero (cut limit a) ∙ sym (mul-zero a))
    go (yes h) (suc b) =
        let p : cut limit a ≤ cut limit a * suc b = le-mul_of_pos_right (cut limit a) (omega arith) in
        let q : a ≤ a * suc b = le-mul_of_pos_right a (omega arith) in
        omega arith

pub cut_product : (limit a b : ℕ) → cut limit (cut limit a * cut limit b) ≡ cut limit (a * b)
cut_product limit a b =
    cut_factor limit a (cut limit b)
    ∙ ap (cut limit) (mul_comm a (cut limit b))
    ∙ cut_factor limit b a
    ∙ ap (cut limit) (mul_comm b a)

-- two numbers that are one number once they are cut off
pub record Agree (limit a b : ℕ) : Type 0 where
  pub same : cut limit a ≡ cut limit b

pub cut_agrees : (limit : ℕ) {a b : ℕ} → a ≡ cut limit b → Agree limit a b
cut_agrees limit {b = b} e = record { same = ap (cut limit) e ∙ cut_again limit b }

pub sum_agrees : {limit a b c d : ℕ} → Agree limit a b → Agree limit c d → Agree limit (a + c) (b + d)
sum_agrees {limit} {a} {b} {c} {d} p q =
    record { same = sym (cut_sum limit a c) ∙ ap₂ (λ x y. cut limit (x + y)) p.same q.same ∙ cut_sum limit b d }

pub product_agrees : {limit a b c d : ℕ} → Agree limit a b → Agree limit c d → Agree limit (a * c) (b * d)
product_agrees {limit} {a} {b} {c} {d} p q =
    record { same = sym (cut_product limit a c) ∙ ap₂ (λ x y. cut limit (x * y)) p.same q.same ∙ cut_product limit b d }

-- the three lists of places
places_agree : {a b : ℕ} → a ≡ cut place_limit b → Agree place_limit a b
places_agree = cut_agrees place_limit

pub entry_count_is : (E : Expr) → entry_count E ≡ cut place_limit (entries_of E)
unfolding entry_count entries_of
entry_count_is (action l) = refl
entry_count_is (sequence E F) = entry_count_is E
entry_count_is (choice E F) = (product_agrees (places_agree (entry_count_is E)) (places_agree (entry_count_is F))).same
entry_count_is (parallel E F) = (sum_agrees (places_agree (entry_count_is E)) (places_agree (entry_count_is F))).same
entry_count_is (loop E F G) = entry_count_is E
entry_count_is (scope a E) = entry_count_is E

pub exit_count_is : (E : Expr) → exit_count E ≡ cut place_limit (exits_of E)
unfolding exit_count exits_of
exit_count_is (action l) = refl
exit_count_is (sequence E F) = exit_count_is F
exit_count_is (choice E F) = (product_agrees (places_agree (exit_count_is E)) (places_agree (exit_count_is F))).same
exit_count_is (parallel E F) = (sum_agrees (places_agree (exit_count_is E)) (places_agree (exit_count_is F))).same
exit_count_is (loop E F G) = exit_count_is G
exit_count_is (scope a E) = exit_count_is E

entries_agree : (E : Expr) → Agree place_limit (entry_count E) (entries_of E)
entries_agree E = places_agree (entry_count_is E)

exits_agree : (E : Expr) → Agree place_limit (exit_count E) (exits_of E)
exits_agree E = places_agree (exit_count_is E)

pub internal_count_is : (E : Expr) → internal_count E ≡ cut place_limit (internals_of E)
unfolding internal_count internals_of
internal_count_is (action l) = refl
internal_count_is (sequence E F) =
    (sum_agrees (places_agree (internal_count_is E)) (sum_agrees (places_agree (internal_count_is F)) (product_agrees (exits_agree E) (entries_agree F)))).same
internal_count_is (choice E F) = (sum_agrees (places_agree (internal_count_is E)) (places_agree (internal_count_is F))).same
internal_count_is (parallel E F) = (sum_agrees (places_agree (internal_count_is E)) (places_agree (internal_count_is F))).same
internal_count_is (loop E F G) =
    (sum_agrees (places_agree (internal_count_is E))
    (sum_agrees (places_agree (internal_count_is F))
    (sum_agrees (places_agree (internal_count_is G))
    (product_agrees (product_agrees (exits_agree E) (exits_agree F)) (product_agrees (entries_agree F) (entries_agree G)))))).same
internal_count_is (scope a E) = internal_count_is E

pub place_count_is : (n : ℕ) (E : Expr) → places_cut_off E ≡ cut 2048 (length (places n E))
unfolding places_cut_off
place_count_is n E =
    (sum_agrees (entries_agree E) (sum_agrees (places_agree (internal_count_is E)) (exits_agree E))).same
    ∙ ap (cut place_limit) (sym (places_length n E))

pub transition_count_is : (E : Expr) → transition_count E ≡ cut 1024 (length (net_of E).transitions)
unfolding transition_count net_of
transition_count_is E = ap (cut transition_limit) (sym (length-map (transitions 0 E) (transition_of (places 0 E))))

pub arcs_up_to_is : (limit : ℕ) (ts : List Transition) → arcs_up_to limit ts ≡ cut limit (length (arcs_from ts))
unfolding arcs_up_to arcs_from
arcs_up_to_is limit [] = omega arith
arcs_up_to_is limit (t ∷ ts) = simp length-append (omega (arith, arcs_up_to_is limit ts))

pub arc_count_is : (E : Expr) → arc_count E ≡ cut 16384 (length (arcs_of (net_of E)))
unfolding arc_count arcs_of
arc_count_is E = arcs_up_to_is arc_limit (net_of E).transitions

-- the net has a place for each in the list
pub net_places : (E : Expr) → Rattle.algebra.specs.Net.place_count (net_of E) ≡ length (places 0 E)
unfolding net_of places
net_places E = sym (simp length-append)

-- what a test says of the true count
data Verdict (limit n : ℕ) : Bool → Type 0 where
  within : n ≤ limit → Verdict limit n true
  beyond : limit < n → Verdict limit n false

verdict : (limit count n : ℕ) → count ≡ cut limit n → Verdict limit n (leb count limit)
verdict limit count n e = go (leb count limit) refl
  where
    go : (b : Bool) → leb count limit ≡ b → Verdict limit n b
    go true t = within (omega (arith, leb-true count limit t))
    go false t = beyond (omega (arith, leb-false count limit t))

places_verdict : (E : Expr) → Verdict place_limit (length (places 0 E)) (leb (places_cut_off E) place_limit)
places_verdict E = verdict place_limit (places_cut_off E) (length (places 0 E)) (place_count_is 0 E)

transitions_verdict : (E : Expr) → Verdict transition_limit (length (net_of E).transitions) (leb (transition_count E) transition_limit)
transitions_verdict E = verdict transition_limit (transition_count E) (length (net_of E).transitions) (transition_count_is E)

arcs_verdict : (E : Expr) → Verdict arc_limit (length (arcs_of (net_of E))) (leb (arc_count E) arc_limit)
arcs_verdict E = verdict arc_limit (arc_count E) (length (arcs_of (net_of E))) (arc_count_is E)

-- the three tests in their order
abbrev judge : Bool → Bool → Bool → Answer (Unit {0})
judge p t a = check p too_many_places 0 >> (check t too_many_transitions 0 >> check a too_many_arcs 0)

-- the limit that is passed first, and the refusal that says so
pub data Beyond (places transitions arcs n c : ℕ) : Type 0 where
  places_beyond : n ≡ 11 → c ≡ 0 → 2048 < places → Beyond places transitions arcs n c
  transitions_beyond : n ≡ 12 → c ≡ 0 → places ≤ 2048 → 1024 < transitions → Beyond places transitions arcs n c
  arcs_beyond : n ≡ 13 → c ≡ 0 → places ≤ 2048 → transitions ≤ 1024 → 16384 < arcs → Beyond places transitions arcs n c

-- a refusal is no acceptance
never : {X : Type 0} (n c : ℕ) → ◌≡◌ {A = Answer (Unit {0})} (refused n c) (good tt) → X
never n c e = absurd (let z : ◌≡◌ {A = ℕ} 0 1 = cc in omega arith)

module _ {places transitions arcs : ℕ} where
  accepted : {p t a : Bool} → Verdict place_limit places p → Verdict transition_limit transitions t → Verdict arc_limit arcs a
      → judge p t a ≡ good tt → (places ≤ place_limit) × (transitions ≤ transition_limit) × (arcs ≤ arc_limit)
  accepted (within v) (within w) (within x) e = (v, w, x)
  accepted (within v) (within w) (beyond x) e = never _ _ e
  accepted (within v) (beyond w) x e = never _ _ e
  accepted (beyond v) w x e = never _ _ e

  fits : {p t a : Bool} → Verdict place_limit places p → Verdict transition_limit transitions t → Verdict arc_limit arcs a
      → places ≤ place_limit → transitions ≤ transition_limit → arcs ≤ arc_limit → judge p t a ≡ good tt
  fits (within v) (within w) (within x) h i j = refl
  fits (within v) (within w) (beyond x) h i j = absurd (omega arith)
  fits (within v) (beyond w) x h i j = absurd (omega arith)
  fits (beyond v) w x h i j = absurd (omega arith)

  passed : {p t a : Bool} {n c : ℕ} → Verdict place_limit places p → Verdict transition_limit transitions t → Verdict arc_limit arcs a
      → judge p t a ≡ refused n c → Beyond places transitions arcs n c
  passed (within v) (within w) (within x) e = never _ _ (sym e)
  passed (within v) (within w) (beyond x) e = arcs_beyond (cc) (cc) v w x
  passed (within v) (beyond w) x e = transitions_beyond (cc) (cc) v w
  passed (beyond v) w x e = places_beyond (cc) (cc) v

pub size_accepted : (E : Expr) → check_size E ≡ good tt
    → (length (places 0 E) ≤ 2048) × (length (net_of E).transitions ≤ 1024) × (length (arcs_of (net_of E)) ≤ 16384)
unfolding check_size
size_accepted E e = accepted (places_verdict E) (transitions_verdict E) (arcs_verdict E) e

pub size_fits : (E : Expr) → length (places 0 E) ≤ 2048 → length (net_of E).transitions ≤ 1024 → length (arcs_of (net_of E)) ≤ 16384
    → check_size E ≡ good tt
unfolding check_size
size_fits E = fits (places_verdict E) (transitions_verdict E) (arcs_verdict E)

pub size_refused : (E : Expr) (n c : ℕ) → check_size E ≡ refused n c → Beyond (length (places 0 E)) (length (net_of E).transitions) (length (arcs_of (net_of E))) n c
unfolding check_size
size_refused E n c e = passed (places_verdict E) (transitions_verdict E) (arcs_verdict E) e
