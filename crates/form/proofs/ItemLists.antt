-- Reading the items of a body one after another: what is left of the body, and the items so far.
-- Passing over the bytes of an item is dropping them, and storing an item adds it behind the items so far.
use Prim.Native.Nat.{ℕ, zero, suc, ◌+◌, ◌-◌, ◌≤◌, ◌<◌}
use mathlib.Core.Path.{◌≡◌, refl, sym, ap, ap₂, subst, ◌∙◌}
use mathlib.Core.List.{List, [], ◌∷◌, ◌++◌, append_assoc, append-nil, map}
use native.Mathlib.Omega.{arith}
use native.Mathlib.Numerals.{add-one}
use lib.ListN.{length, get_or, drop, set}
use lib.Seq.{get_or-set_same, get_or-set_other}
use lib.Dec.{eqb, ltb}
use borrow.Author.Tests.{eqb-true, eqb-false, ltb-true, ltb-false}
use Rattle.std.specs.Prelude.{Option, None, Some}
use Rattle.std.proofs.lemmas.List.{map-set, take_more_set, length-map}
use Rattle.field.proofs.Tests.{test}
use Rattle.field.specs.Answer.{Answer, good, refused, ◌>>=◌}
use Rattle.algebra.specs.Item.{first}
use Rattle.form.specs.Form.{read_item, read_items}
use Rattle.form.specs.inner.FormSays.{actions, code_item, item_read, items_in}
use Rattle.form.specs.declared.Item as code
use Rattle.form.specs.declared.ItemRead as code_read

pub items_passed : (at k least : ℕ) (s : List ℕ) → read_items at k least s ≡ read_items at 0 least (drop k s)
unfolding read_items
items_passed at zero least s = refl
items_passed at (suc k) least [] = refl
items_passed at (suc k) least (x ∷ s) = items_passed at k least s

pub items_more : (n : ℕ) (items : List code.Item) (i : code.Item) → n < length items → items_in (n + 1) (set items n i) ≡ items_in n items ++ (code_item i ∷ [])
items_more n items i h = rw map-set (take_more_set (map code_item items) n (code_item i) (simp length-map h))

pub actions_first : (i : ℕ) (j : Option ℕ) → first (actions i j) ≡ i
actions_first i None = refl
actions_first i (Some j) = refl

-- What comes behind those found before.
abbrev pub behind : {A : Type 0} → List A → Answer (List A) → Answer (List A)
behind before r = r >>= (λ is. good (before ++ is))

pub behind_behind : {A : Type 0} (a b : List A) (r : Answer (List A)) → behind a (behind b r) ≡ behind (a ++ b) r
behind_behind a b (good is) = ap good (sym (append_assoc a b is))
behind_behind a b (refused n c) = refl

pub behind_none : {A : Type 0} (r : Answer (List A)) → r ≡ behind [] r
behind_none (good is) = refl
behind_none (refused n c) = refl

-- One item, and then the rest.
one_read : (at least : ℕ) (rest : List ℕ) (r : code_read.ItemRead) → 1 ≤ length rest → 1 ≤ r.bytes → good (item_read r) ≡ read_item at least rest
    → read_items at 0 least rest ≡ behind (code_item r.item ∷ []) (read_items at 0 (r.item.first + 1) (drop r.bytes rest))
unfolding read_items
one_read at least [] r h b e = absurd (let z : ⊥ = omega arith in z)
one_read at least (x ∷ s) r h b e =
    let least_next : suc (first (code_item r.item)) ≡ r.item.first + 1 = ap suc (actions_first r.item.first r.item.second) ∙ sym (add-one r.item.first) in
    let left : drop (r.bytes - 1) s ≡ drop r.bytes (x ∷ s) = ap (λ (n : ℕ). drop n (x ∷ s)) (let z : suc (r.bytes - 1) ≡ r.bytes = omega arith in z) in
    let next : read_items at (r.bytes - 1) (suc (first (code_item r.item))) s ≡ read_items at 0 (r.item.first + 1) (drop r.bytes (x ∷ s))
    = items_passed at (r.bytes - 1) (suc (first (code_item r.item))) s ∙ ap₂ (λ (n : ℕ) (l : List ℕ). read_items at 0 n l) least_next left in
    rw (← e, next)

-- The items of a body: those so far, and what is left of it, whose first action must be at least a number.
module _ (at : ℕ) (body rest : List ℕ) (items : List code.Item) (count least : ℕ) (inv : read_items at 0 0 body ≡ behind (items_in count items) (read_items at 0 least rest)) where
  pub items_end : length rest ≡ 0 → good (items_in count items) ≡ read_items at 0 0 body
  unfolding read_items
  items_end h = sym (inv ∙ none_left rest h)
    where
      none_left : (s : List ℕ) → length s ≡ 0 → behind (items_in count items) (read_items at 0 least s) ≡ good (items_in count items)
      none_left [] h = rw append-nil
      none_left (x ∷ s) h = absurd (let z : ⊥ = omega arith in z)

  pub items_refused : 1 ≤ length rest → (n : ℕ) → refused n at ≡ read_item at least rest → refused n at ≡ read_items at 0 0 body
  unfolding read_items
  items_refused h n e = sym (inv ∙ go rest h e)
    where
      go : (s : List ℕ) → 1 ≤ length s → refused n at ≡ read_item at least s → behind (items_in count items) (read_items at 0 least s) ≡ refused n at
      go [] h e = absurd (let z : ⊥ = omega arith in z)
      go (x ∷ s) h e = rw (← e)

  pub items_turn : 1 ≤ length rest → (r : code_read.ItemRead) → count < length items → 1 ≤ r.bytes → good (item_read r) ≡ read_item at least rest
      → (next : ℕ) → next ≡ r.item.first → (left : List ℕ) → left ≡ drop r.bytes rest
      → read_items at 0 0 body ≡ behind (items_in (count + 1) (set items count r.item)) (read_items at 0 (next + 1) left)
  items_turn h r p b e next least_next left behind_it =
      inv ∙ rw (least_next, behind_it, one_read at least rest r h b e, items_more count items r.item p)
      (behind_behind (items_in count items) (code_item r.item ∷ []) (read_items at 0 (r.item.first + 1) (drop r.bytes rest)))

-- What holds of each number written so far holds of each with one more.
pub below_set : (ts : List ℕ) (k t n : ℕ) → k < length ts → ((i : ℕ) → i < k → get_or ts i 0 < n) → t < n → (i : ℕ) → i < k + 1 → get_or (set ts k t) i 0 < n
below_set ts k t n l f h i g =
    test (eqb i k)
    (λ e. subst (λ (x : ℕ). get_or (set ts k t) x 0 < n) (sym (eqb-true i k e)) (subst (λ (x : ℕ). x < n) (sym (get_or-set_same ts k t 0 l)) h))
    (λ e. let other = eqb-false i k e in subst (λ (x : ℕ). x < n) (sym (get_or-set_other ts k i t 0 other)) (f i (below i k g other)))
  where
    below : (i k : ℕ) → i < k + 1 → (i ≡ k → ⊥) → i < k
    below i k g o = test (ltb i k) (λ t. ltb-true i k t) (λ t. absurd (o (let z : k ≤ i = ltb-false i k t in omega arith)))
