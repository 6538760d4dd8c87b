-- What is read of bytes is within the rules, and a step within the rules is spelt by bytes: the steps that read back are just those that can be read.
-- True because the first actions rise and are bytes: there are no more items than actions, and so a body's length has two bytes.
use Prim.Native.Nat.{ℕ, zero, suc, ◌+◌, ◌*◌, ◌-◌, ◌≤◌, ◌<◌}
use mathlib.Core.Path.{◌≡◌, sym, ap, subst, ◌∙◌}
use mathlib.Core.List.{List, [], ◌∷◌, ◌++◌}
use mathlib.Core.Bool.{◌&&◌}
use native.Mathlib.Omega.{arith}
use lib.ListN.{length, get_or, drop, take-append-drop}
use lib.Dec.{T, leb, ltb, leb→le, ltb→lt, lt→ltb, le→leb}
use Rattle.field.specs.Limits.{action_limit}
use Rattle.field.specs.Answer.{good}
use Rattle.field.specs.Field.{length_of}
use Rattle.field.specs.Lists.{all}
use Rattle.field.proofs.AreBytes.{AreBytes, field_are_bytes}
use Rattle.field.proofs.Tests.{and_parts, parts_and}
use Rattle.field.proofs.Fields.{body_of_length}
use Rattle.algebra.specs.Item.{Item, one, two}
use Rattle.form.specs.Form.{read_step, read_lent_step, read_steps}
use Rattle.form.specs.Bytes.{encode_items, encode_step, firsts_rise, numbered, step_within, steps_within, recorded}
use Rattle.form.proofs.RecordsReadBack.{StepSays, step_front, step_says, lent_step_says, record_begins}

-- the actions of items that stand in bytes
items_numbered : (is : List Item) (rest : List ℕ) → AreBytes (encode_items is ++ rest) → T (all numbered is)
unfolding encode_items all numbered
items_numbered [] rest b = tt
items_numbered (one i ∷ is) rest b =
    parts_and (ltb i action_limit) (all numbered is) (lt→ltb i action_limit (b 3 (omega arith))) (items_numbered is rest (λ k h. b (suc (suc (suc (suc k)))) (omega arith)))
items_numbered (two i j ∷ is) rest b =
    parts_and (ltb i action_limit && ltb j action_limit) (all numbered is)
    (parts_and (ltb i action_limit) (ltb j action_limit) (lt→ltb i action_limit (b 3 (omega arith))) (lt→ltb j action_limit (b 4 (omega arith))))
    (items_numbered is rest (λ k h. b (suc (suc (suc (suc (suc k))))) (omega arith)))

some_items : (is : List Item) → 1 ≤ length (encode_items is) → T (leb 1 (length is))
unfolding encode_items
some_items [] h = absurd (let z : ⊥ = omega arith in z)
some_items (i ∷ is) h = le→leb 1 (length (i ∷ is)) (omega arith)

body_are_bytes : (S : List Item) (rest : List ℕ) → AreBytes (encode_step S ++ rest) → AreBytes (encode_items S ++ rest)
unfolding encode_step
body_are_bytes S rest b i h = b (suc (suc (suc i))) (omega arith)

says_within : (s : List ℕ) (S : List Item) → StepSays s S → AreBytes s → T (step_within S)
unfolding step_within
says_within s S h b =
    let rest = drop (3 + length_of s) s in
    let e : s ≡ encode_step S ++ rest = sym (take-append-drop (3 + length_of s) s) ∙ ap (λ (u : List ℕ). u ++ rest) (step_front s S h b) in
    let n : length (encode_items S) ≡ length_of s = ap length (sym h.body) ∙ body_of_length s h.room in
    parts_and (leb 1 (length S)) (firsts_rise 0 S && all numbered S) (some_items S (omega (arith, h.some)))
    (parts_and (firsts_rise 0 S) (all numbered S) h.rises (items_numbered S rest (body_are_bytes S rest (subst AreBytes e b))))

pub step_read_within : (s : List ℕ) (S : List Item) → ((i : ℕ) → i < length s → get_or s i 0 < 256) → read_lent_step s ≡ good S → T (step_within S)
step_read_within s S b e = says_within s S (lent_step_says s S e).0 b

steps_say_within : (at k : ℕ) (s : List ℕ) (Ss : List (List Item)) → AreBytes s → read_steps at k s ≡ recorded Ss → T (steps_within Ss)
unfolding read_steps recorded steps_within
steps_say_within at k [] [] b e = tt
steps_say_within at k [] (S ∷ Ss) b e = absurd (let z : ◌≡◌ {A = ℕ} 0 1 = cc in let w : ⊥ = omega arith in w)
steps_say_within at (suc k) (x ∷ s) Ss b e = steps_say_within (suc at) k s Ss (λ i h. b (suc i) (omega arith)) e
steps_say_within at zero (x ∷ s) Ss b e =
    let (r, Ts, re, se, te) = record_begins (λ bytes. read_steps (suc at) (bytes - 1) s) (read_step at (x ∷ s)) Ss e in
    subst (λ (Us : List (List Item)). T (steps_within Us)) se
    (parts_and (step_within r.items) (all step_within Ts) (says_within (x ∷ s) r.items (step_says at (x ∷ s) r re).0 b)
    (steps_say_within (suc at) (r.bytes - 1) s Ts (λ i h. b (suc i) (omega arith)) te))

pub record_read_within : (s : List ℕ) (Ss : List (List Item)) → ((i : ℕ) → i < length s → get_or s i 0 < 256) → read_steps 0 0 s ≡ recorded Ss → T (steps_within Ss)
record_read_within s Ss b e = steps_say_within 0 0 s Ss b e

-- items whose first actions rise from a number to the last action: five bytes each at most
items_short : (least : ℕ) (is : List Item) → T (firsts_rise least is) → T (all numbered is) → length (encode_items is) ≤ 5 * (action_limit - least)
unfolding encode_items firsts_rise all numbered
items_short least [] u t = omega arith
items_short least (one i ∷ is) u t =
    let (up, us) = and_parts (leb least i) (firsts_rise (suc i) is) u in
    let (few, ts) = and_parts (ltb i action_limit) (all numbered is) t in
    omega (arith, leb→le least i up, ltb→lt i action_limit few, items_short (suc i) is us ts)
items_short least (two i j ∷ is) u t =
    let (up, us) = and_parts (leb least i) (firsts_rise (suc i) is) u in
    let (few, ts) = and_parts (ltb i action_limit && ltb j action_limit) (all numbered is) t in
    omega (arith, leb→le least i up, ltb→lt i action_limit (and_parts (ltb i action_limit) (ltb j action_limit) few).0, items_short (suc i) is us ts)

items_are_bytes : (is : List Item) → T (all numbered is) → AreBytes (encode_items is)
unfolding encode_items all numbered
items_are_bytes [] t k h = absurd (let z : ⊥ = omega arith in z)
items_are_bytes (one i ∷ is) t zero h = omega arith
items_are_bytes (one i ∷ is) t (suc zero) h = omega arith
items_are_bytes (one i ∷ is) t (suc (suc zero)) h = omega arith
items_are_bytes (one i ∷ is) t (suc (suc (suc zero))) h = ltb→lt i action_limit (and_parts (ltb i action_limit) (all numbered is) t).0
items_are_bytes (one i ∷ is) t (suc (suc (suc (suc k)))) h = items_are_bytes is (and_parts (ltb i action_limit) (all numbered is) t).1 k (omega arith)
items_are_bytes (two i j ∷ is) t zero h = omega arith
items_are_bytes (two i j ∷ is) t (suc zero) h = omega arith
items_are_bytes (two i j ∷ is) t (suc (suc zero)) h = omega arith
items_are_bytes (two i j ∷ is) t (suc (suc (suc zero))) h =
    ltb→lt i action_limit (and_parts (ltb i action_limit) (ltb j action_limit) (and_parts (ltb i action_limit && ltb j action_limit) (all numbered is) t).0).0
items_are_bytes (two i j ∷ is) t (suc (suc (suc (suc zero)))) h =
    ltb→lt j action_limit (and_parts (ltb i action_limit) (ltb j action_limit) (and_parts (ltb i action_limit && ltb j action_limit) (all numbered is) t).0).1
items_are_bytes (two i j ∷ is) t (suc (suc (suc (suc (suc k))))) h =
    items_are_bytes is (and_parts (ltb i action_limit && ltb j action_limit) (all numbered is) t).1 k (omega arith)

pub step_are_bytes : (S : List Item) → T (step_within S) → (i : ℕ) → i < length (encode_step S) → get_or (encode_step S) i 0 < 256
unfolding step_within encode_step
step_are_bytes S t =
    let (some, ts) = and_parts (leb 1 (length S)) (firsts_rise 0 S && all numbered S) t in
    let (rises, few) = and_parts (firsts_rise 0 S) (all numbered S) ts in
    field_are_bytes 0x20 (encode_items S) (omega arith) (omega (arith, items_short 0 S rises few)) (items_are_bytes S few)
