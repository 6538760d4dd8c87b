-- Every step that keeps to the rules reads back from its bytes, as does every record of such steps; and nothing else reads as that step or record.
-- True by induction over the items and the steps: a field's header gives back its body, and the next field is found where the one before it ends.
use Prim.Native.Nat.{ℕ, zero, suc, ◌+◌, ◌-◌, ◌≤◌, ◌<◌}
use mathlib.Core.Path.{◌≡◌, refl, sym, ap, ap₂, subst, ◌∙◌}
use mathlib.Core.List.{List, [], ◌∷◌, ◌++◌, append-nil}
use mathlib.Core.Bool.{Bool, true, false, cond, ◌&&◌}
use native.Mathlib.Omega.{arith}
use lib.ListN.{length, get_or, take, drop, length-append, length-drop, take-append-drop}
use lib.Seq.{drop-nil, take_all}
use lib.Dec.{T, eqb, leb, leb→le, eqb→eq}
use borrow.Author.Tests.{le-leb, leb-true, eq-eqb, eqb-true}
use Rattle.field.specs.Refusals.{wrong_tag, wrong_length, not_rising}
use Rattle.field.specs.Answer.{Answer, good, refused}
use Rattle.field.specs.Field.{tag_of, length_of, body_of, field}
use Rattle.field.specs.Lists.{all}
use Rattle.field.proofs.AreBytes.{AreBytes}
use Rattle.field.proofs.Answers.{good_not_refused, bind_good, check_good, good_same}
use Rattle.field.proofs.Tests.{and_parts, parts_and, true_T}
use Rattle.field.proofs.Fields.{field_length, field_length_of, field_body_of, field_front}
use Rattle.algebra.specs.Item.{Item, one, two, first}
use Rattle.form.specs.Form.{ItemTag, one_tag, two_tag, ItemRead, StepRead, Recorded, step, one_more, check_header, item_tag, action_count, item_spelt, read_item, read_items, read_step, read_lent_step, read_steps}
use Rattle.form.proofs.ItemForms.{header_passes, header_tests, tag_number}
use Rattle.form.specs.Bytes.{encode_item, encode_items, encode_step, encode_record, firsts_rise, numbered, step_within, steps_within, recorded}

item_reads : (at least : ℕ) (i : Item) (rest : List ℕ) → least ≤ first i → read_item at least (encode_item i ++ rest) ≡ good (record { item = i; bytes = length (encode_item i) })
unfolding read_item encode_item
item_reads at least (one i) rest h = rw (header_passes at (encode_item (one i) ++ rest) (omega arith) (omega arith), le-leb least i h)
item_reads at least (two i j) rest h = rw (header_passes at (encode_item (two i j) ++ rest) (omega arith) (omega arith), le-leb least i h)

items_read : (at least : ℕ) (is : List Item) → T (firsts_rise least is) → read_items at 0 least (encode_items is) ≡ good is
unfolding read_items encode_items firsts_rise
items_read at least [] t = refl
items_read at least (one i ∷ is) t =
    let ts = and_parts (leb least i) (firsts_rise (suc i) is) t in
    rw (item_reads at least (one i) (encode_items is) (leb→le least i ts.0), items_read at (suc i) is ts.1)
items_read at least (two i j ∷ is) t =
    let ts = and_parts (leb least i) (firsts_rise (suc i) is) t in
    rw (item_reads at least (two i j) (encode_items is) (leb→le least i ts.0), items_read at (suc i) is ts.1)

-- a step has an item, and so its body has a byte
some_bytes : (is : List Item) → T (leb 1 (length is)) → 1 ≤ length (encode_items is)
unfolding encode_items
some_bytes [] t = absurd t
some_bytes (one i ∷ is) t = omega arith
some_bytes (two i j ∷ is) t = omega arith

-- the tests of a step's header are passed, whatever stands after it
header_reads : (at : ℕ) (S : List Item) (rest : List ℕ) → check_header at (encode_step S ++ rest) ≡ good tt
unfolding encode_step
header_reads at S rest =
    let s = field 0x20 (encode_items S) ++ rest in
    let k : length s ≡ 3 + length (encode_items S) + length rest = length-append (field 0x20 (encode_items S)) rest ∙ ap (λ (m : ℕ). m + length rest) (field_length 0x20 (encode_items S)) in
    let l : length_of s ≡ length (encode_items S) = field_length_of 0x20 (encode_items S) rest in
    header_passes at s (omega arith) (omega arith)

step_reads : (at : ℕ) (S : List Item) (rest : List ℕ) → T (step_within S) → read_step at (encode_step S ++ rest) ≡ good (record { items = S; bytes = 3 + length (encode_items S) })
unfolding read_step encode_step step_within
step_reads at S rest t =
    let ts = and_parts (leb 1 (length S)) (firsts_rise 0 S && all numbered S) t in
    let r = and_parts (firsts_rise 0 S) (all numbered S) ts.1 in
    rw (header_reads at S rest, field_body_of 0x20 (encode_items S) rest, field_length_of 0x20 (encode_items S) rest, le-leb 1 (length (encode_items S)) (some_bytes S ts.0), items_read at 0 S r.0)

pub step_reads_back : (S : List Item) → T (step_within S) → read_lent_step (encode_step S) ≡ good S
unfolding read_lent_step encode_step step_within
step_reads_back S t =
    let ts = and_parts (leb 1 (length S)) (firsts_rise 0 S && all numbered S) t in
    let r = and_parts (firsts_rise 0 S) (all numbered S) ts.1 in
    let body = encode_items S in
    let s = field 0x20 body in
    let z : s ++ [] ≡ s = append-nil s in
    let n : length_of s ≡ length body = ap length_of (sym z) ∙ field_length_of 0x20 body [] in
    let b : body_of s ≡ body = ap body_of (sym z) ∙ field_body_of 0x20 body [] in
    let l : length s ≡ 3 + length body = field_length 0x20 body in
    let h : check_header 0 s ≡ good tt = ap (check_header 0) (sym z) ∙ header_reads 0 S [] in
    rw (h, b, n, l, le-leb 1 (length body) (some_bytes S ts.0), eq-eqb (length body) (3 + length body - 3) (omega arith), items_read 0 0 S r.0)

-- the bytes of the step read last are passed over
passed_over : (at k : ℕ) (s rest : List ℕ) (R : Recorded) → length s ≡ k → ((a : ℕ) → read_steps a 0 rest ≡ R) → read_steps at k (s ++ rest) ≡ R
unfolding read_steps
passed_over at zero [] rest R e h = h at
passed_over at zero (x ∷ s) rest R e h = absurd (let z : ⊥ = omega arith in z)
passed_over at (suc k) [] rest R e h = absurd (let z : ⊥ = omega arith in z)
passed_over at (suc k) (x ∷ s) rest R e h = passed_over (suc at) k s rest R (omega arith) h

record_reads : (at : ℕ) (Ss : List (List Item)) → T (steps_within Ss) → read_steps at 0 (encode_record Ss) ≡ recorded Ss
unfolding read_steps encode_record encode_step recorded steps_within
record_reads at [] t = refl
record_reads at (S ∷ Ss) t =
    let ts = and_parts (step_within S) (all step_within Ss) t in
    let body = encode_items S in
    let behind = drop 1 (field 0x20 body) in
    let l : length behind ≡ 2 + length body = omega (arith, length-drop 1 (field 0x20 body), field_length 0x20 body) in
    ap (λ (r : Answer StepRead). one_more r (λ bytes. read_steps (suc at) (bytes - 1) (behind ++ encode_record Ss))) (step_reads at S (encode_record Ss) ts.0)
    ∙ ap (step S) (passed_over (suc at) (3 + length body - 1) behind (encode_record Ss) (recorded Ss) (omega arith) (λ a. record_reads a Ss ts.1))

pub record_reads_back : (Ss : List (List Item)) → T (steps_within Ss) → read_steps 0 0 (encode_record Ss) ≡ recorded Ss
record_reads_back Ss t = record_reads 0 Ss t

-- The other way: what was read stands in the bytes as it is encoded.
tag_at_number : (at t : ℕ) (g : ItemTag) → item_tag at t ≡ good g → t ≡ tag_number g
unfolding item_tag
tag_at_number at t g = go (eqb t 0x21) (eqb t 0x22) refl refl
  where
    go : (a b : Bool) → eqb t 0x21 ≡ a → eqb t 0x22 ≡ b → cond a (good one_tag) (cond b (good two_tag) (refused wrong_tag at)) ≡ good g → t ≡ tag_number g
    go true b i j e = eqb-true t 0x21 i ∙ ap tag_number (good_same one_tag g e)
    go false true i j e = eqb-true t 0x22 j ∙ ap tag_number (good_same two_tag g e)
    go false false i j e = good_not_refused (refused wrong_tag at) g wrong_tag at e refl

item_spells : (t : ItemTag) (s : List ℕ) → length_of s ≤ length s - 3 → tag_of s ≡ tag_number t → length_of s ≡ action_count t
    → s ≡ encode_item (item_spelt t s) ++ drop (3 + action_count t) s
unfolding encode_item
item_spells one_tag (x ∷ y ∷ z ∷ a ∷ s) l g n =
    let p : y ≡ 0 = omega arith in
    let q : z ≡ 1 = omega arith in
    λ i. g i ∷ (p i ∷ (q i ∷ (a ∷ s)))
item_spells one_tag [] l g n = absurd (let z : ⊥ = omega arith in z)
item_spells one_tag (x ∷ []) l g n = absurd (let z : ⊥ = omega arith in z)
item_spells one_tag (x ∷ y ∷ []) l g n = absurd (let z : ⊥ = omega arith in z)
item_spells one_tag (x ∷ y ∷ z ∷ []) l g n = absurd (let z : ⊥ = omega arith in z)
item_spells two_tag (x ∷ y ∷ z ∷ a ∷ b ∷ s) l g n =
    let p : y ≡ 0 = omega arith in
    let q : z ≡ 2 = omega arith in
    λ i. g i ∷ (p i ∷ (q i ∷ (a ∷ (b ∷ s))))
item_spells two_tag [] l g n = absurd (let z : ⊥ = omega arith in z)
item_spells two_tag (x ∷ []) l g n = absurd (let z : ⊥ = omega arith in z)
item_spells two_tag (x ∷ y ∷ []) l g n = absurd (let z : ⊥ = omega arith in z)
item_spells two_tag (x ∷ y ∷ z ∷ []) l g n = absurd (let z : ⊥ = omega arith in z)
item_spells two_tag (x ∷ y ∷ z ∷ a ∷ []) l g n = absurd (let z : ⊥ = omega arith in z)

record ItemSays (least : ℕ) (s : List ℕ) (r : ItemRead) : Type 0 where
  rises : T (leb least (first r.item))
  some : 1 ≤ r.bytes
  front : s ≡ encode_item r.item ++ drop r.bytes s

item_says : (at least : ℕ) (s : List ℕ) (r : ItemRead) → read_item at least s ≡ good r → ItemSays least s r
unfolding read_item
item_says at least s r e =
    let (long, room, f) = header_tests at s _ r e in
    let (t, te, f') = bind_good (item_tag at (tag_of s)) _ r f in
    let (n, f'') = check_good (eqb (length_of s) (action_count t)) wrong_length at _ r f' in
    let (rise, f''') = check_good (leb least (first (item_spelt t s))) not_rising at _ r f'' in
    subst (λ (q : ItemRead). ItemSays least s q) (good_same _ r f''') (record {
      rises = true_T (leb least (first (item_spelt t s))) rise;
      some = omega arith;
      front = item_spells t s room (tag_at_number at (tag_of s) t te) (eqb-true (length_of s) (action_count t) n);
    })

items_say : (at k least : ℕ) (s : List ℕ) (is : List Item) → read_items at k least s ≡ good is → (drop k s ≡ encode_items is) × T (firsts_rise least is)
unfolding read_items encode_items firsts_rise
items_say at k least [] is e =
    subst (λ (js : List Item). (drop k [] ≡ encode_items js) × T (firsts_rise least js)) (good_same [] is e) (drop-nil k, tt)
items_say at (suc k) least (x ∷ s) is e = items_say at k least s is e
items_say at zero least (x ∷ s) is e =
    let (r, re, f) = bind_good (read_item at least (x ∷ s)) _ is e in
    let (js, je, g) = bind_good (read_items at (r.bytes - 1) (suc (first r.item)) s) _ is f in
    let i = item_says at least (x ∷ s) r re in
    let (whole, up) = items_say at (r.bytes - 1) (suc (first r.item)) s js je in
    let b : r.bytes ≡ suc (r.bytes - 1) = omega (arith, i.some) in
    subst (λ (ks : List Item). (x ∷ s ≡ encode_items ks) × T (firsts_rise least ks)) (good_same (r.item ∷ js) is g) (
      i.front ∙ ap (λ (n : ℕ). encode_item r.item ++ drop n (x ∷ s)) b ∙ ap (λ (u : List ℕ). encode_item r.item ++ u) whole,
      parts_and (leb least (first r.item)) (firsts_rise (suc (first r.item)) js) i.rises up,
    )

-- a step field at the front of bytes
pub record StepSays (s : List ℕ) (S : List Item) : Type 0 where
  pub long : 3 ≤ length s
  pub room : length_of s ≤ length s - 3
  pub tagged : tag_of s ≡ 0x20
  pub some : 1 ≤ length_of s
  pub body : body_of s ≡ encode_items S
  pub rises : T (firsts_rise 0 S)

pub step_front : (s : List ℕ) (S : List Item) → StepSays s S → AreBytes s → take (3 + length_of s) s ≡ encode_step S
unfolding encode_step
step_front s S h b = field_front s h.long h.room (b 2 h.long) ∙ ap₂ (λ (t : ℕ) (body : List ℕ). field t body) h.tagged h.body

pub step_says : (at : ℕ) (s : List ℕ) (r : StepRead) → read_step at s ≡ good r → StepSays s r.items × (r.bytes ≡ 3 + length_of s)
unfolding read_step
step_says at s r e =
    let (long, room, f) = header_tests at s _ r e in
    let (tagged, f') = check_good (eqb (tag_of s) 0x20) wrong_tag at _ r f in
    let (some, f'') = check_good (leb 1 (length_of s)) wrong_length at _ r f' in
    let (S, g, f''') = bind_good (read_items at 0 0 (body_of s)) _ r f'' in
    let (body, rises) = items_say at 0 0 (body_of s) S g in
    subst (λ (q : StepRead). StepSays s q.items × (q.bytes ≡ 3 + length_of s)) (good_same _ r f''')
    (record { long = long; room = room; tagged = eqb-true (tag_of s) 0x20 tagged; some = leb-true 1 (length_of s) some; body = body; rises = rises }, refl)

pub lent_step_says : (s : List ℕ) (S : List Item) → read_lent_step s ≡ good S → StepSays s S × (length s ≡ 3 + length_of s)
unfolding read_lent_step
lent_step_says s S e =
    let (long, room, f) = header_tests 0 s _ S e in
    let (tagged, f') = check_good (eqb (tag_of s) 0x20) wrong_tag 0 _ S f in
    let (sized, f'') = check_good (leb 1 (length_of s) && eqb (length_of s) (length s - 3)) wrong_length 0 _ S f' in
    let (some, alone) = and_parts (leb 1 (length_of s)) (eqb (length_of s) (length s - 3)) (true_T _ sized) in
    let (body, rises) = items_say 0 0 0 (body_of s) S f'' in (
      record { long = long; room = room; tagged = eqb-true (tag_of s) 0x20 tagged; some = leb→le 1 (length_of s) some; body = body; rises = rises },
      omega (arith, eqb→eq (length_of s) (length s - 3) alone),
    )

pub step_read_exact : (s : List ℕ) (S : List Item) → ((i : ℕ) → i < length s → get_or s i 0 < 256) → read_lent_step s ≡ good S → s ≡ encode_step S
step_read_exact s S b e =
    let (h, l) = lent_step_says s S e in
    sym (take_all (3 + length_of s) s (omega arith)) ∙ step_front s S h b

-- a record that is read as steps begins with the first of them
pub record_begins : (rest : ℕ → Recorded) (a : Answer StepRead) (Ss : List (List Item)) → one_more a rest ≡ recorded Ss
    → (r : StepRead) × (Ts : List (List Item)) × (a ≡ good r) × (r.items ∷ Ts ≡ Ss) × (rest r.bytes ≡ recorded Ts)
unfolding recorded
record_begins rest (good r) [] e = absurd (let z : ◌≡◌ {A = ℕ} 0 1 = cc in let w : ⊥ = omega arith in w)
record_begins rest (good r) (S ∷ Ss) e = (r, Ss, refl, ap (λ (T : List Item). T ∷ Ss) (let z : r.items ≡ S = cc in z), cc)
record_begins rest (refused n c) [] e = absurd (let z : ◌≡◌ {A = ℕ} 0 1 = cc in let w : ⊥ = omega arith in w)
record_begins rest (refused n c) (S ∷ Ss) e = absurd (let z : ◌≡◌ {A = ℕ} 0 1 = cc in let w : ⊥ = omega arith in w)

steps_say : (at k : ℕ) (s : List ℕ) (Ss : List (List Item)) → AreBytes s → read_steps at k s ≡ recorded Ss → drop k s ≡ encode_record Ss
unfolding read_steps encode_record recorded
steps_say at k [] [] b e = drop-nil k
steps_say at k [] (S ∷ Ss) b e = absurd (let z : ◌≡◌ {A = ℕ} 0 1 = cc in let w : ⊥ = omega arith in w)
steps_say at (suc k) (x ∷ s) Ss b e = steps_say (suc at) k s Ss (λ i h. b (suc i) (omega arith)) e
steps_say at zero (x ∷ s) Ss b e =
    let (r, Ts, re, se, te) = record_begins (λ bytes. read_steps (suc at) (bytes - 1) s) (read_step at (x ∷ s)) Ss e in
    let (h, n) = step_says at (x ∷ s) r re in
    let whole : drop (r.bytes - 1) s ≡ encode_record Ts = steps_say (suc at) (r.bytes - 1) s Ts (λ i h. b (suc i) (omega arith)) te in
    let m : 3 + length_of (x ∷ s) ≡ suc (r.bytes - 1) = omega arith in
    sym (take-append-drop (3 + length_of (x ∷ s)) (x ∷ s))
    ∙ ap₂ (λ (u v : List ℕ). u ++ v) (step_front (x ∷ s) r.items h b) (ap (λ (j : ℕ). drop j (x ∷ s)) m ∙ whole)
    ∙ ap encode_record se

pub record_read_exact : (s : List ℕ) (Ss : List (List Item)) → ((i : ℕ) → i < length s → get_or s i 0 < 256) → read_steps 0 0 s ≡ recorded Ss → s ≡ encode_record Ss
record_read_exact s Ss b e = steps_say 0 0 s Ss b e
