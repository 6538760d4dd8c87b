-- The answer of `read_header` after each of its tests, and of `read_item` and `step_head` after each of their own.
-- True by the definitions: a test that failed is the answer, and one that passed hands on to the next.
use Prim.Native.Nat.{ℕ, ◌+◌, ◌-◌, ◌≤◌, ◌<◌}
use mathlib.Core.Path.{◌≡◌, refl, sym, ap, ◌∙◌}
use mathlib.Core.List.{List}
use mathlib.Core.Bool.{Bool, true, false}
use mathlib.Core.Logic.{◌⊎◌, inl, inr}
use native.Mathlib.Omega.{arith}
use borrow.Author.Tests.{le-leb, lt-leb, leb-true, eq-eqb, ne_eqb}
use lib.ListN.{length, get_or, take, drop, length-drop}
use lib.Seq.{get_or-take, take_all}
use lib.Dec.{leb}
use Rattle.std.specs.Prelude.{Result, IsErrAnd}
use Rattle.std.proofs.lemmas.List.{get_or-drop}
use Rattle.std.proofs.lemmas.Result.{err_from_is_err_and}
use Rattle.field.specs.Refusals.{record_field_cut, wrong_tag, wrong_length, not_rising}
use Rattle.field.specs.Answer.{Answer, good, refused, ◌>>=◌, check}
use Rattle.field.specs.Field.{tag_of, length_of, body_of}
use Rattle.field.specs.Says.{number_of}
use Rattle.field.specs.declared.Fault.{Fault}
use Rattle.field.proofs.Answers.{bind_good, check_good, good_same, bind_refused, good_not_refused}
use Rattle.field.proofs.Fields.{body_of_length}
use Rattle.algebra.specs.Item.{Item, one, two, first}
use Rattle.form.specs.Form.{ItemTag, one_tag, two_tag, check_header, item_tag, action_count, item_spelt, read_item}
use Rattle.form.specs.inner.FormSays.{says_at, header, step_head}

-- What is behind an offset, as the part that is lent.
pub rest_part : (s : List ℕ) (k : ℕ) → take (length s - k) (drop k s) ≡ drop k s
rest_part s k = take_all (length s - k) (drop k s) (omega (arith, length-drop k s))

-- A refusal that is passed on is still the refusal.
pub passed_on : {A B : Type 0} (at : ℕ) (f : A → B) (r : Result A Fault) (e : Fault) → IsErrAnd r (λ y. y ≡ e) → says_at at f r ≡ refused (number_of e) at
passed_on at f r e h = let p = err_from_is_err_and r h in rw (p.1, p.2)

pub header_passes : (at : ℕ) (s : List ℕ) → 3 ≤ length s → length_of s ≤ length s - 3 → check_header at s ≡ good tt
unfolding check_header
header_passes at s h l = rw (le-leb 3 (length s) h, le-leb (length_of s) (length s - 3) l)

-- the tests of a header that was read
pub header_tests : {A : Type 0} (at : ℕ) (s : List ℕ) (f : Unit {0} → Answer A) (x : A) → (check_header at s >>= f) ≡ good x → (3 ≤ length s) × (length_of s ≤ length s - 3) × (f tt ≡ good x)
unfolding check_header
header_tests at s f x e =
    let (u, h, g) = bind_good (check_header at s) f x e in
    let (long, k) = check_good (leb 3 (length s)) record_field_cut at _ u h in
    let (room, m) = check_good (leb (length_of s) (length s - 3)) record_field_cut at (λ v. good v) u (go (leb (length_of s) (length s - 3)) k) in
    (leb-true 3 (length s) long, leb-true (length_of s) (length s - 3) room, g)
  where
    go : {u : Unit {0}} (b : Bool) → check b record_field_cut at ≡ good u → (check b record_field_cut at >>= (λ (v : Unit {0}). good v)) ≡ good u
    go true e = e
    go false e = e

module _ (at : ℕ) (s : List ℕ) where
  pub header_short : length s < 3 → refused record_field_cut at ≡ header at s
  unfolding header check_header
  header_short h = rw (lt-leb 3 (length s) h)

  pub header_long : 3 ≤ length s → length s - 3 < length_of s → refused record_field_cut at ≡ header at s
  unfolding header check_header
  header_long h k = rw (le-leb 3 (length s) h, lt-leb (length_of s) (length s - 3) k)

  -- the body is lent as a part of what is behind the three bytes
  pub header_whole : 3 ≤ length s → (n : ℕ) → n ≡ length_of s → n ≤ length s - 3 → good (tag_of s, take n (take (length s - 3) (drop 3 s))) ≡ header at s
  unfolding header
  header_whole h n e k = rw (header_passes at s h (omega arith), rest_part s 3, e)

-- What is known of a tag and a body that were read.
record Front (s : List ℕ) (t : ℕ) (b : List ℕ) : Type 0 where
  long : 3 ≤ length s
  room : length_of s ≤ length s - 3
  tag : tag_of s ≡ t
  sized : length_of s ≡ length b
  at_body : (k : ℕ) → k < length b → get_or s (3 + k) 0 ≡ get_or b k 0

header_front : (at : ℕ) (s : List ℕ) (t : ℕ) (b : List ℕ) → good (t, b) ≡ header at s → Front s t b
unfolding header
header_front at s t b e =
    let (long, room, f) = header_tests at s _ (t, b) (sym e) in
    let same : ◌≡◌ {A = ℕ × List ℕ} (tag_of s, body_of s) (t, b) = good_same (tag_of s, body_of s) (t, b) f in
    let body : body_of s ≡ b = ap (λ (p : ℕ × List ℕ). p.1) same in
    let sized : length_of s ≡ length b = sym (body_of_length s room) ∙ ap length body in
    record {
      long = long;
      room = room;
      tag = ap (λ (p : ℕ × List ℕ). p.0) same;
      sized = sized;
      at_body = λ k h. let inside : k < length_of s = omega arith in
          sym (get_or-drop 3 s k 0) ∙ sym (get_or-take (length_of s) (drop 3 s) k 0 inside) ∙ ap (λ (l : List ℕ). get_or l k 0) body;
    }

-- "21 hex with one action, or 22 hex with two"
abbrev pub tag_number : ItemTag → ℕ
tag_number one_tag = 0x21
tag_number two_tag = 0x22

tag_known : (at : ℕ) (k : ItemTag) → item_tag at (tag_number k) ≡ good k
unfolding item_tag
tag_known at one_tag = refl
tag_known at two_tag = refl

-- the item that a body of so many actions spells
abbrev pub body_spells : ItemTag → List ℕ → Item
body_spells one_tag b = one (get_or b 0 0)
body_spells two_tag b = two (get_or b 0 0) (get_or b 1 0)

spells : (k : ItemTag) (s : List ℕ) (t : ℕ) (b : List ℕ) → Front s t b → length b ≡ action_count k → item_spelt k s ≡ body_spells k b
spells one_tag s t b f n = ap one (f.at_body 0 (omega arith))
spells two_tag s t b f n = rw (f.at_body 0 (omega arith), f.at_body 1 (omega arith))

module _ (at least : ℕ) (s : List ℕ) (t : ℕ) (b : List ℕ) (e : good (t, b) ≡ header at s) where
  pub item_untagged : (t ≡ 0x21 → ⊥) → (t ≡ 0x22 → ⊥) → refused wrong_tag at ≡ read_item at least s
  unfolding read_item item_tag
  item_untagged m n =
      let f = header_front at s t b e in
      rw (header_passes at s f.long f.room, f.tag, ne_eqb t 0x21 m, ne_eqb t 0x22 n)

  module _ (k : ItemTag) (q : t ≡ tag_number k) where
    tagged : item_tag at (tag_of s) ≡ good k
    tagged = ap (item_tag at) ((header_front at s t b e).tag ∙ q) ∙ tag_known at k

    pub item_sized : (length b ≡ action_count k → ⊥) → refused wrong_length at ≡ read_item at least s
    unfolding read_item
    item_sized n =
        let f = header_front at s t b e in
        rw (header_passes at s f.long f.room, tagged, f.sized, ne_eqb (length b) (action_count k) n)

    pub item_low : length b ≡ action_count k → first (body_spells k b) < least → refused not_rising at ≡ read_item at least s
    unfolding read_item
    item_low n l =
        let f = header_front at s t b e in
        rw (header_passes at s f.long f.room, tagged, f.sized, eq-eqb (length b) (action_count k) n, spells k s t b f n, lt-leb least (first (body_spells k b)) l)

    pub item_good : length b ≡ action_count k → least ≤ first (body_spells k b) → good (record { item = body_spells k b; bytes = 3 + length b }) ≡ read_item at least s
    unfolding read_item
    item_good n l =
        let f = header_front at s t b e in
        rw (header_passes at s f.long f.room, tagged, f.sized, eq-eqb (length b) (action_count k) n, spells k s t b f n, le-leb least (first (body_spells k b)) l, n)

module _ (at : ℕ) (s : List ℕ) (t : ℕ) (b : List ℕ) (e : good (t, b) ≡ header at s) where
  pub head_untagged : (t ≡ 0x20 → ⊥) → refused wrong_tag at ≡ step_head at s
  unfolding step_head
  head_untagged n =
      let f = header_front at s t b e in
      rw (header_passes at s f.long f.room, f.tag, ne_eqb t 0x20 n)

  pub head_empty : t ≡ 0x20 → length b ≡ 0 → refused wrong_length at ≡ step_head at s
  unfolding step_head
  head_empty q n =
      let f = header_front at s t b e in
      rw (header_passes at s f.long f.room, f.tag, eq-eqb t 0x20 q, f.sized, n)

  pub head_read : t ≡ 0x20 → 1 ≤ length b → good (length b) ≡ step_head at s
  unfolding step_head
  head_read q n =
      let f = header_front at s t b e in
      rw (header_passes at s f.long f.room, f.tag, eq-eqb t 0x20 q, f.sized, le-leb 1 (length b) n)

-- A refusal of the header is the refusal of what it heads.
cut_passed : {A : Type 0} (at n : ℕ) (s : List ℕ) (f : Unit {0} → Answer A) → refused n at ≡ header at s → refused n at ≡ (check_header at s >>= f)
unfolding header
cut_passed at n s f e = go (bind_refused (check_header at s) _ n at (sym e))
  where
    go : (check_header at s ≡ refused n at) ⊎ ((u : Unit {0}) × (check_header at s ≡ good u) × (◌≡◌ {A = Answer (ℕ × List ℕ)} (good (tag_of s, body_of s)) (refused n at))) → refused n at ≡ (check_header at s >>= f)
    go (inl c) = rw c
    go (inr (u, c, d)) = good_not_refused (good (tag_of s, body_of s)) (tag_of s, body_of s) n at refl d

pub item_cut : (at least n : ℕ) (s : List ℕ) → refused n at ≡ header at s → refused n at ≡ read_item at least s
unfolding read_item
item_cut at least n s e = cut_passed at n s _ e

pub head_cut : (at n : ℕ) (s : List ℕ) → refused n at ≡ header at s → refused n at ≡ step_head at s
unfolding step_head
head_cut at n s e = cut_passed at n s _ e
