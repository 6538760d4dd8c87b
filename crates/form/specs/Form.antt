-- 01, "Run records" and "Refusal numbers", 20 to 24: the form of a step field and of a record. 21 to 24 carry the step's offset.
use Rattle.std.specs.Prelude.{ℕ, zero, suc, ◌+◌, ◌-◌, List, [], ◌∷◌, cond, ◌&&◌, length, get_or, eqb, leb}
use Rattle.field.specs.Limits.{record_limit}
use Rattle.field.specs.Refusals.{record_too_long, record_field_cut, wrong_tag, wrong_length, not_rising}
use Rattle.field.specs.Answer.{Answer, good, refused, ◌>>=◌, ◌>>◌, check}
use Rattle.field.specs.Field.{tag_of, length_of, body_of}
use Rattle.algebra.specs.Item.{Item, one, two, first}

-- "21 is under 3 bytes left or a length beyond what encloses the field, and both stand before 22."
unfoldable pub check_header : ℕ → List ℕ → Answer (Unit {0})
check_header at s = do
  check (leb 3 (length s)) record_field_cut at
  check (leb (length_of s) (length s - 3)) record_field_cut at

-- "21 hex with one action, or 22 hex with two"
pub data ItemTag : Type 0 where
  one_tag two_tag : ItemTag

unfoldable pub item_tag : ℕ → ℕ → Answer ItemTag
item_tag at t = cond (eqb t 0x21) (good one_tag) (cond (eqb t 0x22) (good two_tag) (refused wrong_tag at))

-- the actions that an item of that tag has, and the item of a field's bytes
abbrev pub action_count : ItemTag → ℕ
action_count one_tag = 1
action_count two_tag = 2

abbrev pub item_spelt : ItemTag → List ℕ → Item
item_spelt one_tag s = one (get_or s 3 0)
item_spelt two_tag s = two (get_or s 3 0) (get_or s 4 0)

pub record ItemRead : Type 0 where
  pub item : Item
  pub bytes : ℕ

-- The item at the front of what is left of the step's body; its first action must be at least a number.
-- "items left to right, for each 21, 22, 23, 24"
unfoldable pub read_item : ℕ → ℕ → List ℕ → Answer ItemRead
unfolding check_header item_tag
read_item at least s = do
  check_header at s
  t ← item_tag at (tag_of s)
  check (eqb (length_of s) (action_count t)) wrong_length at
  check (leb least (first (item_spelt t s))) not_rising at
  good (record { item = item_spelt t s; bytes = 3 + action_count t })

-- The items of a step's body. The second number is how many bytes of the item read last are still to be passed over.
unfoldable pub read_items : ℕ → ℕ → ℕ → List ℕ → Answer (List Item)
unfolding read_item
read_items at passed least [] = good []
read_items at zero least (x ∷ s) = do
  r ← read_item at least (x ∷ s)
  -- "First actions strictly rise."
  is ← read_items at (r.bytes - 1) (suc (first r.item)) s
  good (r.item ∷ is)
read_items at (suc k) least (x ∷ s) = read_items at k least s

pub record StepRead : Type 0 where
  pub items : List Item
  pub bytes : ℕ

-- The step field at the front of the bytes: "a step's own header before them"; "a step of no items is not" good.
unfoldable pub read_step : ℕ → List ℕ → Answer StepRead
unfolding check_header read_items
read_step at s = do
  check_header at s
  check (eqb (tag_of s) 0x20) wrong_tag at
  check (leb 1 (length_of s)) wrong_length at
  is ← read_items at 0 0 (body_of s)
  good (record { items = is; bytes = 3 + length_of s })

-- "Firing is lent one step field; bytes behind it are 23, tested before the items." Its offset is 0.
unfoldable pub read_lent_step : List ℕ → Answer (List Item)
unfolding check_header read_items
read_lent_step s = do
  check_header 0 s
  check (eqb (tag_of s) 0x20) wrong_tag 0
  check (leb 1 (length_of s) && eqb (length_of s) (length s - 3)) wrong_length 0
  read_items 0 0 0 (body_of s)

-- "A record is step fields (tag 20 hex) one after another": its steps in order, up to its end or to the first field that is no step.
pub data Recorded : Type 0 where
  ends : Recorded
  step : List Item → Recorded → Recorded
  no_step : ℕ → ℕ → Recorded

abbrev pub one_more : Answer StepRead → (ℕ → Recorded) → Recorded
one_more (good r) rest = step r.items (rest r.bytes)
one_more (refused n c) rest = no_step n c

-- The rest of a record at an offset. The second number is how many bytes of the step read last are still to be passed over.
unfoldable pub read_steps : ℕ → ℕ → List ℕ → Recorded
unfolding read_step
read_steps at passed [] = ends
read_steps at zero (x ∷ s) = one_more (read_step at (x ∷ s)) (λ bytes. read_steps (suc at) (bytes - 1) s)
read_steps at (suc k) (x ∷ s) = read_steps (suc at) k s

-- "record too long"
unfoldable pub read_record : List ℕ → Answer Recorded
unfolding read_steps
read_record s = do
  check (leb (length s) record_limit) record_too_long 0
  good (read_steps 0 0 s)
