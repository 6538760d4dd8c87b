-- 01, "Run records", read the other way: the bytes of an item, of a step and of a record, and which steps have bytes that are accepted.
use Rattle.std.specs.Prelude.{ℕ, suc, List, [], ◌∷◌, ◌++◌, Bool, true, ◌&&◌, length, leb, ltb}
use Rattle.field.specs.Limits.{action_limit}
use Rattle.field.specs.Field.{field}
use Rattle.field.specs.Lists.{all}
use Rattle.algebra.specs.Item.{Item, one, two, first}
use Rattle.form.specs.Form.{Recorded, ends, step}

-- "21 hex with one action, or 22 hex with two, the a side first"
unfoldable pub encode_item : Item → List ℕ
unfolding field
encode_item (one i) = field 0x21 (i ∷ [])
encode_item (two i j) = field 0x22 (i ∷ (j ∷ []))

-- "A step's body is items"
unfoldable pub encode_items : List Item → List ℕ
unfolding encode_item
encode_items [] = []
encode_items (i ∷ is) = encode_item i ++ encode_items is

-- "step fields (tag 20 hex)"
unfoldable pub encode_step : List Item → List ℕ
unfolding field encode_items
encode_step S = field 0x20 (encode_items S)

-- "A record is step fields (tag 20 hex) one after another."
unfoldable pub encode_record : List (List Item) → List ℕ
unfolding encode_step
encode_record [] = []
encode_record (S ∷ Ss) = encode_step S ++ encode_record Ss

-- "First actions strictly rise", from a number on.
unfoldable pub firsts_rise : ℕ → List Item → Bool
firsts_rise least [] = true
firsts_rise least (i ∷ is) = leb least (first i) && firsts_rise (suc (first i)) is

-- "256 actions", "numbered from 0"
unfoldable pub numbered : Item → Bool
numbered (one i) = ltb i action_limit
numbered (two i j) = ltb i action_limit && ltb j action_limit

-- "a step of no items is not" good; a step that is keeps to the rules above, and with them to the two bytes of a length.
unfoldable pub step_within : List Item → Bool
unfolding firsts_rise numbered all
step_within S = leb 1 (length S) && (firsts_rise 0 S && all numbered S)

unfoldable pub steps_within : List (List Item) → Bool
unfolding step_within all
steps_within Ss = all step_within Ss

-- What is read of a record that has these steps and then ends.
unfoldable pub recorded : List (List Item) → Recorded
recorded [] = ends
recorded (S ∷ Ss) = step S (recorded Ss)
