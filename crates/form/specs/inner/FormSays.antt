-- What the answers of the code that reads a step say: 01's number and values. The refusals of step form carry the step's offset.
use Rattle.std.specs.Prelude.{ℕ, ◌≤◌, List, Option, None, Some, Result, Ok, Err, length, map, take, eqb, leb}
use Rattle.field.specs.Refusals.{wrong_tag, wrong_length}
use Rattle.field.specs.Answer.{Answer, good, refused, ◌>>◌, check}
use Rattle.field.specs.Field.{tag_of, length_of, body_of}
use Rattle.field.specs.Says.{number_of}
use Rattle.field.specs.declared.Fault.{Fault}
use Rattle.algebra.specs.Item.{Item, one, two}
use Rattle.form.specs.declared.Header.{Header}
use Rattle.form.specs.declared.Item as code
use Rattle.form.specs.declared.ItemRead as code_read
use Rattle.form.specs.Form.{ItemRead, check_header}

-- The answer at a step's offset, where `f` tells what a value stands for.
abbrev pub says_at : {A B : Type 0} → ℕ → (A → B) → Result A Fault → Answer B
says_at at f (Ok x) = good (f x)
says_at at f (Err e) = refused (number_of e) at

-- "21 hex with one action, or 22 hex with two, the a side first"
abbrev pub actions : ℕ → Option ℕ → Item
actions i None = one i
actions i (Some j) = two i j

abbrev pub code_item : code.Item → Item
code_item i = actions i.first i.second

abbrev pub item_read : code_read.ItemRead → ItemRead
item_read r = record { item = code_item r.item; bytes = r.bytes }

-- The items at the front of a list.
abbrev pub items_in : ℕ → List code.Item → List Item
items_in n items = take n (map code_item items)

-- There are no more items than 256, and the list holds them.
abbrev pub ItemsFit : List code.Item → ℕ → Type 0
ItemsFit items n = (n ≤ 256) × (n ≤ length items)

-- The tag and the body of the field at the front of the bytes.
abbrev pub header_read : Header → ℕ × List ℕ
header_read h = (h.tag, h.body.now)

unfoldable pub header : ℕ → List ℕ → Answer (ℕ × List ℕ)
unfolding check_header
header at s = do
  check_header at s
  good (tag_of s, body_of s)

-- "a step's own header before them"; "a step of no items is not" good. The answer is the length of the body.
unfoldable pub step_head : ℕ → List ℕ → Answer ℕ
unfolding check_header
step_head at s = do
  check_header at s
  check (eqb (tag_of s) 0x20) wrong_tag at
  check (leb 1 (length_of s)) wrong_length at
  good (length_of s)
