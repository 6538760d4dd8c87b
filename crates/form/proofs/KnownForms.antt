-- 01, "Run records" and "Refusal numbers", 20 to 24: lent steps and records with two faults, with items of two actions, and with bytes behind.
-- Which number is given is worked out from the paper; a test left out, exchanged with another or at the wrong offset breaks a row.
use Prim.Native.Nat.{ℕ}
use mathlib.Core.Path.{◌≡◌, refl}
use mathlib.Core.List.{List, [], ◌∷◌, map}
use lib.ListN.{replicate}
use Rattle.field.specs.Answer.{Answer, good, refused}
use Rattle.algebra.specs.Item.{Item, one, two}
use Rattle.form.specs.Form.{read_lent_step, Recorded, ends, step, no_step, read_record}

pub record KnownStep : Type 0 where
  pub bytes : List ℕ
  pub items : Answer (List Item)

abbrev known_step : List ℕ → Answer (List Item) → KnownStep
known_step s r = record { bytes = s; items = r }

-- what a lent step is refused with: 21 to 24 carry the "step's offset", here 0
abbrev no : ℕ → Answer (List Item)
no n = refused n 0

abbrev known_lent : List KnownStep
known_lent =
    -- "21 hex with one action, or 22 hex with two, the a side first": {(3,1), 4}
    known_step (0x20 ∷ 0 ∷ 9 ∷ 0x22 ∷ 0 ∷ 2 ∷ 3 ∷ 1 ∷ 0x21 ∷ 0 ∷ 1 ∷ 4 ∷ []) (good (two 3 1 ∷ one 4 ∷ []))
    -- "First actions strictly rise": {0, 255}; {(3,9), (4,0)}, where second actions do not
    ∷ known_step (0x20 ∷ 0 ∷ 8 ∷ 0x21 ∷ 0 ∷ 1 ∷ 0 ∷ 0x21 ∷ 0 ∷ 1 ∷ 255 ∷ []) (good (one 0 ∷ one 255 ∷ []))
    ∷ known_step (0x20 ∷ 0 ∷ 10 ∷ 0x22 ∷ 0 ∷ 2 ∷ 3 ∷ 9 ∷ 0x22 ∷ 0 ∷ 2 ∷ 4 ∷ 0 ∷ []) (good (two 3 9 ∷ two 4 0 ∷ []))
    -- 24: equal, and falling
    ∷ known_step (0x20 ∷ 0 ∷ 9 ∷ 0x21 ∷ 0 ∷ 1 ∷ 3 ∷ 0x22 ∷ 0 ∷ 2 ∷ 3 ∷ 9 ∷ []) (no 24)
    ∷ known_step (0x20 ∷ 0 ∷ 9 ∷ 0x22 ∷ 0 ∷ 2 ∷ 3 ∷ 1 ∷ 0x21 ∷ 0 ∷ 1 ∷ 2 ∷ []) (no 24)
    -- "a step's own header": "21 is under 3 bytes left or a length beyond what encloses the field, and both stand before 22"
    ∷ known_step [] (no 21)
    ∷ known_step (0x20 ∷ 0 ∷ []) (no 21)
    ∷ known_step (0x19 ∷ 0 ∷ []) (no 21)
    ∷ known_step (0x19 ∷ 0 ∷ 9 ∷ []) (no 21)
    ∷ known_step (0x20 ∷ 1 ∷ 0 ∷ 0x21 ∷ 0 ∷ 1 ∷ 0 ∷ []) (no 21)
    -- 22 before 23: the wrong tag of an empty step, or with a byte behind; an item's tag is no step's
    ∷ known_step (0x19 ∷ 0 ∷ 0 ∷ []) (no 22)
    ∷ known_step (0x19 ∷ 0 ∷ 0 ∷ 9 ∷ []) (no 22)
    ∷ known_step (0x21 ∷ 0 ∷ 1 ∷ 0 ∷ []) (no 22)
    -- 23, "empty step": "a step of no items is not" good
    ∷ known_step (0x20 ∷ 0 ∷ 0 ∷ []) (no 23)
    -- "bytes behind it are 23, tested before the items": behind a good item, before its 21, before its 22
    ∷ known_step (0x20 ∷ 0 ∷ 4 ∷ 0x21 ∷ 0 ∷ 1 ∷ 0 ∷ 9 ∷ []) (no 23)
    ∷ known_step (0x20 ∷ 0 ∷ 1 ∷ 0x21 ∷ 9 ∷ []) (no 23)
    ∷ known_step (0x20 ∷ 0 ∷ 4 ∷ 0x19 ∷ 0 ∷ 1 ∷ 0 ∷ 9 ∷ []) (no 23)
    -- "for each 21": under 3 bytes left, also in a body of one byte; a length beyond the step's body, before the wrong tag
    ∷ known_step (0x20 ∷ 0 ∷ 1 ∷ 0x21 ∷ []) (no 21)
    ∷ known_step (0x20 ∷ 0 ∷ 6 ∷ 0x21 ∷ 0 ∷ 1 ∷ 0 ∷ 0x21 ∷ 0 ∷ []) (no 21)
    ∷ known_step (0x20 ∷ 0 ∷ 4 ∷ 0x19 ∷ 0 ∷ 2 ∷ 0 ∷ []) (no 21)
    -- "22": a wrong tag, before the wrong length; a step's tag is no item's
    ∷ known_step (0x20 ∷ 0 ∷ 4 ∷ 0x19 ∷ 0 ∷ 1 ∷ 0 ∷ []) (no 22)
    ∷ known_step (0x20 ∷ 0 ∷ 3 ∷ 0x23 ∷ 0 ∷ 0 ∷ []) (no 22)
    ∷ known_step (0x20 ∷ 0 ∷ 4 ∷ 0x20 ∷ 0 ∷ 1 ∷ 0 ∷ []) (no 22)
    -- "23": one action in an item of two, two or none in an item of one; before the 24 of the same item
    ∷ known_step (0x20 ∷ 0 ∷ 4 ∷ 0x22 ∷ 0 ∷ 1 ∷ 0 ∷ []) (no 23)
    ∷ known_step (0x20 ∷ 0 ∷ 6 ∷ 0x22 ∷ 0 ∷ 3 ∷ 0 ∷ 1 ∷ 2 ∷ []) (no 23)
    ∷ known_step (0x20 ∷ 0 ∷ 3 ∷ 0x21 ∷ 0 ∷ 0 ∷ []) (no 23)
    ∷ known_step (0x20 ∷ 0 ∷ 9 ∷ 0x21 ∷ 0 ∷ 1 ∷ 3 ∷ 0x21 ∷ 0 ∷ 2 ∷ 0 ∷ 0 ∷ []) (no 23)
    -- "items left to right": an item's 22, 23, 24 before the 21 of the one behind it
    ∷ known_step (0x20 ∷ 0 ∷ 5 ∷ 0x19 ∷ 0 ∷ 1 ∷ 0 ∷ 0x21 ∷ []) (no 22)
    ∷ known_step (0x20 ∷ 0 ∷ 6 ∷ 0x21 ∷ 0 ∷ 2 ∷ 0 ∷ 0 ∷ 0x21 ∷ []) (no 23)
    ∷ known_step (0x20 ∷ 0 ∷ 9 ∷ 0x21 ∷ 0 ∷ 1 ∷ 3 ∷ 0x21 ∷ 0 ∷ 1 ∷ 3 ∷ 0x19 ∷ []) (no 24)
    ∷ []

pub record KnownRecord : Type 0 where
  pub bytes : List ℕ
  pub recorded : Answer Recorded

abbrev read : List ℕ → Answer Recorded → KnownRecord
read s r = record { bytes = s; recorded = r }

-- the step {0}, of 7 bytes, and what stands behind it
abbrev behind : List ℕ → List ℕ
behind s = 0x20 ∷ 0 ∷ 4 ∷ 0x21 ∷ 0 ∷ 1 ∷ 0 ∷ s

-- that step, and then a refusal at its offset, 7
abbrev refused_behind : ℕ → Answer Recorded
refused_behind n = good (step (one 0 ∷ []) (no_step n 7))

abbrev known_records : List KnownRecord
known_records =
    -- "An empty record is good"
    read [] (good ends)
    -- "step fields .. one after another": {0}, {(0,1)}, where first actions start anew with each step
    ∷ read (behind (0x20 ∷ 0 ∷ 5 ∷ 0x22 ∷ 0 ∷ 2 ∷ 0 ∷ 1 ∷ [])) (good (step (one 0 ∷ []) (step (two 0 1 ∷ []) ends)))
    -- 20, "record too long": 16,385 bytes, the first of which is no tag; with 16,384 the tag is the fault
    ∷ read (replicate 16385 0) (refused 20 0)
    ∷ read (replicate 16384 0) (good (no_step 22 0))
    -- 21, 22, 23 of a step's own header, with the "step's offset"
    ∷ read (behind (0x19 ∷ 0 ∷ [])) (refused_behind 21)
    ∷ read (behind (0x19 ∷ 0 ∷ 9 ∷ [])) (refused_behind 21)
    ∷ read (behind (0x19 ∷ 0 ∷ 0 ∷ [])) (refused_behind 22)
    ∷ read (behind (0x20 ∷ 0 ∷ 0 ∷ [])) (refused_behind 23)
    -- 21, "a length beyond what encloses the field": an item goes beyond its step, the record would have the bytes
    ∷ read (behind (0x20 ∷ 0 ∷ 4 ∷ 0x21 ∷ 0 ∷ 2 ∷ 0 ∷ behind [])) (refused_behind 21)
    -- 22, 23, 24 of a second item: the offset is the step's
    ∷ read (behind (0x20 ∷ 0 ∷ 8 ∷ 0x21 ∷ 0 ∷ 1 ∷ 2 ∷ 0x20 ∷ 0 ∷ 1 ∷ 3 ∷ [])) (refused_behind 22)
    ∷ read (behind (0x20 ∷ 0 ∷ 8 ∷ 0x21 ∷ 0 ∷ 1 ∷ 2 ∷ 0x22 ∷ 0 ∷ 1 ∷ 3 ∷ [])) (refused_behind 23)
    ∷ read (behind (0x20 ∷ 0 ∷ 8 ∷ 0x21 ∷ 0 ∷ 1 ∷ 2 ∷ 0x21 ∷ 0 ∷ 1 ∷ 2 ∷ [])) (refused_behind 24)
    -- bytes behind a step are the next step: {0}, and one byte
    ∷ read (behind (9 ∷ [])) (refused_behind 21)
    -- an item of one byte; the offset of a third step
    ∷ read (behind (0x20 ∷ 0 ∷ 1 ∷ 0x21 ∷ [])) (refused_behind 21)
    ∷ read (behind (behind (0x19 ∷ 0 ∷ 0 ∷ []))) (good (step (one 0 ∷ []) (step (one 0 ∷ []) (no_step 22 14))))
    ∷ []

pub record KnownForms : Type 0 where
  steps : map (λ (k : KnownStep). read_lent_step k.bytes) known_lent ≡ map (λ (k : KnownStep). k.items) known_lent
  records : map (λ (k : KnownRecord). read_record k.bytes) known_records ≡ map (λ (k : KnownRecord). k.recorded) known_records

pub known_forms : KnownForms
unfolding read_lent_step read_record
known_forms = record { steps = refl; records = refl }
