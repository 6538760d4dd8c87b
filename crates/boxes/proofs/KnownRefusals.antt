-- 01, "Refusal numbers", 1 to 14: plans with two faults, and plans whose fault does not stand at offset 0; then plans at the ends of what is accepted.
-- Which number is given, and what it carries, is worked out from the paper; a test left out, exchanged with another or off by one breaks a row.
use Prim.Native.Nat.{ℕ, zero, suc}
use mathlib.Core.Path.{◌≡◌, refl}
use mathlib.Core.List.{List, [], ◌∷◌, ◌++◌, map}
use lib.ListN.{replicate}
use Rattle.field.specs.Answer.{good, refused}
use Rattle.field.specs.Field.{field}
use Rattle.algebra.specs.Expr.{Expr, action, sequence, choice, parallel, loop, scope}
use Rattle.plan.specs.Bytes.{encode}
use Rattle.plan.proofs.AtTheLimits.{tree}
use Rattle.boxes.specs.Compile.{Lent, Compiled, accept, compile}

-- the bytes of an action with that label
abbrev labelled : ℕ → List ℕ
labelled l = 1 ∷ 0 ∷ 1 ∷ l ∷ []

-- a sequence of an action and of what these bytes spell: they stand at offset 7
abbrev behind : List ℕ → List ℕ
behind s = field 2 (labelled 1 ++ s)

-- a sequence of a scope with these bytes behind its own byte, at offset 7, and of an action: the plan goes on where the scope's body ends
abbrev inside : List ℕ → List ℕ
inside s = field 2 (field 6 (1 ∷ s) ++ labelled 1)

-- these bytes below so many scopes of 4 bytes each
abbrev below : ℕ → List ℕ → List ℕ
below zero s = s
below (suc k) s = field 6 (1 ∷ below k s)

abbrev a : Expr
a = action 1

abbrev b : Expr
b = action 2

abbrev c : Expr
c = action 3

-- ⟨a⊗F⊗a⟩, of 11 bytes and F's; ⟨a⊗(b‖c)⊗a⟩, of 22 bytes
abbrev around : Expr → Expr
around F = loop a F a

abbrev faulty : Expr
faulty = around (parallel b c)

-- 256 actions, of 1,789 bytes: what stands behind them in a sequence is at offset 1,792
abbrev most_actions : Expr
most_actions = tree sequence 8 a

-- so many times two actions side by side
abbrev wide : ℕ → ℕ → Expr
wide k l = tree parallel k (action l)

pub record KnownRefusal : Type 0 where
  pub plan : List ℕ
  pub number : ℕ
  pub carried : ℕ

abbrev refusal : List ℕ → ℕ → ℕ → KnownRefusal
refusal s n o = record { plan = s; number = n; carried = o }

abbrev known_refused : List KnownRefusal
known_refused =
    -- "Plan: 1; then fields": 4,097 bytes, the first of which is no tag; with 4,096 the tag is the fault
    refusal (replicate 4097 9) 1 0
    ∷ refusal (replicate 4096 9) 3 0
    -- "the tests of one field as the table runs", 8 before 5: an operand due at depth 33, no byte left
    ∷ refusal (below 32 []) 8 128
    -- 5 before 2: a field of one byte at depth 33
    ∷ refusal (below 32 (1 ∷ [])) 5 128
    -- 8, "operand due, no byte left": in each field with operands, and the body's end is the end
    ∷ refusal (inside []) 8 7
    ∷ refusal (field 2 (labelled 1)) 8 7
    ∷ refusal (field 3 (labelled 1)) 8 7
    ∷ refusal (field 4 []) 8 3
    ∷ refusal (field 5 (labelled 1 ++ labelled 1)) 8 11
    -- "2 for the header, 3": two bytes, the first of which is no tag
    ∷ refusal (behind (7 ∷ 0 ∷ [])) 2 7
    -- "3, 2 for the length": no tag, and a length beyond the body; 0 is no tag either
    ∷ refusal (behind (7 ∷ 0 ∷ 9 ∷ [])) 3 7
    ∷ refusal (behind (0 ∷ 0 ∷ 9 ∷ [])) 3 7
    -- 2, "length beyond the enclosing body": the plan would have the bytes
    ∷ refusal (inside (1 ∷ 0 ∷ [])) 2 7
    ∷ refusal (inside (1 ∷ 0 ∷ 2 ∷ 1 ∷ [])) 2 7
    -- 2 before 4: an action's length is 2, and one byte is left; "high byte first"
    ∷ refusal (behind (1 ∷ 0 ∷ 2 ∷ 0x80 ∷ [])) 2 7
    ∷ refusal (behind (1 ∷ 1 ∷ 0 ∷ 1 ∷ [])) 2 7
    -- 4 before 6: "action body not 1 byte", and its first byte is 128; "scope body empty"
    ∷ refusal (behind (1 ∷ 0 ∷ 2 ∷ 0x80 ∷ 0x80 ∷ [])) 4 7
    ∷ refusal (behind (1 ∷ 0 ∷ 0 ∷ [])) 4 7
    ∷ refusal (behind (6 ∷ 0 ∷ 0 ∷ [])) 4 7
    -- 6, "label 128, or scope byte outside 1..127", before what is wrong inside the scope
    ∷ refusal (behind (labelled 0x80)) 6 7
    ∷ refusal (behind (field 6 (0 ∷ labelled 1))) 6 7
    ∷ refusal (behind (field 6 (0x80 ∷ []))) 6 7
    ∷ refusal (behind (field 6 (0x81 ∷ labelled 1))) 6 7
    -- 4 and 6 before 7: the 257th action is no action
    ∷ refusal (field 2 (encode most_actions ++ (1 ∷ 0 ∷ 2 ∷ 1 ∷ 1 ∷ []))) 4 1792
    ∷ refusal (field 2 (encode most_actions ++ labelled 0x80)) 6 1792
    -- 7 before 9: the 257th action, and a byte behind the plan
    ∷ refusal (field 2 (encode most_actions ++ labelled 1) ++ (9 ∷ [])) 7 1792
    -- 9, "bytes after the last operand or the plan", "first such"; "fields in byte order": before the label 128 behind it
    ∷ refusal (labelled 1 ++ (9 ∷ [])) 9 4
    ∷ refusal (field 2 (field 6 (1 ∷ labelled 1 ++ (9 ∷ 9 ∷ [])) ++ labelled 0x80)) 9 11
    ∷ refusal (field 2 (labelled 1 ++ (labelled 1 ++ labelled 0x80))) 9 11
    ∷ refusal (field 3 (labelled 1 ++ (labelled 1 ++ labelled 0x80))) 9 11
    ∷ refusal (field 4 (labelled 1 ++ (labelled 1 ++ labelled 0x80))) 9 11
    ∷ refusal (field 5 (labelled 1 ++ (labelled 1 ++ (labelled 1 ++ labelled 0x80)))) 9 15
    -- "10 after all reading": a loop at fault, and a byte behind the plan
    ∷ refusal (encode faulty ++ (9 ∷ [])) 9 22
    -- "A parallel is not" exclusive, nor a choice with one on either side, nor a scope of one
    ∷ refusal (encode (around (choice b (parallel b c)))) 10 0
    ∷ refusal (encode (around (choice (parallel b c) b))) 10 0
    ∷ refusal (encode (around (scope 1 (parallel b c)))) 10 0
    -- 10, "first such loop": the outer before the inner, the left before the right
    ∷ refusal (encode (around (parallel b faulty))) 10 0
    ∷ refusal (encode (choice faulty faulty)) 10 3
    -- its offset, as each operand of each field
    ∷ refusal (encode (sequence a faulty)) 10 7
    ∷ refusal (encode (choice a faulty)) 10 7
    ∷ refusal (encode (parallel faulty a)) 10 3
    ∷ refusal (encode (parallel (scope 1 (sequence a b)) (scope 1 faulty))) 10 22
    ∷ refusal (encode (loop faulty b c)) 10 3
    ∷ refusal (encode (loop a faulty c)) 10 7
    ∷ refusal (encode (loop a b faulty)) 10 11
    -- "then 11, 12, 13": 10 before 11, with 4,096 entries; 11 before 12, with 4,096 pairs; 12 before 13, with 1,600 pairs of 32 arcs each
    ∷ refusal (encode (sequence faulty (choice (wide 6 2) (wide 6 3)))) 10 3
    ∷ refusal (encode (choice (scope 1 (parallel (wide 6 1) (wide 6 0x81))) (wide 4 2))) 11 0
    ∷ refusal
    (encode (choice (scope 1 (parallel (parallel (wide 5 1) (wide 3 1)) (parallel (wide 5 0x81) (wide 3 0x81)))) (wide 3 2)))
    12
    0
    ∷ []

-- exclusive: "an action; any sequence; any loop; a choice of two exclusive ones; a scope of an exclusive one"; labels and scope bytes at their ends
abbrev known_accepted : List Expr
known_accepted =
    around b
    ∷ around (sequence (parallel b c) (parallel b c))
    ∷ around (loop (parallel b c) b (parallel b c))
    ∷ around (choice b c)
    ∷ around (scope 1 b)
    ∷ loop (parallel b c) b (parallel b c)
    ∷ action 0
    ∷ action 127
    ∷ action 129
    ∷ action 255
    ∷ scope 1 b
    ∷ scope 127 b
    ∷ []

-- a;b has 3 places, 2 transitions and 4 arcs: what is written are 3 bytes, 12 numbers and 4 numbers
abbrev room : ℕ → ℕ → ℕ → Lent
room kinds rows arcs = record { kinds = replicate kinds 9; rows = replicate rows 9; arcs = replicate arcs 9 }

-- 14, "a lent table too short for what is written": each alone; "Compiling .. write nothing on refusal"
abbrev too_short : List Lent
too_short = room 2 12 4 ∷ room 3 11 4 ∷ room 3 12 3 ∷ []

abbrev unwritten : ℕ → ℕ → Lent → Compiled
unwritten n c lent = record { answer = refused n c; tables = lent }

abbrev written : Compiled
written = record {
  answer = good (record { places = 3; transitions = 2; arcs = 4; entries = 1; internals = 1 });
  tables = record { kinds = 1 ∷ 2 ∷ 3 ∷ []; rows = 1 ∷ 0 ∷ 65535 ∷ 0 ∷ 1 ∷ 1 ∷ 2 ∷ 1 ∷ 65535 ∷ 2 ∷ 1 ∷ 1 ∷ []; arcs = 0 ∷ 1 ∷ 1 ∷ 2 ∷ [] };
}

pub record KnownRefusals : Type 0 where
  refusals : map (λ (k : KnownRefusal). accept k.plan) known_refused ≡ map (λ (k : KnownRefusal). refused k.number k.carried) known_refused
  accepted : map (λ E. accept (encode E)) known_accepted ≡ map good known_accepted
  short : map (compile (encode (sequence a b))) too_short ≡ map (unwritten 14 0) too_short
  -- just the room is enough
  enough : compile (encode (sequence a b)) (room 3 12 4) ≡ written
  -- "13, 14": the plan's faults before the tables'
  faulty_and_short : map (compile (encode (sequence a faulty))) too_short ≡ map (unwritten 10 7) too_short

pub known_refusals : KnownRefusals
unfolding accept compile field encode
known_refusals = record { refusals = refl; accepted = refl; short = refl; enough = refl; faulty_and_short = refl }
