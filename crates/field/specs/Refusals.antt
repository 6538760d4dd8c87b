-- 01, "Refusal numbers", in the order of its table; each line quotes "given when".
use Rattle.std.specs.Prelude.{ℕ}

-- "plan over 4,096 bytes"
abbrev pub plan_too_long : ℕ
plan_too_long = 1

-- "operand due, no byte left"
abbrev pub operand_due : ℕ
operand_due = 8

-- "depth 33"
abbrev pub too_deep : ℕ
too_deep = 5

-- "under 3 bytes left, or length beyond the enclosing body"
abbrev pub field_cut : ℕ
field_cut = 2

-- "unknown tag"
abbrev pub unknown_tag : ℕ
unknown_tag = 3

-- "action body not 1 byte, scope body empty"
abbrev pub wrong_body : ℕ
wrong_body = 4

-- "label 128, or scope byte outside 1..127"
abbrev pub wrong_label : ℕ
wrong_label = 6

-- "257th action"
abbrev pub too_many_actions : ℕ
too_many_actions = 7

-- "bytes after the last operand or the plan"
abbrev pub bytes_after : ℕ
bytes_after = 9

-- "loop body not exclusive"
abbrev pub body_not_exclusive : ℕ
body_not_exclusive = 10

-- "too many places in the whole net"
abbrev pub too_many_places : ℕ
too_many_places = 11

-- "too many transitions in the whole net"
abbrev pub too_many_transitions : ℕ
too_many_transitions = 12

-- "too many arcs in the whole net"
abbrev pub too_many_arcs : ℕ
too_many_arcs = 13

-- "a lent table too short for what is written"
abbrev pub table_too_short : ℕ
table_too_short = 14

-- "record too long"
abbrev pub record_too_long : ℕ
record_too_long = 20

-- "record field cut"
abbrev pub record_field_cut : ℕ
record_field_cut = 21

-- "wrong tag"
abbrev pub wrong_tag : ℕ
wrong_tag = 22

-- "wrong body length or empty step"
abbrev pub wrong_length : ℕ
wrong_length = 23

-- "first actions not rising"
abbrev pub not_rising : ℕ
not_rising = 24

-- "tables are no net"
abbrev pub no_net : ℕ
no_net = 30

-- "marking too short, or (firing, enabled list) a byte above 1"
abbrev pub no_marking : ℕ
no_marking = 35

-- "item names no transition"
abbrev pub no_transition : ℕ
no_transition = 31

-- "an input is empty"
abbrev pub input_empty : ℕ
input_empty = 32

-- "input shared with an earlier item"
abbrev pub input_shared : ℕ
input_shared = 33

-- "a place would hold two"
abbrev pub two_tokens : ℕ
two_tokens = 36
