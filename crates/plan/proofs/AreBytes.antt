-- The bytes of an expression within the limits are bytes: none is above 255.
-- True because a label, a name and a tag are bytes, and a body that is short enough has a length of two bytes.
use Prim.Native.Nat.{ℕ, zero, suc, ◌+◌, ◌≤◌, ◌<◌}
use mathlib.Core.Path.{◌≡◌}
use mathlib.Core.List.{[], ◌∷◌, ◌++◌}
use mathlib.Core.Bool.{Bool, true, false, ◌&&◌, ◌||◌}
use native.Mathlib.Omega.{arith}
use lib.ListN.{length, get_or, length-append}
use lib.Dec.{T, leb, leb→le}
use Rattle.field.specs.Field.{field}
use Rattle.field.proofs.AreBytes.{AreBytes, none_are_bytes, cons_are_bytes, both_are_bytes, field_are_bytes}
use Rattle.field.proofs.Fields.{field_length}
use Rattle.field.proofs.Tests.{and_parts}
use Rattle.algebra.specs.Expr.{Expr, action}
use Rattle.plan.specs.Reading.{is_label, Operands, Tag, action_tag, sequence_tag, choice_tag, parallel_tag, loop_tag, scope_tag}
use Rattle.plan.specs.Bytes.{encode, named, within_limits}
use Rattle.plan.proofs.Operators.{Operator, sequence_of, choice_of, parallel_of, loop_of, scope_of, tag_number, tag, number, arity, own, own_named, built, all_encode, all_named, built_encode, built_named, Each, by_operators}
use Rattle.plan.proofs.Within.{limits_within}

tag_is_byte : (g : Tag) → tag_number g < 256
tag_is_byte action_tag = omega arith
tag_is_byte sequence_tag = omega arith
tag_is_byte choice_tag = omega arith
tag_is_byte parallel_tag = omega arith
tag_is_byte loop_tag = omega arith
tag_is_byte scope_tag = omega arith

label_is_byte : (l : ℕ) → T (is_label l) → l < 256
label_is_byte l = go (leb l 127) (λ t. leb→le l 127 t)
  where
    go : (b : Bool) → (T b → l ≤ 127) → T (b || (leb 129 l && leb l 255)) → l < 256
    go true h t = omega (arith, h tt)
    go false h t = omega (arith, leb→le l 255 (and_parts (leb 129 l) (leb l 255) t).1)

own_are_bytes : (o : Operator) → T (own_named o) → AreBytes (own o)
own_are_bytes sequence_of t = none_are_bytes
own_are_bytes choice_of t = none_are_bytes
own_are_bytes parallel_of t = none_are_bytes
own_are_bytes loop_of t = none_are_bytes
own_are_bytes (scope_of a) t = cons_are_bytes a [] (omega (arith, leb→le a 127 (and_parts (leb 1 a) (leb a 127) t).1)) none_are_bytes

-- an expression that is short enough and well labelled
abbrev EncodeAreBytes : Expr → Type 0
EncodeAreBytes E = length (encode E) < 65536 → T (named E) → AreBytes (encode E)

all_are_bytes : (k : ℕ) (es : Operands k) → Each EncodeAreBytes k es → length (all_encode k es) < 65536 → T (all_named k es) → AreBytes (all_encode k es)
all_are_bytes zero es h l t = none_are_bytes
all_are_bytes (suc k) es h l t =
    let ts = and_parts (named es.0) (all_named k es.1) t in
    let n : length (encode es.0 ++ all_encode k es.1) ≡ length (encode es.0) + length (all_encode k es.1) = length-append (encode es.0) (all_encode k es.1) in
    both_are_bytes (encode es.0) (all_encode k es.1) (h.0 (omega arith) ts.0) (all_are_bytes k es.1 h.1 (omega arith) ts.1)

action_are_bytes : (l : ℕ) → EncodeAreBytes (action l)
unfolding encode named
action_are_bytes l h t = field_are_bytes (tag_number action_tag) (l ∷ []) (tag_is_byte action_tag) (omega arith) (cons_are_bytes l [] (label_is_byte l t) none_are_bytes)

built_are_bytes : (o : Operator) (es : Operands (arity o)) → Each EncodeAreBytes (arity o) es → EncodeAreBytes (built o es)
built_are_bytes o es h l t =
    let body = own o ++ all_encode (arity o) es in
    let ts = and_parts (own_named o) (all_named (arity o) es) (rw (built_named o es) at t) in
    let m : length (field (number o) body) < 65536 = rw (built_encode o es) at l in
    let n : length body < 65536 = omega (arith, field_length (number o) body) in
    rw (built_encode o es)
    (field_are_bytes (tag_number (tag o)) body (tag_is_byte (tag o)) n
    (both_are_bytes (own o) (all_encode (arity o) es) (own_are_bytes o ts.0)
    (all_are_bytes (arity o) es h (omega (arith, length-append (own o) (all_encode (arity o) es))) ts.1)))

pub encode_are_bytes : (E : Expr) → T (within_limits E) → (i : ℕ) → i < length (encode E) → get_or (encode E) i 0 < 256
encode_are_bytes E t =
    let w = limits_within E t in
    by_operators EncodeAreBytes action_are_bytes built_are_bytes E (omega (arith, w.short)) w.labelled
