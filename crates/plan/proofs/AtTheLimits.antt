-- 01, "Limits: plan 4,096 bytes; depth 32; 256 actions": a plan at each limit is read, and one beyond it is refused with its number and place.
-- The reading computes at full size, so each row is found by computing.
use Prim.Native.Nat.{ℕ, zero, suc}
use mathlib.Core.Path.{◌≡◌, refl}
use mathlib.Core.List.{[], ◌∷◌, ◌++◌}
use lib.ListN.{length}
use Rattle.field.specs.Answer.{good, refused}
use Rattle.algebra.specs.Expr.{Expr, action, sequence, scope, actions}
use Rattle.plan.specs.Reading.{read_plan}
use Rattle.plan.specs.Bytes.{encode, depth}

-- 2 ^ k times an expression, joined as a balanced tree
abbrev pub tree : (Expr → Expr → Expr) → ℕ → Expr → Expr
tree join zero E = E
tree join (suc k) E = join (tree join k E) (tree join k E)

-- an expression below so many others
abbrev below : (Expr → Expr) → ℕ → Expr → Expr
below over zero E = E
below over (suc k) E = over (below over k E)

-- 256 actions
abbrev most_actions : Expr
most_actions = tree sequence 8 (action 1)

pub most_actions_count : actions most_actions ≡ 256
unfolding actions
most_actions_count = refl

pub most_actions_read : read_plan (encode most_actions) ≡ good most_actions
unfolding read_plan encode
most_actions_read = refl

-- the 257th stands behind 3 bytes of header and the 1,789 of the others
pub one_more_action_refused : read_plan (encode (sequence most_actions (action 1))) ≡ refused 7 1792
unfolding read_plan encode
one_more_action_refused = refl

-- depth 32
abbrev deepest : Expr
deepest = below (sequence (action 1)) 31 (action 1)

pub deepest_depth : depth deepest ≡ 32
unfolding depth
deepest_depth = refl

pub deepest_read : read_plan (encode deepest) ≡ good deepest
unfolding read_plan encode
deepest_read = refl

-- the first field at depth 33 stands behind 32 headers of 3 bytes and 31 actions of 4
pub one_deeper_refused : read_plan (encode (sequence (action 1) deepest)) ≡ refused 5 220
unfolding read_plan encode
one_deeper_refused = refl

-- 4,096 bytes: 65 actions and 911 scopes
abbrev longest : Expr
longest = sequence (tree sequence 6 (below (scope 1) 14 (action 1))) (below (scope 1) 15 (action 1))

pub longest_length : length (encode longest) ≡ 4096
unfolding encode
longest_length = refl

pub longest_read : read_plan (encode longest) ≡ good longest
unfolding read_plan encode
longest_read = refl

pub one_more_byte_refused : read_plan (encode longest ++ (0 ∷ [])) ≡ refused 1 0
unfolding read_plan encode
one_more_byte_refused = refl
