-- The reader of operands at a plan, one operand and no node yet is the reader of the plan: the same refusal, or the sizes and the node table.
-- True because a plan is read as a body of one operand, and its rows are stored from the front.
use Prim.Native.Nat.{ℕ, ◌+◌, ◌*◌, ◌≤◌, ◌<◌}
use mathlib.Core.Path.{◌≡◌, refl, ap, ap₂, ◌∙◌}
use mathlib.Core.List.{List, [], ◌++◌, append-nil}
use native.Mathlib.Omega.{arith}
use lib.ListN.{length, drop}
use lib.Seq.{sets, sets-eq}
use borrow.Author.Tests.{le-leb, lt-leb}
use Rattle.field.specs.Limits.{plan_limit, depth_limit}
use Rattle.field.specs.Refusals.{plan_too_long}
use Rattle.field.specs.Answer.{Answer, good, refused, ◌>>=◌}
use Rattle.algebra.specs.Expr.{Expr, actions}
use Rattle.plan.specs.Reading.{Parts, read_operands, read_field, read_plan}
use Rattle.plan.specs.inner.Nodes.{Row, sizes_of, numbers, nodes, node_count, node_table}
use Rattle.std.specs.Prelude.{Result, Ok, Err}
use Rattle.field.specs.Says.{says}
use Rattle.field.specs.declared.Refusal.{Refusal}
use Rattle.plan.specs.inner.Fields.{OperandsAre, OperandsFit, Refuses, sizes}
use Rattle.plan.specs.inner.Says.{sizes_told, read_sizes, RowsAre}
use Rattle.plan.specs.declared.Sizes.{Sizes}
use Rattle.plan.proofs.Operators.{all_actions}
use Rattle.plan.proofs.Exact.{operands_count}
use Rattle.plan.proofs.Rows.{numbers_length, nodes_length}
use Rattle.plan.proofs.Readers.{clash}

-- the answer and the rows that the contract of the reader allows
abbrev Allowed : Answer Expr → Result Sizes Refusal → List ℕ → List ℕ → Type 0
Allowed e r t t' = (says sizes_told r ≡ (e >>= λ E. good (sizes_of E))) × RowsAre e t t'

abbrev the_one : Answer (Parts 1) → Answer Expr
the_one q = q >>= λ (p : Parts 1). good p.operands.0

plan_operands : (s : List ℕ) → length s ≤ plan_limit → read_plan s ≡ the_one (read_operands (read_field depth_limit) 1 s 0 0)
unfolding read_plan
plan_operands s h = rw (le-leb (length s) plan_limit h)

-- the rows stored from the front
front_rows : (E : Expr) (t : List ℕ) → 6 * node_count E ≤ length t → sets t 0 (numbers (nodes 0 0 0 E ++ [])) ≡ node_table E ++ drop (6 * node_count E) t
unfolding node_table
front_rows E t h =
    let n : 0 + length (numbers (nodes 0 0 0 E)) ≡ 6 * node_count E = omega (arith, numbers_length (nodes 0 0 0 E), nodes_length E 0 0 0) in
    ap (λ (rs : List Row). sets t 0 (numbers rs)) (append-nil (nodes 0 0 0 E)) ∙ sets-eq (numbers (nodes 0 0 0 E)) t 0 (omega arith)
    ∙ ap (λ (k : ℕ). numbers (nodes 0 0 0 E) ++ drop k t) n

refused_same : (r : Result Sizes Refusal) (k c : ℕ) → Refuses r k c → says sizes_told r ≡ refused k c
refused_same (Ok read) k c e = absurd e
refused_same (Err q) k c e = ap₂ (λ (n m : ℕ). refused n m) e.0 e.1

-- A node takes three bytes at least and six numbers: the table has room for as many as the bytes may have.
abbrev pub Roomy : ℕ → List ℕ → Type 0
Roomy l t = (n : ℕ) → 3 * n ≤ l → 6 * n ≤ length t

one_operand : (q : Answer (Parts 1)) (r : Result Sizes Refusal) (l : ℕ) (t t' : List ℕ) → ((p : Parts 1) → q ≡ good p → p.so_far ≡ 0 + all_actions 1 p.operands)
    → Roomy l t → OperandsFit r l 0 → OperandsAre 1 q r 0 0 0 t t' → Allowed (the_one q) r t t'
unfolding sizes_of
one_operand (refused k c) r l t t' h m f i = (refused_same r k c i, tt)
one_operand (good p) (Err e) l t t' h m f i = let z = i.0 in clash (cc)
one_operand (good p) (Ok read) l t t' h m f i =
    let E = p.operands.0 in
    let z = i.0 in
    let er : read ≡ sizes (0 + (node_count E + 0)) p.so_far = cc in
    let nodes_are : read.nodes ≡ node_count E = ap (λ (q : Sizes). q.nodes) er ∙ omega arith in
    let actions_are : read.actions ≡ actions E = ap (λ (q : Sizes). q.actions) er ∙ omega (arith, h p refl) in
    (ap₂ (λ (m a : ℕ). good (record { nodes = m; actions = a })) nodes_are actions_are, i.1 ∙ front_rows E t (m (node_count E) (omega arith)))

-- the ways out

pub plan_over_limit : (s t t' : List ℕ) (r : Result Sizes Refusal) → Refuses r plan_too_long 0 → plan_limit < length s → (says sizes_told r ≡ read_sizes s) × RowsAre (read_plan s) t t'
unfolding read_plan
plan_over_limit s t t' r e h = rw (lt-leb (length s) plan_limit h) (refused_same r plan_too_long 0 e, tt)

pub plan_read : (s t t' : List ℕ) (r : Result Sizes Refusal) → length s ≤ plan_limit → Roomy (length s) t → OperandsFit r (length s) 0
    → OperandsAre 1 (read_operands (read_field depth_limit) 1 s 0 0) r 0 0 0 t t' → (says sizes_told r ≡ read_sizes s) × RowsAre (read_plan s) t t'
plan_read s t t' r h m f i =
    rw (plan_operands s h)
    (one_operand (read_operands (read_field depth_limit) 1 s 0 0) r (length s) t t' (λ p g. operands_count depth_limit 1 s 0 0 p g) m f i)
