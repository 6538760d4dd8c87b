-- What the inner functions of the reader answer, in the terms of the reading of one field and of operands: these contracts follow the code.
use Rattle.std.specs.Prelude.{ℕ, zero, suc, ◌+◌, ◌*◌, ◌-◌, ◌≤◌, ◌<◌, ◌≡◌, List, [], ◌∷◌, ◌++◌, length, take, drop, leb, Result, Ok, Err}
use Rattle.std.proofs.lemmas.List.Edits.{sets}
use Rattle.field.specs.Limits.{plan_limit, action_limit}
use Rattle.field.specs.Refusals.{field_cut}
use Rattle.field.specs.Answer.{Answer, good, refused, ◌>>=◌, ◌>>◌, check}
use Rattle.field.specs.Field.{tag_of, length_of, body_of}
use Rattle.field.specs.Says.{number_of}
use Rattle.field.specs.declared.Fault.{Fault}
use Rattle.field.specs.declared.Refusal.{Refusal}
use Rattle.algebra.specs.Expr.{Expr, action, actions}
use Rattle.plan.specs.Loops.{bytes}
use Rattle.plan.specs.Reading.{tag_spelt, Part, Parts, Operands, Reader, read_operands, read_body}
use Rattle.plan.specs.inner.Nodes.{Row, row, nodes, numbers, node_count}
use Rattle.plan.specs.inner.Numbers.{tag_number}
use Rattle.plan.specs.declared.Head.{Head}
use Rattle.plan.specs.declared.Head.TheVariants.{Action, Operator}
use Rattle.plan.specs.declared.FieldRead.{FieldRead}
use Rattle.plan.specs.declared.Sizes.{Sizes}

-- The rows of operands one after another, numbered from a node, an action and an offset; and how many they are.
abbrev pub all_nodes : (k : ℕ) → Operands k → ℕ
all_nodes zero es = 0
all_nodes (suc k) es = node_count es.0 + all_nodes k es.1

abbrev pub all_rows : (k : ℕ) → ℕ → ℕ → ℕ → Operands k → List Row
all_rows zero node i at es = []
all_rows (suc k) node i at es = nodes node i at es.0 ++ all_rows k (node + node_count es.0) (i + actions es.0) (at + bytes es.0) es.1

-- One field where a level is left, by a reader of the fields inside it.
unfoldable pub field_with : Reader → Reader
unfolding read_body tag_spelt
field_with read s at n = do
  check (leb 3 (length s)) field_cut at
  t ← tag_spelt (tag_of s) at
  check (leb (length_of s) (length s - 3)) field_cut at
  read_body read t (body_of s) at (3 + length_of s) n

-- A whole field stands at the front of the bytes, with a body of that length.
pub record Inside (s : List ℕ) (len : ℕ) : Type 0 where
  pub fits : 3 + len ≤ length s
  pub told : len ≡ length_of s

-- What a head leaves of a body of so many bytes, and of the actions.
abbrev pub HeadFits : Result Head Fault → ℕ → ℕ → Type 0
HeadFits (Err fault) l n = Unit {0}
HeadFits (Ok (Action label)) l n = (4 ≤ l) × (n < action_limit)
HeadFits (Ok (Operator tag byte members start len)) l n = (3 ≤ start) × (start + len ≤ l) × (members ≤ 3)

-- An operator that is read by way of so many operands, and that has its row before theirs.
pub record IsOperator (tag byte members start len : ℕ) (s : List ℕ) (at n : ℕ) (field : Reader → Answer Part) : Type 0 where
  pub built : Operands members → Expr
  pub reads : (read : Reader) → field read ≡ (read_operands read members (take len (drop start s)) (at + start) n >>= λ (p : Parts members). good (record { expr = built p.operands; bytes = start + len; so_far = p.so_far }))
  pub count : (es : Operands members) → node_count (built es) ≡ 1 + all_nodes members es
  pub rows : (node i off : ℕ) (es : Operands members) → nodes node i off (built es) ≡ row tag byte members (node + (1 + all_nodes members es)) i off ∷ all_rows members (node + 1) i (off + start) es

-- What a head says of the field at the front of the bytes, whoever reads the fields inside it.
abbrev pub HeadIs : Result Head Fault → List ℕ → ℕ → ℕ → (Reader → Answer Part) → Type 0
HeadIs (Err fault) s at n field = (read : Reader) → field read ≡ refused (number_of fault) at
HeadIs (Ok (Action label)) s at n field = (read : Reader) → field read ≡ good (record { expr = action label; bytes = 4; so_far = n + 1 })
HeadIs (Ok (Operator tag byte members start len)) s at n field = IsOperator (tag_number tag) byte members start len s at n field

-- What the readers of a field and of operands ask: the bytes left lie in the plan, there are rows for the nodes in them, as a node takes three
-- bytes at least, and the actions are counted.
pub record Room (l room at node n : ℕ) : Type 0 where
  pub in_plan : at + l ≤ plan_limit
  pub few_nodes : 3 * node + l ≤ plan_limit
  pub in_rows : 3 * node + l ≤ 3 * room + 2
  pub counted : n ≤ action_limit

-- A field takes three bytes at least, and three for each of its nodes.
abbrev pub FieldFits : Result FieldRead Refusal → ℕ → ℕ → Type 0
FieldFits (Err refusal) l node = Unit {0}
FieldFits (Ok r) l node = (3 ≤ r.used) × (r.used ≤ l) × (3 * r.so_far.nodes ≤ 3 * node + r.used) × (r.so_far.actions ≤ action_limit)

abbrev pub OperandsFit : Result Sizes Refusal → ℕ → ℕ → Type 0
OperandsFit (Err refusal) l node = Unit {0}
OperandsFit (Ok r) l node = (3 * r.nodes ≤ 3 * node + l) × (r.actions ≤ action_limit)

-- The nodes and actions so far.
abbrev pub sizes : ℕ → ℕ → Sizes
sizes nodes actions = record { nodes = nodes; actions = actions }

abbrev pub field_read : ℕ → ℕ → ℕ → FieldRead
field_read used nodes actions = record { used = used; so_far = sizes nodes actions }

-- An answer is a refusal, with that number and what it carries.
abbrev pub Refuses : {A : Type 0} → Result A Refusal → ℕ → ℕ → Type 0
Refuses (Ok x) number carried = ⊥
Refuses (Err e) number carried = (number_of e.fault ≡ number) × (e.carried ≡ carried)

-- A field's answer, and the rows at entry and at exit: those of its nodes are written, from `node` on.
abbrev pub FieldIs : Answer Part → Result FieldRead Refusal → ℕ → ℕ → ℕ → List ℕ → List ℕ → Type 0
FieldIs (refused number carried) r node i at entry exit = Refuses r number carried
FieldIs (good p) r node i at entry exit = (r ≡ Ok (field_read p.bytes (node + node_count p.expr) p.so_far)) × (exit ≡ sets entry (6 * node) (numbers (nodes node i at p.expr)))

abbrev pub OperandsAre : (k : ℕ) → Answer (Parts k) → Result Sizes Refusal → ℕ → ℕ → ℕ → List ℕ → List ℕ → Type 0
OperandsAre k (refused number carried) r node i at entry exit = Refuses r number carried
OperandsAre k (good p) r node i at entry exit = (r ≡ Ok (sizes (node + all_nodes k p.operands) p.so_far)) × (exit ≡ sets entry (6 * node) (numbers (all_rows k node i at p.operands)))
