-- The table of lists: where the lists of each node stand in the whole net, eleven numbers to a node. These definitions follow the code.
use Rattle.std.specs.Prelude.{ℕ, ◌+◌, ◌*◌, ◌%◌, ◌≤◌, ◌<◌, ◌≡◌, cond, List, [], ◌∷◌, length, get_or, eqb, leb}
use Rattle.std.proofs.lemmas.List.Edits.{sets}
use Rattle.arcs.specs.inner.Moves.{Kind, Entry, Internal, Exit, Move}
use Rattle.arcs.specs.inner.Spreads.{Factor, Spread, Spreads}
use Rattle.net.specs.declared.Side.{Side}
use Rattle.net.specs.declared.Side.TheVariants.{Inputs, Outputs}
use Rattle.lists.specs.declared.List as declared
use Rattle.lists.specs.declared.Node as declared_node

abbrev pub OneList : Type 0
OneList = declared.List ℕ

abbrev pub one_list : ℕ → ℕ → ℕ → ℕ → ℕ → OneList
one_list base width times step up = record { base = base; width = width; times = times; step = step; up = up }

-- Each number in 16 bits.
abbrev pub cut : OneList → OneList
cut s = one_list (s.base % 65536) (s.width % 65536) (s.times % 65536) (s.step % 65536) (s.up % 65536)

-- Numbers of 16 bits.
pub record Short (s : OneList) : Type 0 where
  pub base : s.base ≤ 65535
  pub width : s.width ≤ 65535
  pub times : s.times ≤ 65535
  pub step : s.step ≤ 65535
  pub up : s.up ≤ 65535

-- Factors are products of at most three numbers of 16 bits.
pub record Modest (left right step off : ℕ) : Type 0 where
  pub left_fits : left ≤ 281462092005375
  pub right_fits : right ≤ 281462092005375
  pub step_fits : step ≤ 281462092005375
  pub off_fits : off ≤ 1000000

abbrev pub list_row : List ℕ → ℕ → OneList
list_row lists at = one_list (get_or lists at 0) (get_or lists (at + 1) 0) (get_or lists (at + 2) 0) (get_or lists (at + 3) 0) (get_or lists (at + 4) 0)

abbrev pub node_row : List ℕ → ℕ → declared_node.Node ℕ
node_row lists k = record { entries = list_row lists (11 * k); exits = list_row lists (11 * k + 5); internal = get_or lists (11 * k + 10) 0 }

pub record ShortNode (n : declared_node.Node ℕ) : Type 0 where
  pub entries : Short n.entries
  pub exits : Short n.exits
  pub internal : n.internal ≤ 65535

abbrev pub list_by : List ℕ → ℕ → Kind → OneList
list_by lists k Entry = list_row lists (11 * k)
list_by lists k Internal = one_list (get_or lists (11 * k + 10) 0) 1 0 0 0
list_by lists k Exit = list_row lists (11 * k + 5)

abbrev pub lower_by : ℕ → ℕ → ℕ → ℕ → ℕ → OneList → OneList
lower_by left right step off k s =
    let base = s.base + off * s.width in
    let width = right * s.width in
    cond (eqb left 1) (one_list base width s.times s.step s.up) (one_list base width left (step * s.width) (cond (eqb s.times 0) 0 k))

abbrev pub lower : Move → ℕ → OneList → OneList
lower m k s = lower_by m.left m.right m.step m.off k s

-- The numbers of a list, and of a row.
abbrev pub list_numbers : OneList → List ℕ → List ℕ
list_numbers s l = s.base % 65536 ∷ (s.width % 65536 ∷ (s.times % 65536 ∷ (s.step % 65536 ∷ (s.up % 65536 ∷ l))))

abbrev pub row_of : OneList → OneList → ℕ → List ℕ
row_of entries exits internal = list_numbers entries (list_numbers exits (internal % 65536 ∷ []))

abbrev pub node_put : List ℕ → ℕ → OneList → OneList → ℕ → List ℕ
node_put lists c entries exits internal =
    cond (leb (11 * c + 11) (length lists)) (sets lists (11 * c) (row_of entries exits internal)) lists

-- Operand c of node k, whose lists stand in a table: its entries and exits by their moves, and its internals so many places behind the node's first.
abbrev pub operand_put : List ℕ → List ℕ → ℕ → ℕ → Move → Move → ℕ → List ℕ
operand_put from lists k c entry exit off =
    node_put lists c (lower entry k (list_by from k entry.kind)) (lower exit k (list_by from k exit.kind)) (get_or from (11 * k + 10) 0 + off)

-- ---- what the table tells
-- Where a side's five numbers stand.
abbrev pub place_of : Side → ℕ → ℕ
place_of Inputs k = 11 * k
place_of Outputs k = 11 * k + 5

-- The copies that a list tells of, and then the list that it goes on with, which is an earlier node's.
unfoldable pub Chain : List ℕ → Side → ℕ → ℕ → ℕ → ℕ → List Factor → Type 0
Chain lists side below times step up [] = times ≡ 0
Chain lists side below times step up (f ∷ fs) =
    (times ≡ f.times) × (step ≡ f.step) × (1 < times) × (up < below)
    × Chain lists side up (get_or lists (place_of side up + 2) 0) (get_or lists (place_of side up + 3) 0) (get_or lists (place_of side up + 4) 0) fs

-- A list is a spread; what it goes on with stands below a node.
pub record Means (lists : List ℕ) (side : Side) (below : ℕ) (s : OneList) (t : Spread) : Type 0 where
  pub base : s.base ≡ t.base
  pub width : s.width ≡ t.width
  pub over : Chain lists side below s.times s.step s.up t.over

-- Node k has the spreads of a part; what its lists go on with stands below a node.
pub record Has (lists : List ℕ) (below k : ℕ) (s : Spreads) : Type 0 where
  pub entries : Means lists Inputs below (list_row lists (place_of Inputs k)) s.entries
  pub internal : get_or lists (11 * k + 10) 0 ≡ s.internal
  pub exits : Means lists Outputs below (list_row lists (place_of Outputs k)) s.exits
  pub short : (side : Side) → Short (list_row lists (place_of side k))
