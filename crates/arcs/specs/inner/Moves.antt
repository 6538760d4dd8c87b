-- 01, "Box construction": where the places of an operand's lists stand in the lists of the whole, for each operator, operand and list.
use Rattle.std.specs.Prelude.{ℕ, ◌+◌, ◌*◌, ◌≡◌, Bool, false, List, map, length, replicate}
use Rattle.algebra.specs.Expr.{Expr}
use Rattle.algebra.specs.Places.{Place, entries, internals, exits}
use Rattle.algebra.specs.Arcs.{consumes, produces}
use Rattle.arcs.specs.inner.Positions.{ones, stretched, repeated}
use Rattle.net.specs.declared.Side.{Side}
use Rattle.net.specs.declared.Side.TheVariants.{Inputs, Outputs}
use Rattle.boxes.specs.declared.counts.Counts.{Counts}

-- The three lists of a box.
pub data Kind : Type 0 where
  Entry : Kind
  Internal : Kind
  Exit : Kind

pub data Operand : Type 0 where
  First : Operand
  Second : Operand
  Third : Operand

-- Position p becomes all a * step + p * right + b + off with a below left and b below right, in the list `kind`. Left and right are the lengths of the factors before and
-- behind the list in a product; both are 1 where it is a part of a joined list, or the list itself.
pub record Move : Type 0 where
  pub kind : Kind
  pub left : ℕ
  pub right : ℕ
  pub step : ℕ
  pub off : ℕ

-- What makes a place an input place of an action, or an output place.
abbrev pub passes : Side → ℕ → Place → Bool
passes Inputs = consumes
passes Outputs = produces

-- An action's own box: its input place is its entry, its output place its exit.
abbrev pub own : Side → Kind
own Inputs = Entry
own Outputs = Exit

-- Which places of the three lists of an expression pass.
pub record Box : Type 0 where
  pub entries : List Bool
  pub internals : List Bool
  pub exits : List Bool

abbrev pub box : Side → ℕ → ℕ → Expr → Box
box side i n E = record {
  entries = map (passes side i) (entries n E);
  internals = map (passes side i) (internals n E);
  exits = map (passes side i) (exits n E);
}

-- No place of a list passes.
abbrev pub Off : List Bool → Type 0
Off bs = bs ≡ replicate (length bs) false

-- The places that pass stand in one of the three lists, at these positions.
abbrev pub Lies : Kind → Box → List ℕ → Type 0
Lies Entry b ps = (ones 0 b.entries ≡ ps) × Off b.internals × Off b.exits
Lies Internal b ps = Off b.entries × (ones 0 b.internals ≡ ps) × Off b.exits
Lies Exit b ps = Off b.entries × Off b.internals × (ones 0 b.exits ≡ ps)

-- What a move does to positions.
unfoldable pub moved : Move → List ℕ → List ℕ
unfolding stretched repeated
moved m ps = repeated m.left m.step (stretched m.right m.off ps)

abbrev pub move : Kind → ℕ → ℕ → ℕ → ℕ → Move
move kind left right step off = record { kind = kind; left = left; right = right; step = step; off = off }

abbrev pub shift : Kind → ℕ → Move
shift kind off = move kind 1 1 0 off

-- "E;F: entries of E; internals of E, of F, then exits(E)×entries(F); exits of F."
abbrev pub sequence_move : Operand → Kind → Counts → Counts → Move
sequence_move First Entry e f = shift Entry 0
sequence_move First Internal e f = shift Internal 0
sequence_move First Exit e f = move Internal 1 f.entries 0 (e.internals + f.internals)
sequence_move Second Entry e f = move Internal e.exits 1 f.entries (e.internals + f.internals)
sequence_move Second Internal e f = shift Internal e.internals
sequence_move Second Exit e f = shift Exit 0
sequence_move Third kind e f = shift kind 0

-- "E□F: entries(E)×entries(F); internals joined; exits(E)×exits(F)."
abbrev pub choice_move : Operand → Kind → Counts → Counts → Move
choice_move First Entry e f = move Entry 1 f.entries 0 0
choice_move First Internal e f = shift Internal 0
choice_move First Exit e f = move Exit 1 f.exits 0 0
choice_move Second Entry e f = move Entry e.entries 1 f.entries 0
choice_move Second Internal e f = shift Internal e.internals
choice_move Second Exit e f = move Exit e.exits 1 f.exits 0
choice_move Third kind e f = shift kind 0

-- "E‖F: each list joined, E's first."
abbrev pub parallel_move : Operand → Kind → Counts → Move
parallel_move First kind e = shift kind 0
parallel_move Second Entry e = shift Entry e.entries
parallel_move Second Internal e = shift Internal e.internals
parallel_move Second Exit e = shift Exit e.exits
parallel_move Third kind e = shift kind 0

-- "Loop: entries of E; internals of E, F, G, then exits(E)×exits(F)×entries(F)×entries(G); exits of G."
abbrev pub loop_move : Operand → Kind → Counts → Counts → Counts → Move
loop_move First Entry e f g = shift Entry 0
loop_move First Internal e f g = shift Internal 0
loop_move First Exit e f g = move Internal 1 (f.exits * (f.entries * g.entries)) 0 (e.internals + f.internals + g.internals)
loop_move Second Entry e f g = move Internal (e.exits * f.exits) g.entries (f.entries * g.entries) (e.internals + f.internals + g.internals)
loop_move Second Internal e f g = shift Internal e.internals
loop_move Second Exit e f g =
    move Internal e.exits (f.entries * g.entries) (f.exits * (f.entries * g.entries)) (e.internals + f.internals + g.internals)
loop_move Third Entry e f g = move Internal (e.exits * f.exits * f.entries) 1 g.entries (e.internals + f.internals + g.internals)
loop_move Third Internal e f g = shift Internal (e.internals + f.internals)
loop_move Third Exit e f g = shift Exit 0
