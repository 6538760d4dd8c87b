-- Where the lists of a part stand in the whole net. Lists are joined and multiplied in a fixed order, so the places of the whole that have position p of a part's
-- list as a component are worked out from p and the lengths of the other factors: no list of the whole is made to find them.
use Rattle.std.specs.Prelude.{ℕ, ◌+◌, ◌*◌, cond, List, [], ◌∷◌, eqb}
use Rattle.arcs.specs.inner.Moves.{Kind, Entry, Internal, Exit, Move}
use Rattle.arcs.specs.inner.Positions.{stretched, repeated}

-- A factor that stands before the list in some product: so many copies, each a step behind the one before.
pub record Factor : Type 0 where
  pub times : ℕ
  pub step : ℕ

-- Position p is `width` numbers from base + p * width on, copied for each factor, the innermost first.
pub record Spread : Type 0 where
  pub base : ℕ
  pub width : ℕ
  pub over : List Factor

unfoldable pub copied : List Factor → List ℕ → List ℕ
unfolding repeated
copied [] ps = ps
copied (f ∷ fs) ps = copied fs (repeated f.times f.step ps)

-- The numbers in the whole of some positions.
unfoldable pub placed : Spread → List ℕ → List ℕ
unfolding copied stretched
placed s ps = copied s.over (stretched s.width s.base ps)

-- A factor of one place copies nothing.
abbrev pub more : ℕ → ℕ → List Factor → List Factor
more left step fs = cond (eqb left 1) fs (record { times = left; step = step } ∷ fs)

-- The number of a product place from the positions and the lengths: position p of a factor, behind a of the places before it and before b of those behind, is (a * n + p) * right + b.
-- So an operand's list, which a move puts into a list of the node, stands where that list does: its factors behind make it wider, its factors before copy it.
abbrev pub lowered : Move → Spread → Spread
lowered m s = record { base = s.base + m.off * s.width; width = m.right * s.width; over = more m.left (m.step * s.width) s.over }

-- The three lists of a part; its internal places stand one after another.
pub record Spreads : Type 0 where
  pub entries : Spread
  pub internal : ℕ
  pub exits : Spread

abbrev pub plain : ℕ → Spread
plain base = record { base = base; width = 1; over = [] }

abbrev pub list_of : Spreads → Kind → Spread
list_of s Entry = s.entries
list_of s Internal = plain s.internal
list_of s Exit = s.exits

-- An operand's lists, from the node's and from where each stands in it.
abbrev pub under : (Kind → Move) → Spreads → Spreads
under m s = record {
  entries = lowered (m Entry) (list_of s (m Entry).kind);
  internal = s.internal + (m Internal).off;
  exits = lowered (m Exit) (list_of s (m Exit).kind);
}
