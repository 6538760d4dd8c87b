-- 01, "Net tables": the rows and the arcs of a plan's transitions, each written once where it belongs: what is asked of the work tables, and what is left.
use Rattle.std.specs.Prelude.{ℕ, zero, suc, ◌+◌, ◌*◌, ◌≤◌, ◌<◌, ◌≡◌, List, [], ◌∷◌, ◌++◌, length, get_or}
use Rattle.std.proofs.lemmas.List.Edits.{sets}
use Rattle.algebra.specs.Expr.{Expr, actions}
use Rattle.algebra.specs.Item.{Item}
use Rattle.algebra.specs.Net.{Transition}
use Rattle.transitions.specs.declared.Transition as declared
use Rattle.algebra.specs.Transitions.{Labelled, transitions}
use Rattle.algebra.specs.Arcs.{net_of}
use Rattle.net.specs.Tables.{item_of, rows_from, arcs_of}
use Rattle.boxes.specs.inner.ArcCounts.{item_arcs}
use Rattle.net.specs.declared.Side.{Side}
use Rattle.sides.specs.inner.Sides.{told_count, told_arcs, Drafted}

-- What stands past the list's end.
abbrev pub no_transition : declared.Transition
no_transition = record { label = 0; first = 0; second = 0 }

-- Transition t of the list, three numbers to each, and so many from t on.
abbrev pub item_at : List ℕ → ℕ → Item
item_at list t = item_of (get_or list (3 * t + 1) 0) (get_or list (3 * t + 2) 0)

abbrev pub listed_at : List ℕ → ℕ → Labelled
listed_at list t = record { label = get_or list (3 * t) 0; item = item_at list t }

unfoldable pub listed_from : List ℕ → ℕ → ℕ → List Labelled
listed_from list t zero = []
listed_from list t (suc n) = listed_at list t ∷ listed_from list (suc t) n

-- And the list has its transitions.
pub record Whole (lists index list : List ℕ) (many : ℕ) (E : Expr) : Type 0 where
  pub draft : Drafted lists index E
  pub few_actions : actions E ≤ 256
  pub listed : listed_from list 0 many ≡ transitions 0 E

-- There is such an expression, and room for its tables.
pub record Asked (lists index list : List ℕ) (many : ℕ) (rows arcs : List ℕ) : Type 0 where
  pub E : Expr
  pub whole : Whole lists index list many E
  pub few : many ≤ 1024
  pub rows_long : 6 * many ≤ length rows
  pub list_long : 3 * many ≤ length list
  pub arcs_long : length (arcs_of (net_of E)) ≤ length arcs
  pub arcs_few : length (arcs_of (net_of E)) ≤ 16384

-- There is room for transition t, whose arcs start at a place.
pub record Room (index list : List ℕ) (t at : ℕ) (rows arcs : List ℕ) : Type 0 where
  pub few : t < 1024
  pub rows_long : 6 * (t + 1) ≤ length rows
  pub list_long : 3 * (t + 1) ≤ length list
  pub arcs_long : at + item_arcs (told_arcs index) (item_at list t) ≤ length arcs
  pub arcs_few : at + item_arcs (told_arcs index) (item_at list t) ≤ 16384
  pub side_few : (side : Side) → item_arcs (told_count index side) (item_at list t) ≤ 2048

-- A transition is put: its row as row t, its arcs from a place on.
pub record Put (t at : ℕ) (T : Transition) (rows rows' arcs arcs' : List ℕ) : Type 0 where
  pub in_rows : rows' ≡ sets rows (6 * t) (rows_from at (T ∷ []))
  pub in_arcs : arcs' ≡ sets arcs at (T.inputs ++ T.outputs)
