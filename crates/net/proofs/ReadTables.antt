-- The tables of a net, lent with whatever behind them, read back as the net's transitions.
-- Transition by transition: six numbers further in the rows, and its two lists further in the arcs, lies the rest of the net.
use Prim.Native.Nat.{ℕ, suc, ◌+◌, ◌*◌, ◌≤◌}
use mathlib.Core.Path.{◌≡◌, refl, sym, ap, ap₂, ◌∙◌}
use mathlib.Core.Bool.{Bool, true, false, cond, not}
use mathlib.Core.List.{List, [], ◌∷◌, ◌++◌, append_assoc, append-nil}
use native.Mathlib.Omega.{arith}
use lib.ListN.{length, get_or, take, drop, length-append}
use lib.Seq.{get_or-drop, drop-drop, take-append_seam, drop-append_seam}
use lib.Dec.{T, eqb, leb, eqb→eq, leb→le}
use Rattle.field.proofs.Tests.{and_parts}
use Rattle.algebra.specs.Item.{Item, one, two, first}
use Rattle.algebra.specs.Net.{Transition, Net, place_count}
use Rattle.net.specs.Tables.{Tables, kinds_of, rows_from, rows_of, arcs_from, arcs_of, tables_of, number, none, second, item_of, transition_at, transitions_from, transitions_in}
use Rattle.field.specs.Lists.{all}
use Rattle.net.specs.Check.{actions_fit, codes_fit}

-- From row t on the rows are those of these transitions, whose arcs begin at a start.
abbrev pub RowsFrom : Tables → ℕ → ℕ → List Transition → List ℕ → Type 0
RowsFrom T t start ts behind = drop (6 * t) T.rows ≡ rows_from start ts ++ behind

-- From a start on the arcs are those of these transitions.
abbrev pub ArcsFrom : Tables → ℕ → List Transition → List ℕ → Type 0
ArcsFrom T start ts behind = drop start T.arcs ≡ arcs_from ts ++ behind

-- Where the arcs of the next transition start.
abbrev pub next_start : ℕ → Transition → ℕ
next_start start u = start + (length u.inputs + length u.outputs)

pub number_in : (T : Tables) (t : ℕ) (row : List ℕ) → drop (6 * t) T.rows ≡ row → (k : ℕ) → number T t k ≡ get_or row k 0
number_in T t row e k = sym (get_or-drop (6 * t) T.rows k 0) ∙ ap (λ (l : List ℕ). get_or l k 0) e

-- What lies past a list that begins at s.
drop_past : (l front rest : List ℕ) (s : ℕ) → drop s l ≡ front ++ rest → drop (s + length front) l ≡ rest
drop_past l front rest s e = sym (drop-drop (length front) s l) ∙ ap (drop (length front)) e ∙ drop-append_seam front rest

-- A list that begins at s.
take_there : (l front rest : List ℕ) (s : ℕ) → drop s l ≡ front ++ rest → take (length front) (drop s l) ≡ front
take_there l front rest s e = ap (take (length front)) e ∙ take-append_seam front rest

-- An item is read back from its first and second number, since no action is 65,535.
item_back : (t : Item) → T (actions_fit t) → item_of (first t) (second t) ≡ t
item_back (one i) h = refl
item_back (two i j) h = go (eqb j none) (eqb→eq j none) (leb→le j 255 (and_parts (leb i 255) (leb j 255) h).1)
  where
    go : (b : Bool) → (T b → j ≡ none) → j ≤ 255 → cond b (one i) (two i j) ≡ two i j
    go true f l = absurd (omega (arith, f tt))
    go false f l = refl

module _ (T : Tables) (t start : ℕ) (u : Transition) (ts : List Transition) (rows arcs : List ℕ) where
  pub rows_next : RowsFrom T t start (u ∷ ts) rows → RowsFrom T (suc t) (next_start start u) ts rows
  unfolding rows_from
  rows_next r =
      let six : 6 * suc t ≡ 6 * t + 6 = omega arith in
      ap (λ (n : ℕ). drop n T.rows) six ∙ sym (drop-drop 6 (6 * t) T.rows) ∙ ap (drop 6) r

  arcs_here : ArcsFrom T start (u ∷ ts) arcs → drop start T.arcs ≡ u.inputs ++ (u.outputs ++ (arcs_from ts ++ arcs))
  unfolding arcs_from
  arcs_here a = a ∙ simp append_assoc

  arcs_past : ArcsFrom T start (u ∷ ts) arcs → drop (start + length u.inputs) T.arcs ≡ u.outputs ++ (arcs_from ts ++ arcs)
  arcs_past a = drop_past T.arcs u.inputs (u.outputs ++ (arcs_from ts ++ arcs)) start (arcs_here a)

  arcs_next : ArcsFrom T start (u ∷ ts) arcs → ArcsFrom T (next_start start u) ts arcs
  arcs_next a =
      let both : next_start start u ≡ start + length u.inputs + length u.outputs = omega arith in
      ap (λ (n : ℕ). drop n T.arcs) both ∙ drop_past T.arcs u.outputs (arcs_from ts ++ arcs) (start + length u.inputs) (arcs_past a)

  transition_here : lib.Dec.T (actions_fit u.item) → RowsFrom T t start (u ∷ ts) rows → ArcsFrom T start (u ∷ ts) arcs → transition_at T t ≡ u
  unfolding transition_at rows_from
  transition_here h r a = λ i. record { label = at 0 i; item = its_item i; inputs = ins i; outputs = outs i }
    where
      at : (k : ℕ) → number T t k ≡ get_or (rows_from start (u ∷ ts) ++ rows) k 0
      at = number_in T t (rows_from start (u ∷ ts) ++ rows) r

      its_item : item_of (number T t 1) (number T t 2) ≡ u.item
      its_item = ap₂ item_of (at 1) (at 2) ∙ item_back u.item h

      part : ℕ → ℕ → List ℕ
      part n s = take n (drop s T.arcs)

      ins : part (number T t 4) (number T t 3) ≡ u.inputs
      ins = ap₂ part (at 4) (at 3) ∙ take_there T.arcs u.inputs (u.outputs ++ (arcs_from ts ++ arcs)) start (arcs_here a)

      outs : part (number T t 5) (number T t 3 + number T t 4) ≡ u.outputs
      outs =
          ap₂ part (at 5) (ap₂ ◌+◌ (at 3) (at 4))
          ∙ take_there T.arcs u.outputs (arcs_from ts ++ arcs) (start + length u.inputs) (arcs_past a)

transitions_back : (T : Tables) (t start : ℕ) (ts : List Transition) (rows arcs : List ℕ) → lib.Dec.T (all codes_fit ts) → RowsFrom T t start ts rows → ArcsFrom T start ts arcs
    → transitions_from T t (length ts) ≡ ts
unfolding transitions_from all codes_fit
transitions_back T t start [] rows arcs h r a = refl
transitions_back T t start (u ∷ ts) rows arcs h r a =
    let both = and_parts (codes_fit u) (all codes_fit ts) h in
    let fit = (and_parts (leb u.label 255) (actions_fit u.item) (and_parts (not (eqb u.label 128)) _ both.0).1).1 in
    ap₂ {C = List Transition} ◌∷◌ (transition_here T t start u ts rows arcs fit r a)
    (transitions_back T (suc t) (next_start start u) ts rows arcs both.1 (rows_next T t start u ts rows arcs r) (arcs_next T t start u ts rows arcs a))

-- The tables of a net as they are lent, each longer than the net's part.
abbrev pub lent_tables : Net → List ℕ → List ℕ → List ℕ → Tables
lent_tables N kinds rows arcs = record {
  kinds = kinds_of N ++ kinds;
  rows = rows_of N ++ rows;
  arcs = arcs_of N ++ arcs;
  places = place_count N;
  transitions = length N.transitions;
  arc_count = length (arcs_of N);
}

-- A lent table reaches the end of what stands at its front.
pub lent_reaches : (n : ℕ) (l behind : List ℕ) → length l ≡ n → n ≤ length (l ++ behind)
lent_reaches n l behind e = rw length-append (omega arith)

pub lent_read_back : (N : Net) → T (all codes_fit N.transitions) → (kinds rows arcs : List ℕ) → transitions_in (lent_tables N kinds rows arcs) ≡ N.transitions
unfolding transitions_in rows_of arcs_of
lent_read_back N h kinds rows arcs = transitions_back (lent_tables N kinds rows arcs) 0 0 N.transitions rows arcs h refl refl

-- With nothing behind the net's part they are the net's own tables.
pub lent_nothing : (N : Net) → lent_tables N [] [] [] ≡ tables_of N
unfolding tables_of
lent_nothing N = λ i. record {
  kinds = append-nil (kinds_of N) i;
  rows = append-nil (rows_of N) i;
  arcs = append-nil (arcs_of N) i;
  places = place_count N;
  transitions = length N.transitions;
  arc_count = length (arcs_of N);
}

pub tables_read_back : (N : Net) → T (all codes_fit N.transitions) → transitions_in (tables_of N) ≡ N.transitions
tables_read_back N h = ap transitions_in (sym (lent_nothing N)) ∙ lent_read_back N h [] [] []
