-- The numbers of a part's spreads are within the number of places: base, width, copies and steps, for every part from the root down.
-- True because a list with its factors before and behind lies inside the list of the part that it is put into, and no factor is empty.
use Prim.Native.Nat.{ℕ, ◌+◌, ◌*◌, ◌≤◌, ◌<◌}
use native.Mathlib.Omega.{arith}
use native.Mathlib.Nat.{mul-le-mul, mul_comm, mul_assoc, add-mul, mul-one, one-mul, le-mul_of_pos_right}
use mathlib.Core.Path.{◌≡◌, sym, ap}
use Rattle.algebra.specs.Expr.{Expr, sequence, choice, parallel, loop, scope}
use Rattle.algebra.proofs.Lengths.{entries_of, exits_of, internals_of, entries_some, exits_some}
use Rattle.arcs.specs.inner.Moves.{Kind, Entry, Internal, Exit, First, Second, Third, Move, move, shift, sequence_move, choice_move, parallel_move, loop_move}
use Rattle.arcs.specs.inner.Spreads.{Spread, lowered, Spreads, list_of, under}
use Rattle.arcs.proofs.Sizes.{sizes}

-- A list of so many places, with a spread: its first copy ends below the limit.
pub record Fits (limit count : ℕ) (s : Spread) : Type 0 where
  pub wide : 0 < s.width
  pub ends : s.base + count * s.width ≤ limit

-- A list of so many places is put into one of so many by a move: with its factors before and behind it ends inside, and no factor is empty.
pub record Inside (count all : ℕ) (m : Move) : Type 0 where
  pub left : 0 < m.left
  pub right : 0 < m.right
  pub ends : m.off + m.left * (count * m.right) ≤ all
  pub step : m.step ≤ count * m.right

-- What is known of a lowered spread.
pub record Lowers (limit count : ℕ) (m : Move) (s : Spread) : Type 0 where
  pub fits : Fits limit count (lowered m s)
  pub base : (lowered m s).base ≤ limit
  pub width : (lowered m s).width ≤ limit
  pub some : 0 < m.left
  pub copies : m.left ≤ limit
  pub step : m.step * s.width ≤ limit

one_of : {a b : ℕ} → 0 < a → 0 < b → 0 < a * b
one_of {a} {b} h k = let z : 1 * 1 ≤ a * b = mul-le-mul h k in omega arith

pub lowers : (limit count all : ℕ) (m : Move) (s : Spread) → 0 < count → Inside count all m → Fits limit all s → Lowers limit count m s
lowers limit count all m s some i f =
    let w = s.width in
    let n = count * m.right in
    let whole : (m.off + m.left * n) * w ≤ all * w = mul-le-mul i.ends (omega arith) in
    let split : (m.off + m.left * n) * w ≡ m.off * w + m.left * n * w = add-mul m.off (m.left * n) w in
    let own : 1 * n ≤ m.left * n = mul-le-mul i.left (omega arith) in
    let once : 1 * n * w ≤ m.left * n * w = mul-le-mul own (omega arith) in
    let one : 1 * n ≡ n = one-mul n in
    let same : count * (m.right * w) ≡ n * w = sym (mul_assoc count m.right w) in
    let same' : 1 * n * w ≡ n * w = ap (λ x. x * w) one in
    let step : m.step * w ≤ n * w = mul-le-mul i.step (omega arith) in
    let nw : 0 < n * w = one_of (one_of some i.right) f.wide in
    let copies : m.left ≤ m.left * (n * w) = le-mul_of_pos_right m.left nw in
    let assoc : m.left * n * w ≡ m.left * (n * w) = mul_assoc m.left n w in
    let ends : s.base + m.off * w + count * (m.right * w) ≤ limit = omega (arith, whole, split, once, same, same', f.ends) in
    let wide : m.right * w ≤ count * (m.right * w) = omega (arith, le-mul_of_pos_right (m.right * w) some, mul_comm (m.right * w) count) in
    record {
      fits = record { wide = one_of i.right f.wide; ends = ends };
      base = omega arith;
      width = omega (arith, wide, ends);
      some = i.left;
      copies = omega (arith, copies, assoc, whole, split, f.ends);
      step = omega (arith, step, once, same', whole, split, f.ends);
    }

-- ---- each operator: where the lists of its operands lie in its own
shift_inside : (kind : Kind) (off count all : ℕ) → off + count ≤ all → Inside count all (shift kind off)
shift_inside kind off count all h = record { left = omega arith; right = omega arith; ends = omega (arith, one-mul (count * 1), mul-one count); step = omega arith }

first_inside : (kind : Kind) (off right count all : ℕ) → 0 < right → off + count * right ≤ all → Inside count all (move kind 1 right 0 off)
first_inside kind off right count all r h = record { left = omega arith; right = r; ends = omega (arith, one-mul (count * right)); step = omega arith }

last_inside : (kind : Kind) (off left count all : ℕ) → 0 < left → off + left * count ≤ all → Inside count all (move kind left 1 count off)
last_inside kind off left count all l h =
    record { left = l; right = omega arith; ends = omega (arith, ap (λ n. left * n) (mul-one count)); step = omega (arith, mul-one count) }

middle_inside : (kind : Kind) (off left right count all : ℕ) → 0 < left → 0 < right → off + left * (count * right) ≤ all → Inside count all (move kind left right (count * right) off)
middle_inside kind off left right count all l r h = record { left = l; right = r; ends = h; step = omega arith }

-- How many places a list of a part has.
abbrev pub count_in : Expr → Kind → ℕ
count_in E Entry = entries_of E
count_in E Internal = internals_of E
count_in E Exit = exits_of E

-- The entries and the exits of an operand lie in the node's lists, and so do its internals.
pub record Parts (P X : Expr) (m : Kind → Move) : Type 0 where
  pub entries : Inside (entries_of X) (count_in P (m Entry).kind) (m Entry)
  pub exits : Inside (exits_of X) (count_in P (m Exit).kind) (m Exit)
  pub internals : (m Internal).off + internals_of X ≤ internals_of P

module _ (E F : Expr) where
  pub sequence_parts : Parts (sequence E F) E (λ k. sequence_move First k (sizes E) (sizes F)) × Parts (sequence E F) F (λ k. sequence_move Second k (sizes E) (sizes F))
  unfolding entries_of exits_of internals_of
  sequence_parts = (
    record {
      entries = shift_inside Entry 0 (entries_of E) (entries_of E) (omega arith);
      exits = first_inside Internal (internals_of E + internals_of F) (entries_of F) (exits_of E) _ (entries_some F) (omega arith);
      internals = omega arith;
    },
    record {
      entries = last_inside Internal (internals_of E + internals_of F) (exits_of E) (entries_of F) _ (exits_some E) (omega arith);
      exits = shift_inside Exit 0 (exits_of F) (exits_of F) (omega arith);
      internals = omega arith;
    },
  )

  pub choice_parts : Parts (choice E F) E (λ k. choice_move First k (sizes E) (sizes F)) × Parts (choice E F) F (λ k. choice_move Second k (sizes E) (sizes F))
  unfolding entries_of exits_of internals_of
  choice_parts = (
    record {
      entries = first_inside Entry 0 (entries_of F) (entries_of E) _ (entries_some F) (omega arith);
      exits = first_inside Exit 0 (exits_of F) (exits_of E) _ (exits_some F) (omega arith);
      internals = omega arith;
    },
    record {
      entries = last_inside Entry 0 (entries_of E) (entries_of F) _ (entries_some E) (omega arith);
      exits = last_inside Exit 0 (exits_of E) (exits_of F) _ (exits_some E) (omega arith);
      internals = omega arith;
    },
  )

  pub parallel_parts : Parts (parallel E F) E (λ k. parallel_move First k (sizes E)) × Parts (parallel E F) F (λ k. parallel_move Second k (sizes E))
  unfolding entries_of exits_of internals_of
  parallel_parts = (
    record {
      entries = shift_inside Entry 0 (entries_of E) _ (omega arith);
      exits = shift_inside Exit 0 (exits_of E) _ (omega arith);
      internals = omega arith;
    },
    record {
      entries = shift_inside Entry (entries_of E) (entries_of F) _ (omega arith);
      exits = shift_inside Exit (exits_of E) (exits_of F) _ (omega arith);
      internals = omega arith;
    },
  )

  module _ (G : Expr) where
    -- The product of a loop's four lists, grouped around each of them.
    grouped : (x y f g : ℕ) → (x * y * (f * g) ≡ x * (y * (f * g))) × (x * y * (f * g) ≡ x * y * f * g)
    grouped x y f g = (mul_assoc x y (f * g), sym (mul_assoc (x * y) f g))

    pub loop_parts : Parts (loop E F G) E (λ k. loop_move First k (sizes E) (sizes F) (sizes G)) × Parts (loop E F G) F (λ k. loop_move Second k (sizes E) (sizes F) (sizes G))
        × Parts (loop E F G) G (λ k. loop_move Third k (sizes E) (sizes F) (sizes G))
    unfolding entries_of exits_of internals_of
    loop_parts =
        let x = exits_of E in
        let y = exits_of F in
        let f = entries_of F in
        let g = entries_of G in
        let off = internals_of E + internals_of F + internals_of G in
        let (p, q) = grouped x y f g in
        let fg = one_of (entries_some F) (entries_some G) in
        let xy = one_of (exits_some E) (exits_some F) in (
          record {
            entries = shift_inside Entry 0 (entries_of E) (entries_of E) (omega arith);
            exits = first_inside Internal off (y * (f * g)) x _ (one_of (exits_some F) fg) (omega (arith, p));
            internals = omega arith;
          },
          record {
            entries = middle_inside Internal off (x * y) g f _ xy (entries_some G) (omega arith);
            exits = middle_inside Internal off x (f * g) y _ (exits_some E) fg (omega (arith, p));
            internals = omega arith;
          },
          record {
            entries = last_inside Internal off (x * y * f) g _ (one_of xy (entries_some F)) (omega (arith, q));
            exits = shift_inside Exit 0 (exits_of G) (exits_of G) (omega arith);
            internals = omega arith;
          },
        )

pub scope_part : (a : ℕ) (E : Expr) → Parts (scope a E) E (λ k. shift k 0)
unfolding entries_of exits_of internals_of
scope_part a E = record {
  entries = shift_inside Entry 0 (entries_of E) (entries_of E) (omega arith);
  exits = shift_inside Exit 0 (exits_of E) (exits_of E) (omega arith);
  internals = omega arith;
}

-- ---- all lists of a part
pub record AllFit (limit : ℕ) (E : Expr) (s : Spreads) : Type 0 where
  pub entries : Fits limit (entries_of E) s.entries
  pub internals : s.internal + internals_of E ≤ limit
  pub exits : Fits limit (exits_of E) s.exits

list_fits : (limit : ℕ) (E : Expr) (s : Spreads) → AllFit limit E s → (kind : Kind) → Fits limit (count_in E kind) (list_of s kind)
list_fits limit E s f Entry = f.entries
list_fits limit E s f Internal = record { wide = omega arith; ends = omega (arith, mul-one (internals_of E), f.internals) }
list_fits limit E s f Exit = f.exits

-- An operand's lists, lowered.
pub record AllLower (limit : ℕ) (X : Expr) (m : Kind → Move) (s : Spreads) : Type 0 where
  pub entries : Lowers limit (entries_of X) (m Entry) (list_of s (m Entry).kind)
  pub exits : Lowers limit (exits_of X) (m Exit) (list_of s (m Exit).kind)
  pub fit : AllFit limit X (under m s)

pub all_lower : (limit : ℕ) (P X : Expr) (m : Kind → Move) (s : Spreads) → Parts P X m → AllFit limit P s → AllLower limit X m s
all_lower limit P X m s p f =
    let e = lowers limit (entries_of X) (count_in P (m Entry).kind) (m Entry) (list_of s (m Entry).kind) (entries_some X) p.entries (list_fits limit P s f (m Entry).kind) in
    let x = lowers limit (exits_of X) (count_in P (m Exit).kind) (m Exit) (list_of s (m Exit).kind) (exits_some X) p.exits (list_fits limit P s f (m Exit).kind) in
    record { entries = e; exits = x; fit = record { entries = e.fits; internals = omega (arith, p.internals, f.internals); exits = x.fits } }
