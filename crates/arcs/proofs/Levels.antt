-- One level up: where an operand's places that pass stand in the lists of the whole, if no other operand has any.
-- True because a list that is joined behind others is shifted, and one that is a factor of a product is stretched and repeated.
use Prim.Native.Nat.{ℕ, ◌+◌, ◌*◌}
use native.Mathlib.Nat.{mul-one, zero-add}
use mathlib.Core.Path.{◌≡◌, refl, sym, ◌∙◌, ap, ap₂}
use mathlib.Core.Bool.{Bool, ◌||◌}
use mathlib.Core.List.{List, ◌++◌}
use lib.ListN.{length}
use Rattle.algebra.proofs.Products.{product_length}
use Rattle.arcs.specs.inner.Positions.{ones, stretched, repeated}
use Rattle.arcs.specs.inner.Moves.{Kind, Entry, Internal, Exit, First, Second, Third, Move, Box, Off, Lies, moved, move, shift, sequence_move, choice_move, parallel_move, loop_move}
use Rattle.boxes.specs.declared.counts.Counts.{Counts}
use Rattle.arcs.proofs.Ones.{rep, each, either, each_of, rep_of, rep_rep, each_each, each_rep, each_one, rep_one, ones_before, ones_behind, ones_widened, off_append, off_either}

abbrev pub sequence_box : Box → Box → Box
sequence_box a b = record {
  entries = a.entries;
  internals = a.internals ++ (b.internals ++ either a.exits b.entries);
  exits = b.exits;
}

abbrev pub choice_box : Box → Box → Box
choice_box a b = record {
  entries = either a.entries b.entries;
  internals = a.internals ++ b.internals;
  exits = either a.exits b.exits;
}

abbrev pub parallel_box : Box → Box → Box
parallel_box a b = record { entries = a.entries ++ b.entries; internals = a.internals ++ b.internals; exits = a.exits ++ b.exits }

-- The places of a loop, of four factors.
abbrev cross : List Bool → List Bool → List Bool → List Bool → List Bool
cross x y f g = either (either x y) (either f g)

abbrev pub loop_box : Box → Box → Box → Box
loop_box a b c = record {
  entries = a.entries;
  internals = a.internals ++ (b.internals ++ (c.internals ++ cross a.exits b.exits b.entries c.entries));
  exits = c.exits;
}

-- No place passes.
pub record None (b : Box) : Type 0 where
  pub entries : Off b.entries
  pub internals : Off b.internals
  pub exits : Off b.exits

-- How long the lists are.
abbrev pub lengths : Box → Counts
lengths b = record { entries = length b.entries; internals = length b.internals; exits = length b.exits }

-- The positions that a move makes are those in a box.
abbrev pub Goes : Move → Box → List ℕ → Type 0
Goes m b ps = Lies m.kind b (moved m ps)

-- ---- one list
module _ (kind : Kind) (off : ℕ) (cs : List Bool) (ps : List ℕ) (e : ones 0 cs ≡ ps) where
  -- As one of several factors.
  as_factor : (left right : ℕ) {step : ℕ} (bs : List Bool) → bs ≡ rep left (each right cs) → step ≡ length cs * right → ones off bs ≡ moved (move kind left right step off) ps
  unfolding moved
  as_factor left right bs q s =
      ap (ones off) q ∙ ones_widened left right off cs ∙ ap₂ (λ n l. repeated left n (stretched right off l)) (sym s) e

  -- As the first factor: a single copy takes no step.
  as_first : (right : ℕ) (bs : List Bool) → bs ≡ each right cs → ones off bs ≡ moved (move kind 1 right 0 off) ps
  unfolding moved repeated
  as_first right bs q =
      as_factor 1 right bs (q ∙ sym (rep_one (each right cs))) refl ∙ refl

  -- As the last factor.
  as_last : (left : ℕ) (bs : List Bool) → bs ≡ rep left cs → ones off bs ≡ moved (move kind left 1 (length cs) off) ps
  as_last left bs q = as_factor left 1 bs (q ∙ ap (rep left) (sym (each_one cs))) (sym (mul-one (length cs)))

  -- By itself.
  pub as_itself : ones off cs ≡ moved (shift kind off) ps
  as_itself = as_first 1 cs (sym (each_one cs))

-- ---- behind lists that have none
pub behind : (cs bs : List Bool) → Off cs → ones 0 (cs ++ bs) ≡ ones (length cs) bs
behind cs bs o = ones_behind 0 cs bs o ∙ ap (λ n. ones n bs) (zero-add (length cs))

pub behind_two : (cs ds bs : List Bool) → Off cs → Off ds → ones 0 (cs ++ (ds ++ bs)) ≡ ones (length cs + length ds) bs
behind_two cs ds bs o p = behind cs (ds ++ bs) o ∙ ones_behind (length cs) ds bs p

behind_three : (cs ds es bs : List Bool) → Off cs → Off ds → Off es → ones 0 (cs ++ (ds ++ (es ++ bs))) ≡ ones (length cs + length ds + length es) bs
behind_three cs ds es bs o p q = behind_two cs ds (es ++ bs) o p ∙ ones_behind (length cs + length ds) es bs q

-- ---- sequence
pub sequence_first : (k : Kind) (a b : Box) (ps : List ℕ) → None b → Lies k a ps → Goes (sequence_move First k (lengths a) (lengths b)) (sequence_box a b) ps
sequence_first Entry a b ps o h =
    (as_itself Entry 0 a.entries ps h.0, off_append _ _ h.1 (off_append _ _ o.internals (off_either _ _ h.2 o.entries)), o.exits)
sequence_first Internal a b ps o h =
    (h.0, ones_before 0 a.internals _ (off_append _ _ o.internals (off_either _ _ h.2 o.entries)) ∙ as_itself Internal 0 a.internals ps h.1, o.exits)
sequence_first Exit a b ps o h = (
  h.0,
  behind_two a.internals b.internals _ h.1 o.internals
      ∙ as_first Internal _ a.exits ps h.2 (length b.entries) _ (each_of a.exits b.entries o.entries),
  o.exits,
)

pub sequence_second : (k : Kind) (a b : Box) (ps : List ℕ) → None a → Lies k b ps → Goes (sequence_move Second k (lengths a) (lengths b)) (sequence_box a b) ps
sequence_second Entry a b ps o h = (
  o.entries,
  behind_two a.internals b.internals _ o.internals h.1
      ∙ as_last Internal _ b.entries ps h.0 (length a.exits) _ (rep_of a.exits b.entries o.exits),
  h.2,
)
sequence_second Internal a b ps o h = (
  o.entries,
  behind a.internals _ o.internals ∙ ones_before _ b.internals _ (off_either _ _ o.exits h.0) ∙ as_itself Internal _ b.internals ps h.1,
  h.2,
)
sequence_second Exit a b ps o h =
    (o.entries, off_append _ _ o.internals (off_append _ _ h.1 (off_either _ _ o.exits h.0)), as_itself Exit 0 b.exits ps h.2)

-- ---- choice
pub choice_first : (k : Kind) (a b : Box) (ps : List ℕ) → None b → Lies k a ps → Goes (choice_move First k (lengths a) (lengths b)) (choice_box a b) ps
choice_first Entry a b ps o h = (
  as_first Entry 0 a.entries ps h.0 (length b.entries) _ (each_of a.entries b.entries o.entries),
  off_append _ _ h.1 o.internals,
  off_either _ _ h.2 o.exits,
)
choice_first Internal a b ps o h =
    (off_either _ _ h.0 o.entries, ones_before 0 a.internals _ o.internals ∙ as_itself Internal 0 a.internals ps h.1, off_either _ _ h.2 o.exits)
choice_first Exit a b ps o h = (
  off_either _ _ h.0 o.entries,
  off_append _ _ h.1 o.internals,
  as_first Exit 0 a.exits ps h.2 (length b.exits) _ (each_of a.exits b.exits o.exits),
)

pub choice_second : (k : Kind) (a b : Box) (ps : List ℕ) → None a → Lies k b ps → Goes (choice_move Second k (lengths a) (lengths b)) (choice_box a b) ps
choice_second Entry a b ps o h = (
  as_last Entry 0 b.entries ps h.0 (length a.entries) _ (rep_of a.entries b.entries o.entries),
  off_append _ _ o.internals h.1,
  off_either _ _ o.exits h.2,
)
choice_second Internal a b ps o h =
    (off_either _ _ o.entries h.0, behind a.internals _ o.internals ∙ as_itself Internal _ b.internals ps h.1, off_either _ _ o.exits h.2)
choice_second Exit a b ps o h = (
  off_either _ _ o.entries h.0,
  off_append _ _ o.internals h.1,
  as_last Exit 0 b.exits ps h.2 (length a.exits) _ (rep_of a.exits b.exits o.exits),
)

-- ---- parallel
pub parallel_first : (k : Kind) (a b : Box) (ps : List ℕ) → None b → Lies k a ps → Goes (parallel_move First k (lengths a)) (parallel_box a b) ps
parallel_first Entry a b ps o h =
    (ones_before 0 _ _ o.entries ∙ as_itself Entry 0 a.entries ps h.0, off_append _ _ h.1 o.internals, off_append _ _ h.2 o.exits)
parallel_first Internal a b ps o h =
    (off_append _ _ h.0 o.entries, ones_before 0 _ _ o.internals ∙ as_itself Internal 0 a.internals ps h.1, off_append _ _ h.2 o.exits)
parallel_first Exit a b ps o h =
    (off_append _ _ h.0 o.entries, off_append _ _ h.1 o.internals, ones_before 0 _ _ o.exits ∙ as_itself Exit 0 a.exits ps h.2)

pub parallel_second : (k : Kind) (a b : Box) (ps : List ℕ) → None a → Lies k b ps → Goes (parallel_move Second k (lengths a)) (parallel_box a b) ps
parallel_second Entry a b ps o h =
    (behind _ _ o.entries ∙ as_itself Entry _ b.entries ps h.0, off_append _ _ o.internals h.1, off_append _ _ o.exits h.2)
parallel_second Internal a b ps o h =
    (off_append _ _ o.entries h.0, behind _ _ o.internals ∙ as_itself Internal _ b.internals ps h.1, off_append _ _ o.exits h.2)
parallel_second Exit a b ps o h =
    (off_append _ _ o.entries h.0, off_append _ _ o.internals h.1, behind _ _ o.exits ∙ as_itself Exit _ b.exits ps h.2)

-- ---- loop: the product of four lists, of which one has ones
module _ (x y f g : List Bool) where
  cross_off : Off x → Off y → Off f → Off g → Off (cross x y f g)
  cross_off ox oy of og = off_either _ _ (off_either x y ox oy) (off_either f g of og)

  cross_x : Off y → Off f → Off g → cross x y f g ≡ each (length y * (length f * length g)) x
  cross_x oy of og =
      each_of (either x y) (either f g) (off_either f g of og) ∙ ap (each (length (either f g))) (each_of x y oy)
      ∙ ap (λ n. each n (each (length y) x)) (product_length ◌||◌ f g) ∙ each_each (length f * length g) (length y) x

  cross_y : Off x → Off f → Off g → cross x y f g ≡ rep (length x) (each (length f * length g) y)
  cross_y ox of og =
      each_of (either x y) (either f g) (off_either f g of og) ∙ ap (each (length (either f g))) (rep_of x y ox)
      ∙ ap (λ n. each n (rep (length x) y)) (product_length ◌||◌ f g) ∙ each_rep (length f * length g) (length x) y

  cross_f : Off x → Off y → Off g → cross x y f g ≡ rep (length x * length y) (each (length g) f)
  cross_f ox oy og =
      rep_of (either x y) (either f g) (off_either x y ox oy) ∙ ap (rep (length (either x y))) (each_of f g og)
      ∙ ap (λ n. rep n (each (length g) f)) (product_length ◌||◌ x y)

  cross_g : Off x → Off y → Off f → cross x y f g ≡ rep (length x * length y * length f) g
  cross_g ox oy of =
      rep_of (either x y) (either f g) (off_either x y ox oy) ∙ ap (rep (length (either x y))) (rep_of f g of)
      ∙ ap (λ n. rep n (rep (length f) g)) (product_length ◌||◌ x y) ∙ rep_rep (length x * length y) (length f) g

pub loop_first : (k : Kind) (a b c : Box) (ps : List ℕ) → None b → None c → Lies k a ps → Goes (loop_move First k (lengths a) (lengths b) (lengths c)) (loop_box a b c) ps
loop_first Entry a b c ps o p h = (
  as_itself Entry 0 a.entries ps h.0,
  off_append _ _ h.1 (off_append _ _ o.internals (off_append _ _ p.internals (cross_off _ _ _ _ h.2 o.exits o.entries p.entries))),
  p.exits,
)
loop_first Internal a b c ps o p h = (
  h.0,
  ones_before 0 a.internals _ (off_append _ _ o.internals (off_append _ _ p.internals (cross_off _ _ _ _ h.2 o.exits o.entries p.entries)))
      ∙ as_itself Internal 0 a.internals ps h.1,
  p.exits,
)
loop_first Exit a b c ps o p h = (
  h.0,
  behind_three a.internals b.internals c.internals _ h.1 o.internals p.internals
      ∙ as_first Internal _ a.exits ps h.2 _ _ (cross_x a.exits b.exits b.entries c.entries o.exits o.entries p.entries),
  p.exits,
)

pub loop_second : (k : Kind) (a b c : Box) (ps : List ℕ) → None a → None c → Lies k b ps → Goes (loop_move Second k (lengths a) (lengths b) (lengths c)) (loop_box a b c) ps
loop_second Entry a b c ps o p h = (
  o.entries,
  behind_three a.internals b.internals c.internals _ o.internals h.1 p.internals
      ∙ as_factor Internal _ b.entries ps h.0 _ _ _ (cross_f a.exits b.exits b.entries c.entries o.exits h.2 p.entries) refl,
  p.exits,
)
loop_second Internal a b c ps o p h = (
  o.entries,
  behind a.internals _ o.internals ∙ ones_before _ b.internals _ (off_append _ _ p.internals (cross_off _ _ _ _ o.exits h.2 h.0 p.entries))
      ∙ as_itself Internal _ b.internals ps h.1,
  p.exits,
)
loop_second Exit a b c ps o p h = (
  o.entries,
  behind_three a.internals b.internals c.internals _ o.internals h.1 p.internals
      ∙ as_factor Internal _ b.exits ps h.2 _ _ _ (cross_y a.exits b.exits b.entries c.entries o.exits h.0 p.entries) refl,
  p.exits,
)

pub loop_third : (k : Kind) (a b c : Box) (ps : List ℕ) → None a → None b → Lies k c ps → Goes (loop_move Third k (lengths a) (lengths b) (lengths c)) (loop_box a b c) ps
loop_third Entry a b c ps o p h = (
  o.entries,
  behind_three a.internals b.internals c.internals _ o.internals p.internals h.1
      ∙ as_last Internal _ c.entries ps h.0 _ _ (cross_g a.exits b.exits b.entries c.entries o.exits p.exits p.entries),
  h.2,
)
loop_third Internal a b c ps o p h = (
  o.entries,
  behind_two a.internals b.internals _ o.internals p.internals ∙ ones_before _ c.internals _ (cross_off _ _ _ _ o.exits p.exits p.entries h.0)
      ∙ as_itself Internal _ c.internals ps h.1,
  h.2,
)
loop_third Exit a b c ps o p h = (
  o.entries,
  off_append _ _ o.internals (off_append _ _ p.internals (off_append _ _ h.1 (cross_off _ _ _ _ o.exits p.exits p.entries h.0))),
  as_itself Exit 0 c.exits ps h.2,
)

-- ---- scope
pub scope_only : (k : Kind) (a : Box) (ps : List ℕ) → Lies k a ps → Goes (shift k 0) a ps
scope_only Entry a ps h = (as_itself Entry 0 a.entries ps h.0, h.1, h.2)
scope_only Internal a ps h = (h.0, as_itself Internal 0 a.internals ps h.1, h.2)
scope_only Exit a ps h = (h.0, h.1, as_itself Exit 0 a.exits ps h.2)
