-- Where the lists of a part stand in the whole, from the root down: a part's spreads lead from its positions to the numbers of the whole, and so do those of its operands.
-- True because an operand's positions become positions of the part by its move, and placed positions may be moved beforehand.
use Prim.Native.Nat.{ℕ, ◌+◌, ◌≤◌, ◌<◌}
use native.Mathlib.Omega.{arith}
use mathlib.Core.Path.{◌≡◌, refl, sym, ◌∙◌, ap, subst}
use mathlib.Core.Logic.{inl, inr}
use mathlib.Core.List.{List, [], ◌∷◌, ◌++◌, map, map-append, append-nil}
use mathlib.Core.Bool.{Bool}
use borrow.Author.Tests.{eq-eqb}
use Rattle.algebra.specs.Expr.{Expr, action, sequence, choice, parallel, loop, scope, actions}
use Rattle.algebra.specs.Places.{entries, internals, exits, places}
use Rattle.algebra.specs.Arcs.{numbers, consumes, produces}
use Rattle.arcs.specs.inner.Positions.{ones, stretched, repeated}
use Rattle.arcs.specs.inner.Moves.{Kind, Entry, Internal, Exit, First, Second, Third, Move, passes, own, Box, box, Lies, moved, shift, sequence_move, choice_move, parallel_move, loop_move}
use Rattle.arcs.specs.inner.Spreads.{copied, placed, Spreads, plain, list_of, under}
use Rattle.net.specs.declared.Side.{Side}
use Rattle.net.specs.declared.Side.TheVariants.{Inputs, Outputs}
use Rattle.boxes.specs.declared.counts.Counts.{Counts}
use Rattle.arcs.proofs.Ones.{numbers_ones, ones_before, off_append}
use Rattle.arcs.proofs.Levels.{Goes, lengths, as_itself, behind, behind_two, loop_box, sequence_first, sequence_second, choice_first, choice_second, parallel_first, parallel_second, loop_first, loop_second, loop_third, scope_only}
use Rattle.arcs.proofs.Boxes.{box_of_sequence, box_of_choice, box_of_parallel, box_of_loop, box_of_scope, none}
use Rattle.arcs.proofs.Sizes.{sizes, box_lengths}
use Rattle.arcs.proofs.Spreading.{placed_moved, under_list}

-- The input or output places of action i of the whole.
abbrev pub arcs : Expr → Side → ℕ → List ℕ
arcs R side i = numbers (passes side i) 0 (places 0 R)

-- The positions at which an action's places stand in a list of a part are placed where they stand in the whole.
abbrev pub Leads : Expr → ℕ → Expr → Spreads → Type 0
Leads R n E s = (side : Side) (i : ℕ) → n ≤ i → i < n + actions E → (kind : Kind) (ps : List ℕ) → Lies kind (box side i n E) ps → arcs R side i ≡ placed (list_of s kind) ps

-- ---- one level down
-- An operand X, whose first action has the number m, and the move of each of its lists.
module _ (R : Expr) (n : ℕ) (P : Expr) (s : Spreads) (leads : Leads R n P s) (m : ℕ) (X : Expr) (low : n ≤ m) (high : m + actions X ≤ n + actions P) (move : Kind → Move)
    (inner : move Internal ≡ shift Internal (move Internal).off) where
  lead_down : ((side : Side) (i : ℕ) → m ≤ i → i < m + actions X → (kind : Kind) (ps : List ℕ) → Lies kind (box side i m X) ps → Goes (move kind) (box side i n P) ps) → Leads R m X (under move s)
  lead_down goes side i l h kind ps lies =
      leads side i (omega arith) (omega arith) (move kind).kind (moved (move kind) ps) (goes side i l h kind ps lies)
      ∙ placed_moved (move kind) (list_of s (move kind).kind) ps ∙ ap (λ x. placed x ps) (under_list move s inner kind)

module _ (R : Expr) (n : ℕ) (s : Spreads) where
  module _ (E F : Expr) where
    abbrev m : ℕ
    m = n + actions E

    -- The boxes and lengths that the levels speak of are the operands'.
    two : (side : Side) (i : ℕ) (P : Expr) (ps : List ℕ) {B : Box} (f : Counts → Counts → Move) → box side i n P ≡ B → Goes (f (lengths (box side i n E)) (lengths (box side i m F))) B ps → Goes (f (sizes E) (sizes F)) (box side i n P) ps
    two side i P ps {B} f e g =
        subst (λ Z. Goes (f (sizes E) (sizes F)) Z ps) (sym e)
        (subst (λ c. Goes (f (sizes E) c) B ps) (box_lengths side i m F) (subst (λ c. Goes (f c (lengths (box side i m F))) B ps) (box_lengths side i n E) g))

    pub sequence_leads : Leads R n (sequence E F) s → Leads R n E (under (λ k. sequence_move First k (sizes E) (sizes F)) s) × Leads R m F (under (λ k. sequence_move Second k (sizes E) (sizes F)) s)
    unfolding actions
    sequence_leads leads = (
      lead_down R n (sequence E F) s leads n E (omega arith) (omega arith) (λ k. sequence_move First k (sizes E) (sizes F)) refl
          (λ side i l h k ps lies. two side i (sequence E F) ps (sequence_move First k) (box_of_sequence side i n E F) (sequence_first k (box side i n E) (box side i m F) ps (none side i m F (inl h)) lies)),
      lead_down R n (sequence E F) s leads m F (omega arith) (omega arith) (λ k. sequence_move Second k (sizes E) (sizes F)) refl
          (λ side i l h k ps lies. two side i (sequence E F) ps (sequence_move Second k) (box_of_sequence side i n E F) (sequence_second k (box side i n E) (box side i m F) ps (none side i n E (inr l)) lies)),
    )

    pub choice_leads : Leads R n (choice E F) s → Leads R n E (under (λ k. choice_move First k (sizes E) (sizes F)) s) × Leads R m F (under (λ k. choice_move Second k (sizes E) (sizes F)) s)
    unfolding actions
    choice_leads leads = (
      lead_down R n (choice E F) s leads n E (omega arith) (omega arith) (λ k. choice_move First k (sizes E) (sizes F)) refl
          (λ side i l h k ps lies. two side i (choice E F) ps (choice_move First k) (box_of_choice side i n E F) (choice_first k (box side i n E) (box side i m F) ps (none side i m F (inl h)) lies)),
      lead_down R n (choice E F) s leads m F (omega arith) (omega arith) (λ k. choice_move Second k (sizes E) (sizes F)) refl
          (λ side i l h k ps lies. two side i (choice E F) ps (choice_move Second k) (box_of_choice side i n E F) (choice_second k (box side i n E) (box side i m F) ps (none side i n E (inr l)) lies)),
    )

    pub parallel_leads : Leads R n (parallel E F) s → Leads R n E (under (λ k. parallel_move First k (sizes E)) s) × Leads R m F (under (λ k. parallel_move Second k (sizes E)) s)
    unfolding actions
    parallel_leads leads = (
      lead_down R n (parallel E F) s leads n E (omega arith) (omega arith) (λ k. parallel_move First k (sizes E)) refl
          (λ side i l h k ps lies. two side i (parallel E F) ps (λ a b. parallel_move First k a) (box_of_parallel side i n E F) (parallel_first k (box side i n E) (box side i m F) ps (none side i m F (inl h)) lies)),
      lead_down R n (parallel E F) s leads m F (omega arith) (omega arith) (λ k. parallel_move Second k (sizes E)) refl
          (λ side i l h k ps lies. two side i (parallel E F) ps (λ a b. parallel_move Second k a) (box_of_parallel side i n E F) (parallel_second k (box side i n E) (box side i m F) ps (none side i n E (inr l)) lies)),
    )

    module _ (G : Expr) where
      abbrev o : ℕ
      o = n + actions E + actions F

      three : (side : Side) (i : ℕ) (ps : List ℕ) (f : Counts → Counts → Counts → Move) → Goes (f (lengths (box side i n E)) (lengths (box side i m F)) (lengths (box side i o G))) (loop_box (box side i n E) (box side i m F) (box side i o G)) ps
          → Goes (f (sizes E) (sizes F) (sizes G)) (box side i n (loop E F G)) ps
      three side i ps f g =
          two side i (loop E F G) ps (λ a b. f a b (sizes G)) (box_of_loop side i n E F G)
          (subst (λ c. Goes (f (lengths (box side i n E)) (lengths (box side i m F)) c) (loop_box (box side i n E) (box side i m F) (box side i o G)) ps) (box_lengths side i o G) g)

      pub loop_leads : Leads R n (loop E F G) s
          → Leads R n E (under (λ k. loop_move First k (sizes E) (sizes F) (sizes G)) s)
          × Leads R m F (under (λ k. loop_move Second k (sizes E) (sizes F) (sizes G)) s)
          × Leads R o G (under (λ k. loop_move Third k (sizes E) (sizes F) (sizes G)) s)
      unfolding actions
      loop_leads leads = (
        lead_down R n (loop E F G) s leads n E (omega arith) (omega arith) (λ k. loop_move First k (sizes E) (sizes F) (sizes G)) refl
            (λ side i l h k ps lies. three side i ps (loop_move First k) (loop_first k (box side i n E) (box side i m F) (box side i o G) ps (none side i m F (inl h)) (none side i o G (inl (omega arith))) lies)),
        lead_down R n (loop E F G) s leads m F (omega arith) (omega arith) (λ k. loop_move Second k (sizes E) (sizes F) (sizes G)) refl
            (λ side i l h k ps lies. three side i ps (loop_move Second k) (loop_second k (box side i n E) (box side i m F) (box side i o G) ps (none side i n E (inr l)) (none side i o G (inl h)) lies)),
        lead_down R n (loop E F G) s leads o G (omega arith) (omega arith) (λ k. loop_move Third k (sizes E) (sizes F) (sizes G)) refl
            (λ side i l h k ps lies. three side i ps (loop_move Third k) (loop_third k (box side i n E) (box side i m F) (box side i o G) ps (none side i n E (inr (omega arith))) (none side i m F (inr l)) lies)),
      )

  pub scope_leads : (a : ℕ) (E : Expr) → Leads R n (scope a E) s → Leads R n E (under (λ k. shift k 0) s)
  unfolding actions
  scope_leads a E leads =
      lead_down R n (scope a E) s leads n E (omega arith) (omega arith) (λ k. shift k 0) refl
      (λ side i l h k ps lies. subst (λ Z. Goes (shift k 0) Z ps) (sym (box_of_scope side i n a E)) (scope_only k (box side i n E) ps lies))

-- ---- the root
shifted_ones : (off : ℕ) (cs : List Bool) (ps : List ℕ) → ones 0 cs ≡ ps → ones off cs ≡ stretched 1 off ps
unfolding moved repeated
shifted_ones off cs ps e = as_itself Entry off cs ps e ∙ append-nil (stretched 1 off ps)

-- "Final numbers: entries from 0, then internals, then exits."
abbrev pub root : Counts → Spreads
root c = record { entries = plain 0; internal = c.entries; exits = plain (c.entries + c.internals) }

module _ (R : Expr) (side : Side) (i : ℕ) where
  abbrev all : List Bool
  all = (box side i 0 R).entries ++ ((box side i 0 R).internals ++ (box side i 0 R).exits)

  all_is : map (passes side i) (places 0 R) ≡ all
  unfolding places
  all_is = map-append (passes side i) (entries 0 R) (internals 0 R ++ exits 0 R) ∙ ap (λ l. map (passes side i) (entries 0 R) ++ l) (map-append (passes side i) (internals 0 R) (exits 0 R))

  among_all : (kind : Kind) (ps : List ℕ) → Lies kind (box side i 0 R) ps → ones 0 all ≡ placed (list_of (root (lengths (box side i 0 R))) kind) ps
  unfolding placed copied
  among_all Entry ps l = ones_before 0 (box side i 0 R).entries _ (off_append _ _ l.1 l.2) ∙ shifted_ones 0 (box side i 0 R).entries ps l.0
  among_all Internal ps l = behind (box side i 0 R).entries _ l.0 ∙ ones_before _ (box side i 0 R).internals _ l.2 ∙ shifted_ones _ (box side i 0 R).internals ps l.1
  among_all Exit ps l = behind_two (box side i 0 R).entries (box side i 0 R).internals _ l.0 l.1 ∙ shifted_ones _ (box side i 0 R).exits ps l.2

  root_arcs : (kind : Kind) (ps : List ℕ) → Lies kind (box side i 0 R) ps → arcs R side i ≡ placed (list_of (root (sizes R)) kind) ps
  root_arcs kind ps l =
      numbers_ones (passes side i) 0 (places 0 R) ∙ ap (ones 0) all_is ∙ among_all kind ps l ∙ ap (λ c. placed (list_of (root c) kind) ps) (box_lengths side i 0 R)

pub root_leads : (R : Expr) → Leads R 0 R (root (sizes R))
root_leads R side i l h kind ps lies = root_arcs R side i kind ps lies

-- ---- an action
own_lies : (side : Side) (n l : ℕ) → Lies (own side) (box side n n (action l)) (0 ∷ [])
unfolding entries internals exits consumes produces ones
own_lies Inputs n l = rw (eq-eqb n n refl) (refl, refl, refl)
own_lies Outputs n l = rw (eq-eqb n n refl) (refl, refl, refl)

pub action_leads : (R : Expr) (n l : ℕ) (s : Spreads) → Leads R n (action l) s → (side : Side) → arcs R side n ≡ placed (list_of s (own side)) (0 ∷ [])
unfolding actions
action_leads R n l s leads side = leads side n (omega arith) (omega arith) (own side) (0 ∷ []) (own_lies side n l)
