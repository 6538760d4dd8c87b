-- What passed check 30 is in order: its counts are within their limits, its rows and lists lie in the tables, and its lists rise.
-- The starts of the rows meet and the last list ends at the arc count, so each list ends before.
use Prim.Native.Nat.{ℕ, zero, suc, ◌+◌, ◌*◌, ◌≤◌, ◌<◌}
use mathlib.Core.Path.{◌≡◌, refl, ap, subst}
use mathlib.Core.List.{List, ◌∷◌}
use mathlib.Core.Bool.{true}
use native.Mathlib.Omega.{arith}
use borrow.Author.Tests.{eqb-true, eqb-false}
use lib.ListN.{length, take}
use lib.Dec.{T, eqb, leb, leb→le, eqb→eq}
use Rattle.field.specs.Lists.{all}
use Rattle.field.proofs.Tests.{and_parts, true_T}
use Rattle.algebra.specs.Net.{Transition}
use Rattle.net.specs.Tables.{Tables, number, transition_at, transitions_from, transitions_in}
use Rattle.net.specs.Check.{counts_fit, tables_reach, kinds_ordered, lists_rise, starts_meet, is_net}
use Rattle.net.specs.Lent.{lent}
use Rattle.net.proofs.RowsPass.{starts_within}
use Rattle.moving.specs.inner.InOrder.{rows_and_arcs, transitions_within, InOrder}
use Rattle.field.proofs.Tests.{test}

same_from : (tables : Tables) (t n : ℕ) → transitions_from tables t n ≡ transitions_from (rows_and_arcs tables.rows tables.arcs) t n
unfolding transitions_from transition_at
same_from tables t zero = refl
same_from tables t (suc n) = ap (λ (ts : List Transition). transition_at tables t ∷ ts) (same_from tables (suc t) n)

-- The transitions of lent tables are those of their rows and arcs.
pub transitions_lent : (tables : Tables) → transitions_in tables ≡ transitions_within tables.rows tables.arcs tables.transitions
unfolding transitions_in
transitions_lent tables = same_from tables 0 tables.transitions

ends_at : (tables : Tables) (start t n k : ℕ) → T (starts_meet tables start t n) → t ≤ k → k < t + n
    → number tables k 3 + (number tables k 4 + number tables k 5) ≤ tables.arc_count
unfolding starts_meet
ends_at tables start t zero k h a b = absurd (omega arith)
ends_at tables start t (suc n) k h a b =
    let p = and_parts (eqb (number tables t 3) start) _ h in
    test (eqb t k)
    (λ e.
    subst (λ (x : ℕ). number tables x 3 + (number tables x 4 + number tables x 5) ≤ tables.arc_count) (eqb-true t k e)
    (omega (arith, eqb→eq (number tables t 3) start p.0, starts_within tables (start + (number tables t 4 + number tables t 5)) (suc t) n p.1)))
    (λ e. ends_at tables (start + (number tables t 4 + number tables t 5)) (suc t) n k p.1 (next t k a (eqb-false t k e)) (omega arith))
  where
    next : (t k : ℕ) → t ≤ k → (t ≡ k → ⊥) → suc t ≤ k
    next zero zero a o = absurd (o refl)
    next zero (suc k) a o = omega arith
    next (suc t) zero a o = absurd (omega arith)
    next (suc t) (suc k) a o = let z = next t k (omega arith) (λ e. o (ap suc e)) in omega arith

pub net_in_order : (kinds rows arcs : List ℕ) (places transitions arc_count : ℕ) → is_net (lent kinds rows arcs places transitions arc_count) ≡ true → InOrder rows arcs transitions places
unfolding is_net counts_fit tables_reach
net_in_order kinds rows arcs places transitions arc_count e =
    let tables : Tables = lent kinds rows arcs places transitions arc_count in
    let a = and_parts (counts_fit (lent kinds rows arcs places transitions arc_count)) _ (true_T _ e) in
    let b = and_parts (tables_reach (lent kinds rows arcs places transitions arc_count)) _ a.1 in
    let c = and_parts (kinds_ordered (take places kinds)) _ b.1 in
    let d = and_parts (all (lists_rise places) (transitions_in (lent kinds rows arcs places transitions arc_count))) _ c.1 in
    let f = and_parts (starts_meet (lent kinds rows arcs places transitions arc_count) 0 0 transitions) _ d.1 in
    let few = and_parts (leb transitions 1024) (leb arc_count 16384) (and_parts (leb places 2048) _ a.0).1 in
    let reach = and_parts (leb (6 * transitions) (length rows)) (leb arc_count (length arcs)) (and_parts (leb places (length kinds)) _ b.0).1 in
    record {
      few = leb→le transitions 1024 few.0;
      reach = leb→le (6 * transitions) (length rows) reach.0;
      ends = λ t h. omega (arith, ends_at (lent kinds rows arcs places transitions arc_count) 0 0 transitions t f.0 (omega arith) (omega arith), leb→le arc_count (length arcs) reach.1);
      rise = subst (λ (ts : List Transition). T (all (lists_rise places) ts)) (transitions_lent (lent kinds rows arcs places transitions arc_count)) d.0;
    }
