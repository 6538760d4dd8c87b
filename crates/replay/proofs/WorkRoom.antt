-- What stands in the work room of an accepted plan is in order, and is the plan's net: check 30 would pass it.
-- True because each work table is the net's own in front of something, and such tables, lent, are a net and read back as it.
use Prim.Native.Nat.{ℕ, ◌+◌, ◌*◌, ◌≤◌}
use native.Mathlib.Omega.{arith}
use mathlib.Core.Path.{◌≡◌, refl, sym, ◌∙◌, ap, subst}
use mathlib.Core.Bool.{true}
use mathlib.Core.List.{List, [], ◌++◌}
use lib.ListN.{length, take, drop}
use lib.Seq.{sets}
use Rattle.std.specs.Prelude.{Result, Ok}
use Rattle.field.specs.Says.{says}
use Rattle.field.specs.declared.Refusal.{Refusal}
use Rattle.field.specs.Refusals.{no_net}
use Rattle.field.specs.Answer.{Answer, good, ◌>>=◌}
use Rattle.field.proofs.Answers.{check_good}
use Rattle.algebra.specs.Expr.{Expr}
use Rattle.algebra.specs.Net.{Net, place_count}
use Rattle.algebra.specs.Arcs.{net_of}
use Rattle.net.specs.Tables.{kinds_of, rows_of, arcs_of, tables_of}
use Rattle.net.specs.Check.{is_net, check_net}
use Rattle.net.proofs.ReadTables.{lent_tables}
use Rattle.boxes.specs.Compile.{counts_of, accept}
use Rattle.boxes.proofs.TablesAreANet.{lent_tables_are_a_net, lent_tables_are_the_net}
use Rattle.tables.specs.inner.Rows.{Whole, Asked}
use Rattle.judging.specs.inner.Judging.{counts_told, net_counts, Drawn}
use Rattle.judging.specs.declared.NetCounts.{NetCounts}
use Rattle.judging.proofs.FinePlans.{IsFine, is_fine, asked, in_front, rows_long as rows_length}
use Rattle.moving.specs.inner.InOrder.{transitions_within, InOrder}
use Rattle.moving.proofs.NetInOrder.{net_in_order, transitions_lent}
use Rattle.replay.specs.inner.Fine.{Told}
use Rattle.replay.specs.inner.OnANet.{Holds}

-- What was told of the judgement's answer is told of the counts that it names.
pub told_by : {plan lists index list : List ℕ} {r : Result NetCounts Refusal} {c : NetCounts} → says counts_told r ≡ net_counts plan → ((E : Expr) → accept plan ≡ good E → Drawn r lists index list E) → r ≡ Ok c
    → Told plan lists index list c
told_by {plan} {lists} {index} {list} {r} {c} s drawn e = record { says = sym (ap (says counts_told) e) ∙ s; drawn = λ E a. subst (λ x. Drawn x lists index list E) e (drawn E a) }

module _ {plan lists index whole_list : List ℕ} {s : NetCounts} (t : Told plan lists index whole_list s) where
  -- the net's transitions stand at the front
  abbrev list : List ℕ
  list = take (3 * s.transitions) whole_list

  pub its_net : IsFine plan s lists index list
  its_net = is_fine plan lists index whole_list (Ok s) t.says t.drawn refl

  abbrev N : Net
  N = net_of its_net.expr

  -- What writing the net asks.
  pub room_asked : {rows arcs : List ℕ} → 6 * s.transitions ≤ length rows → s.arcs ≤ length arcs → Asked lists index list s.transitions rows arcs
  room_asked = asked plan s lists index list its_net

  pub work_exits : s.entries + s.internals ≤ s.places
  work_exits = omega (arith, its_net.parts)

  transitions_are : length N.transitions ≡ s.transitions
  transitions_are = sym its_net.its_transitions

  places_are : place_count N ≡ s.places
  unfolding counts_of tables_of
  places_are = ap (λ z. z.places) (sym its_net.told)

  -- The net was written over what stood in the rows and the arcs.
  module _ {rows arcs : List ℕ} (old-rows old-arcs : List ℕ) (rows_long : 6 * s.transitions ≤ length old-rows) (arcs_long : s.arcs ≤ length old-arcs)
      (rows_are : (E : Expr) → Whole lists index list s.transitions E → rows ≡ sets old-rows 0 (rows_of (net_of E)))
      (arcs_are : (E : Expr) → Whole lists index list s.transitions E → arcs ≡ sets old-arcs 0 (arcs_of (net_of E))) where
    -- what lies behind the net's part
    abbrev more_rows : List ℕ
    more_rows = drop (length (rows_of N)) old-rows

    abbrev more_arcs : List ℕ
    more_arcs = drop (length (arcs_of N)) old-arcs

    rows_front : rows_of N ++ more_rows ≡ rows
    rows_front = sym (rows_are its_net.expr its_net.whole
        ∙ in_front (rows_of N) old-rows (omega (arith, rows_long, rows_length plan s lists index list its_net)))

    arcs_front : arcs_of N ++ more_arcs ≡ arcs
    arcs_front = sym (arcs_are its_net.expr its_net.whole ∙ in_front (arcs_of N) old-arcs (omega (arith, arcs_long, its_net.its_arcs)))

    work_is_a_net : is_net (lent_tables N [] more_rows more_arcs) ≡ true
    unfolding check_net
    work_is_a_net = (check_good {A = Unit {0}} (is_net (lent_tables N [] more_rows more_arcs)) no_net 0 (λ u. good tt) tt (ap (λ (a : Answer (Unit {0})). a >>= λ u. good tt) (lent_tables_are_a_net plan its_net.expr its_net.accepts [] more_rows more_arcs))).0

    pub work_in_order : InOrder rows arcs s.transitions s.places
    work_in_order = subst (λ l. InOrder l arcs s.transitions s.places) rows_front (subst (λ l. InOrder (rows_of N ++ more_rows) l s.transitions s.places) arcs_front
        (subst (λ n. InOrder (rows_of N ++ more_rows) (arcs_of N ++ more_arcs) n s.places) transitions_are (subst (λ n. InOrder (rows_of N ++ more_rows) (arcs_of N ++ more_arcs) (length N.transitions) n) places_are
        (net_in_order (kinds_of N ++ []) (rows_of N ++ more_rows) (arcs_of N ++ more_arcs) (place_count N) (length N.transitions) (length (arcs_of N)) work_is_a_net))))

    pub work_holds : Holds rows arcs s.places s.transitions s.entries s.internals N
    unfolding counts_of tables_of
    work_holds = record {
      its_transitions = sym (lent_tables_are_the_net plan its_net.expr its_net.accepts [] more_rows more_arcs) ∙ transitions_lent (lent_tables N [] more_rows more_arcs)
          ∙ (λ i. transitions_within (rows_front i) (arcs_front i) (transitions_are i));
      its_places = places_are;
      its_entries = ap (λ z. z.entries) (sym its_net.told);
      its_internals = ap (λ z. z.internals) (sym its_net.told);
    }
