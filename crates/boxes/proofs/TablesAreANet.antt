-- The tables of every accepted plan pass check 30, also where the lent tables are longer, and read back as the plan's net.
-- Reading keeps labels and actions within what the tables can say, 11 to 13 keep the counts, and the box does the rest.
use Prim.Native.Nat.{ℕ}
use native.Mathlib.Omega.{arith}
use mathlib.Core.Path.{◌≡◌, sym, subst}
use mathlib.Core.List.Memᴰ
use mathlib.Core.List.{List, map, Memᴰ}
use lib.ListN.{length}
use lib.Dec.{T, leb, le→leb}
use Rattle.field.specs.Answer.{good}
use Rattle.field.proofs.Answers.{bind_good, good_same}
use Rattle.field.proofs.Tests.{parts_and}
use Rattle.algebra.specs.Expr.{Expr}
use Rattle.plan.specs.Reading.{read_plan}
use Rattle.plan.specs.Loops.{check_loops}
use Rattle.plan.proofs.Exact.{read_within}
use Rattle.plan.proofs.Within.{limits_within}
use Rattle.plan.proofs.Scopes.{named_scopes}
use Rattle.algebra.specs.Net.{Transition, place_count}
use Rattle.net.specs.Tables.{tables_of, transitions_in}
use Rattle.field.specs.Lists.{all}
use Rattle.net.specs.Check.{rising, lists_rise, check_net}
use Rattle.field.proofs.Alls.{all_of}
use Rattle.net.proofs.ReadTables.{lent_tables, lent_read_back}
use Rattle.net.proofs.NetPasses.{Orderly, orderly_passes, lent_passes}
use Rattle.algebra.specs.Places.{places}
use Rattle.algebra.specs.Transitions.{transitions}
use Rattle.algebra.specs.Arcs.{transition_of, net_of}
use Rattle.boxes.specs.Counts.{check_size}
use Rattle.boxes.specs.Compile.{accept}
use Rattle.boxes.proofs.CountsCutOff.{size_accepted, net_places}
use Rattle.boxes.proofs.ArcsRise.{inputs_rise, outputs_rise}
use Rattle.algebra.proofs.EveryStepHasAnInput.{every_box_has_an_entry, every_box_has_an_exit, every_step_has_an_input, every_step_has_an_output}
use Rattle.boxes.proofs.PairsDiffer.{pairs_differ_in}
use Rattle.boxes.proofs.LabelsFit.{codes_fit_in}

-- What was asked of an accepted plan.
pub record Accepted (plan : List ℕ) (E : Expr) : Type 0 where
  pub read : read_plan plan ≡ good E
  pub loops : check_loops E ≡ good tt
  pub size : check_size E ≡ good tt

pub accepted : (plan : List ℕ) (E : Expr) → accept plan ≡ good E → Accepted plan E
unfolding accept
accepted plan E e =
    let a = bind_good (read_plan plan) _ E e in
    let b = bind_good (check_loops a.0) _ E a.2 in
    let c = bind_good (check_size a.0) _ E b.2 in
    let same = good_same a.0 E c.2 in
    record {
      read = subst (λ F. read_plan plan ≡ good F) same a.1;
      loops = subst (λ F. check_loops F ≡ good tt) same b.1;
      size = subst (λ F. check_size F ≡ good tt) same c.1;
    }

lists_rise_in : (E : Expr) → T (all (lists_rise (place_count (net_of E))) (net_of E).transitions)
unfolding net_of lists_rise
lists_rise_in E = all_of (lists_rise (place_count (net_of E))) (map (transition_of (places 0 E)) (transitions 0 E)) each
  where
    below : (l : List ℕ) → T (rising 0 (length (places 0 E)) l) → T (rising 0 (place_count (net_of E)) l)
    below l h = subst (λ n. T (rising 0 n l)) (sym (net_places E)) h

    each : (u : Transition) → Memᴰ u (map (transition_of (places 0 E)) (transitions 0 E)) → T (lists_rise (place_count (net_of E)) u)
    each u m =
        let q = Memᴰ.of_map (transition_of (places 0 E)) (transitions 0 E) m in
        let t = transition_of (places 0 E) q.0 in
        subst (λ v. T (lists_rise (place_count (net_of E)) v)) q.2
        (parts_and (leb 1 (length t.inputs)) _ (le→leb 1 (length t.inputs) (every_step_has_an_input E q.0 q.1))
        (parts_and (rising 0 (place_count (net_of E)) t.inputs) _ (below t.inputs (inputs_rise E q.0))
        (parts_and (leb 1 (length t.outputs)) _ (le→leb 1 (length t.outputs) (every_step_has_an_output E q.0 q.1)) (below t.outputs (outputs_rise E q.0)))))

pub net_orderly : (plan : List ℕ) (E : Expr) → accept plan ≡ good E → Orderly (net_of E)
unfolding net_of
net_orderly plan E e =
    let a = accepted plan E e in
    let w = limits_within E (read_within plan E a.read) in
    let s = size_accepted E a.size in
    record {
      some_entry = every_box_has_an_entry 0 E;
      some_exit = every_box_has_an_exit 0 E;
      few_places = omega (arith, s.0, net_places E);
      few_transitions = s.1;
      few_arcs = s.2;
      lists = lists_rise_in E;
      codes = codes_fit_in E w.labelled w.few;
      pairs = pairs_differ_in E (named_scopes E w.labelled);
    }

pub tables_are_a_net : (plan : List ℕ) (E : Expr) → accept plan ≡ good E → check_net (tables_of (net_of E)) ≡ good tt
tables_are_a_net plan E e = orderly_passes (net_of E) (net_orderly plan E e)

pub lent_tables_are_a_net : (plan : List ℕ) (E : Expr) → accept plan ≡ good E → (kinds rows arcs : List ℕ) → check_net (lent_tables (net_of E) kinds rows arcs) ≡ good tt
lent_tables_are_a_net plan E e = lent_passes (net_of E) (net_orderly plan E e)

pub lent_tables_are_the_net : (plan : List ℕ) (E : Expr) → accept plan ≡ good E → (kinds rows arcs : List ℕ) → transitions_in (lent_tables (net_of E) kinds rows arcs) ≡ (net_of E).transitions
lent_tables_are_the_net plan E e = lent_read_back (net_of E) (net_orderly plan E e).codes
