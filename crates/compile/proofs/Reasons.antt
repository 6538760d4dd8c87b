-- Every refusal of a plan, and of the tables lent for it, has one of the code's reasons.
-- True because each test of the definition gives its own.
use Prim.Native.Nat.{ℕ, ◌*◌}
use mathlib.Core.Path.{refl}
use mathlib.Core.Bool.{Bool, true, false, ◌&&◌}
use mathlib.Core.List.{List, [], ◌∷◌}
use lib.ListN.{length}
use lib.Dec.{leb}
use Rattle.field.specs.Limits.{place_limit, transition_limit, arc_limit}
use Rattle.field.specs.Answer.{check}
use Rattle.field.specs.Refusals.{too_many_places, too_many_transitions, too_many_arcs, table_too_short}
use Rattle.field.proofs.Faults.{IsKnown, check_known, bind_known}
use Rattle.algebra.specs.Expr.{Expr}
use Rattle.algebra.specs.Arcs.{net_of}
use Rattle.net.specs.Tables.{Tables, tables_of}
use Rattle.plan.specs.Loops.{faulty_loops, no_fault, check_loops}
use Rattle.plan.specs.Reading.{read_plan}
use Rattle.plan.proofs.Reasons.{plan_known}
use Rattle.boxes.specs.Counts.{places_cut_off, transition_count, arc_count, check_size}
use Rattle.boxes.specs.Compile.{Lent, accept, check_lent, compile_net}

faults_known : (ats : List ℕ) → IsKnown (no_fault ats)
faults_known [] = tt
faults_known (at ∷ ats) = refl

loops_known : (E : Expr) → IsKnown (check_loops E)
unfolding check_loops
loops_known E = faults_known (faulty_loops 0 E)

size_known : (E : Expr) → IsKnown (check_size E)
unfolding check_size
size_known E =
    check_known (leb (places_cut_off E) place_limit) too_many_places 0 _ refl
    (check_known (leb (transition_count E) transition_limit) too_many_transitions 0 _ refl
    (last (leb (arc_count E) arc_limit)))
  where
    last : (b : Bool) → IsKnown (check b too_many_arcs 0)
    last true = tt
    last false = refl

pub accept_known : (plan : List ℕ) → IsKnown (accept plan)
unfolding accept
accept_known plan = bind_known (read_plan plan) _ (plan_known plan) (λ E. bind_known (check_loops E) _ (loops_known E) (λ u. bind_known (check_size E) _ (size_known E) (λ u. tt)))

lent_known : (T : Tables) (old : Lent) → IsKnown (check_lent T old)
unfolding check_lent
lent_known T old = go (leb T.places (length old.kinds) && (leb (6 * T.transitions) (length old.rows) && leb T.arc_count (length old.arcs)))
  where
    go : (b : Bool) → IsKnown (check b table_too_short 0)
    go true = tt
    go false = refl

pub net_known : (plan : List ℕ) (old : Lent) → IsKnown (compile_net plan old)
unfolding compile_net
net_known plan old = bind_known (accept plan) _ (accept_known plan) (λ E. bind_known (check_lent (tables_of (net_of E)) old) _ (lent_known (tables_of (net_of E)) old) (λ u. tt))
