-- A law for whoever fires again and again: on the tables of an accepted plan, lent with whatever behind them, and a marking that steps have reached, 30, 35
-- and 36 never come. The tables pass check 30, a reached marking has at most one token at every place, and what does not fire is refused with 31, 32 or 33.
use Prim.Native.Nat.{ℕ, ◌+◌, ◌≤◌}
use native.Mathlib.Omega.{arith}
use mathlib.Core.Path.{◌≡◌, refl, sym, ◌∙◌, ap, ap₂}
use mathlib.Core.Bool.{true}
use mathlib.Core.Logic.{◌⊎◌}
use mathlib.Core.List.{List, [], ◌++◌}
use lib.ListN.{length, take, drop, replicate, length-append, length-drop, length-replicate}
use lib.Seq.{take_at, drop-drop}
use lib.Dec.{T, leb, le→leb}
use contract.Lifetimes.{Lfts}
use borrow.Fn.Kinds.{Dens}
use Rattle.std.specs.Prelude.{Ok}
use Rattle.field.specs.Answer.{good, refused, ◌>>=◌, check}
use Rattle.field.specs.Lists.{all}
use Rattle.field.proofs.Tests.{T_true}
use Rattle.field.proofs.OneResult.{Result, Allowed}
use Rattle.algebra.specs.Expr.{Expr}
use Rattle.algebra.specs.Item.{Item}
use Rattle.algebra.specs.Exclusive.{LoopsExclusive}
use Rattle.algebra.specs.Scopes.{ScopesNamed}
use Rattle.algebra.specs.Net.{Net, place_count}
use Rattle.algebra.specs.Arcs.{net_of}
use Rattle.algebra.specs.Marking.{entry_marking, exits_marked}
use Rattle.algebra.specs.Firing.{fire_items, enabled_from}
use Rattle.algebra.specs.InOrder.{fire_in_order}
use Rattle.algebra.proofs.Marks.{marking_length}
use Rattle.algebra.proofs.Agreement.{one_state, safe_and_clean, next_refused}
use Rattle.plan.proofs.Exact.{read_within}
use Rattle.plan.proofs.Within.{limits_within}
use Rattle.plan.proofs.Scopes.{named_scopes}
use Rattle.plan.proofs.Loops.{loops_exclusive}
use Rattle.net.specs.Tables.{Tables, kinds_of}
use Rattle.net.specs.Lent.{tables_lent}
use Rattle.net.specs.Marking.{check_marking}
use Rattle.net.proofs.ReadTables.{lent_tables}
use Rattle.boxes.specs.Compile.{accept}
use Rattle.boxes.proofs.CountsCutOff.{net_places}
use Rattle.boxes.proofs.TablesAreANet.{accepted, lent_tables_are_a_net, lent_tables_are_the_net}
use Rattle.form.specs.Form.{read_lent_step}
use Rattle.step.specs.Fire.{fire_step}
use Rattle.enabling.specs.Enabled.{list_enabled, exits_hold, Enabled, enabling, enabled}
use Rattle.enabling.specs.declared.Enabling.TheVariants.{Many}
use Rattle.enabling.proofs.enabled.Kinds as call
use Rattle.enabling.proofs.enabled.Reads as reads
use Rattle.enabling.proofs.Determined.{enabling_once}
use Rattle.enabling.proofs.ExitsHold.{others_passed, last_hold}

module _ (plan : List ℕ) (E : Expr) (yes-plan : accept plan ≡ good E) (R : List (List Item)) (m : List ℕ) (reached : fire_in_order (net_of E).transitions (entry_marking (net_of E)) R ≡ good m)
    (kinds rows arcs rest : List ℕ) where
  exclusive : LoopsExclusive E
  exclusive = loops_exclusive E (accepted plan E yes-plan).loops

  scopes : ScopesNamed E
  scopes = named_scopes E (limits_within E (read_within plan E (accepted plan E yes-plan).read)).labelled

  abbrev tables : Tables
  tables = lent_tables (net_of E) kinds rows arcs

  reached_length : length m ≡ place_count (net_of E)
  reached_length =
      let s = one_state E exclusive scopes R m reached in
      sym (ap length (s.marking s.some.0 s.some.1)) ∙ marking_length 0 s.some.0 ∙ sym (net_places E)

  front : take (place_count (net_of E)) (m ++ rest) ≡ m
  front = take_at m rest (place_count (net_of E)) reached_length

  marking_passes : check_marking (place_count (net_of E)) (m ++ rest) ≡ good tt
  unfolding check_marking
  marking_passes =
      let long : place_count (net_of E) ≤ length (m ++ rest) = omega (arith, length-append m rest, reached_length) in
      rw (T_true (leb (place_count (net_of E)) (length (m ++ rest))) (le→leb (place_count (net_of E)) (length (m ++ rest)) long))
      (rw front (rw (T_true (all (λ x. leb x 1) m) (safe_and_clean E exclusive scopes R m reached).safe) refl))

  -- Neither 30 nor 35: the answer is the step's form and the firing of its items on the plan's net.
  pub fires_on_the_net : (s : List ℕ) → fire_step tables (m ++ rest) s ≡ (read_lent_step s >>= fire_items (net_of E).transitions m)
  unfolding fire_step
  fires_on_the_net s =
      rw (lent_tables_are_a_net plan E yes-plan kinds rows arcs)
      (rw marking_passes (rw (front, lent_tables_are_the_net plan E yes-plan kinds rows arcs) refl))

  -- Nor 36.
  pub refused_on_the_net : (S : List Item) (n c : ℕ) → fire_items (net_of E).transitions m S ≡ refused n c → (n ≡ 31) ⊎ ((n ≡ 32) ⊎ (n ≡ 33))
  refused_on_the_net S n c e = (next_refused E exclusive scopes R S m n c reached e).number

  -- Of the enabled list only 14 is left.
  pub enabled_on_the_net : (out : List ℕ) → list_enabled tables (m ++ rest) out
      ≡ (check (leb (length (enabled_from 0 m (net_of E).transitions)) (length out)) 14 0 >>= (λ u. good (enabled_from 0 m (net_of E).transitions)))
  unfolding list_enabled
  enabled_on_the_net out =
      rw (lent_tables_are_a_net plan E yes-plan kinds rows arcs)
      (rw marking_passes (rw (front, lent_tables_are_the_net plan E yes-plan kinds rows arcs) refl))

  -- 02, K2: with every exit marked the kinds of the lent tables say so.
  exits_told : T (exits_marked (net_of E) m) → exits_hold (take (place_count (net_of E)) tables.kinds) (take (place_count (net_of E)) (m ++ rest)) ≡ true
  unfolding exits_marked kinds_of
  exits_told h =
      let N : Net = net_of E in
      let one : List ℕ = replicate N.entries 1 in
      let two : List ℕ = replicate N.internals 2 in
      let three : List ℕ = replicate N.exits 3 in
      let tl : length three ≡ N.exits = length-replicate N.exits 3 in
      let ol : length one ≡ N.entries = length-replicate N.entries 1 in
      let wl : length two ≡ N.internals = length-replicate N.internals 2 in
      let kl : length (two ++ three) ≡ N.internals + N.exits = omega (arith, length-append two three) in
      let long : length (kinds_of N) ≡ place_count N = omega (arith, length-append one (two ++ three)) in
      ap₂ exits_hold (take_at (kinds_of N) kinds (place_count N) long) front
      ∙ others_passed 1 N.entries (two ++ three) m (λ e. omega arith) (omega (arith, kl, reached_length))
      ∙ others_passed 2 N.internals three (drop N.entries m) (λ e. omega arith) (omega (arith, length-drop N.entries m, reached_length))
      ∙ ap (exits_hold three) (drop-drop N.internals N.entries m)
      ∙ last_hold N.exits (drop (N.entries + N.internals) m) (omega (arith, length-drop (N.entries + N.internals) m, reached_length))
      ∙ T_true (all (λ x. leb 1 x) (drop (N.entries + N.internals) m)) h

  -- "in a marking reached in a replay with all exits marked no transition is enabled": the list answers 0, is not stuck, and nothing is written.
  pub finished_not_stuck : T (exits_marked (net_of E) m) → (out : List ℕ) → enabled tables (m ++ rest) out ≡ record { answer = good (enabling 0); list = out }
  unfolding enabled
  finished_not_stuck h out =
      let none : enabled_from 0 m (net_of E).transitions ≡ [] = (safe_and_clean E exclusive scopes R m reached).stuck h in
      let room : leb 0 (length out) ≡ true = T_true (leb 0 (length out)) (le→leb 0 (length out) (omega arith)) in
      rw (exits_told h, enabled_on_the_net out, none, room) refl

  -- The same of the call: any answer and any list at exit that its contract allows, on these tables and this marking.
  module _ (κs : Lfts 4) (a : Dens κs call.ps) (z : Result 4 call.ps call.r κs a) (allowed : Allowed 4 call.ps call.r reads.Post κs a z)
      (its-tables : tables_lent a.0.now ≡ tables) (its-marking : a.1.0.now ≡ m ++ rest) where
    pub call_finished_not_stuck : T (exits_marked (net_of E) m) → (z.0 ≡ Ok (Many 0)) × (z.1.1.1.0 ≡ a.1.1.0.now)
    call_finished_not_stuck h =
        let out = a.1.1.0.now in
        let e : enabled (tables_lent a.0.now) a.1.0.now out ≡ record { answer = good (enabling 0); list = out } =
        ap₂ (λ t l. enabled t l out) its-tables its-marking ∙ finished_not_stuck h out in
        (enabling_once z.0 (Ok (Many 0)) (allowed.0 ∙ ap (λ (r : Enabled). r.answer) e), allowed.1 ∙ ap (λ (r : Enabled). r.list) e)
