-- `replay_put`: what is put into the rows and the arcs is the plan's net, in order, and is replayed.
-- Assumes nothing.
use Prim.Native.Nat.{ℕ, ◌*◌, ◌≤◌}
use native.Mathlib.Omega.{arith}
use mathlib.Core.Path.{sym}
use mathlib.Core.List.{List}
use lib.ListN.{length, take, replicate, length-replicate, length-take}
use lib.Seq.{length-take-le}
use Rattle.algebra.specs.Expr.{Expr}
use Rattle.transitions.specs.declared.Transition.{Transition}
use Rattle.transitions.specs.inner.Numbers.{list_numbers}
use Rattle.transitions.proofs.FlatNumbers.{list_length}
use Rattle.lists.specs.inner.Numbers.{node_table}
use Rattle.spread.specs.inner.Numbers.{told_table}
use Rattle.tables.specs.inner.Rows.{Whole, Asked}
use Rattle.judging.specs.declared.NetCounts.{NetCounts}
use Rattle.judging.proofs.FrontRows.{front_list}
use Rattle.replay.specs.inner.Fine.{Told}
use Rattle.replay.proofs.WorkRoom.{its_net, room_asked, work_exits, work_in_order, work_holds}
use Rattle.replay.proofs.ReplayCall.{plan_made}
use Rattle.replay.proofs.replay_put.Goals as goal

listed : {plan lists index : List ℕ} {c : NetCounts} (list : List Transition) → Told plan lists index (list_numbers list) c → c.transitions ≤ length list
listed {c = c} list t = omega (arith, (its_net t).list_long, length-take (3 * c.transitions) (list_numbers list), list_length list)

-- the net's transitions stand in the list that is put
put : {plan lists index : List ℕ} {c : NetCounts} (list : List Transition) → Told plan lists index (list_numbers list) c → (E : Expr) → Whole lists index (take (3 * c.transitions) (list_numbers list)) c.transitions E
    → Whole lists index (list_numbers (take c.transitions list)) (length (take c.transitions list)) E
put {plan} {lists} {index} {c} list t E w = front_list c.transitions list (listed list t) (λ l n. Whole lists index l n E) w

pub slice_bounds-transitions-end : goal.slice_bounds-transitions-end
slice_bounds-transitions-end g c = sym (length-take-le c.args.counts.transitions c.args.list.now (listed c.args.list.now c.requires.known.told))

pub put_net-requires : goal.put_net-requires
put_net-requires g c =
    let t = c.requires.known.told in
    front_list c.args.counts.transitions c.args.list.now (listed c.args.list.now t)
    (λ l n. Asked (node_table c.args.draft.lists.now) (told_table c.args.draft.index.now) l n (replicate g.row.R 0) (replicate g.row.A 0))
    (room_asked t (omega (arith, length-replicate {A = ℕ} g.row.R 0, c.requires.in_bounds.0)) (omega (arith, length-replicate {A = ℕ} g.row.A 0, c.requires.in_bounds.1)))

pub invariant_of-net : goal.invariant_of-net
invariant_of-net g c =
    let p = c.put_net in
    let t = c.requires.known.told in
    record {
      in_order = work_in_order t (replicate g.row.R 0) (replicate g.row.A 0) (omega (arith, length-replicate {A = ℕ} g.row.R 0, c.requires.in_bounds.0))
          (omega (arith, length-replicate {A = ℕ} g.row.A 0, c.requires.in_bounds.1))
          (λ E w. p.ensures.rows E (put c.args.list.now t E w)) (λ E w. p.ensures.arcs E (put c.args.list.now t E w));
    }

pub replay_net-requires : goal.replay_net-requires
replay_net-requires g c = record { internals_bound = work_exits c.requires.known.told }

pub returns : goal.returns
returns g c =
    λ plan t. let p = c.put_net in
    let q = c.replay_net in
    let w = its_net t in
    plan_made plan c.args.«record».now c.args.marking.now w.expr w.accepts q.result _
    (q.ensures _ (work_holds t (replicate g.row.R 0) (replicate g.row.A 0) (omega (arith, length-replicate {A = ℕ} g.row.R 0, c.requires.in_bounds.0))
    (omega (arith, length-replicate {A = ℕ} g.row.A 0, c.requires.in_bounds.1))
    (λ E w. p.ensures.rows E (put c.args.list.now t E w)) (λ E w. p.ensures.arcs E (put c.args.list.now t E w))))
