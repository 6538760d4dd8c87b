-- `join_one` meets its contract. The loop's invariant: what is held and what is to come are all pairs of the action, and what was told last
-- of the parting of actions is true. Assumes nothing.
use Rattle.std.proofs.Common.{arith, rules, refl, sym, subst}
use Rattle.algebra.specs.Transitions.{part_at_parallel}
use Rattle.plan.specs.inner.Numbers.{table_numbers}
use Rattle.transitions.specs.inner.Numbers.{list_numbers}
use Rattle.transitions.specs.inner.Parting.{Parts}
use Rattle.transitions.proofs.FlatNumbers.{transition_stored}
use Rattle.transitions.proofs.JoinTurns.{told, one_joined, none_joined, no_room, all_joined}
use Rattle.transitions.proofs.scope.join_one.Goals as goal
use Rattle.transitions.proofs.scope.join_one.Goals.{then-parting+in_ok-so_far, else-parting}

pub part_at-parting-requires : goal.part_at-parting-requires
part_at-parting-requires c =
    let a = c.args in
    let l = c.loop-j in
    (search rules, search rules, omega (arith, c.type_inv.j), subst (λ i. Parts (table_numbers a.rows.now) a.k i l.parting) (sym c.from.ensures) l.invariant.2)

pub returns-in_err-so_far-clause-lists : goal.returns-in_err-so_far-clause-lists
returns-in_err-so_far-clause-lists c =
    let a = c.args in
    let l = c.loop-j in
    let t = c.part_at-parting.ensures in
    λ nodes f at E w.
    rw c.from_residual.ensures
    (no_room (part_at_parallel f E) (list_numbers a.list.now) (list_numbers l.list) a.others.now a.n l.so_far l.j-index a.i c.loop-j-test.true refl
    (told (part_at_parallel f E) (t.2 c.from-in-loop-j.result t.0 t.1 nodes f at E w) c.from.ensures c.from-in-loop-j.ensures c.if-parting.true) (c.in_err-so_far.ensures.full refl) (l.invariant.3 nodes f at E w))

pub loop-j-preserved : goal.loop-j-preserved
loop-j-preserved c =
    let a = c.args in
    let l = c.loop-j in
    let t = c.part_at-parting.ensures in
    let parts = subst (λ i. Parts (table_numbers a.rows.now) a.k i c.part_at-parting.result) c.from.ensures t.2 in
    elim c.if-parting.branch [
      | then-parting+in_ok-so_far w ↦ let e = w.in_ok-so_far.ensures.added in (
        omega (arith, e),
        omega (arith, e),
        parts,
        λ nodes f at E v.
            rw (w.list-is, w.so_far-is, e.0, e.2)
            (one_joined (part_at_parallel f E) (list_numbers a.list.now) (list_numbers l.list) a.others.now a.n l.so_far l.j-index a.i c.loop-j-test.true refl
            (told (part_at_parallel f E) (t.2 c.from-in-loop-j.result t.0 t.1 nodes f at E v) c.from.ensures c.from-in-loop-j.ensures w.if-parting.true)
            (transition_stored l.list l.so_far _ (omega (arith, l.auto.list, e))) (l.invariant.3 nodes f at E v)),
      )
      | else-parting w ↦ (
        omega arith,
        omega arith,
        parts,
        λ nodes f at E v.
            rw (w.list-is, w.so_far-is)
            (none_joined (part_at_parallel f E) (list_numbers a.list.now) (list_numbers l.list) a.others.now a.n l.so_far l.j-index a.i c.loop-j-test.true refl
            (told (part_at_parallel f E) (t.2 c.from-in-loop-j.result t.0 t.1 nodes f at E v) c.from.ensures c.from-in-loop-j.ensures w.if-parting.false) (l.invariant.3 nodes f at E v)),
      )
    ]

pub returns-clause-lists : goal.returns-clause-lists
returns-clause-lists c =
    let a = c.args in
    let l = c.loop-j in
    λ nodes f at E w. all_joined (part_at_parallel f E) (list_numbers a.list.now) (list_numbers l.list) a.others.now a.n l.so_far l.j-index a.i c.loop-j-test.false (l.invariant.3 nodes f at E w)
