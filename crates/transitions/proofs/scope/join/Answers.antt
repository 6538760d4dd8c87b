-- `join` meets its contract. The loop's invariant: what is held and what is to come are all pairs.
-- Assumes nothing.
use Rattle.std.proofs.Common.{arith, refl}
use Rattle.algebra.specs.Transitions.{part_at_parallel}
use Rattle.transitions.specs.inner.Numbers.{list_numbers}
use Rattle.transitions.proofs.JoinTurns.{one_more_joined, no_more_room, all_pairs_joined}
use Rattle.transitions.proofs.scope.join.Goals as goal

pub returns-in_err-so_far-clause-lists : goal.returns-in_err-so_far-clause-lists
returns-in_err-so_far-clause-lists c =
    let a = c.args in
    let l = c.loop-i in
    λ nodes f at E w.
    rw c.from_residual.ensures
    (no_more_room (part_at_parallel f E) (list_numbers a.list.now) (list_numbers l.list) a.left.now a.right.now a.n l.so_far l.i-index c.loop-i-test.true refl
    (c.in_err-so_far.ensures.lists nodes f at E w) (l.invariant.2 nodes f at E w))

pub loop-i-preserved : goal.loop-i-preserved
loop-i-preserved c =
    let a = c.args in
    let l = c.loop-i in
    let e = c.in_ok-so_far.ensures in (
      omega (arith, e.fits),
      omega (arith, e.fits),
      λ nodes f at E w.
          one_more_joined (part_at_parallel f E) (list_numbers a.list.now) (list_numbers l.list) a.left.now a.right.now a.n l.so_far l.i-index c.loop-i-test.true refl (e.lists nodes f at E w) (l.invariant.2 nodes f at E w),
    )

pub returns-clause-lists : goal.returns-clause-lists
returns-clause-lists c =
    let a = c.args in
    let l = c.loop-i in
    λ nodes f at E w. all_pairs_joined (part_at_parallel f E) (list_numbers a.list.now) (list_numbers l.list) a.left.now a.right.now a.n l.so_far l.i-index c.loop-i-test.false (l.invariant.2 nodes f at E w)
