-- `merge` meets its contract: the run of stores of the whole union is what is written and the run of the union of what is left,
-- and each turn writes its next numbers.
use Rattle.std.proofs.Common.{arith, ◌≡◌, ap, drop}
use Rattle.arcs.specs.inner.Merge.{union}
use Rattle.arcs.proofs.Merges.{turn_first, turn_second, turn_both, merge_full, left_of_first, left_of_second, rest_copied}
use Rattle.arcs.proofs.merge.merge.Goals as goal
use Rattle.arcs.proofs.merge.merge.Goals.{then-loop-i-test+else-j-second, else-loop-i-test, then-i-first, else-i-first}

pub returns-then-out-n : goal.returns-then-out-n
returns-then-out-n c = record { some = tt; none = merge_full c.loop-i.invariant c.loop-i-test.true c.if-out-n.true }

pub loop-i-preserved-then-x-y : goal.loop-i-preserved-then-x-y
loop-i-preserved-then-x-y c = turn_first c.loop-i.invariant c.copy_below-run.ensures.run c.if-j-second.true

pub loop-i-preserved-then-y-x : goal.loop-i-preserved-then-y-x
loop-i-preserved-then-y-x c = turn_second c.loop-i.invariant c.copy_below-run-then-y-x.ensures.run c.loop-i-test.true

pub loop-i-preserved : goal.loop-i-preserved
loop-i-preserved c =
    turn_both c.loop-i.invariant c.loop-i-test.true c.if-j-second.true c.if-out-n.false c.if-x-y.false c.if-y-x.false

pub returns : goal.returns
returns c =
    let inv = c.loop-i.invariant in
    let left = elim c.if-i-first.branch as (λ _. union (drop c.loop-i.i c.args.first.now) (drop c.loop-i.j c.args.second.now) ≡ c.if-i-first.rest.now) [
      | then-i-first w ↦ left_of_first inv
          (elim c.loop-i-test.branch [ then-loop-i-test+else-j-second v ↦ v.if-j-second.false | else-loop-i-test v ↦ absurd (omega arith) ])
          (ap (λ l. l.now) w.rest-is)
      | else-i-first w ↦ left_of_second inv w.if-i-first.false (ap (λ l. l.now) w.rest-is)
    ] in
    rest_copied inv left c.copy_rest.result c.copy_rest.ensures.some c.copy_rest.ensures.none
