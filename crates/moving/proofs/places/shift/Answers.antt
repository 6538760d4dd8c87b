-- `shift`: test and marking of the whole list are those of what is left, and only places of the list are touched.
use Rattle.std.proofs.Common.{sym, ◌∙◌}
use borrow.Author.Tests.{eq-eqb, ne_eqb}
use Rattle.moving.proofs.MoveTurns.{agree_set, count_at, filled_turn, filled_end, shifts_turn, shifts_end}
use Rattle.moving.proofs.places.shift.Goals as goal

pub returns-then-marking-p-clause-value : goal.returns-then-marking-p-clause-value
returns-then-marking-p-clause-value c =
    let l = c.loop-place in let a = c.args in
    sym (l.invariant.test ∙ shifts_turn a.places.now l.place-index _ c.loop-place-test.true c.from-p.ensures a.from a.to l.marking ∙ rw (ne_eqb _ _ c.if-marking-p.true))

pub loop-place-preserved : goal.loop-place-preserved
loop-place-preserved c =
    let l = c.loop-place in
    let a = c.args in
    let here = c.loop-place-test.true in
    record {
      test = l.invariant.test ∙ shifts_turn a.places.now l.place-index _ here c.from-p.ensures a.from a.to l.marking ∙ rw (eq-eqb _ _ c.if-marking-p.false);
      marking = l.invariant.marking ∙ filled_turn a.places.now l.place-index _ here c.from-p.ensures a.to l.marking;
      others = agree_set a.places.now a.marking.now l.marking _ a.to (count_at a.places.now l.place-index _ here c.from-p.ensures) l.invariant.others;
    }

pub returns-clause-value : goal.returns-clause-value
returns-clause-value c =
    let l = c.loop-place in sym (l.invariant.test ∙ shifts_end c.args.places.now l.place-index c.loop-place-test.false c.args.from c.args.to l.marking)

pub returns-clause-marking_after : goal.returns-clause-marking_after
returns-clause-marking_after c =
    let l = c.loop-place in λ _. sym (l.invariant.marking ∙ filled_end c.args.places.now l.place-index c.loop-place-test.false c.args.to l.marking)
