-- `gather` meets its contract. The loop's invariant: what is found and what is to come are the first actions of all with the label.
-- Assumes nothing.
use Rattle.std.proofs.Common.{length, arith, rules, refl, sym, ap, ◌∙◌}
use lib.ListN.{length-set}
use Rattle.transitions.specs.inner.Numbers.{list_numbers}
use Rattle.transitions.proofs.FlatNumbers.{label_of, first_of, whole_part}
use Rattle.transitions.proofs.ScopeTurns.{room_left, one_gathered, none_more_gathered, all_gathered}
use Rattle.transitions.proofs.scope.gather.Goals as goal
use Rattle.transitions.proofs.scope.gather.Goals.{then-from-label+then-count-lt256, else-from-label, else-from-label-via-then-from-label+else-count-lt256, else-from-label-via-else-from-label}

pub loop-transition-init : goal.loop-transition-init
loop-transition-init c =
    (search rules, λ ts e few. record { left = ts; part = whole_part c.args.part.now ts e; numbers = refl; counted = omega arith })

pub loop-transition-preserved : goal.loop-transition-preserved
loop-transition-preserved c =
    let a = c.args in
    let l = c.loop-transition in
    let h = c.loop-transition-test.true in
    let part = list_numbers a.part.now in
    let size = length a.part.now in
    let label = label_of a.part.now l.transition-index _ h ∙ sym c.from.ensures in
    elim c.if-from-label.branch [
      | then-from-label+then-count-lt256 w ↦ (
        omega arith,
        λ ts p few.
            rw w.count-is
            (one_gathered part l.found l.transition-index size a.label l.count h
            (sym (length-set l.found l.count _) ∙ ap length (sym w.found-is) ∙ c.if-from-label.array_long) few
            (label ∙ w.if-from-label.true) (sym (first_of a.part.now l.transition-index _ h)) w.found-is (l.invariant.1 ts p few)),
      )
      | else-from-label w ↦ (
        omega arith,
        λ ts p few.
            rw (w.found-is, w.count-is)
            (none_more_gathered part l.found l.transition-index size a.label l.count h
            (λ e. elim w.else-from-label.branch [
              | else-from-label-via-then-from-label+else-count-lt256 v ↦ omega (arith, room_left part l.found l.transition-index size a.label l.count h e (l.invariant.1 ts p few))
              | else-from-label-via-else-from-label v ↦ v.if-from-label.false (sym label ∙ e)
            ])
            (l.invariant.1 ts p few)),
      )
    ]

pub returns-clause-finds : goal.returns-clause-finds
returns-clause-finds c =
    λ ts p few. all_gathered c.loop-transition-test.false (c.loop-transition.invariant.1 ts p few)
