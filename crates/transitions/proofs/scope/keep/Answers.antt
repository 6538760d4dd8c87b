-- `keep` meets its contract. The loop's invariant: what is held and what is to come are all that the scope keeps.
-- Assumes nothing.
use Rattle.std.proofs.Common.{◌<◌, length, arith, rules, refl, sym, ◌∙◌}
use Rattle.transitions.specs.inner.Numbers.{list_numbers}
use Rattle.transitions.proofs.FlatNumbers.{label_of, first_of, second_of, whole_part, transition_stored}
use Rattle.transitions.proofs.ScopeTurns.{passes_neither, stops_name, stops_conjugate, one_kept, none_more_kept, all_kept}
use Rattle.transitions.proofs.scope.keep.Goals as goal
use Rattle.transitions.proofs.scope.keep.Goals.{then-label-name+then-label-name-2, else-label-name, else-label-name-via-then-label-name+else-label-name-2, else-label-name-via-else-label-name}

pub loop-t-init : goal.loop-t-init
loop-t-init c =
    (search rules, λ ts e. record { left = ts; part = whole_part c.args.part.now ts e; held = record { count = refl; numbers = refl; long = refl } })

pub loop-t-preserved : goal.loop-t-preserved
loop-t-preserved c =
    let a = c.args in
    let l = c.loop-t in
    let here : l.t < length l.part = omega (arith, l.auto.part) in
    let entry = list_numbers a.part.now in
    let part = list_numbers l.part in
    let label = c.from-label.ensures ∙ sym (label_of l.part l.t _ here) in
    elim c.if-label-name.branch [
      | then-label-name+then-label-name-2 w ↦ (
        omega arith,
        λ ts p.
            rw (w.part-is, w.so_far-is)
            (one_kept entry 0 part l.t (length a.part.now) a.name l.so_far c.loop-t-test.true l.invariant.0
            (transition_stored l.part l.so_far _ (omega arith)) c.from-label.ensures
            (sym (label_of l.part l.t _ here)) (sym (first_of l.part l.t _ here)) (sym (second_of l.part l.t _ here))
            (passes_neither a.name c.from-label.result w.if-label-name.true w.if-label-name-2.true) (l.invariant.1 ts p)),
      )
      | else-label-name w ↦ (
        omega arith,
        λ ts p.
            rw (w.part-is, w.so_far-is)
            (none_more_kept entry 0 part l.t (length a.part.now) a.name l.so_far c.loop-t-test.true label
            (elim w.else-label-name.branch [
              | else-label-name-via-then-label-name+else-label-name-2 v ↦ stops_conjugate a.name c.from-label.result v.if-label-name.true v.if-label-name-2.false
              | else-label-name-via-else-label-name v ↦ stops_name a.name c.from-label.result v.if-label-name.false
            ])
            (l.invariant.1 ts p)),
      )
    ]

pub returns-clause-keeps : goal.returns-clause-keeps
returns-clause-keeps c =
    λ ts p. all_kept c.loop-t-test.false (c.loop-t.invariant.1 ts p)
