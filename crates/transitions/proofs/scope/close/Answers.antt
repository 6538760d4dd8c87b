-- `close` meets its contract: the labelled transitions are gathered, the rest is kept, and the pairs are joined.
-- Assumes nothing.
use Rattle.std.proofs.Common.{take, drop, ◌-◌, arith, ap, ◌∙◌}
use Rattle.std.proofs.lemmas.List.{length-take-le, length-drop}
use Rattle.plan.specs.inner.Numbers.{table_numbers}
use Rattle.transitions.specs.inner.Numbers.{list_numbers}
use Rattle.transitions.proofs.FlatNumbers.{part_cut}
use Rattle.transitions.proofs.ScopeCloses.{kept_in_place, closed}
use Rattle.transitions.proofs.scope.close.Goals as goal

pub returns-then-end-start-clause-lists : goal.returns-then-end-start-clause-lists
returns-then-end-start-clause-lists c =
    λ count i at a E n s f p. absurd (omega (arith, c.if-end-start.true, p.count))

pub returns-clause-lists : goal.returns-clause-lists
returns-clause-lists c =
    let a = c.args in
    let part = take (a.end - a.start) (drop a.start a.list.now) in
    closed (table_numbers a.rows.now) a.k a.start a.end (list_numbers a.list.now) (list_numbers part) c.join.result _ (list_numbers c.join.new.list)
    (c.from-name.ensures ∙ ap (λ r. r.byte) c.row_at.ensures)
    (λ ts p. part_cut a.list.now a.start a.end ts (omega arith) p)
    c.gather-lefts.ensures.finds c.gather-rights.ensures.finds
    (λ ts p. kept_in_place a.list.now c.keep-kept.new.part a.start a.end c.keep-kept.result _ (omega arith) (omega arith) (omega (arith, c.keep-kept.auto.part, length-take-le (a.end - a.start) (drop a.start a.list.now) (simp length-drop (omega arith)))) (omega (arith, c.keep-kept.auto.part)) (c.keep-kept.ensures.keeps ts (part_cut a.list.now a.start a.end ts (omega arith) p)))
    c.join.ensures.lists
