-- `part_from` meets its contract, the node number rising: a turn goes to the operand that holds both actions, or they part here. What holds
-- of j holds of every action that stands in the same operand. Assumes nothing.
use Rattle.std.proofs.Common.{◌≡◌, Bool, Ok, arith, rules, refl, sym, ap, ◌∙◌}
use Rattle.std.specs.Result.{result_eq}
use Rattle.field.specs.declared.Fault.{Fault}
use Rattle.field.specs.contracts.FaultPartialEq.TheImpl as faults
use Rattle.plan.specs.declared.table.Tag.{Tag}
use Rattle.plan.specs.declared.table.Tag.TheVariants.{Action, Sequence, Choice, Parallel, Loop, Scope}
use Rattle.plan.specs.contracts.table.TagPartialEq.TheImpl.{eq-value}
use Rattle.plan.specs.inner.Numbers.{spelt, table_numbers}
use Rattle.transitions.proofs.WhereActionsPart.{is_parallel, part_nowhere, part_inside, part_here}
use Rattle.transitions.proofs.parting.+part_from.Goals as goal

abbrev eq_tags : Tag → Tag → Bool
eq_tags = eq-value.it

abbrev eq_faults : Fault → Fault → Bool
eq_faults = faults.eq-value.it

told_parallel : (g : Tag) → eq_tags g Parallel ≡ is_parallel g
told_parallel Action = refl
told_parallel Sequence = refl
told_parallel Choice = refl
told_parallel Parallel = refl
told_parallel Loop = refl
told_parallel Scope = refl

pub returns-then-next-k : goal.returns-then-next-k
returns-then-next-k t c =
    let a = c.args in
    (search rules, search rules, search rules, λ j lo hi count n at E w. part_nowhere (table_numbers a.rows.now) count a.k n at a.i j E w c.operand_of-next.ensures.operand c.if-next-k.true)

pub returns-then-operand_of-next : goal.returns-then-operand_of-next
returns-then-operand_of-next t c =
    let a = c.args in
    let further = c.part_from in (
      search rules,
      search rules,
      search rules,
      λ j lo hi count n at E w.
          part_inside (table_numbers a.rows.now) count a.k n at a.i j E w c.operand_of-next.ensures.operand c.if-next-k.false
          (c.operand_of.ensures.operand ∙ sym (c.operand_end.ensures.same j (omega arith) (omega arith))) c.if-operand_of-next.true further.result.apart
          (λ count n at D v. further.ensures.3 j lo hi count n at D v),
    )

pub returns : goal.returns
returns t c =
    let a = c.args in (
      search rules,
      search rules,
      search rules,
      λ j lo hi count n at E w.
          part_here (table_numbers a.rows.now) count a.k n at a.i j E w c.operand_of-next.ensures.operand (c.operand_of.ensures.operand ∙ sym (c.operand_end.ensures.same j (omega arith) (omega arith))) c.if-operand_of-next.false c.eq.result
          (λ g e. c.eq.ensures ∙ ap (λ r. result_eq eq_tags eq_faults r (Ok Parallel)) (c.tag.ensures ∙ ap (λ r. spelt r.tag) c.row_at.ensures ∙ e) ∙ told_parallel g),
    )
