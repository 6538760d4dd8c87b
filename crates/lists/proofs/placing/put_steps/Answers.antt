-- `put_steps` meets its contract: after each turn one more number is written, and the next one is at hand.
-- Assumes nothing.
use native.Mathlib.Omega.{arith}
use native.Mathlib.Nat.{zero-mul, add-mul, one-mul}
use mathlib.Core.Path.{subst, sym}
use Prim.Native.Nat.{◌+◌}
use lib.ListN.{set}
use Rattle.lists.specs.inner.Placing.{Stepped}
use Rattle.lists.proofs.Placings.{steps_none, steps_more}
use Rattle.lists.proofs.placing.put_steps.Goals as goal

pub loop-number-init : goal.loop-number-init
loop-number-init c =
    let a = c.args in
    (omega (arith, c.from-next.ensures), omega (arith, zero-mul a.step, c.from-next.ensures), steps_none a.from a.step a.out.now)

pub overflow_add-next : goal.overflow_add-next
overflow_add-next c = omega arith

pub loop-number-preserved : goal.loop-number-preserved
loop-number-preserved c =
    let a = c.args in
    let l = c.loop-number in
    let e = c.from-next-in-loop-number.ensures in (
      omega arith,
      omega (arith, add-mul l.number-index 1 a.step, one-mul a.step),
      subst (λ x. Stepped a.from a.step (l.number-index + 1) a.out.now (set l.out l.number-index x)) (sym c.short.ensures)
          (steps_more a.out.now l.out a.from a.step l.number-index l.next (omega arith) l.invariant.1 l.invariant.2),
    )

pub returns : goal.returns
returns c =
    let a = c.args in
    let l = c.loop-number in
    subst (λ n. Stepped a.from a.step n a.out.now l.out) (omega arith) l.invariant.2
