-- `put_copies` meets its contract: a single number is copied on by counting from it, any more by reading them back.
-- Assumes nothing.
use native.Mathlib.Omega.{arith}
use mathlib.Core.Path.{refl}
use Rattle.lists.proofs.Placings.{copies_of_steps, steps_in_front}
use Rattle.lists.proofs.placing.put_copies.Goals as goal

pub returns-then-count-eq1 : goal.returns-then-count-eq1
returns-then-count-eq1 c =
    let a = c.args in
    copies_of_steps a.out.now _ _ a.step a.count a.end c.if-count-eq1.true (omega arith) (omega (arith, c.type_inv.out 0)) refl (steps_in_front (omega arith) c.put_steps.ensures)
