-- `copy_on` meets its contract: the numbers below k are there, and each next one is read as many places before as one copy has numbers.
-- Assumes nothing.
use Prim.Native.Nat.{◌+◌, ◌%◌}
use native.Mathlib.Omega.{arith}
use mathlib.Core.Path.{refl, ap₂, subst, sym, ◌∙◌}
use lib.ListN.{set}
use Rattle.lists.specs.inner.Placing.{CopiedOn}
use Rattle.lists.proofs.Placings.{copies_none, copies_more}
use Rattle.lists.proofs.placing.copy_on.Goals as goal

pub loop-k-init : goal.loop-k-init
loop-k-init c =
    let a = c.args in copies_none a.step a.count a.out.now

pub loop-k-preserved : goal.loop-k-preserved
loop-k-preserved c =
    let a = c.args in
    let l = c.loop-k in
    subst (λ x. CopiedOn a.step a.count (l.k + 1) a.out.now (set l.out l.k x)) (sym (c.short.ensures ∙ ap₂ (λ p s. (p + s) % 65536) c.from.ensures c.from-in-loop-k.ensures))
    (copies_more a.out.now l.out a.step a.count l.k _ (omega arith) (omega arith) (omega arith) refl l.invariant)

pub returns : goal.returns
returns c =
    let a = c.args in
    let l = c.loop-k in
    subst (λ n. CopiedOn a.step a.count n a.out.now l.out) (omega arith) l.invariant
