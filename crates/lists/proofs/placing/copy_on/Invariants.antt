use Rattle.lists.specs.inner.Placing.{CopiedOn}
use Rattle.lists.proofs.placing.copy_on.Given as goal

abbrev pub invariant-loop-k : goal.invariant-loop-k
invariant-loop-k l = CopiedOn l.step l.count l.k l.initial.out l.out
