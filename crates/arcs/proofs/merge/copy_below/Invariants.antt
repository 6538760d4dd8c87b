use Rattle.arcs.specs.inner.Merge.{Run}
use Rattle.arcs.proofs.merge.copy_below.Given as goal

abbrev pub invariant-loop-n : goal.invariant-loop-n
invariant-loop-n l = Run l.list l.bound l.initial.out l.n l.out
