use Rattle.std.proofs.Common.{◌≡◌, ◌-◌}
use Rattle.net.specs.Tables.{none}
use Rattle.net.proofs.Walks.{ahead, Stands}
use Rattle.step.specs.inner.Naming.{seek, seek_in}
use Rattle.step.proofs.firing.Indexed.find.Given as goal

abbrev pub invariant-loop-t : goal.invariant-loop-t
invariant-loop-t l = record {
  stands : Stands l.self.net.rows.now l.self.net.transitions l.self.index.now.nexts l.fn.item.first l.t;
  rest : seek l.self.net.rows.now l.fn.item.first l.second 0 l.self.net.transitions ≡ seek_in l.self.net.rows.now l.second l.self.net.transitions (ahead l.self.net.rows.now l.self.net.transitions l.fn.item.first l.t);
}

abbrev pub decreases-loop-t : goal.decreases-loop-t
decreases-loop-t l = none - l.t
