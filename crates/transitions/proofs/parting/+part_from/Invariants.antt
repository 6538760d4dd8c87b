use Prim.Native.Nat.{◌-◌}
use Rattle.transitions.proofs.parting.+part_from.Given as goal

abbrev pub decreases-part_from : goal.decreases-part_from
decreases-part_from l = 65536 - l.k
