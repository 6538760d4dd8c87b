-- `wide`: each call has 16 actions fewer to write.
use Rattle.cases.proofs.plans.Plan.+wide.Given as goal

abbrev pub decreases-wide : goal.decreases-wide
decreases-wide l = l.n
