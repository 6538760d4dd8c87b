use Rattle.plan.proofs.exclusive.+judge.Given as goal

abbrev pub decreases-judge : goal.decreases-judge
decreases-judge l = l.high
