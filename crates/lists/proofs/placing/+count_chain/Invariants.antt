use Rattle.lists.proofs.placing.+count_chain.Given as goal

abbrev pub decreases-count_chain : goal.decreases-count_chain
decreases-count_chain l = l.below
