use Rattle.lists.proofs.placing.+put_chain.Given as goal

abbrev pub decreases-put_chain : goal.decreases-put_chain
decreases-put_chain l = l.below
