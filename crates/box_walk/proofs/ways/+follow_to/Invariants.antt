use Rattle.box_walk.proofs.ways.+follow_to.Given as goal

abbrev pub decreases-follow_to : goal.decreases-follow_to
decreases-follow_to g l = l.left
