use Rattle.box_walk.proofs.seeking.+rest_to.Given as goal

abbrev pub decreases-rest_to : goal.decreases-rest_to
decreases-rest_to g l = l.left
