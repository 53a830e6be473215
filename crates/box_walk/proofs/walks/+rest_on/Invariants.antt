use Rattle.box_walk.proofs.walks.+rest_on.Given as goal

abbrev pub decreases-rest_on : goal.decreases-rest_on
decreases-rest_on g l = l.left
