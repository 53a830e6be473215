use Rattle.std.proofs.Common.{length}
use Rattle.box_survey.proofs.pairs.+first_sharing.Given as goal

abbrev pub decreases-first_sharing : goal.decreases-first_sharing
decreases-first_sharing l = length l.numbers.now
