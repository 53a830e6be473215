use Rattle.cut_laws.proofs.Places.{near_cuts_are_among_all}
use Rattle.cut_laws.proofs.near_cuts_are_among_all.Goals as goal

pub returns : goal.returns
returns c = near_cuts_are_among_all
