-- The four sides have the members of what was gathered.
use Rattle.cut_points.proofs.Among.{HasCuts-from_gathered}
use Rattle.cut_points.proofs.cuts.cuts_of.Goals as goal

pub returns-clause-members : goal.returns-clause-members
returns-clause-members c = HasCuts-from_gathered c.args.d.now _ _ c.in_ok-gathered.ensures c.sorted.ensures.members
