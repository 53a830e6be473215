-- The four sides have the members of what was gathered.
use Rattle.cut_points.proofs.Among.{HasCuts-from_members}
use Rattle.cut_points.proofs.cuts.sorted.Goals as goal

pub returns-clause-members : goal.returns-clause-members
returns-clause-members c = HasCuts-from_members _ _ _ c.gathered.view_is c.ascending.ensures.members c.ascending-2.ensures.members c.ascending-3.ensures.members c.ascending-4.ensures.members
