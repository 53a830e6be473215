use Rattle.listing_check.proofs.FirstDue.{held_in_hull}
use Rattle.listing_check.proofs.due.hull_of.Goals as goal

pub hull-requires-clause-whole : goal.hull-requires-clause-whole
hull-requires-clause-whole c = c.requires 0 _ c.in-len1-up.len_at_least

pub returns-in-len1-up-clause-holds : goal.returns-in-len1-up-clause-holds
returns-in-len1-up-clause-holds c = held_in_hull c.args.boxes.now c.hull.result c.hull.ensures.boxes
