use Rattle.listing_check.proofs.due.DueGaps.hull.Goals as goal

pub returns-clause-holds : goal.returns-clause-holds
returns-clause-holds g c = λ h due. c.hull_of.ensures.holds h due.0
