use Rattle.listing_laws.proofs.ReachAnswers.{reach_texts_are_true, reach_texts_fit, reach_texts_pass}
use Rattle.listing_laws.proofs.laws.reach_laws.Goals as goal

pub returns-clause-are_true : goal.returns-clause-are_true
returns-clause-are_true c = reach_texts_are_true

pub returns-clause-fit : goal.returns-clause-fit
returns-clause-fit c = reach_texts_fit

pub returns-clause-pass : goal.returns-clause-pass
returns-clause-pass c = reach_texts_pass
