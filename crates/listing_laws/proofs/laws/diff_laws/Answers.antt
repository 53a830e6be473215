use Rattle.listing_laws.proofs.DiffTruths.{diff_texts_are_true, diff_texts_fit, diff_texts_pass}
use Rattle.listing_laws.proofs.laws.diff_laws.Goals as goal

pub returns-clause-are_true : goal.returns-clause-are_true
returns-clause-are_true c = diff_texts_are_true

pub returns-clause-fit : goal.returns-clause-fit
returns-clause-fit c = diff_texts_fit

pub returns-clause-pass : goal.returns-clause-pass
returns-clause-pass c = diff_texts_pass
