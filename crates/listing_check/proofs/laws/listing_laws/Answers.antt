use Rattle.listing_check.proofs.Truths.{yes_is_truth}
use Rattle.listing_check.proofs.laws.listing_laws.Goals as goal

pub returns : goal.returns
returns c = yes_is_truth
