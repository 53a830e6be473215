use Rattle.cut_laws.proofs.Places.{addresses_are_standing}
use Rattle.cut_laws.proofs.addresses_are_standing.Goals as goal

pub returns : goal.returns
returns c = addresses_are_standing
