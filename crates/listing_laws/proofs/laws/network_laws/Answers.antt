use Rattle.listing_laws.proofs.ReadNetworks.{bundles_can_be_listed}
use Rattle.listing_laws.proofs.laws.network_laws.Goals as goal

pub returns : goal.returns
returns c = bundles_can_be_listed
