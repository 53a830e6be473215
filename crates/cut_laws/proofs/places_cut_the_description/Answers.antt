use Rattle.cut_laws.proofs.Places.{places_cut_the_description}
use Rattle.cut_laws.proofs.places_cut_the_description.Goals as goal

pub returns : goal.returns
returns c = places_cut_the_description
