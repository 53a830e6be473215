use Rattle.cut_laws.proofs.Rows.{places_have_their_cuts}
use Rattle.cut_laws.proofs.places_have_their_cuts.Goals as goal

pub returns : goal.returns
returns c = places_have_their_cuts
