use Rattle.end_reach.proofs.LinkLemmas.{links_are_starts}
use Rattle.end_reach.proofs.laws.links_are_starts.Goals as goal

pub returns : goal.returns
returns c = links_are_starts
