use Rattle.vpc_laws.proofs.Rows.{unrouted_match_nothing}
use Rattle.vpc_laws.proofs.choice.routes_what_matches.Goals as goal

pub returns : goal.returns
returns c = unrouted_match_nothing
