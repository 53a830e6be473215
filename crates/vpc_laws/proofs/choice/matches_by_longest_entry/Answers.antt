use Rattle.vpc_laws.proofs.Rows.{lists_match_by_longest}
use Rattle.vpc_laws.proofs.choice.matches_by_longest_entry.Goals as goal

pub returns : goal.returns
returns c = lists_match_by_longest
