use Rattle.std.proofs.Common.{◌∙◌, sym}
use Rattle.vpc_base.proofs.Options.{option_map-None}
use Rattle.nat_gateway.proofs.book.send.Goals as goal

pub send_unknown-requires-clause-unknown : goal.send_unknown-requires-clause-unknown
send_unknown-requires-clause-unknown g c = option_map-None _ _ (sym c.known-known.ensures.known ∙ c.in-None.is)
