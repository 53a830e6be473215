use Rattle.listing_text.proofs.OutsideLemmas.{sources_by_id}
use Rattle.listing_text.proofs.outside.sources_by_id.Goals as goal

pub returns : goal.returns
returns c = sources_by_id c.args.n.now c.in_ok-sources.sources.items c.sort_by_id.new.sources.items c.in_ok-sources.ensures c.sort_by_id.ensures.same c.sort_by_id.ensures.sorted
