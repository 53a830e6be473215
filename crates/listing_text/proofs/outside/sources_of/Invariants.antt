use Rattle.std.proofs.Common.{◌≡◌}
use Rattle.listing_text.proofs.OutsideLemmas.{sources_below}
use Rattle.listing_text.proofs.outside.sources_of.Given as goal

abbrev pub invariant-loop-number : goal.invariant-loop-number
invariant-loop-number l = l.sources.items ≡ sources_below l.n l.number
