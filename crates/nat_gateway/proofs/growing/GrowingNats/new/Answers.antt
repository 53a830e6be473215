use Rattle.std.proofs.Common.{rules}
use Rattle.nat_gateway.proofs.Additions.{kept_new}
use Rattle.nat_gateway.proofs.growing.GrowingNats.new.Goals as goal

pub invariant_of-result : goal.invariant_of-result
invariant_of-result c = kept_new _ _ _ _ _ (search rules) (search rules) (search rules) (search rules) (search rules)
