use Rattle.std.proofs.lemmas.List.Sorted.{IsPermutation-trans}
use Rattle.security_groups.proofs.Joining.{same-if_some}
use Rattle.security_groups.proofs.tables.RuleTable.of.Goals as goal

pub invariant_of-result : goal.invariant_of-result
invariant_of-result c =
    same-if_some c.sort.new.rules.items c.as_slice.result.now c.in_ok-rules.rules c.in_ok-joined.joined c.as_slice.ensures.value c.in_ok-rules.ensures c.in_ok-joined.ensures

pub returns : goal.returns
returns c = IsPermutation-trans c.args.rules.items c.sort.new.rules.items c.in_ok-rules.rules c.sort.ensures c.in_ok-rules.ensures
