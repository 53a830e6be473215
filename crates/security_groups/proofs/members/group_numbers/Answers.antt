use Rattle.std.proofs.Common.{◌∙◌, ◌++◌, ap, arith}
use Rattle.std.specs.Prelude.{option_to_list}
use Rattle.security_groups.specs.Members.{number_of}
use Rattle.security_groups.proofs.Steps.{filter_map-next}
use Rattle.security_groups.proofs.members.group_numbers.Goals as goal

pub loop-id-preserved : goal.loop-id-preserved
loop-id-preserved c =
    filter_map-next (number_of c.args.n.now) c.args.ids.now c.loop-id.id-index c.id-item.result c.loop-id.numbers.items c.push_some.new.numbers.items (omega arith) c.id-item.is c.loop-id.invariant
    (c.in_ok-push_some.ensures ∙ ap (λ o. c.loop-id.numbers.items ++ option_to_list o) c.number_of.ensures)
