use Rattle.std.proofs.Common.{◌*◌, ◌+◌, ◌∙◌, Some, ap, arith}
use Rattle.made_network.specs.Made.{open_rule, port_rule}
use Rattle.made_network.proofs.Ranges.{map-more}
use Rattle.made_network.proofs.filters.port_rules.Goals as goal

pub loop-hundred-preserved : goal.loop-hundred-preserved
loop-hundred-preserved c =
    let rule = c.in_ok-open_rule.ensures ∙ ap (λ k. open_rule (Some 6) (100 * c.loop-hundred.hundred + k) (100 * c.loop-hundred.hundred + k)) c.from.ensures in
    map-more (port_rule c.args.number) c.loop-hundred.rules.items c.add.new.rows.items 0 c.loop-hundred.hundred c.loop-hundred.hundred c.in_ok-open_rule.field-0 (omega arith) c.loop-hundred.invariant rule c.in_ok-add.ensures
