use Rattle.std.proofs.Common.{◌∙◌}
use Rattle.nat_gateway.proofs.Values.{search_is_value}
use Rattle.nat_gateway.proofs.table.Table.get.Goals as goal

pub returns : goal.returns
returns g c = rw (← c.self.view_is) (c.copied.ensures ∙ c.get.ensures.value ∙ search_is_value c.self.inside.map.entries c.args.key.now)
