use Rattle.std.proofs.Common.{◌∙◌, ap, sym}
use Rattle.vpc_laws.specs.Types.{Description}
use Rattle.vpc_model.specs.Lookup.{gateway_of}
use Rattle.fabric.proofs.Entrances.{table-of_gateway}
use Rattle.fabric.proofs.network.Fabric.gateway_table.Goals as goal

pub returns : goal.returns
returns c =
    table-of_gateway c.args.self.now c.args.v c.in_ok-g.g c.outside.result.now.gateways c.gateway_table.result c.outside.ensures.gateways
    (sym (c.in_ok-g.ensures ∙ ap (λ (d : Description). gateway_of d c.args.v) c.network.ensures)) c.gateway_table.ensures
