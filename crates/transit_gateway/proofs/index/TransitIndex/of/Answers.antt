use Rattle.std.proofs.Common.{◌≡◌, ◌<◌, ◌^◌, ◌∙◌, List, ap, length, subst, sym}
use Rattle.std.specs.List.{All}
use Rattle.vpc_laws.specs.Types.{Description, TgwTable}
use Rattle.transit_gateway.specs.Index.{AreRouteTables}
use Rattle.transit_gateway.proofs.ByNumber.{short-tables}
use Rattle.transit_gateway.proofs.Crossing.{is_transit_of}
use Rattle.transit_gateway.proofs.index.TransitIndex.of.Goals as goal

pub all_pieces-requires : goal.all_pieces-requires
all_pieces-requires c =
    let is : c.as_slice.result.now ≡ c.args.n.now.tgw_tables = c.as_slice.ensures ∙ ap (λ (d : Description). d.tgw_tables) c.description-d.ensures.value in
    subst (All (λ (t : TgwTable). length t.routes < 2 ^ 32)) (sym is) (short-tables c.args.n.now c.description-d.ensures.accepted)

pub returns : goal.returns
returns c =
    let is : c.as_slice.result.now ≡ c.args.n.now.tgw_tables = c.as_slice.ensures ∙ ap (λ (d : Description). d.tgw_tables) c.description-d.ensures.value in
    is_transit_of c.args.n.now _ c.description-d.ensures.accepted c.in_ok-gateways.ensures.gateways c.in_ok-zones.ensures c.in_ok-associated.ensures.tables c.in_ok-associated.ensures.behind
    (subst (λ (l : List TgwTable). AreRouteTables l c.in_ok-routes.routes.items) is c.in_ok-routes.ensures)
