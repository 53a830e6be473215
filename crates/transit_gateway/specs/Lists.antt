-- What contracts see of an index.
use Rattle.std.specs.Prelude.{List, Option, ℕ}
use Rattle.number_tables.specs.declared.tables.Entry.{Entry}
use Rattle.piece_table.specs.Pieces.{PieceLists}
use Rattle.vpc_model.specs.declared.numbers.AttNo.{AttNo}
use Rattle.vpc_model.specs.declared.numbers.SubnetNo.{SubnetNo}
use Rattle.vpc_model.specs.declared.numbers.TgwTableNo.{TgwTableNo}
use Rattle.transit_gateway.specs.declared.sites.Site.{Site}

-- gateways by their ids, attachments by gateway and VPC, the VPC and the zone of each subnet, subnets by
-- attachment and zone, the first subnet and the table of each attachment, the table of the attachment that leads to
-- each network that isn't described, and the pieces of each table
pub record TransitLists : Type 0 where
  pub gateways : List (List ℕ × ℕ)
  pub attachments : List (Entry AttNo)
  pub sites : List Site
  pub subnets : List (Entry SubnetNo)
  pub firsts : List (Option SubnetNo)
  pub tables : List (Option TgwTableNo)
  pub behind : List (Option TgwTableNo)
  pub routes : List PieceLists
