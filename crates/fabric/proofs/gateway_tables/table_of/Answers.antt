use Rattle.std.proofs.Common.{◌∙◌, ap, option_map, ℕ}
use Rattle.vpc_laws.specs.Types.{TableNo}
use Rattle.fabric.proofs.NamedRows.{table-found}
use Rattle.fabric.proofs.gateway_tables.table_of.Goals as goal

abbrev numbered : ℕ → TableNo
numbered k = record { 0 = k }

pub returns-in-Some : goal.returns-in-Some
returns-in-Some c = ap (option_map numbered) (c.in-Some.ensures ∙ table-found c.args.n.now c.args.associated.now c.args.gateway.now c.requires)

pub returns-in-None : goal.returns-in-None
returns-in-None c = ap (option_map numbered) (c.in-None.ensures ∙ table-found c.args.n.now c.args.associated.now c.args.gateway.now c.requires)
