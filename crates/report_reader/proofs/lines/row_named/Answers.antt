use Rattle.std.proofs.Common.{Some}
use Rattle.vpc_laws.proofs.Numbering.{named-lies}
use Rattle.report_reader.proofs.lines.row_named.Goals as goal

pub is_gateway-requires : goal.is_gateway-requires
is_gateway-requires c = named-lies c.args.n.now c.args.word.now (Some c.in-Some.eni) c.in-Some.ensures.found c.in-Some.ensures.number

pub returns-else-is_gateway-clause-described : goal.returns-else-is_gateway-clause-described
returns-else-is_gateway-clause-described c = named-lies c.args.n.now c.args.word.now (Some c.in-Some.eni) c.in-Some.ensures.found c.in-Some.ensures.number
