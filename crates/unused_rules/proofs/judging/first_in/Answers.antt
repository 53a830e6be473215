use Rattle.std.proofs.Common.{IfSome, Option, subst}
use Rattle.header_boxes.specs.Boxes.{IsValid}
use Rattle.vpc_laws.specs.Types.{Box5}
use Rattle.unused_rules.proofs.Concerning.{first_in_none, first_in_some}
use Rattle.unused_rules.proofs.judging.first_in.Goals as goal

pub returns-in-None : goal.returns-in-None
returns-in-None g c = first_in_none _ c.args.part c.in-None.is

pub first_apart-requires : goal.first_apart-requires
first_apart-requires g c = subst (λ (o : Option Box5). IfSome o IsValid) c.in-Some.is c.requires

pub returns-in-Some : goal.returns-in-Some
returns-in-Some g c = first_in_some _ c.args.part c.in-Some.sides c.first_apart.result c.in-Some.is c.first_apart.ensures
