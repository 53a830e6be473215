use Rattle.std.proofs.Common.{IfSome, Option, subst, sym}
use Rattle.header_boxes.specs.Boxes.{IsValid}
use Rattle.vpc_laws.specs.Types.{Box5}
use Rattle.unused_rules.proofs.Concerning.{first_of_two, valid_before}
use Rattle.unused_rules.proofs.judging.first_of_parts.Goals as goal

pub first_in-requires-2 : goal.first_in-requires-2
first_in-requires-2 g c =
    subst (λ (o : Option Box5). IfSome o IsValid) (sym c.part_before-rest.ensures) (valid_before c.args.parts.now.answered c.in_ok-one.one c.requires.answered)

pub returns : goal.returns
returns g c =
    first_of_two _ c.args.parts.now c.part_before-rest.result c.in_ok-one.one c.in_ok-other.other c.first_of.result c.part_before-rest.ensures c.in_ok-one.ensures
    c.in_ok-other.ensures c.first_of.ensures
