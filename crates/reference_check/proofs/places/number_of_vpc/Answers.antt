use Rattle.std.proofs.Common.{◌∙◌, sym}
use Rattle.vpc_model.specs.declared.rows.Vpc.{Vpc}
use Rattle.reference_check.proofs.Maps.{found_row, missing_row}
use Rattle.reference_check.proofs.places.number_of_vpc.Goals as goal

pub returns : goal.returns
returns c =
    let number = rw c.bytes.ensures.value at c.number.ensures.number in
    let found = found_row (λ (x : Vpc). x.id) c.args.vpc.now _ c.args.d.now.vpcs _ c.requires.numbered.vpcs (sym number ∙ c.in-Some.is) in
    sym found.number

pub unreachable-requires : goal.unreachable-requires
unreachable-requires c =
    let number = rw c.bytes.ensures.value at c.number.ensures.number in
    let missing = missing_row (λ (x : Vpc). x.id) c.args.vpc.now _ c.args.d.now.vpcs c.requires.numbered.vpcs (sym number ∙ c.in-None.is) in
    absurd (cc)
