use Rattle.std.proofs.Common.{◌∙◌, sym}
use Rattle.std.proofs.lemmas.List.{get_or_default}
use Rattle.vpc_model.specs.declared.rows.Subnet.{Subnet}
use Rattle.reference_check.proofs.Maps.{found_row, missing_row}
use Rattle.reference_check.proofs.places.subnet_of.Goals as goal

pub returns : goal.returns
returns c =
    let number = rw c.bytes.ensures.value at c.number.ensures.number in
    let found = found_row (λ (x : Subnet). x.id) c.args.interface.now.subnet _ c.args.d.now.subnets _ c.requires.numbered.subnets (sym number ∙ c.in-Some.is) in
    rw found.number ((rw c.as_slice.ensures at c.index-as_slice-k.is) ∙ get_or_default _ _ _ _ found.within)

pub unreachable-requires : goal.unreachable-requires
unreachable-requires c =
    let number = rw c.bytes.ensures.value at c.number.ensures.number in
    let missing = missing_row (λ (x : Subnet). x.id) c.args.interface.now.subnet _ c.args.d.now.subnets c.requires.numbered.subnets (sym number ∙ c.in-None.is) in
    absurd (cc)
