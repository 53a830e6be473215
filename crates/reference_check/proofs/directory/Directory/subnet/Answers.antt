use Rattle.std.proofs.Common.{◌∙◌, sym}
use Rattle.std.proofs.lemmas.List.{get_or_default}
use Rattle.vpc_model.specs.declared.rows.Subnet.{Subnet}
use Rattle.reference_check.proofs.Maps.{found_row, missing_row}
use Rattle.reference_check.proofs.directory.Directory.subnet.Goals as goal

pub returns-in-Some-clause-found : goal.returns-in-Some-clause-found
returns-in-Some-clause-found c =
    let number = rw c.bytes.ensures.value at c.number.ensures.number in
    let found = found_row (λ (x : Subnet). x.id) c.args.id.now _ _ _ c.self.invariant.numbered.networks.subnets (sym number ∙ c.in-Some.is) in
    rw (← c.self.view_is) (sym found.there)

pub returns-in-Some-clause-row : goal.returns-in-Some-clause-row
returns-in-Some-clause-row c =
    let number = rw c.bytes.ensures.value at c.number.ensures.number in
    let found = found_row (λ (x : Subnet). x.id) c.args.id.now _ _ _ c.self.invariant.numbered.networks.subnets (sym number ∙ c.in-Some.is) in
    rw (← c.self.view_is, found.number) ((rw c.as_slice.ensures at c.index-as_slice-k.is) ∙ get_or_default _ _ _ _ found.within)

pub returns-in-None-clause-found : goal.returns-in-None-clause-found
returns-in-None-clause-found c =
    let number = rw c.bytes.ensures.value at c.number.ensures.number in
    rw (← c.self.view_is)
    (sym (missing_row (λ (x : Subnet). x.id) c.args.id.now _ _ c.self.invariant.numbered.networks.subnets (sym number ∙ c.in-None.is)))
