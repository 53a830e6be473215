use Rattle.std.proofs.Common.{◌∙◌, ap, arith, length}
use Rattle.std.proofs.lemmas.List.{length-map}
use Rattle.vpc_model.specs.declared.rows.PrefixList.{PrefixList}
use Rattle.vpc_laws.proofs.Lengths.{accepted_has_short_lists}
use Rattle.reference_check.proofs.Maps.{position_row}
use Rattle.security_groups.proofs.building.list_no.Goals as goal

pub number-requires : goal.number-requires
number-requires c =
    let long = ap length c.requires ∙ length-map c.args.n.now.lists (λ (l : PrefixList). l.id) in
    let short = (accepted_has_short_lists c.args.n.now c.description.ensures.accepted).lists in
    omega arith

pub returns : goal.returns
returns c = c.number.ensures ∙ position_row (λ (l : PrefixList). l.id) c.args.id.now c.args.lists.now c.args.n.now.lists c.requires
