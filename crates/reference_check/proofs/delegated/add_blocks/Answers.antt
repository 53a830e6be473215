use Rattle.std.proofs.Common.{◌≡◌, ◌∙◌, List, ap, length, subst, sym, true}
use Rattle.std.proofs.lemmas.List.{nil_from_length}
use Rattle.vpc_model.specs.Lookup.{has_vpc, no_subnet}
use Rattle.vpc_model.specs.declared.rows.Subnet.{Subnet}
use Rattle.prefix_text.specs.Block.{Block}
use Rattle.reference_check.proofs.Delegating.{adds-none}
use Rattle.reference_check.proofs.Described.{vpc-described}
use Rattle.reference_check.proofs.delegated.add_blocks.Goals as goal

pub number_of_vpc-v-requires-clause-described : goal.number_of_vpc-v-requires-clause-described
number_of_vpc-v-requires-clause-described c =
    let P : Subnet → Type 0 = λ s. has_vpc c.args.d.now s.vpc ≡ true in
    subst P (sym c.subnet_of-subnet.ensures) (vpc-described c.args.d.now c.args.interface.now.subnet no_subnet c.requires.complete c.requires.described)

pub returns-then-blocks-eq0 : goal.returns-then-blocks-eq0
returns-then-blocks-eq0 c =
    let blocks = c.args.interface.now.prefixes in
    adds-none c.args.d.now c.args.number c.args.interface.now c.args.runs.now.items
    (nil_from_length blocks (ap (λ (bs : List Block). length bs) (sym c.as_slice-blocks.ensures) ∙ c.if-blocks-eq0.true))
