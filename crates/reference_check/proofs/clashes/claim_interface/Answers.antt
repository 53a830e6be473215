use Rattle.std.proofs.Common.{◌≡◌, subst, sym, true}
use Rattle.vpc_model.specs.Lookup.{has_vpc, no_subnet}
use Rattle.vpc_model.specs.declared.rows.Subnet.{Subnet}
use Rattle.reference_check.specs.Claimed.{own_clashes}
use Rattle.reference_check.specs.Told.{Tells}
use Rattle.reference_check.proofs.Described.{vpc-described}
use Rattle.reference_check.proofs.clashes.claim_interface.Goals as goal

pub number_of_vpc-v-requires-clause-described : goal.number_of_vpc-v-requires-clause-described
number_of_vpc-v-requires-clause-described c =
    let P : Subnet → Type 0 = λ s. has_vpc c.args.d.now s.vpc ≡ true in
    subst P (sym c.subnet_of-subnet.ensures) (vpc-described c.args.d.now c.args.interface.now.subnet no_subnet c.requires.complete c.requires.described)

pub claim_own-requires-clause-described : goal.claim_own-requires-clause-described
claim_own-requires-clause-described c =
    let P : Subnet → Type 0 = λ s. has_vpc c.args.d.now s.vpc ≡ true in
    subst P (sym c.subnet_of-subnet.ensures) (vpc-described c.args.d.now c.args.interface.now.subnet no_subnet c.requires.complete c.requires.described)

pub returns-clause-told : goal.returns-clause-told
returns-clause-told c = λ claims are.
    subst (λ (s : Subnet). Tells (own_clashes claims s.vpc c.args.interface.now) c.claim_own.result) c.subnet_of-subnet.ensures (c.claim_own.ensures.told claims are)
