use Rattle.std.proofs.Common.{◌∙◌, map, sym}
use Rattle.vpc_model.specs.Accepted.{is_main_of}
use Rattle.vpc_model.specs.declared.rows.Vpc.{Vpc}
use Rattle.reference_check.specs.declared.claims.Claim.TheVariants.{Unclaimed}
use Rattle.reference_check.proofs.Firsts.{first-at}
use Rattle.reference_check.proofs.Maps.{missing_row}
use Rattle.reference_check.proofs.subnets.main_of.Goals as goal

pub returns-in-Some : goal.returns-in-Some
returns-in-Some c =
    let number = rw (c.bytes.ensures.value, c.requires.numbered.vpcs) at c.number.ensures.number in
    c.first.ensures
    ∙ first-at is_main_of (map (λ (v : Vpc). v.id) c.args.d.now.vpcs) c.args.subnet.now.vpc c.args.d.now.tables c.in-Some.v Unclaimed c.args.mains.now c.requires.mains (sym number ∙ c.in-Some.is)

pub returns-in-None : goal.returns-in-None
returns-in-None c =
    let number = rw c.bytes.ensures.value at c.number.ensures.number in
    let missing = missing_row (λ (x : Vpc). x.id) c.args.subnet.now.vpc _ c.args.d.now.vpcs c.requires.numbered.vpcs (sym number ∙ c.in-None.is) in
    absurd (cc)
