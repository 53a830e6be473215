use Rattle.std.proofs.Common.{subst}
use Rattle.fabric.specs.Indexes.{AreIndexesOf}
use Rattle.fabric.proofs.SiteRows.{vpc-at, vpc-within}
use Rattle.fabric.proofs.network.Fabric.vpc_of.Goals as goal

pub vpc_of-requires : goal.vpc_of-requires
vpc_of-requires c =
    let are : AreIndexesOf c.args.self.now c.self.inside.indexes = subst (λ d. AreIndexesOf d c.self.inside.indexes) c.self.view_is c.self.invariant in
    vpc-within c.args.self.now c.args.s c.self.inside.indexes.vpcs are.vpcs c.requires

pub returns : goal.returns
returns c =
    let are : AreIndexesOf c.args.self.now c.self.inside.indexes = subst (λ d. AreIndexesOf d c.self.inside.indexes) c.self.view_is c.self.invariant in
    vpc-at c.args.self.now c.args.s c.self.inside.indexes.vpcs c.vpc_of.result are.vpcs c.requires c.vpc_of.ensures
