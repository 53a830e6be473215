use Rattle.std.proofs.Common.{subst}
use Rattle.fabric.specs.Indexes.{AreIndexesOf}
use Rattle.fabric.proofs.SiteRows.{subnet-at, subnet-within}
use Rattle.fabric.proofs.network.Fabric.subnet_of.Goals as goal

pub subnet_of-requires : goal.subnet_of-requires
subnet_of-requires c =
    let are : AreIndexesOf c.args.self.now c.self.inside.indexes = subst (λ d. AreIndexesOf d c.self.inside.indexes) c.self.view_is c.self.invariant in
    subnet-within c.args.self.now c.args.i c.self.inside.indexes.subnets are.subnets c.requires

pub returns : goal.returns
returns c =
    let are : AreIndexesOf c.args.self.now c.self.inside.indexes = subst (λ d. AreIndexesOf d c.self.inside.indexes) c.self.view_is c.self.invariant in
    subnet-at c.args.self.now c.args.i c.self.inside.indexes.subnets c.subnet_of.result are.subnets c.requires c.subnet_of.ensures
