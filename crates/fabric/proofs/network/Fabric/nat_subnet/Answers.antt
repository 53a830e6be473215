use Rattle.std.proofs.Common.{subst}
use Rattle.fabric.specs.Indexes.{AreIndexesOf}
use Rattle.fabric.proofs.SiteRows.{nat-lies_in, nat-within}
use Rattle.fabric.proofs.network.Fabric.nat_subnet.Goals as goal

pub nat_subnet-requires : goal.nat_subnet-requires
nat_subnet-requires c =
    let are : AreIndexesOf c.args.self.now c.self.inside.indexes = subst (λ d. AreIndexesOf d c.self.inside.indexes) c.self.view_is c.self.invariant in
    nat-within c.args.self.now c.args.n c.self.inside.indexes.nat_subnets are.nat_subnets c.requires

pub returns : goal.returns
returns c =
    let are : AreIndexesOf c.args.self.now c.self.inside.indexes = subst (λ d. AreIndexesOf d c.self.inside.indexes) c.self.view_is c.self.invariant in
    nat-lies_in c.args.self.now c.args.n c.self.inside.indexes.nat_subnets c.nat_subnet.result are.nat_subnets c.requires c.nat_subnet.ensures
