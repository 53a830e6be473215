use Rattle.std.proofs.Common.{subst}
use Rattle.fabric.specs.Indexes.{AreIndexesOf}
use Rattle.fabric.proofs.SiteRows.{access-at, access-within}
use Rattle.fabric.proofs.network.Fabric.access_of.Goals as goal

pub access_of-requires : goal.access_of-requires
access_of-requires c =
    let are : AreIndexesOf c.args.self.now c.self.inside.indexes = subst (λ d. AreIndexesOf d c.self.inside.indexes) c.self.view_is c.self.invariant in
    access-within c.args.self.now c.args.s c.self.inside.indexes.accesses are.accesses c.requires

pub returns : goal.returns
returns c =
    let are : AreIndexesOf c.args.self.now c.self.inside.indexes = subst (λ d. AreIndexesOf d c.self.inside.indexes) c.self.view_is c.self.invariant in
    access-at c.args.self.now c.args.s c.self.inside.indexes.accesses c.access_of.result are.accesses c.requires c.access_of.ensures
