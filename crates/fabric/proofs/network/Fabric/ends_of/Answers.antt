use Rattle.std.proofs.Common.{subst}
use Rattle.fabric.specs.Indexes.{AreIndexesOf}
use Rattle.fabric.proofs.SiteRows.{ends-at, peering-within}
use Rattle.fabric.proofs.network.Fabric.ends_of.Goals as goal

pub ends_of-requires : goal.ends_of-requires
ends_of-requires c =
    let are : AreIndexesOf c.args.self.now c.self.inside.indexes = subst (λ d. AreIndexesOf d c.self.inside.indexes) c.self.view_is c.self.invariant in
    peering-within c.args.self.now c.args.x c.self.inside.indexes.ends are.ends c.requires

pub returns : goal.returns
returns c =
    let are : AreIndexesOf c.args.self.now c.self.inside.indexes = subst (λ d. AreIndexesOf d c.self.inside.indexes) c.self.view_is c.self.invariant in
    ends-at c.args.self.now c.args.x c.self.inside.indexes.ends c.ends_of.result are.ends c.requires c.ends_of.ensures
