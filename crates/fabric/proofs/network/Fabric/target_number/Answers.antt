use Rattle.std.proofs.Common.{subst}
use Rattle.fabric.specs.Indexes.{AreIndexesOf}
use Rattle.fabric.proofs.TargetRows.{route-within, table-within, target-at}
use Rattle.fabric.proofs.network.Fabric.target_number.Goals as goal

pub target_number-requires-clause-table : goal.target_number-requires-clause-table
target_number-requires-clause-table c =
    let are : AreIndexesOf c.args.self.now c.self.inside.indexes = subst (λ d. AreIndexesOf d c.self.inside.indexes) c.self.view_is c.self.invariant in
    table-within c.args.self.now c.args.t c.args.k c.self.inside.indexes.targets are.targets c.requires

pub target_number-requires-clause-route : goal.target_number-requires-clause-route
target_number-requires-clause-route c =
    let are : AreIndexesOf c.args.self.now c.self.inside.indexes = subst (λ d. AreIndexesOf d c.self.inside.indexes) c.self.view_is c.self.invariant in
    route-within c.args.self.now c.args.t c.args.k c.self.inside.indexes.targets are.targets c.requires

pub returns : goal.returns
returns c =
    let are : AreIndexesOf c.args.self.now c.self.inside.indexes = subst (λ d. AreIndexesOf d c.self.inside.indexes) c.self.view_is c.self.invariant in
    target-at c.args.self.now c.args.t c.args.k c.self.inside.indexes.targets c.target_number.result are.targets c.requires c.target_number.ensures
