use Rattle.std.proofs.Common.{length, subst}
use Rattle.std.proofs.lemmas.Bool.{ltb-true}
use Rattle.fabric.specs.Indexes.{AreIndexesOf, IsAclIndex}
use Rattle.fabric.proofs.Numbered.{index-acl, number-within}
use Rattle.fabric.proofs.network.Fabric.acl.Goals as goal

pub acl-requires : goal.acl-requires
acl-requires c =
    let are : AreIndexesOf c.args.self.now c.self.inside.indexes = subst (λ d. AreIndexesOf d c.self.inside.indexes) c.self.view_is c.self.invariant in
    number-within IsAclIndex c.args.self.now.acls c.self.inside.indexes.acls c.args.a.0 are.acls (ltb-true c.args.a.0 (length c.args.self.now.acls) c.requires)

pub returns : goal.returns
returns c =
    let are : AreIndexesOf c.args.self.now c.self.inside.indexes = subst (λ d. AreIndexesOf d c.self.inside.indexes) c.self.view_is c.self.invariant in
    index-acl c.args.self.now c.args.a c.self.inside.indexes.acls c.acl.result.now are.acls c.requires (c.acl.ensures c.acl.result.now)
