use Rattle.std.proofs.Common.{take}
use Rattle.std.specs.List.{AllZip}
use Rattle.fabric.specs.Indexes.{IsAclIndex}
use Rattle.fabric.proofs.acls.acl_indexes.Given as goal

abbrev pub invariant-loop-k : goal.invariant-loop-k
invariant-loop-k l = AllZip IsAclIndex (take l.k l.n.acls) l.indexes.items
