use Rattle.std.proofs.Common.{ap}
use Rattle.vpc_base.specs.declared.headers.Dir.TheVariants as dirs
use Rattle.network_acls.specs.Tried.{rows_tried}
use Rattle.network_acls.proofs.Matching.{decided_on}
use Rattle.network_acls.proofs.index.AclIndex.decide_on.Goals as goal

pub returns-in-Inward : goal.returns-in-Inward
returns-in-Inward c =
    decided_on c.args.dir dirs.Inward c.args.i.now c.first_verdict_on.result c.self.inside.inward.items _ c.args.self.now c.in-Inward.is c.self.invariant.0 c.as_slice.ensures.value
    (ap (rows_tried dirs.Inward) c.self.view_is) c.first_verdict_on.ensures

pub returns-in-Outward : goal.returns-in-Outward
returns-in-Outward c =
    decided_on c.args.dir dirs.Outward c.args.i.now c.first_verdict_on-in-Outward.result c.self.inside.outward.items _ c.args.self.now c.in-Outward.is c.self.invariant.1 c.as_slice-in-Outward.ensures.value
    (ap (rows_tried dirs.Outward) c.self.view_is) c.first_verdict_on-in-Outward.ensures
