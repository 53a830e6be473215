use Rattle.std.proofs.Common.{[], slice_index_or, subst}
use Rattle.security_groups.proofs.AlikeLemmas.{groups_let_in_same, twins_are_alike}
use Rattle.security_groups.specs.Alike.{BothGroups, GroupsLetInSame, LetsInSame}
use Rattle.security_groups.proofs.alike.AlikeGroups.let_in_same.Goals as goal

pub returns : goal.returns
returns c same =
    let one = c.self.inside.one.now in
    let other = c.self.inside.other.now in
    let both : BothGroups = record { one = one; other = other } in
    let e = c.args.e in
    let i = c.args.i in
    let alike = twins_are_alike (LetsInSame one other) c.self.inside.twins.items c.as_slice.result.now c.groups_of.result.now c.groups_of-2.result.now
    (slice_index_or one.interfaces e.0 []) (slice_index_or other.interfaces i.0 []) c.self.invariant c.as_slice.ensures.value c.groups_of.ensures c.groups_of-2.ensures (c.are_twins.ensures same) in
    subst (λ (x : BothGroups). GroupsLetInSame x e i) c.self.view_is (groups_let_in_same both e i alike)
