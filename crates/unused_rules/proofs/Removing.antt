-- A description without one of its rules is accepted where it was.
use Rattle.std.proofs.Common.{refl, ℕ}
use Rattle.vpc_laws.specs.Types.{Acl, Description}
use Rattle.vpc_model.specs.Accepted.{IsAccepted}
use Rattle.vpc_model.specs.Lookup.{acl_at, group_at}
use Rattle.unused_rules.proofs.Accepting.{accepted_with_fewer}
use Rattle.unused_rules.proofs.Alike.{alike_itself, alike_set}
use Rattle.unused_rules.proofs.Chunking.{one-less}
use Rattle.unused_rules.proofs.Fewer.{FewerRows, FewerRules, same-rows, same-rules}
use Rattle.unused_rules.proofs.Parts.{length-part, one-part}
use Rattle.unused_rules.specs.Without.{acls_without, groups_without, without, without_permission, without_row}
use Rattle.unused_rules.specs.declared.rules.RuleName.{RuleName}
use Rattle.unused_rules.specs.declared.rules.RuleName.TheVariants as rules

row-less : (a : Acl) (k : ℕ) → FewerRows a (without_row k a)
row-less a k = record { id = refl; subnets = refl; rows = length-part (one-part a.rows k) }

pub without_is_accepted : (d : Description) (rule : RuleName) → IsAccepted d → IsAccepted (without d rule)
without_is_accepted d (rules.Permission r) accepted =
    accepted_with_fewer d d.acls (groups_without d r) (alike_itself FewerRows same-rows d.acls)
    (alike_set FewerRules same-rules d.groups r.group.0 _ (without_permission r.dir r.number (group_at d r.group)) (one-less (group_at d r.group) r.dir r.number)) accepted
without_is_accepted d (rules.AclRow a k) accepted =
    accepted_with_fewer d (acls_without d a k) d.groups
    (alike_set FewerRows same-rows d.acls a.0 _ (without_row k (acl_at d a)) (row-less (acl_at d a) k))
    (alike_itself FewerRules same-rules d.groups) accepted
