-- What a chunk that decides nothing says of its rules, and that a description without one is accepted.
use Rattle.std.proofs.Common.{◌≡◌, ◌≤◌, ◌<◌, ◌∙◌, ◌-◌, ◌+◌, None, Option, Some, ap, arith, refl, subst, ℕ}
use Rattle.query_words.specs.declared.queries.Query.{Query}
use Rattle.vpc_base.specs.declared.headers.Dir.TheVariants as dirs
use Rattle.vpc_laws.specs.Types.{Description, Dir, Group, GroupNo, RuleRef}
use Rattle.vpc_model.specs.Accepted.{IsAccepted}
use Rattle.vpc_model.specs.Appliances.{appliances_of}
use Rattle.vpc_model.specs.Lookup.{group_at}
use Rattle.unused_rules.proofs.Accepting.{accepted_with_fewer}
use Rattle.unused_rules.proofs.Alike.{Alike, alike_both_set, alike_itself, alike_set}
use Rattle.unused_rules.proofs.Fewer.{FewerRows, FewerRules, same-rows, same-rules}
use Rattle.unused_rules.proofs.NestedVerdicts.{nested_verdicts}
use Rattle.unused_rules.proofs.Parts.{one-part, part-itself, range-part, range-part_of_one}
use Rattle.unused_rules.specs.Chunks.{ChunkDecidesNothing, IsIdle, IsIn, IsOf, groups_without_chunk, without_chunk, without_permissions}
use Rattle.unused_rules.specs.Needed.{DecidesNothing}
use Rattle.unused_rules.specs.Without.{groups_without, without_permission}
use Rattle.unused_rules.specs.declared.chunks.Chunk.{Chunk}
use Rattle.unused_rules.specs.declared.rules.RuleName.{RuleName}
use Rattle.unused_rules.specs.declared.rules.RuleName.TheVariants as rules

-- ---- fewer permissions

range-less : (g : Group) (dir : Dir) (from to : ℕ) → from ≤ to → FewerRules g (without_permissions dir from to g)
range-less g dirs.Inward from to less =
    record { id = refl; vpc = refl; inward = range-part g.inward from to less; outward = part-itself g.outward }
range-less g dirs.Outward from to less =
    record { id = refl; vpc = refl; inward = part-itself g.inward; outward = range-part g.outward from to less }

pub one-less : (g : Group) (dir : Dir) (number : ℕ) → FewerRules g (without_permission dir number g)
one-less g dirs.Inward number = record { id = refl; vpc = refl; inward = one-part g.inward (number - 1); outward = part-itself g.outward }
one-less g dirs.Outward number = record { id = refl; vpc = refl; inward = part-itself g.inward; outward = one-part g.outward (number - 1) }

-- than without one of them
range-less_than_one : (g : Group) (dir : Dir) (number from to : ℕ) → from ≤ number - 1 → number - 1 < to
    → FewerRules (without_permission dir number g) (without_permissions dir from to g)
range-less_than_one g dirs.Inward number from to first last = record {
  id = refl;
  vpc = refl;
  inward = range-part_of_one g.inward (number - 1) from to first (omega arith);
  outward = part-itself g.outward;
}
range-less_than_one g dirs.Outward number from to first last = record {
  id = refl;
  vpc = refl;
  inward = part-itself g.inward;
  outward = range-part_of_one g.outward (number - 1) from to first (omega arith);
}

chunk-less_than_one : (d : Description) (r : RuleRef) (from count : ℕ) → from ≤ r.number - 1 → r.number - 1 < from + count
    → Alike FewerRules (groups_without d r) (groups_without_chunk d (record { group = r.group; dir = r.dir; from = from; count = count }))
chunk-less_than_one d r from count first last =
    let g = group_at d r.group in
    alike_both_set FewerRules same-rules d.groups r.group.0 (without_permission r.dir r.number g)
    (without_permissions r.dir from (from + count) g)
    (range-less_than_one g r.dir r.number from (from + count) first last)

-- ---- the chunk of a rule

-- a chunk by its group and direction, which are those of a rule in it
chunk-of : (c : Chunk) (r : RuleRef) → IsIn c r → record { group = r.group; dir = r.dir; from = c.from; count = c.count } ≡ c
chunk-of c r is =
    let make : GroupNo → Dir → Chunk = λ g dir. record { group = g; dir = dir; from = c.from; count = c.count } in
    ap (λ (g : GroupNo). make g r.dir) is.group ∙ ap (λ (dir : Dir). make c.group dir) is.dir

pub less_than_one : (d : Description) (c : Chunk) (r : RuleRef) → IsIn c r
    → Alike FewerRules (groups_without d r) (groups_without_chunk d c)
less_than_one d c r is =
    subst (λ (x : Chunk). Alike FewerRules (groups_without d r) (groups_without_chunk d x)) (chunk-of c r is)
    (chunk-less_than_one d r c.from c.count is.from is.to)

pub one_less : (d : Description) (r : RuleRef) → Alike FewerRules d.groups (groups_without d r)
one_less d r =
    let g = group_at d r.group in
    alike_set FewerRules same-rules d.groups r.group.0 _ (without_permission r.dir r.number g) (one-less g r.dir r.number)

-- a chunk that decides nothing has no rule that does
pub chunk_decides : (d : Description) (c : Chunk) (r : RuleRef) (query : Query) → IsIn c r → ChunkDecidesNothing d c query
    → DecidesNothing d (rules.Permission r) query
chunk_decides d c r query is idle h held =
    nested_verdicts d d.groups (groups_without d r) (groups_without_chunk d c) (one_less d r) (less_than_one d c r is) (appliances_of d)
    query.start query.goal h (idle h held)

pub rule_decides : (d : Description) (c : Option Chunk) (rule : RuleName) (query : Query) → IsOf c rule → IsIdle d query c
    → DecidesNothing d rule query
rule_decides d (Some c) (rules.Permission r) query is idle = chunk_decides d c r query is idle
rule_decides d (Some c) (rules.AclRow a k) query is idle = absurd is
rule_decides d None rule query is idle = absurd is

-- ---- acceptance

pub without_chunk_is_accepted : (d : Description) (c : Chunk) → IsAccepted d → IsAccepted (without_chunk d c)
without_chunk_is_accepted d c accepted =
    let g = group_at d c.group in
    accepted_with_fewer d d.acls (groups_without_chunk d c) (alike_itself FewerRows same-rows d.acls)
    (alike_set FewerRules same-rules d.groups c.group.0 _ (without_permissions c.dir c.from (c.from + c.count) g)
    (range-less g c.dir c.from (c.from + c.count) (omega arith))) accepted
