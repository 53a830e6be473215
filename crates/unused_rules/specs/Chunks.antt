-- Permissions that are judged together.
use Rattle.std.specs.List.{remove_range}
use Rattle.std.specs.Prelude.{◌+◌, ◌-◌, ◌<◌, ◌≡◌, ◌≤◌, List, None, Option, Some, slice_set, true, ℕ}
use Rattle.copied_rows.specs.Filters.{with_filters}
use Rattle.header_boxes.specs.Boxes.{holds}
use Rattle.query_words.specs.declared.queries.Query.{Query}
use Rattle.vpc_base.specs.declared.headers.Dir.TheVariants as dirs
use Rattle.vpc_laws.specs.Types.{Description, Dir, Group, Header, RuleRef}
use Rattle.vpc_model.specs.Appliances.{appliances_of}
use Rattle.vpc_model.specs.Lookup.{group_at}
use Rattle.vpc_model.specs.Verdict.{verdict_of}
use Rattle.unused_rules.specs.declared.chunks.Chunk.{Chunk}
use Rattle.unused_rules.specs.declared.rules.RuleName.{RuleName}
use Rattle.unused_rules.specs.declared.rules.RuleName.TheVariants as rules

-- ---- a description without a chunk

-- the group without the permissions from one place on, before another
abbrev pub without_permissions : Dir → ℕ → ℕ → Group → Group
without_permissions dirs.Inward from to g = record { id = g.id; vpc = g.vpc; inward = remove_range g.inward from to; outward = g.outward }
without_permissions dirs.Outward from to g = record { id = g.id; vpc = g.vpc; inward = g.inward; outward = remove_range g.outward from to }

-- the groups without the chunk
abbrev pub groups_without_chunk : Description → Chunk → List Group
groups_without_chunk d c = slice_set d.groups c.group.0 (without_permissions c.dir c.from (c.from + c.count) (group_at d c.group))

-- the description without the chunk: its permissions are taken out, and all else is the same
abbrev pub without_chunk : Description → Chunk → Description
without_chunk d c = with_filters d d.acls (groups_without_chunk d c)

-- the chunk of one permission
abbrev pub alone : RuleRef → Chunk
alone r = record { group = r.group; dir = r.dir; from = r.number - 1; count = 1 }

-- ---- what it decides

-- no request of the query has another verdict without the chunk
abbrev pub ChunkDecidesNothing : Description → Chunk → Query → Type 0
ChunkDecidesNothing d c query =
    (h : Header) → holds h query.sides ≡ true
    → verdict_of (without_chunk d c) (appliances_of d) query.start query.goal h ≡ verdict_of d (appliances_of d) query.start query.goal h

-- a chunk, if there is one, decides nothing for the query
abbrev pub IsIdle : Description → Query → Option Chunk → Type 0
IsIdle d query None = Unit {0}
IsIdle d query (Some c) = ChunkDecidesNothing d c query

-- the permission is one of the chunk
pub record IsIn (c : Chunk) (r : RuleRef) : Type 0 where
  pub group : r.group ≡ c.group
  pub dir : r.dir ≡ c.dir
  pub from : c.from ≤ r.number - 1
  pub to : r.number - 1 < c.from + c.count

-- the rule is a permission of the chunk, if there is one
abbrev pub IsOf : Option Chunk → RuleName → Type 0
IsOf (Some c) (rules.Permission r) = IsIn c r
IsOf _ _ = ⊥
