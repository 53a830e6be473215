-- The lines of rules.
use Rattle.std.specs.Prelude.{◌++◌, ◌≡◌, [], if◌then◌else◌, All, List, None, Option, Some, codes, decimal, length, map, slice_get, ℕ}
use Rattle.std.specs.List.{flat_map}
use Rattle.block_report.specs.Hops.{dir_text, rule_name}
use Rattle.block_report.specs.Words.{header_text, word}
use Rattle.command_job.specs.Lines.{line}
use Rattle.query_words.specs.declared.queries.Query.{Query}
use Rattle.vpc_base.specs.declared.headers.Dir.TheVariants as dirs
use Rattle.vpc_laws.specs.Types.{AclRow, Description, Dir, Header, RuleRef}
use Rattle.vpc_model.specs.Lookup.{acl_at, group_at}
use Rattle.unused_rules.specs.Needed.{IsNeed}
use Rattle.unused_rules.specs.Rules.{rules_of}
use Rattle.unused_rules.specs.declared.rules.RuleName.{RuleName}
use Rattle.unused_rules.specs.declared.rules.RuleName.TheVariants as rules

-- ---- names

-- ID in RULE or ID out RULE
abbrev pub name_words : List ℕ → Dir → List ℕ → List ℕ
name_words id dir rule = word id ++ word (dir_text dir) ++ word rule

-- the direction of a row
abbrev pub dir_of : AclRow → Dir
dir_of row = if row.outward then dirs.Outward else dirs.Inward

-- an ACL's row goes by its number, which rows of one direction may share
abbrev pub row_words : List ℕ → Option AclRow → List ℕ
row_words id None = []
row_words id (Some row) = name_words id (dir_of row) (decimal row.number)

-- a group's rule goes by its id or its number, as where a packet passes by it
abbrev pub permission_words : Description → RuleRef → List ℕ
permission_words d r = let g = group_at d r.group in name_words g.id r.dir (rule_name d r)

abbrev pub rule_words : Description → RuleName → List ℕ
rule_words d (rules.Permission r) = permission_words d r
rule_words d (rules.AclRow a k) = let acl = acl_at d a in row_words acl.id (slice_get acl.rows k)

-- ---- lines

-- the request that needs the rule first, or that it is unused
abbrev pub need_words : Option Header → List ℕ
need_words (Some h) = word (codes "needed") ++ word (header_text h)
need_words None = word (codes "unused")

abbrev pub rule_line : Description → RuleName → Option Header → List ℕ
rule_line d rule need = line (codes "rule" ++ rule_words d rule ++ need_words need)

-- ---- rules that were judged

-- a rule with the request that needs it, if one does
pub record Judged : Type 0 where
  pub rule : RuleName
  pub need : Option Header

abbrev pub IsJudged : Description → Query → Judged → Type 0
IsJudged d query j = IsNeed d j.rule query j.need

abbrev pub judged_line : Description → Judged → List ℕ
judged_line d j = rule_line d j.rule j.need

-- a rule was judged, and its line added
pub record AddsLine (d : Description) (query : Query) (rule : RuleName) (old new : List ℕ) : Type 0 where
  pub need : Option Header
  pub is_need : IsNeed d rule query need
  pub text_is : new ≡ old ++ rule_line d rule need

-- rules were judged one by one, each in the whole network, and their lines added
pub record AddsLines (d : Description) (query : Query) (rules : List RuleName) (old new : List ℕ) : Type 0 where
  pub judged : List Judged
  pub of_rules : map (λ j. j.rule) judged ≡ rules
  pub each : All (IsJudged d query) judged
  pub text_is : new ≡ old ++ flat_map (judged_line d) judged

-- ---- the text

abbrev pub count_line : ℕ → List ℕ
count_line n = line (codes "rules" ++ word (decimal n))

-- how many rules there are, and a line for each of them, in their order
abbrev pub IsRulesText : Description → Query → List ℕ → Type 0
IsRulesText d query text = AddsLines d query (rules_of d) (count_line (length (rules_of d))) text
