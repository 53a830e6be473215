-- Groups that let in the same in two networks.
use Rattle.std.specs.Prelude.{◌≡◌, ◌<◌, ◌^◌, List, None, Option, Some, is_some, slice_index_or, ℕ}
use Rattle.vpc_base.specs.declared.headers.Dir.TheVariants as dirs
use Rattle.vpc_base.specs.declared.headers.Header.{Header}
use Rattle.vpc_model.specs.declared.numbers.EniNo.{EniNo}
use Rattle.vpc_model.specs.Filter.{far_address}
use Rattle.security_groups.specs.Dividing.{rules_in}
use Rattle.security_groups.specs.Index.{GroupLists, allowed}
use Rattle.security_groups.specs.Joined.{AreAlike}
use Rattle.security_groups.specs.Rules.{any_allows, has_block, has_entry, has_key, has_member, names}
use Rattle.security_groups.specs.declared.rules.Rule.{Rule}

-- what two networks' groups are resolved to
pub record BothGroups : Type 0 where
  pub one : GroupLists
  pub other : GroupLists

-- a prefix list of one network has the addresses of one of the other
abbrev pub IsSameList : GroupLists → GroupLists → ℕ → ℕ → Type 0
IsSameList one other l k = (a : ℕ) → has_entry one.lists a l ≡ has_entry other.lists a k

-- a group of one has the assigned members of one of the other
abbrev pub HasSameKeys : GroupLists → GroupLists → ℕ → ℕ → Type 0
HasSameKeys one other g k = (a : ℕ) → a < 2 ^ 32 → has_key one.members a g ≡ has_key other.members a k

-- and the blocks
abbrev pub HasSameBlocks : GroupLists → GroupLists → ℕ → ℕ → Type 0
HasSameBlocks one other g k = (a : ℕ) → has_block one.members a g ≡ has_block other.members a k

-- a group of one has the members of one of the other
abbrev pub HasSameMembers : GroupLists → GroupLists → ℕ → ℕ → Type 0
HasSameMembers one other g k = (a : ℕ) → a < 2 ^ 32 → has_member one.members a g ≡ has_member other.members a k

-- a rule of one matches what a rule of the other does
pub record MatchesSame (one other : GroupLists) (r s : Rule) : Type 0 where
  pub ports : AreAlike r s
  pub named : (a : ℕ) → a < 2 ^ 32 → names one.lists one.members a r ≡ names other.lists other.members a s

-- a group of one lets in what one of the other does
abbrev pub LetsInSame : GroupLists → GroupLists → ℕ → ℕ → Type 0
LetsInSame one other g k =
    (h : Header) → far_address dirs.Inward h < 2 ^ 32
    → any_allows one.lists one.members dirs.Inward (rules_in one.groups dirs.Inward g) h ≡ any_allows other.lists other.members dirs.Inward (rules_in other.groups dirs.Inward k) h

-- the groups of an interface of one let in what those of an interface of the other do
abbrev pub GroupsLetInSame : BothGroups → EniNo → EniNo → Type 0
GroupsLetInSame both e i =
    (h : Header) → far_address dirs.Inward h < 2 ^ 32 → is_some (allowed both.one e dirs.Inward h) ≡ is_some (allowed both.other i dirs.Inward h)

-- k is the twin of n
abbrev pub IsTwin : List (Option ℕ) → ℕ → ℕ → Type 0
IsTwin twins n k = slice_index_or twins n None ≡ Some k

-- what is a twin is alike
abbrev pub AreTwins : (ℕ → ℕ → Type 0) → List (Option ℕ) → Type 0
AreTwins alike twins = (n k : ℕ) → IsTwin twins n k → alike n k
