-- Members of groups as numbers, and the blocks that are delegated to them.
use Rattle.std.specs.List.{All, filter_map, flat_map, list_any}
use Rattle.std.specs.Prelude.{◌&&◌, ◌<◌, ◌==◌, ◌||◌, ◌≡◌, ◌^◌, [], Bool, List, Option, length, map, option_map, slice_index_or, ℕ}
use Rattle.address_sets.specs.Runs.{is_in}
use Rattle.address_sets.specs.declared.sets.Run.{Run}
use Rattle.prefix_text.specs.Block.{Block, holds}
use Rattle.vpc_model.specs.declared.rows.Description.{Description}
use Rattle.vpc_model.specs.declared.rows.Interface.{Interface}
use Rattle.vpc_model.specs.Lookup.{group_of_id}
use Rattle.number_tables.specs.Keys.{key_of}
use Rattle.security_groups.specs.Once.{once}

-- the members of groups: the keys of groups and addresses, and the addresses of the blocks by the numbers of the groups
pub record MemberSets : Type 0 where
  pub keys : List ℕ
  pub blocks : List (List Run)

-- the number of a described group
abbrev pub number_of : Description → List ℕ → Option ℕ
number_of d id = option_map (λ g. g.0) (group_of_id d id)

-- the groups of an interface
abbrev pub groups_with : Description → Interface → List ℕ
groups_with d e = once (filter_map (number_of d) e.groups)

-- an address as a member of a group
abbrev pub key_with : ℕ → ℕ → ℕ
key_with a g = key_of g a

-- addresses as members of some groups
abbrev pub keys_with : List ℕ → List (ℕ × Option ℕ) → List ℕ
keys_with groups addresses = flat_map (λ x. map (key_with x.0) groups) addresses

-- the members of all groups
abbrev pub all_members : Description → List ℕ
all_members d = flat_map (λ e. keys_with (groups_with d e) e.addresses) d.interfaces

-- addresses have 32 bits
abbrev pub AreFit : List (ℕ × Option ℕ) → Type 0
AreFit addresses = All (λ x. x.0 < 2 ^ 32) addresses

-- the groups of all interfaces
abbrev pub HasGroupsOf : Description → List (List ℕ) → Type 0
HasGroupsOf d interfaces = interfaces ≡ map (groups_with d) d.interfaces

-- the interface has the group, and a block that holds the address is delegated to it (EC2 User Guide, "Prefix delegation")
abbrev pub holds_for : Description → ℕ → ℕ → Interface → Bool
holds_for d g a e = list_any (λ n. n == g) (groups_with d e) && list_any (holds a) e.prefixes

-- the blocks of groups have become more: those of some groups by some more blocks
pub record AreMore (before after : List (List Block)) (groups : List ℕ) (more : List Block) : Type 0 where
  pub long : length after ≡ length before
  pub each : (g a : ℕ) → g < length before
      → list_any (holds a) (slice_index_or after g []) ≡ (list_any (holds a) (slice_index_or before g []) || (list_any (λ n. n == g) groups && list_any (holds a) more))

-- the set has the addresses of the blocks
abbrev pub HasBlocksOf : List Block → List Run → Type 0
HasBlocksOf blocks set = (a : ℕ) → is_in a set ≡ list_any (holds a) blocks

-- the blocks of each described group's interfaces, of which these are some
pub record AreDelegated (d : Description) (rows : List Interface) (blocks : List (List Block)) : Type 0 where
  pub described : length blocks ≡ length d.groups
  pub each : (g a : ℕ) → g < length d.groups → list_any (holds a) (slice_index_or blocks g []) ≡ list_any (holds_for d g a) rows

-- the sets of the members of all groups
pub record HasMembersOf (d : Description) (members : MemberSets) : Type 0 where
  pub keys : (k : ℕ) → list_any (λ n. n == k) members.keys ≡ list_any (λ n. n == k) (all_members d)
  pub fit : All (λ e. AreFit e.addresses) d.interfaces
  pub described : length members.blocks ≡ length d.groups
  pub delegated : (g a : ℕ) → g < length d.groups → is_in a (slice_index_or members.blocks g []) ≡ list_any (holds_for d g a) d.interfaces
