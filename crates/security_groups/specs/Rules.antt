-- What a rule allows, by what it names, and the cuts that divide enough for it.
use Rattle.std.specs.List.{list_any}
use Rattle.std.specs.Prelude.{◌&&◌, ◌==◌, ◌||◌, [], All, Bool, List, slice_index_or, ℕ}
use Rattle.address_sets.specs.Runs.{is_in}
use Rattle.address_sets.specs.declared.sets.Run.{Run}
use Rattle.cut_laws.specs.Dividing.{CutOut, Divide, DivideTurns}
use Rattle.number_tables.specs.Keys.{key_of}
use Rattle.vpc_base.specs.Cuts.{CutLists}
use Rattle.vpc_base.specs.declared.headers.Dir.{Dir}
use Rattle.vpc_base.specs.declared.headers.Header.{Header}
use Rattle.vpc_model.specs.Cuts.{cuts_of_rule}
use Rattle.vpc_model.specs.Filter.{far_address, is_between, matches_proto}
use Rattle.security_groups.specs.declared.rules.Rule.{Rule}
use Rattle.security_groups.specs.Members.{MemberSets}

-- an entry of the prefix list holds the address
abbrev pub has_entry : List (List Run) → ℕ → ℕ → Bool
has_entry lists a l = is_in a (slice_index_or lists l [])

-- it is assigned to a member of the group
abbrev pub has_key : MemberSets → ℕ → ℕ → Bool
has_key members a g = list_any (λ n. n == key_of g a) members.keys

-- a block that is delegated to a member of the group holds it
abbrev pub has_block : MemberSets → ℕ → ℕ → Bool
has_block members a g = has_entry members.blocks a g

-- a member of the group has it
abbrev pub has_member : MemberSets → ℕ → ℕ → Bool
has_member members a g = has_key members a g || has_block members a g

-- the rule names it
abbrev pub names : List (List Run) → MemberSets → ℕ → Rule → Bool
names lists members a r = is_in a r.blocks || (list_any (has_entry lists a) r.lists || list_any (has_member members a) r.groups)

-- protocol, port range and far address match
abbrev pub allows : List (List Run) → MemberSets → Dir → Header → Rule → Bool
allows lists members dir h r = matches_proto r.proto h.proto && (is_between r.q_from r.q_to h.q && names lists members (far_address dir h) r)

-- one of the rules allows the packet
abbrev pub any_allows : List (List Run) → MemberSets → Dir → List Rule → Header → Bool
any_allows lists members dir rules h = list_any (allows lists members dir h) rules

-- on both sides of each assigned address of a group's members, and where an address comes to be in their blocks or ceases to be
pub record DivideMember (members : MemberSets) (g : ℕ) (cuts : CutLists) : Type 0 where
  pub keys : CutOut (λ a. has_key members a g) cuts
  pub blocks : DivideTurns (λ a. has_block members a g) cuts

-- at the edges of its protocol and ports, and where an address comes to be named or ceases to be
pub record DivideRule (lists : List (List Run)) (members : MemberSets) (r : Rule) (cuts : CutLists) : Type 0 where
  pub rule : Divide (cuts_of_rule r.proto r.q_from r.q_to []) cuts
  pub blocks : DivideTurns (λ a. is_in a r.blocks) cuts
  pub entries : All (λ l. DivideTurns (λ a. has_entry lists a l) cuts) r.lists
  pub groups : All (λ g. DivideMember members g cuts) r.groups

-- those of some rules
abbrev pub DivideRules : List (List Run) → MemberSets → List Rule → CutLists → Type 0
DivideRules lists members rules cuts = All (λ r. DivideRule lists members r cuts) rules
