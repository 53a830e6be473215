-- The cuts that divide enough for what rules of groups ask.
use Rattle.std.specs.List.{list_any}
use Rattle.std.specs.Prelude.{◌||◌, ◌+◌, ◌<◌, ◌≤◌, [], All, ◌≡◌, Bool, Contains, List, None, Option, Some, false, length, slice_index_or, true, ℕ}
use Rattle.address_sets.specs.declared.sets.Run.{Run}
use Rattle.box_images.specs.Answers.{Answers, Reduces}
use Rattle.box_images.specs.Images.{header_at}
use Rattle.box_images.specs.declared.images.Image.{Image}
use Rattle.header_boxes.specs.Boxes.{holds}
use Rattle.vpc_laws.specs.Types.{Box5, Description, Dir, EniNo, Header}
use Rattle.vpc_base.specs.Cuts.{CutLists}
use Rattle.vpc_model.specs.Cuts.{cuts_at}
use Rattle.vpc_model.specs.Sound.{is_eni}
use Rattle.vpc_model.specs.declared.places.Place.TheVariants as places
use Rattle.security_groups.specs.Asking.{no_rules, rules_of}
use Rattle.security_groups.specs.Rules.{DivideRules, allows, any_allows, has_entry, has_member}
use Rattle.security_groups.specs.Index.{GroupLists}
use Rattle.security_groups.specs.declared.groups.GroupRules.{GroupRules}
use Rattle.security_groups.specs.declared.rules.Rule.{Rule}
use Rattle.security_groups.specs.Members.{MemberSets}

-- a prefix list or a group that the rule names has the address
abbrev pub lists_name : List (List Run) → MemberSets → ℕ → Rule → Bool
lists_name lists members a r = list_any (has_entry lists a) r.lists || list_any (has_member members a) r.groups

-- a test of addresses gives one answer from an address up to the last one, past which the cuts divide
pub record IsStretchOf (enough : CutLists → Type 0) (test : ℕ → Bool) (a : ℕ) (x : ℕ × Bool) : Type 0 where
  pub from : a ≤ x.0
  pub alike : (b : ℕ) → a ≤ b → b ≤ x.0 → test b ≡ x.1
  pub cut : (cuts : CutLists) → enough cuts → x.0 < 4294967295 → Contains cuts.addr (x.0 + 1)

-- the rule of a number, from 0; past the last one, a rule without ports
abbrev pub rule_at : List Rule → ℕ → Rule
rule_at rules k = slice_index_or rules k (record { number = 0; proto = None; q_from = 1; q_to = 0; blocks = []; lists = []; groups = [] })

-- the number of a rule that passes the test, or none where no rule does
abbrev pub FindsOne : (Rule → Bool) → List Rule → Option ℕ → Type 0
FindsOne test rules None = list_any test rules ≡ false
FindsOne test rules (Some k) = (k < length rules) × (test (rule_at rules k) ≡ true)

-- the rule allows none of an image's headers
abbrev pub AllowsNone : List (List Run) → MemberSets → Dir → Image → Rule → Type 0
AllowsNone lists members dir i r = (h : Header) → holds h i.part ≡ true → allows lists members dir (header_at i h) r ≡ false

-- of the headers of a body, an image's are allowed by one of all rules where they are by one of the first ones
abbrev pub IsLeftWith : List (List Run) → MemberSets → Dir → List Rule → List Rule → Image → Box5 → Type 0
IsLeftWith lists members dir rules first i body =
    Reduces (DivideRules lists members rules) (λ h. any_allows lists members dir rules (header_at i h)) (λ h. any_allows lists members dir first (header_at i h)) i.part body

-- one of them allows all headers of a body
abbrev pub IsAllowedOn : List (List Run) → MemberSets → Dir → List Rule → Image → Box5 → Type 0
IsAllowedOn lists members dir rules i body =
    Answers (DivideRules lists members rules) (λ h. any_allows lists members dir rules (header_at i h)) i.part (record { body = body; told = true })

-- the rules of a group by its number
abbrev pub rules_in : List GroupRules → Dir → ℕ → List Rule
rules_in groups dir n = rules_of dir (slice_index_or groups n no_rules)

-- those of some groups' rules
abbrev pub DivideGroups : List (List Run) → MemberSets → List GroupRules → Dir → List ℕ → CutLists → Type 0
DivideGroups lists members groups dir named cuts = All (λ n. DivideRules lists members (rules_in groups dir n) cuts) named

-- a rule of one of some groups allows the packet
abbrev pub any_group_allows : List (List Run) → MemberSets → List GroupRules → Dir → List ℕ → Header → Bool
any_group_allows lists members groups dir named h = list_any (λ n. any_allows lists members dir (rules_in groups dir n) h) named

-- the cuts of an interface's groups, as the index has them
abbrev pub DivideAt : GroupLists → EniNo → Dir → CutLists → Type 0
DivideAt i e dir cuts = DivideGroups i.lists i.members i.groups dir (slice_index_or i.interfaces e.0 []) cuts

-- at each interface the cuts of its place divide enough
abbrev pub HasRuleCuts : Description → GroupLists → Type 0
HasRuleCuts d i = (e : EniNo) (dir : Dir) → is_eni d e ≡ true → DivideAt i e dir (cuts_at d (places.OutOf e))
