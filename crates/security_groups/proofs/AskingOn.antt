-- What rules name, asked of images.
use Rattle.std.proofs.Common.{◌≡◌, ◌∙◌, Bool, List, ℕ, ap, false, sym, true}
use Rattle.std.specs.List.{All, Contains}
use Rattle.std.proofs.lemmas.List.Elements.{All-contains}
use Rattle.vpc_base.specs.Cuts.{CutLists}
use Rattle.vpc_base.specs.declared.headers.Dir.{Dir}
use Rattle.vpc_base.specs.declared.headers.Header.{Header}
use Rattle.address_sets.specs.declared.sets.Run.{Run}
use Rattle.header_boxes.specs.Boxes.{holds}
use Rattle.box_images.specs.Answers.{Answers}
use Rattle.box_images.specs.Images.{header_at}
use Rattle.box_images.specs.declared.images.Image.{Image}
use Rattle.box_images.specs.declared.images.Part.{Part}
use Rattle.cut_laws.specs.Dividing.{DivideTurns}
use Rattle.image_tests.proofs.Answering.{answers_more, answers_same}
use Rattle.image_tests.proofs.Trying.{header_of_rest}
use Rattle.security_groups.specs.Dividing.{AllowsNone}
use Rattle.security_groups.specs.Rules.{DivideMember, DivideRule, DivideRules, allows, has_entry}
use Rattle.security_groups.specs.declared.rules.Rule.{Rule}
use Rattle.security_groups.specs.Members.{MemberSets}

-- ---- the tests of a header

abbrev pub rule_test : List (List Run) → MemberSets → Dir → Image → Rule → Header → Bool
rule_test lists members dir i r h = allows lists members dir (header_at i h) r

-- ---- the cuts of all of them

abbrev pub DivideEntries : List (List Run) → List ℕ → CutLists → Type 0
DivideEntries lists named cuts = All (λ l. DivideTurns (λ a. has_entry lists a l) cuts) named

abbrev pub DivideMembers : MemberSets → List ℕ → CutLists → Type 0
DivideMembers members named cuts = All (λ g. DivideMember members g cuts) named

-- ---- one of them, asked of what is left of an image

pub rule_of_rest : (lists : List (List Run)) (members : MemberSets) (rules : List Rule) (dir : Dir) (i rest : Image) (r : Rule) (x : Part Bool) → Contains rules r → rest ≡ record i { part = rest.part }
    → Answers (DivideRule lists members r) (rule_test lists members dir rest r) rest.part x
    → Answers (DivideRules lists members rules) (rule_test lists members dir i r) rest.part x
rule_of_rest lists members rules dir i rest r x has e k =
    answers_more (DivideRule lists members r) (DivideRules lists members rules) (rule_test lists members dir i r) rest.part x
    (λ cuts all. All-contains (λ m. DivideRule lists members m cuts) rules r all has)
    (answers_same (DivideRule lists members r) (rule_test lists members dir rest r) (rule_test lists members dir i r) rest.part x
    (λ h. ap (λ (y : Header). allows lists members dir y r) (header_of_rest i rest h e)) k)

-- a rule that allows none of the headers of what is left
pub none_of_rest : (lists : List (List Run)) (members : MemberSets) (dir : Dir) (i rest : Image) (r : Rule) → rest ≡ record i { part = rest.part } → AllowsNone lists members dir rest r
    → (h : Header) → holds h rest.part ≡ true → rule_test lists members dir i r h ≡ false
none_of_rest lists members dir i rest r e none h t = sym (ap (λ (g : Header). allows lists members dir g r) (header_of_rest i rest h e)) ∙ none h t
