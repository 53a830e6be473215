-- Groups asked of images.
use Rattle.std.proofs.Common.{Bool, Contains, IfSome, List, None, Option, Some, [], ap, false, get_or, if◌then◌else◌, is_some, length, nat_lt, refl, slice_index_or, subst, sym, true, ℕ, ◌<◌, ◌||◌, ◌∙◌, ◌∷◌, ◌≡◌}
use Rattle.std.specs.List.{list_any}
use Rattle.vpc_base.proofs.Lemmas.{All-contains, get_or_default, is_some-option_map, member-list_any}
use Rattle.image_tests.specs.Types.{Image, Part, Run}
use Rattle.vpc_laws.specs.Types.{Box5, Dir, EniNo, Header}
use Rattle.box_images.specs.Terms.{Answers, header_at}
use Rattle.image_tests.proofs.Lemmas.{answers_more, answers_same, header_of_rest}
use Rattle.vpc_model.specs.Choice.{or_else}
use Rattle.security_groups.specs.Terms.{DivideAt, DivideGroups, DivideRule, DivideRules, GroupLists, GroupRules, IsAllowedOn, MemberSets, Rule, allowed, allows, any_allows, any_group_allows, first_in_group, first_of, least, lesser, no_rules, rule_at, rules_in, rules_of}

abbrev pub group_test : List (List Run) → MemberSets → List GroupRules → Dir → Image → ℕ → Header → Bool
group_test lists members groups dir i n h = any_allows lists members dir (rules_in groups dir n) (header_at i h)

pub group_of_rest : (lists : List (List Run)) (members : MemberSets) (groups : List GroupRules) (named : List ℕ) (dir : Dir) (i rest : Image) (n : ℕ) (x : Part Bool)
    → Contains named n → rest ≡ record i { part = rest.part }
    → Answers (DivideRules lists members (rules_in groups dir n)) (group_test lists members groups dir rest n) rest.part x
    → Answers (DivideGroups lists members groups dir named) (group_test lists members groups dir i n) rest.part x
group_of_rest lists members groups named dir i rest n x has e k =
    answers_more (DivideRules lists members (rules_in groups dir n)) (DivideGroups lists members groups dir named) (group_test lists members groups dir i n) rest.part x
    (λ cuts all. All-contains (λ m. DivideRules lists members (rules_in groups dir m) cuts) named n all has)
    (answers_same (DivideRules lists members (rules_in groups dir n)) (group_test lists members groups dir rest n) (group_test lists members groups dir i n) rest.part x
    (λ h. ap (λ (g : Header). any_allows lists members dir (rules_in groups dir n) g) (header_of_rest i rest h e)) k)

-- the rules of a described group
pub rules-found : (groups : List GroupRules) (dir : Dir) (n : ℕ) (g : GroupRules) (rules : List Rule) → n < length groups → g ≡ get_or groups n g → rules ≡ rules_of dir g → rules ≡ rules_in groups dir n
rules-found groups dir n g rules below is same = same ∙ ap (rules_of dir) (is ∙ get_or_default groups n g no_rules below)

-- ---- a rule that allows is one of the rules

-- it is asked with the cuts of all
pub one-of-all : (lists : List (List Run)) (members : MemberSets) (dir : Dir) (rules : List Rule) (number : ℕ) (i : Image) (r : Rule) (answer : Option (Part Bool)) → number < length rules → r ≡ rule_at rules number
    → IfSome answer (Answers (DivideRule lists members r) (λ h. allows lists members dir (header_at i h) r) i.part)
    → IfSome answer (Answers (DivideRules lists members rules) (λ h. allows lists members dir (header_at i h) (rule_at rules number)) i.part)
one-of-all lists members dir rules number i r None below is k = k
one-of-all lists members dir rules number i r (Some x) below is k =
    let one : Rule = rule_at rules number in
    answers_more (DivideRule lists members one) (DivideRules lists members rules) (λ h. allows lists members dir (header_at i h) one) i.part x
    (λ cuts all. All-contains (λ m. DivideRule lists members m cuts) rules one all (number, below, get_or_default rules number one _ below))
    (subst (λ (y : Rule). Answers (DivideRule lists members y) (λ h. allows lists members dir (header_at i h) y) i.part x) is k)

pub one-allows : (lists : List (List Run)) (members : MemberSets) (dir : Dir) (rules : List Rule) (number : ℕ) (i : Image) (x : Part Bool) → number < length rules → x.told ≡ true
    → Answers (DivideRules lists members rules) (λ h. allows lists members dir (header_at i h) (rule_at rules number)) i.part x
    → Answers (DivideRules lists members rules) (λ h. any_allows lists members dir rules (header_at i h)) i.part (record { body = x.body; told = true })
one-allows lists members dir rules number i x below passes k = record {
  told = λ h t. sym (member-list_any (allows lists members dir (header_at i h)) rules (rule_at rules number)
      (number, below, get_or_default rules number (rule_at rules number) _ below) (sym (k.told h t) ∙ passes));
  body = k.body;
  aligned = k.aligned;
}

pub one-group-allows : (lists : List (List Run)) (members : MemberSets) (groups : List GroupRules) (named : List ℕ) (dir : Dir) (n : ℕ) (i : Image) (b : Box5) → Contains named n
    → IsAllowedOn lists members dir (rules_in groups dir n) i b
    → Answers (DivideGroups lists members groups dir named) (λ h. any_group_allows lists members groups dir named (header_at i h)) i.part (record { body = b; told = true })
one-group-allows lists members groups named dir n i b has k = record {
  told = λ h t. sym (member-list_any (λ m. any_allows lists members dir (rules_in groups dir m) (header_at i h)) named n has (sym (k.told h t)));
  body = k.body;
  aligned = λ cuts all. k.aligned cuts (All-contains (λ m. DivideRules lists members (rules_in groups dir m) cuts) named n all has);
}

-- ---- the first rule, and whether there is one

is_some-lesser : (a b : Option ℕ) → is_some (lesser a b) ≡ (is_some a || is_some b)
is_some-lesser None b = refl
is_some-lesser (Some m) None = refl
is_some-lesser (Some m) (Some n) = either (nat_lt n m)
  where
    either : (b : Bool) → is_some (if b then Some n else Some m) ≡ true
    either true = refl
    either false = refl

is_some-least : (p : Rule → Bool) (rules : List Rule) → is_some (least p rules) ≡ list_any p rules
is_some-least p [] = refl
is_some-least p (r ∷ rs) =
    is_some-lesser (if p r then Some r.number else None) (least p rs)
    ∙ ap (λ b. b || is_some (least p rs)) (number (p r))
    ∙ ap (λ b. p r || b) (is_some-least p rs)
  where
    number : (b : Bool) → is_some (if b then Some r.number else None) ≡ b
    number true = refl
    number false = refl

is_some-or_else : {X : Type 0} (a b : Option X) → is_some (or_else a b) ≡ (is_some a || is_some b)
is_some-or_else None b = refl
is_some-or_else (Some x) b = refl

pub is_some-first_of : (lists : List (List Run)) (members : MemberSets) (groups : List GroupRules) (dir : Dir) (h : Header) (named : List ℕ)
    → is_some (first_of lists members groups dir h named) ≡ any_group_allows lists members groups dir named h
is_some-first_of lists members groups dir h [] = refl
is_some-first_of lists members groups dir h (n ∷ ns) =
    is_some-or_else (first_in_group lists members groups dir h n) (first_of lists members groups dir h ns)
    ∙ ap (λ b. b || is_some (first_of lists members groups dir h ns))
    (is_some-option_map (λ k. record { group = (slice_index_or groups n no_rules).group; dir = dir; number = k }) (least (allows lists members dir h) (rules_in groups dir n))
    ∙ is_some-least (allows lists members dir h) (rules_in groups dir n))
    ∙ ap (λ b. any_allows lists members dir (rules_in groups dir n) h || b) (is_some-first_of lists members groups dir h ns)

-- the answer for an interface's groups is that of the index
pub index-allows : (lists seen : List (List Run)) (members : MemberSets) (groups known : List GroupRules) (interfaces : List (List ℕ)) (index : GroupLists) (e : EniNo) (dir : Dir) (named : List ℕ) (i : Image) (x : Part Bool)
    → record { lists = lists; members = members; groups = groups; interfaces = interfaces } ≡ index → seen ≡ lists → known ≡ groups → named ≡ slice_index_or interfaces e.0 []
    → Answers (DivideGroups seen members known dir named) (λ h. any_group_allows seen members known dir named (header_at i h)) i.part x
    → Answers (DivideAt index e dir) (λ h. is_some (allowed index e dir (header_at i h))) i.part x
index-allows lists seen members groups known interfaces index e dir named i x is same alike at k =
    let by_lists = subst (λ (ls : List (List Run)). Answers (DivideGroups ls members known dir named) (λ h. any_group_allows ls members known dir named (header_at i h)) i.part x) same k in
    let by_groups = subst (λ (gs : List GroupRules). Answers (DivideGroups lists members gs dir named) (λ h. any_group_allows lists members gs dir named (header_at i h)) i.part x) alike by_lists in
    let by_name = subst (λ (ns : List ℕ). Answers (DivideGroups lists members groups dir ns) (λ h. any_group_allows lists members groups dir ns (header_at i h)) i.part x) at by_groups in
    subst (λ (v : GroupLists). Answers (DivideAt v e dir) (λ h. is_some (allowed v e dir (header_at i h))) i.part x) is
    (answers_same (DivideGroups lists members groups dir (slice_index_or interfaces e.0 [])) (λ h. any_group_allows lists members groups dir (slice_index_or interfaces e.0 []) (header_at i h))
    (λ h. is_some (first_of lists members groups dir (header_at i h) (slice_index_or interfaces e.0 []))) i.part x
    (λ h. sym (is_some-first_of lists members groups dir (header_at i h) (slice_index_or interfaces e.0 []))) by_name)
