-- One rule in place of several.
use Rattle.std.proofs.Common.{All, Bool, Contains, IfSome, IsPermutation, List, None, Option, Some, [], ap, arith, drop, false, flat_map, get_or, length, not, refl, subst, sym, take, true, ℕ, ◌&&◌, ◌++◌, ◌+◌, ◌-◌, ◌<◌, ◌||◌, ◌∙◌, ◌∷◌, ◌≡◌, ◌≤◌}
use Rattle.std.specs.List.{AllWithin, list_any}
use Rattle.vpc_base.proofs.Lemmas.{All-cons, All-contains, All-head, All-nil, All-permutation, All-push, All-tail, AllWithin-more, IsPermutation-refl, IsPermutation-sym, at_read, flat_map-member, get_or-drop, get_or-take, get_or_default, length-drop, length-take, list_any-IsPermutation, list_any-append, or-false, take_all}
use Rattle.address_sets.specs.Runs.{is_in, is_of}
use Rattle.image_tests.specs.Types.{Image, Part, Run}
use Rattle.box_images.specs.Terms.{Answers, header_at}
use Rattle.cut_laws.specs.Dividing.{Divide, DivideTurns}
use Rattle.vpc_laws.specs.Types.{Box5, Dir, Header}
use Rattle.image_tests.proofs.Answering.{answers_more, answers_same}
use Rattle.vpc_base.specs.Cuts.{CutLists}
use Rattle.vpc_model.specs.Terms.{cuts_of_rule, far_address, is_between, matches_proto}
use Rattle.security_groups.specs.Terms.{AreAlike, DivideMember, DivideRule, DivideRules, IsAllowedOn, IsJoint, MemberSets, Rule, SayTheSame, allows, any_allows, has_entry, has_member, names, once, rule_at}
use Rattle.security_groups.proofs.OnceEach.{list_any-once}
use Rattle.security_groups.proofs.RuleCuts.{all-members, once-member, turns-alike}
use Rattle.security_groups.proofs.Runs.{take-add}

-- ---- what any of some rules names

three : (a b c x y z : Bool) → a ≡ x → b ≡ y → c ≡ z → (a || (b || c)) ≡ (x || (y || z))
three a b c x y z e f g = ap (λ v. v || (b || c)) e ∙ ap (λ v. x || (v || c)) f ∙ ap (λ v. x || (y || v)) g

regroup : (a b c x y z : Bool) → ((a || (b || c)) || (x || (y || z))) ≡ ((a || x) || ((b || y) || (c || z)))
regroup true b c x y z = refl
regroup false true c true y z = refl
regroup false true c false y z = refl
regroup false false true true y z = refl
regroup false false true false true z = refl
regroup false false true false false z = refl
regroup false false false x y z = refl

abbrev all_blocks : List Rule → List Run
all_blocks rules = flat_map (λ r. r.blocks) rules

abbrev all_lists : List Rule → List ℕ
all_lists rules = flat_map (λ r. r.lists) rules

abbrev all_groups : List Rule → List ℕ
all_groups rules = flat_map (λ r. r.groups) rules

is_in-blocks : (a : ℕ) (rules : List Rule) → is_in a (all_blocks rules) ≡ list_any (λ r. is_in a r.blocks) rules
is_in-blocks a [] = refl
is_in-blocks a (r ∷ rs) = list_any-append (is_of a) r.blocks (all_blocks rs) ∙ ap (λ b. is_in a r.blocks || b) (is_in-blocks a rs)

any-names : (lists : List (List Run)) (members : MemberSets) (a : ℕ) (rules : List Rule)
    → list_any (names lists members a) rules ≡ (is_in a (all_blocks rules) || (list_any (has_entry lists a) (all_lists rules) || list_any (has_member members a) (all_groups rules)))
any-names lists members a [] = refl
any-names lists members a (r ∷ rs) =
    ap (λ b. names lists members a r || b) (any-names lists members a rs)
    ∙ regroup (is_in a r.blocks) (list_any (has_entry lists a) r.lists) (list_any (has_member members a) r.groups)
    (is_in a (all_blocks rs)) (list_any (has_entry lists a) (all_lists rs)) (list_any (has_member members a) (all_groups rs))
    ∙ sym
    (three (is_in a (r.blocks ++ all_blocks rs)) (list_any (has_entry lists a) (r.lists ++ all_lists rs)) (list_any (has_member members a) (r.groups ++ all_groups rs))
    (is_in a r.blocks || is_in a (all_blocks rs)) (list_any (has_entry lists a) r.lists || list_any (has_entry lists a) (all_lists rs)) (list_any (has_member members a) r.groups || list_any (has_member members a) (all_groups rs))
    (list_any-append (is_of a) r.blocks (all_blocks rs)) (list_any-append (has_entry lists a) r.lists (all_lists rs)) (list_any-append (has_member members a) r.groups (all_groups rs)))

-- ---- rules that are alike

-- what a rule allows, by the protocol and the ports of one that is alike
abbrev allows_as : List (List Run) → MemberSets → Dir → Header → Rule → Bool → Bool
allows_as lists members dir h first named = matches_proto first.proto h.proto && (is_between first.q_from first.q_to h.q && named)

allows-alike : (lists : List (List Run)) (members : MemberSets) (dir : Dir) (h : Header) (first r : Rule) → AreAlike first r
    → allows lists members dir h r ≡ allows_as lists members dir h first (names lists members (far_address dir h) r)
allows-alike lists members dir h first r alike =
    let named : Bool = names lists members (far_address dir h) r in
    ap (λ p. matches_proto p h.proto && (is_between r.q_from r.q_to h.q && named)) (sym alike.proto)
    ∙ ap (λ n. matches_proto first.proto h.proto && (is_between n r.q_to h.q && named)) (sym alike.from)
    ∙ ap (λ n. matches_proto first.proto h.proto && (is_between first.q_from n h.q && named)) (sym alike.to)

nowhere : (a c : Bool) → (c && (a && false)) ≡ false
nowhere true true = refl
nowhere false true = refl
nowhere true false = refl
nowhere false false = refl

shared : (p q a b : Bool) → ((p && (q && a)) || (p && (q && b))) ≡ (p && (q && (a || b)))
shared true true a b = refl
shared true false a b = refl
shared false q a b = refl

any-alike : (lists : List (List Run)) (members : MemberSets) (dir : Dir) (h : Header) (first : Rule) (rules : List Rule) → All (AreAlike first) rules
    → any_allows lists members dir rules h ≡ allows_as lists members dir h first (list_any (names lists members (far_address dir h)) rules)
any-alike lists members dir h first [] all = sym (nowhere (is_between first.q_from first.q_to h.q) (matches_proto first.proto h.proto))
any-alike lists members dir h first (r ∷ rs) all =
    let named : Bool = names lists members (far_address dir h) r in
    let others : Bool = list_any (names lists members (far_address dir h)) rs in
    ap (λ b. b || any_allows lists members dir rs h) (allows-alike lists members dir h first r (All-head (AreAlike first) r rs all))
    ∙ ap (λ b. allows_as lists members dir h first named || b) (any-alike lists members dir h first rs (All-tail (AreAlike first) r rs all))
    ∙ shared (matches_proto first.proto h.proto) (is_between first.q_from first.q_to h.q) named others

-- ---- the cuts

either-turns : (f g : ℕ → Bool) (cuts : CutLists) → DivideTurns f cuts → DivideTurns g cuts → DivideTurns (λ a. f a || g a) cuts
either-turns f g cuts of_f of_g a fits turn = by (f (a + 1)) (f a) refl refl
  where
    by : (p q : Bool) → f (a + 1) ≡ p → f a ≡ q → Contains cuts.addr (a + 1)
    by true false e k = of_f a fits (e ∙ ap not (sym k))
    by false true e k = of_f a fits (e ∙ ap not (sym k))
    by true true e k = absurd (let t : true ≡ false = sym (ap (λ b. b || g (a + 1)) e) ∙ turn ∙ ap (λ b. not (b || g a)) k in cc)
    by false false e k = of_g a fits (sym (ap (λ b. b || g (a + 1)) e) ∙ turn ∙ ap (λ b. not (b || g a)) k)

any-turns : {X : Type 0} (f : X → ℕ → Bool) (xs : List X) (cuts : CutLists) → All (λ x. DivideTurns (f x) cuts) xs → DivideTurns (λ a. list_any (λ x. f x a) xs) cuts
any-turns {X} f [] cuts all = λ a fits turn. absurd cc
any-turns {X} f (x ∷ xs) cuts all =
    either-turns (f x) (λ a. list_any (λ y. f y a) xs) cuts (All-head (λ y. DivideTurns (f y) cuts) x xs all) (any-turns f xs cuts (All-tail (λ y. DivideTurns (f y) cuts) x xs all))

-- ---- one rule in place of those that are alike

pub joint-rule : (rules : List Rule) (r : Rule) → 0 < length rules → All (AreAlike (rule_at rules 0)) rules → AreAlike (rule_at rules 0) r
    → ((a : ℕ) → is_in a r.blocks ≡ is_in a (flat_map (λ s. s.blocks) rules)) → r.lists ≡ once (flat_map (λ s. s.lists) rules) → r.groups ≡ once (flat_map (λ s. s.groups) rules)
    → IsJoint rules r
joint-rule rules r some alike like blocks named members_of = record { same = same; divide = divide }
  where
    first : Rule
    first = rule_at rules 0

    same : (lists : List (List Run)) (members : MemberSets) (dir : Dir) (h : Header) → allows lists members dir h r ≡ any_allows lists members dir rules h
    same lists members dir h =
        let a : ℕ = far_address dir h in
        allows-alike lists members dir h first r like
        ∙ ap (allows_as lists members dir h first)
        (three (is_in a r.blocks) (list_any (has_entry lists a) r.lists) (list_any (has_member members a) r.groups)
        (is_in a (all_blocks rules)) (list_any (has_entry lists a) (all_lists rules)) (list_any (has_member members a) (all_groups rules))
        (blocks a)
        (ap (list_any (has_entry lists a)) named ∙ list_any-once (has_entry lists a) (all_lists rules))
        (ap (list_any (has_member members a)) members_of ∙ list_any-once (has_member members a) (all_groups rules))
        ∙ sym (any-names lists members a rules))
        ∙ sym (any-alike lists members dir h first rules alike)

    edges : (cuts : CutLists) → Divide (cuts_of_rule first.proto first.q_from first.q_to []) cuts → Divide (cuts_of_rule r.proto r.q_from r.q_to []) cuts
    edges cuts d =
        subst (λ n. Divide (cuts_of_rule r.proto r.q_from n []) cuts) like.to
        (subst (λ n. Divide (cuts_of_rule r.proto n first.q_to []) cuts) like.from
        (subst (λ p. Divide (cuts_of_rule p first.q_from first.q_to []) cuts) like.proto d))

    divide : (lists : List (List Run)) (members : MemberSets) (cuts : CutLists) → DivideRules lists members rules cuts → DivideRule lists members r cuts
    divide lists members cuts all = record {
      rule = edges cuts (all 0 (rule_at [] 0) some).rule;
      blocks = turns-alike (λ a. is_in a r.blocks) (λ a. list_any (λ s. is_in a s.blocks) rules) cuts (λ a. blocks a ∙ is_in-blocks a rules)
          (any-turns (λ s a. is_in a s.blocks) rules cuts (λ k none within. (all k none within).blocks));
      entries = all-members (λ l. DivideTurns (λ a. has_entry lists a l) cuts) r.lists (λ l has. entry l (flat_map-member (λ s. s.lists) rules l (once-member (all_lists rules) l (subst (λ ls. Contains ls l) named has))));
      groups = all-members (λ g. DivideMember members g cuts) r.groups (λ g has. member g (flat_map-member (λ s. s.groups) rules g (once-member (all_groups rules) g (subst (λ ls. Contains ls g) members_of has))));
    }
      where
        entry : (l : ℕ) → (s : Rule) × Contains rules s × Contains s.lists l → DivideTurns (λ a. has_entry lists a l) cuts
        entry l (s, at, has) =
            All-contains (λ m. DivideTurns (λ a. has_entry lists a m) cuts) s.lists l (All-contains (λ t. DivideRule lists members t cuts) rules s all at).entries has

        member : (g : ℕ) → (s : Rule) × Contains rules s × Contains s.groups g → DivideMember members g cuts
        member g (s, at, has) =
            All-contains (λ m. DivideMember members m cuts) s.groups g (All-contains (λ t. DivideRule lists members t cuts) rules s all at).groups has

-- as it is made
pub joint-made : (rules : List Rule) (first : Rule) (runs blocks : List Run) (lists groups : List ℕ) → 0 < length rules → All (AreAlike (rule_at rules 0)) rules → first ≡ get_or rules 0 first
    → ((a : ℕ) → is_in a blocks ≡ is_in a runs) → runs ≡ flat_map (λ s. s.blocks) rules → lists ≡ once (flat_map (λ s. s.lists) rules) → groups ≡ once (flat_map (λ s. s.groups) rules)
    → IsJoint rules (record { number = first.number; proto = first.proto; q_from = first.q_from; q_to = first.q_to; blocks = blocks; lists = lists; groups = groups })
joint-made rules first runs blocks lists groups some alike is of_runs are named members_of =
    let same : rule_at rules 0 ≡ first = sym (is ∙ get_or_default rules 0 first (rule_at [] 0) some) in
    joint-rule rules (record { number = first.number; proto = first.proto; q_from = first.q_from; q_to = first.q_to; blocks = blocks; lists = lists; groups = groups }) some alike
    (record { proto = ap (λ (r : Rule). r.proto) same; from = ap (λ (r : Rule). r.q_from) same; to = ap (λ (r : Rule). r.q_to) same })
    (λ a. of_runs a ∙ ap (is_in a) are) named members_of

-- ---- where those end that are alike

-- the first is alike to itself
pub alike-first : (rules : List Rule) (from : ℕ) → from < length rules → AllWithin (AreAlike (rule_at rules from)) rules from (from + 1)
alike-first rules from within k d low high =
    let here : from ≡ k = omega arith in
    subst (λ n. AreAlike (rule_at rules from) (get_or rules n d)) here
    (subst (AreAlike (rule_at rules from)) (get_or_default rules from (rule_at [] 0) d within) (record { proto = refl; from = refl; to = refl }))

pub alike-next : (rules : List Rule) (from k : ℕ) (first row : Rule) → from < length rules → k < length rules → first ≡ get_or rules from first → row ≡ get_or rules k row → AreAlike first row
    → AllWithin (AreAlike (rule_at rules from)) rules from k → AllWithin (AreAlike (rule_at rules from)) rules from (k + 1)
alike-next rules from k first row begun within is at alike before =
    AllWithin-more (AreAlike (rule_at rules from)) rules from k before
    (at_read rules (AreAlike (rule_at rules from)) k row within at
    (subst (λ (r : Rule). AreAlike r row) (is ∙ get_or_default rules from first (rule_at [] 0) begun) alike))

-- those that are alike, as a list of their own
pub alike-slice : (rules : List Rule) (from end : ℕ) → from < end → end ≤ length rules → AllWithin (AreAlike (rule_at rules from)) rules from end
    → All (AreAlike (rule_at (take (end - from) (drop from rules)) 0)) (take (end - from) (drop from rules))
alike-slice rules from end some within alike k d inside =
    let cut = length-take (end - from) (drop from rules) in
    let left = length-drop from rules in
    let at : (j : ℕ) (e : Rule) → j < end - from → get_or (take (end - from) (drop from rules)) j e ≡ get_or rules (from + j) e =
    λ j e below. get_or-take (end - from) (drop from rules) j e below ∙ get_or-drop from rules j e in
    let begin : from + 0 ≡ from = omega arith in
    let first : rule_at (take (end - from) (drop from rules)) 0 ≡ rule_at rules from = at 0 (rule_at [] 0) (omega arith) ∙ ap (rule_at rules) begin in
    subst (λ r. AreAlike r (get_or (take (end - from) (drop from rules)) k d)) (sym first)
    (subst (AreAlike (rule_at rules from)) (sym (at k d (omega arith))) (alike (from + k) d (omega arith) (omega arith)))

pub slice-some : (rules : List Rule) (from end : ℕ) → from < end → end ≤ length rules → 0 < length (take (end - from) (drop from rules))
slice-some rules from end some within =
    let cut = length-take (end - from) (drop from rules) in
    let left = length-drop from rules in
    omega arith

-- ---- rules that say the same

all-left : (P : Rule → Type 0) (rs ss : List Rule) → All P (rs ++ ss) → All P rs
all-left P [] ss all = All-nil P
all-left P (r ∷ rs) ss all = All-cons P r rs (All-head P r (rs ++ ss) all) (all-left P rs ss (All-tail P r (rs ++ ss) all))

all-right : (P : Rule → Type 0) (rs ss : List Rule) → All P (rs ++ ss) → All P ss
all-right P [] ss all = all
all-right P (r ∷ rs) ss all = all-right P rs ss (All-tail P r (rs ++ ss) all)

pub same-none : (rules : List Rule) → SayTheSame (take 0 rules) []
same-none rules = record { same = λ lists members dir h. refl; divide = λ lists members cuts all. All-nil (λ r. DivideRule lists members r cuts) }

same-next : (rules others alike : List Rule) (one : Rule) → SayTheSame rules others → IsJoint alike one → SayTheSame (rules ++ alike) (others ++ one ∷ [])
same-next rules others alike one so_far joint = record { same = same; divide = divide }
  where
    same : (lists : List (List Run)) (members : MemberSets) (dir : Dir) (h : Header) → any_allows lists members dir (others ++ one ∷ []) h ≡ any_allows lists members dir (rules ++ alike) h
    same lists members dir h =
        list_any-append (allows lists members dir h) others (one ∷ [])
        ∙ ap (λ b. any_allows lists members dir others h || b) (or-false (allows lists members dir h one) ∙ joint.same lists members dir h)
        ∙ ap (λ b. b || any_allows lists members dir alike h) (so_far.same lists members dir h)
        ∙ sym (list_any-append (allows lists members dir h) rules alike)

    divide : (lists : List (List Run)) (members : MemberSets) (cuts : CutLists) → DivideRules lists members (rules ++ alike) cuts → DivideRules lists members (others ++ one ∷ []) cuts
    divide lists members cuts all =
        let enough : Rule → Type 0 = λ r. DivideRule lists members r cuts in
        All-push enough others one (so_far.divide lists members cuts (all-left enough rules alike all)) (joint.divide lists members cuts (all-right enough rules alike all))

pub record IsJoining (rules : List Rule) (k end : ℕ) (joined : List Rule) : Type 0 where
  pub passed : k ≤ end
  pub within : end ≤ length rules
  pub so_far : SayTheSame (take end rules) joined

pub joining-first : (rules : List Rule) → IsJoining rules 0 0 []
joining-first rules = record { passed = omega arith; within = omega arith; so_far = same-none rules }

pub joining-next : (rules joined next : List Rule) (k end until : ℕ) (one : Rule) → k ≡ end → k < until → until ≤ length rules → IsJoint (take (until - k) (drop k rules)) one → next ≡ joined ++ one ∷ []
    → IsJoining rules k end joined → IsJoining rules (k + 1) until next
joining-next rules joined next k end until one here more within joint added so = record {
  passed = omega arith;
  within = within;
  so_far =
      let sum : k + (until - k) ≡ until = omega arith in
      let parts : take until rules ≡ take k rules ++ take (until - k) (drop k rules) = ap (λ n. take n rules) (sym sum) ∙ take-add k (until - k) rules in
      subst (SayTheSame (take until rules)) (sym added)
      (subst (λ rs. SayTheSame rs (joined ++ one ∷ [])) (sym parts)
      (same-next (take k rules) joined (take (until - k) (drop k rules)) one (subst (λ n. SayTheSame (take n rules) joined) (sym here) so.so_far) joint));
}

pub joining-passed : (rules joined : List Rule) (k end : ℕ) → (k ≡ end → ⊥) → IsJoining rules k end joined → IsJoining rules (k + 1) end joined
joining-passed rules joined k end other so = let le = so.passed in record { passed = omega arith; within = so.within; so_far = so.so_far }

pub joining-all : (rules joined : List Rule) (k end : ℕ) → length rules ≤ k → IsJoining rules k end joined → SayTheSame rules joined
joining-all rules joined k end ended so =
    let le = so.passed in
    subst (λ rs. SayTheSame rs joined) (take_all end rules (omega arith)) so.so_far

-- whatever their order
pub same-sorted : (rules others rows ones : List Rule) → IsPermutation rules rows → IsPermutation others ones → SayTheSame rules others → SayTheSame rows ones
same-sorted rules others rows ones p q s = record {
  same = λ lists members dir h.
      sym (list_any-IsPermutation (allows lists members dir h) others ones q) ∙ s.same lists members dir h ∙ list_any-IsPermutation (allows lists members dir h) rules rows p;
  divide = λ lists members cuts all.
      All-permutation (λ r. DivideRule lists members r cuts) others ones q
      (s.divide lists members cuts (All-permutation (λ r. DivideRule lists members r cuts) rows rules (IsPermutation-sym rules rows p) all));
}

pub same-if_some : (rules seen rows : List Rule) (others : Option (List Rule)) → seen ≡ rules → IsPermutation rules rows → IfSome others (SayTheSame seen) → IfSome others (SayTheSame rows)
same-if_some rules seen rows None is p s = s
same-if_some rules seen rows (Some others) is p s = same-sorted rules others rows others p (IsPermutation-refl others) (subst (λ (rs : List Rule). SayTheSame rs others) is s)

-- ---- asked of an image

pub same-answers : (lists : List (List Run)) (members : MemberSets) (dir : Dir) (rules others table : List Rule) (i : Image) (x : Part Bool) → SayTheSame rules others → rules ≡ table
    → Answers (DivideRules lists members others) (λ h. any_allows lists members dir others (header_at i h)) i.part x
    → Answers (DivideRules lists members table) (λ h. any_allows lists members dir table (header_at i h)) i.part x
same-answers lists members dir rules others table i x s is k =
    subst (λ (rs : List Rule). Answers (DivideRules lists members rs) (λ h. any_allows lists members dir rs (header_at i h)) i.part x) is
    (answers_more (DivideRules lists members others) (DivideRules lists members rules) (λ h. any_allows lists members dir rules (header_at i h)) i.part x (s.divide lists members)
    (answers_same (DivideRules lists members others) (λ h. any_allows lists members dir others (header_at i h)) (λ h. any_allows lists members dir rules (header_at i h)) i.part x
    (λ h. s.same lists members dir (header_at i h)) k))

pub same-found : (rules others : List Rule) (o : Option (List Rule)) → o ≡ Some others → IfSome o (SayTheSame rules) → SayTheSame rules others
same-found rules others o is s = subst (λ (p : Option (List Rule)). IfSome p (SayTheSame rules)) is s

pub same-allowed : (lists : List (List Run)) (members : MemberSets) (dir : Dir) (rules others table : List Rule) (i : Image) (o : Option Box5) → SayTheSame rules others → rules ≡ table
    → IfSome o (IsAllowedOn lists members dir others i) → IfSome o (IsAllowedOn lists members dir table i)
same-allowed lists members dir rules others table i None s is k = k
same-allowed lists members dir rules others table i (Some b) s is k = same-answers lists members dir rules others table i (record { body = b; told = true }) s is k
