-- The first rule by numbers is the first rule of the description.
use Rattle.std.proofs.Common.{List, None, Option, Some, [], ap, arith, bytes_eq, false, filter_map, find, get_or, inl, inr, length, option_map, position, refl, suc, sym, true, ℕ, ◌&&◌, ◌+◌, ◌<◌, ◌^◌, ◌∙◌, ◌∷◌, ◌≡◌}
use Rattle.std.specs.List.{AllZip, list_any}
use Rattle.vpc_base.proofs.Lemmas.{cases_Bool, list_any-agree, ltb-true, option_map-map, zip_at}
use Rattle.prefix_text.specs.Block.{holds}
use Rattle.vpc_laws.specs.Types.{Description, Dir, Group, GroupNo, Header, Interface, Permission, RuleRef}
use Rattle.vpc_base.specs.declared.headers.Dir.TheVariants as dirs
use Rattle.vpc_model.specs.Terms.{entries_of, far_address, first_rule_of, group_at, is_member, names_address, no_interface, or_else, permission_allows, permissions_of, reference_counts, rule_of_group, vpc_of_rules}
use Rattle.security_groups.specs.Terms.{AreRulesOf, GroupLists, GroupRules, HasRulesFor, HasRulesIn, HasRulesOf, IsResolved, IsRuleOf, IsSetOf, Rule, allows, counted, first_in_group, first_of, groups_with, has_entry, has_member, least, list_no, names, no_rules, number_of, rules_of}
use Rattle.security_groups.proofs.Least.{least-IsPermutation, least-find}
use Rattle.security_groups.proofs.Numbered.{any_entry-is, any_if, any_member-is, list_any-filter_map, position-cons}
use Rattle.security_groups.proofs.OnceEach.{first_value, first_value-once, list_any-once}

-- a rule names what its permission names
names-is : (d : Description) (i : GroupLists) (dir : Dir) (vpc : List ℕ) (n a : ℕ) (p : Permission) (r : Rule) → IsResolved d i → IsRuleOf d dir vpc n p r → a < 2 ^ 32 → names i.lists i.members a r ≡ names_address d dir vpc a p
names-is d i dir vpc n a p r resolved rule fits =
    let lists : list_any (has_entry i.lists a) r.lists ≡ list_any (λ l. list_any (holds a) (entries_of d l)) p.lists =
    ap (list_any (has_entry i.lists a)) rule.lists
    ∙ list_any-once (has_entry i.lists a) (filter_map (list_no d) p.lists)
    ∙ list_any-filter_map (has_entry i.lists a) (list_no d) p.lists
    ∙ list_any-agree (λ l. any_if (has_entry i.lists a) (list_no d l)) (λ l. list_any (holds a) (entries_of d l)) (λ l. any_entry-is d i.lists a l resolved.lists.entries) p.lists in
    let groups : list_any (has_member i.members a) r.groups ≡ list_any (λ g. reference_counts d dir vpc g && is_member d g a) p.groups =
    ap (list_any (has_member i.members a)) rule.groups
    ∙ list_any-once (has_member i.members a) (filter_map (counted d dir vpc) p.groups)
    ∙ list_any-filter_map (has_member i.members a) (counted d dir vpc) p.groups
    ∙ list_any-agree (λ g. any_if (has_member i.members a) (counted d dir vpc g)) (λ g. reference_counts d dir vpc g && is_member d g a) (λ g. any_member-is d i.members dir vpc a g resolved.members fits) p.groups in
    rw (rule.blocks a, lists, groups) refl

-- a rule allows what its permission allows
allows-is : (d : Description) (i : GroupLists) (dir : Dir) (vpc : List ℕ) (n : ℕ) (h : Header) (p : Permission) (r : Rule) → IsResolved d i → IsRuleOf d dir vpc n p r → far_address dir h < 2 ^ 32 → allows i.lists i.members dir h r ≡ permission_allows d vpc dir h p
allows-is d i dir vpc n h p r resolved rule fits = rw (rule.proto, rule.from, rule.to, names-is d i dir vpc n (far_address dir h) p r resolved rule fits) refl

-- so the first of some rules that allows is the same
first-is : (d : Description) (i : GroupLists) (dir : Dir) (vpc : List ℕ) (n : ℕ) (h : Header) (ps : List Permission) (rs : List Rule) → IsResolved d i → AreRulesOf d dir vpc n ps rs → far_address dir h < 2 ^ 32
    → option_map (λ r. r.number) (find (allows i.lists i.members dir h) rs) ≡ option_map (λ k. k + n) (position (permission_allows d vpc dir h) ps)
first-is d i dir vpc n h [] [] resolved rules fits = refl
first-is d i dir vpc n h [] (r ∷ rs) resolved rules fits = absurd rules
first-is d i dir vpc n h (p ∷ ps) [] resolved rules fits = absurd rules
first-is d i dir vpc n h (p ∷ ps) (r ∷ rs) resolved rules fits =
    let same = allows-is d i dir vpc n h p r resolved rules.0 fits in
    elim (cases_Bool (permission_allows d vpc dir h p)) [
      | inl passes ↦
          let here : allows i.lists i.members dir h r ≡ true = same ∙ passes in
          rw (position-cons (permission_allows d vpc dir h) p ps, here, passes) (ap Some (rules.0.number ∙ omega arith))
      | inr fails ↦
          let later : allows i.lists i.members dir h r ≡ false = same ∙ fails in
          rw (position-cons (permission_allows d vpc dir h) p ps, later, fails) (first-is d i dir vpc (n + 1) h ps rs resolved rules.1 fits ∙ next (position (permission_allows d vpc dir h) ps))
    ]
  where
    next : (o : Option ℕ) → option_map (λ k. k + (n + 1)) o ≡ option_map (λ k. k + n) (option_map (λ k. suc k) o)
    next None = refl
    next (Some k) = ap Some (omega arith)

-- and the least number in any order
least-is : (d : Description) (i : GroupLists) (dir : Dir) (vpc : List ℕ) (h : Header) (ps : List Permission) (rs : List Rule) → IsResolved d i → HasRulesIn d dir vpc ps rs → far_address dir h < 2 ^ 32
    → least (allows i.lists i.members dir h) rs ≡ option_map (λ k. k + 1) (position (permission_allows d vpc dir h) ps)
least-is d i dir vpc h ps rs resolved has fits =
    let p = allows i.lists i.members dir h in
    sym (least-IsPermutation p has.rows rs has.same) ∙ least-find d dir vpc p 1 ps has.rows has.are ∙ first-is d i dir vpc 1 h ps has.rows resolved has.are fits

-- the rules of a set's direction are those of the described group
pub set-rules : (d : Description) (dir : Dir) (g : ℕ) (vpc : List ℕ) (r : GroupRules) → IsSetOf d g vpc r → HasRulesIn d dir vpc (permissions_of dir (group_at d (record { 0 = g }))) (rules_of dir r)
set-rules d dirs.Inward g vpc r is = is.inward
set-rules d dirs.Outward g vpc r is = is.outward

-- the first rule of a set is that of its group
set-is : (d : Description) (i : GroupLists) (dir : Dir) (h : Header) (e : Interface) (g s : ℕ) → IsResolved d i → far_address dir h < 2 ^ 32 → HasRulesFor d i.groups e g s
    → first_in_group i.lists i.members i.groups dir h s ≡ rule_of_group d e dir h (record { 0 = g })
set-is d i dir h e g s resolved fits has =
    let row = group_at d (record { 0 = g }) in
    let vpc = vpc_of_rules d e row in
    let set = get_or i.groups s no_rules in
    let is : set.group ≡ record { 0 = g } = ap (λ (n : ℕ). record { 0 = n }) has.is.group in
    let least_is : least (allows i.lists i.members dir h) (rules_of dir set) ≡ option_map (λ k. k + 1) (position (permission_allows d vpc dir h) (permissions_of dir row)) =
    least-is d i dir vpc h (permissions_of dir row) (rules_of dir set) resolved (set-rules d dir g vpc set has.is) fits in
    ap (λ (x : GroupNo). option_map (λ n. record { group = x; dir = dir; number = n }) (least (allows i.lists i.members dir h) (rules_of dir set))) is
    ∙ ap (option_map (λ n. record { group = record { 0 = g }; dir = dir; number = n })) least_is
    ∙ option_map-map (λ n. record { group = record { 0 = g }; dir = dir; number = n }) (λ j. j + 1) (position (permission_allows d vpc dir h) (permissions_of dir row))

-- the first rule of some sets is that of their groups
sets-are : (d : Description) (i : GroupLists) (dir : Dir) (h : Header) (e : Interface) (gs ss : List ℕ) → IsResolved d i → far_address dir h < 2 ^ 32 → AllZip (HasRulesFor d i.groups e) gs ss
    → first_of i.lists i.members i.groups dir h ss ≡ first_value (λ g. rule_of_group d e dir h (record { 0 = g })) gs
sets-are d i dir h e [] [] resolved fits zip = refl
sets-are d i dir h e [] (s ∷ ss) resolved fits zip = absurd zip
sets-are d i dir h e (g ∷ gs) [] resolved fits zip = absurd zip
sets-are d i dir h e (g ∷ gs) (s ∷ ss) resolved fits zip =
    ap (λ o. or_else o (first_of i.lists i.members i.groups dir h ss)) (set-is d i dir h e g s resolved fits zip.0)
    ∙ ap (or_else (rule_of_group d e dir h (record { 0 = g }))) (sets-are d i dir h e gs ss resolved fits zip.1)

-- each group's first rule in turn
first_rule_of-is : (d : Description) (e : Interface) (dir : Dir) (h : Header) (ids : List (List ℕ)) → first_value (λ g. rule_of_group d e dir h (record { 0 = g })) (filter_map (number_of d) ids) ≡ first_rule_of d e dir h ids
first_rule_of-is d e dir h [] = refl
first_rule_of-is d e dir h (id ∷ ids) = by (first_rule_of-is d e dir h ids) (position (λ (g : Group). bytes_eq g.id id) d.groups) refl
  where
    first : ℕ → Option RuleRef
    first g = rule_of_group d e dir h (record { 0 = g })

    by : first_value first (filter_map (number_of d) ids) ≡ first_rule_of d e dir h ids → (o : Option ℕ) → position (λ (g : Group). bytes_eq g.id id) d.groups ≡ o
        → first_value first (filter_map (number_of d) (id ∷ ids)) ≡ first_rule_of d e dir h (id ∷ ids)
    by rest None none = rw none rest
    by rest (Some k) some = rw some (ap (or_else (first k)) rest)

-- what is resolved tells what the description says
pub has_rules : (d : Description) (i : GroupLists) → IsResolved d i → HasRulesOf d i
has_rules d i resolved = record {
  rules = λ e dir h lies fits.
      let row = get_or d.interfaces e.0 no_interface in
      let sets = zip_at (λ (x : Interface) (ns : List ℕ). AllZip (HasRulesFor d i.groups x) (groups_with d x) ns) d.interfaces i.interfaces e.0 no_interface [] resolved.lists.rules (ltb-true e.0 (length d.interfaces) lies) in
      sets-are d i dir h row (groups_with d row) (get_or i.interfaces e.0 []) resolved fits sets
      ∙ first_value-once (λ g. rule_of_group d row dir h (record { 0 = g })) (filter_map (number_of d) row.groups)
      ∙ first_rule_of-is d row dir h row.groups;
}
