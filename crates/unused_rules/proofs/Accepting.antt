-- A description with other rules in its ACLs and groups is accepted where it was, if they are fewer.
use Rattle.std.proofs.Common.{◌≡◌, ◌≤◌, ◌∙◌, ◌||◌, ◌++◌, ◌∷◌, [], Bool, List, ap, ap₂, arith, false, if◌then◌else◌, length, map, not, refl, sym, true, ℕ}
use Rattle.std.specs.List.{flat_map, list_any}
use Rattle.std.specs.Prelude.{bytes_eq, nat_le, nat_lt}
use Rattle.std.proofs.lemmas.Bool.{or_from, or_parts}
use Rattle.std.proofs.lemmas.Bool.Decides.{nat_tests}
use Rattle.std.proofs.lemmas.List.Elements.{filter_agree}
use Rattle.vpc_base.proofs.Members.{append-nothing}
use Rattle.copied_rows.specs.Filters.{with_filters}
use Rattle.vpc_laws.specs.Types.{Acl, Appliance, Association, Attachment, Description, Group, Interface, InternetGateway, NatGateway, Peering, Permission, PrefixList, RouteTable, Subnet, TgwTable, Vpc}
use Rattle.vpc_laws.proofs.Accepting.{AreEmpty, accepted_is_faultless, faultless_is_accepted}
use Rattle.vpc_laws.proofs.Lengths.{none-too_long, too_long-none, too_long_by_list}
use Rattle.vpc_model.specs.Accepted.{Claim, IsAccepted, claims_of, clashes_after, duplicates_in, holds_twice, ids_by_list, interface_clashes, is_long, is_long_group, is_long_rule, missing_of_acl, missing_of_appliance, missing_of_attachment, missing_of_firewall, missing_of_group, missing_of_igw, missing_of_interface, missing_of_life, missing_of_subnet, missing_of_table, missing_references, too_long, too_many_rows, two_acls, wanted, without_acl}
use Rattle.vpc_model.specs.Lookup.{has_group, is_listed}
use Rattle.vpc_model.specs.declared.refusals.ListName.{ListName}
use Rattle.vpc_model.specs.declared.refusals.ListName.TheVariants as lists
use Rattle.vpc_model.specs.declared.refusals.Refusal.{Refusal}
use Rattle.vpc_model.specs.declared.refusals.Refusal.TheVariants as refusals
use Rattle.unused_rules.proofs.Fewer.{FewerRows, FewerRules, none-fewer, nothing-fewer}
use Rattle.unused_rules.proofs.Parts.{length-part}
use Rattle.unused_rules.proofs.Alike.{Alike, count-alike, flat_map-alike, flat_map-same, length-alike, list_any-alike, map-alike, none-alike, nothing-alike}

-- ---- the length of lists

none-if-short : (long : Bool) (name : ListName) → (if long then refusals.TooManyRows name ∷ [] else []) ≡ [] → long ≡ false
none-if-short true name none = absurd (cc)
none-if-short false name none = refl

short-if-none : (long : Bool) (name : ListName) → long ≡ false → (if long then refusals.TooManyRows name ∷ [] else []) ≡ []
short-if-none true name none = absurd (cc)
short-if-none false name none = refl

short-if-shorter : (n m : ℕ) → m ≤ n → nat_lt 100000 n ≡ false → nat_lt 100000 m ≡ false
short-if-shorter n m less short = grind (arith, nat_tests)

too_long-alike : {X : Type 0} (R : X → X → Type 0) (name : ListName) (p : X → Bool) → ((x y : X) → R x y → p x ≡ false → p y ≡ false) → (xs ys : List X) → Alike R xs ys → too_long name p xs ≡ [] → too_long name p ys ≡ []
too_long-alike R name p less xs ys alike none =
    let parts = or_parts (is_long xs) (list_any p xs) (none-if-short (is_long xs || list_any p xs) name none) in
    let long = ap (nat_lt 100000) (sym (length-alike R xs ys alike)) ∙ parts.0 in
    short-if-none (is_long ys || list_any p ys) name (or_from (is_long ys) (list_any p ys) long (none-alike R p less xs ys alike parts.1))

short-acl : (a b : Acl) → FewerRows a b → (is_long a.subnets || is_long a.rows) ≡ false → (is_long b.subnets || is_long b.rows) ≡ false
short-acl a b fewer short =
    let parts = or_parts (is_long a.subnets) (is_long a.rows) short in
    or_from (is_long b.subnets) (is_long b.rows) (ap (λ (s : List (List ℕ)). is_long s) (sym fewer.subnets) ∙ parts.0) (short-if-shorter (length a.rows) (length b.rows) fewer.rows parts.1)

short-group : (a b : Group) → FewerRules a b → is_long_group a ≡ false → is_long_group b ≡ false
short-group a b fewer short =
    let first = or_parts (is_long a.inward) (is_long a.outward || list_any is_long_rule (a.inward ++ a.outward)) short in
    let second = or_parts (is_long a.outward) (list_any is_long_rule (a.inward ++ a.outward)) first.1 in
    or_from (is_long b.inward) (is_long b.outward || list_any is_long_rule (b.inward ++ b.outward))
    (short-if-shorter (length a.inward) (length b.inward) (length-part fewer.inward) first.0)
    (or_from (is_long b.outward) (list_any is_long_rule (b.inward ++ b.outward))
    (short-if-shorter (length a.outward) (length b.outward) (length-part fewer.outward) second.0)
    (none-fewer is_long_rule a b fewer second.1))

-- ---- the parts of the test

ids-same : (d : Description) (acls : List Acl) (groups : List Group) → Alike FewerRows d.acls acls → Alike FewerRules d.groups groups
    → ids_by_list (with_filters d acls groups) ≡ ids_by_list d
ids-same d acls groups rows rules =
    let of_acls = map-alike FewerRows (λ (a : Acl). a.id) (λ x y r. r.id) d.acls acls rows in
    let of_groups = map-alike FewerRules (λ (g : Group). g.id) (λ x y r. r.id) d.groups groups rules in
    ap₂ (λ (a g : List (List ℕ)).
    map (λ (v : Vpc). v.id) d.vpcs
    ∷ map (λ (s : Subnet). s.id) d.subnets
    ∷ map (λ (e : Interface). e.id) d.interfaces
    ∷ map (λ (t : RouteTable). t.id) d.tables
    ∷ map (λ (l : PrefixList). l.id) d.lists
    ∷ a
    ∷ g
    ∷ map (λ (g : InternetGateway). g.id) d.igws
    ∷ map (λ (n : NatGateway). n.id) d.nats
    ∷ map (λ (x : Peering). x.id) d.peerings
    ∷ map (λ (a : Attachment). a.id) d.attachments
    ∷ map (λ (x : Association). x.attachment) d.associations
    ∷ map (λ (t : TgwTable). t.id) d.tgw_tables
    ∷ map (λ (a : Appliance). a.id) d.appliances
    ∷ []) (sym of_acls) (sym of_groups)

group-there : (d : Description) (acls : List Acl) (groups : List Group) → Alike FewerRules d.groups groups → (id : List ℕ)
    → has_group (with_filters d acls groups) id ≡ has_group d id
group-there d acls groups rules id =
    sym (list_any-alike FewerRules (λ (g : Group). bytes_eq g.id id) (λ x y r. ap (λ (i : List ℕ). bytes_eq i id) r.id) d.groups groups rules)

missing-interfaces : (d : Description) (acls : List Acl) (groups : List Group) → Alike FewerRules d.groups groups
    → flat_map (missing_of_interface (with_filters d acls groups)) d.interfaces ≡ flat_map (missing_of_interface d) d.interfaces
missing-interfaces d acls groups rules =
    flat_map-same (missing_of_interface (with_filters d acls groups)) (missing_of_interface d) (λ e.
    ap (λ (rest : List Refusal). wanted (list_any (λ s. bytes_eq s.id e.subnet) d.subnets) e.id e.subnet ++ rest)
    (flat_map-same (λ g. wanted (has_group (with_filters d acls groups) g) e.id g) (λ g. wanted (has_group d g) e.id g)
    (λ g. ap (λ (b : Bool). wanted b e.id g) (group-there d acls groups rules g)) e.groups)) d.interfaces

missing-acls : (d : Description) (acls : List Acl) → Alike FewerRows d.acls acls → flat_map (missing_of_acl d) acls ≡ flat_map (missing_of_acl d) d.acls
missing-acls d acls rows =
    let same : (a b : Acl) → FewerRows a b → missing_of_acl d a ≡ missing_of_acl d b = λ a b r.
    ap₂ (λ (id : List ℕ) (subnets : List (List ℕ)). flat_map (λ s. wanted (list_any (λ t. bytes_eq t.id s) d.subnets) id s) subnets) r.id r.subnets in
    sym (flat_map-alike FewerRows (missing_of_acl d) same d.acls acls rows)

missing-groups : (d : Description) (groups : List Group) → Alike FewerRules d.groups groups → flat_map (missing_of_group d) d.groups ≡ [] → flat_map (missing_of_group d) groups ≡ []
missing-groups d groups rules none = nothing-alike FewerRules (missing_of_group d) less d.groups groups rules none
  where
    same-first : (a b : Group) → FewerRules a b → wanted (list_any (λ v. bytes_eq v.id a.vpc) d.vpcs) a.id a.vpc ≡ wanted (list_any (λ v. bytes_eq v.id b.vpc) d.vpcs) b.id b.vpc
    same-first a b r = ap₂ (λ (id vpc : List ℕ). wanted (list_any (λ v. bytes_eq v.id vpc) d.vpcs) id vpc) r.id r.vpc

    same-id : (a b : Group) → FewerRules a b → (p : Permission) → flat_map (λ l. wanted (list_any (λ x. bytes_eq x.id l) d.lists) a.id l) p.lists ≡ flat_map (λ l. wanted (list_any (λ x. bytes_eq x.id l) d.lists) b.id l) p.lists
    same-id a b r p = ap (λ (id : List ℕ). flat_map (λ l. wanted (list_any (λ x. bytes_eq x.id l) d.lists) id l) p.lists) r.id

    less : (a b : Group) → FewerRules a b → missing_of_group d a ≡ [] → missing_of_group d b ≡ []
    less a b r e =
        let parts = append-nothing (wanted (list_any (λ v. bytes_eq v.id a.vpc) d.vpcs) a.id a.vpc) (flat_map (λ p. flat_map (λ l. wanted (list_any (λ x. bytes_eq x.id l) d.lists) a.id l) p.lists) (a.inward ++ a.outward)) e in
        let kept = nothing-fewer (λ p. flat_map (λ l. wanted (list_any (λ x. bytes_eq x.id l) d.lists) a.id l) p.lists) a b r parts.1 in
        let named = sym (flat_map-same (λ p. flat_map (λ l. wanted (list_any (λ x. bytes_eq x.id l) d.lists) a.id l) p.lists) (λ p. flat_map (λ l. wanted (list_any (λ x. bytes_eq x.id l) d.lists) b.id l) p.lists) (same-id a b r) (b.inward ++ b.outward)) ∙ kept in
        ap₂ (λ (x y : List Refusal). x ++ y) (sym (same-first a b r) ∙ parts.0) named

references-same : (d : Description) (acls : List Acl) (groups : List Group) → Alike FewerRows d.acls acls → Alike FewerRules d.groups groups
    → missing_references d ≡ [] → missing_references (with_filters d acls groups) ≡ []
references-same d acls groups rows rules none =
    let r1 = flat_map (missing_of_subnet d) d.subnets in
    let r2 = r1 ++ flat_map (missing_of_interface d) d.interfaces in
    let r3 = r2 ++ flat_map (missing_of_table d) d.tables in
    let r4 = r3 ++ flat_map (missing_of_acl d) d.acls in
    let r5 = r4 ++ flat_map (missing_of_group d) d.groups in
    let r6 = r5 ++ flat_map (missing_of_igw d) d.igws in
    let r7 = r6 ++ flat_map (λ (n : NatGateway). missing_of_life d n.id n.life) d.nats in
    let r8 = r7 ++ flat_map (missing_of_attachment d) d.attachments in
    let r9 = r8 ++ flat_map (missing_of_appliance d) d.appliances in
    let p9 = append-nothing r9 (flat_map (missing_of_firewall d) d.firewalls) none in
    let p8 = append-nothing r8 (flat_map (missing_of_appliance d) d.appliances) p9.0 in
    let p7 = append-nothing r7 (flat_map (missing_of_attachment d) d.attachments) p8.0 in
    let p6 = append-nothing r6 (flat_map (λ (n : NatGateway). missing_of_life d n.id n.life) d.nats) p7.0 in
    let p5 = append-nothing r5 (flat_map (missing_of_igw d) d.igws) p6.0 in
    let p4 = append-nothing r4 (flat_map (missing_of_group d) d.groups) p5.0 in
    let there : flat_map (missing_of_group d) groups ≡ flat_map (missing_of_group d) d.groups = missing-groups d groups rules p4.1 ∙ sym p4.1 in
    ap₂ (λ (e : List Refusal) (f : List Refusal × List Refusal).
    r1 ++ e ++ flat_map (missing_of_table d) d.tables ++ f.0 ++ f.1 ++ flat_map (missing_of_igw d) d.igws
    ++ flat_map (λ (n : NatGateway). missing_of_life d n.id n.life) d.nats ++ flat_map (missing_of_attachment d) d.attachments ++ flat_map (missing_of_appliance d) d.appliances
    ++ flat_map (missing_of_firewall d) d.firewalls)
    (missing-interfaces d acls groups rules)
    (ap₂ (λ (a g : List Refusal). (a, g)) (missing-acls d acls rows) there)
    ∙ none

listed-same : (s : List ℕ) (a b : Acl) → FewerRows a b → is_listed s a.subnets ≡ is_listed s b.subnets
listed-same s a b r = ap (λ (subnets : List (List ℕ)). is_listed s subnets) r.subnets

without_acl-same : (d : Description) (acls : List Acl) (groups : List Group) → Alike FewerRows d.acls acls → without_acl (with_filters d acls groups) ≡ without_acl d
without_acl-same d acls groups rows =
    ap (map (λ (s : Subnet). refusals.NoAcl s.id))
    (filter_agree (λ (s : Subnet). not (list_any (λ (a : Acl). is_listed s.id a.subnets) acls)) (λ (s : Subnet). not (list_any (λ (a : Acl). is_listed s.id a.subnets) d.acls))
    (λ s. ap not (sym (list_any-alike FewerRows (λ (a : Acl). is_listed s.id a.subnets) (listed-same s.id) d.acls acls rows))) d.subnets)

two_acls-same : (d : Description) (acls : List Acl) (groups : List Group) → Alike FewerRows d.acls acls → two_acls (with_filters d acls groups) ≡ two_acls d
two_acls-same d acls groups rows =
    ap (map (λ (s : Subnet). refusals.TwoAcls s.id))
    (filter_agree (λ (s : Subnet). holds_twice (λ (a : Acl). is_listed s.id a.subnets) acls) (λ (s : Subnet). holds_twice (λ (a : Acl). is_listed s.id a.subnets) d.acls)
    (λ s. ap (nat_le 2) (sym (count-alike FewerRows (λ (a : Acl). is_listed s.id a.subnets) (listed-same s.id) d.acls acls rows))) d.subnets)

lengths-same : (d : Description) (acls : List Acl) (groups : List Group) → Alike FewerRows d.acls acls → Alike FewerRules d.groups groups
    → too_many_rows d ≡ [] → too_many_rows (with_filters d acls groups) ≡ []
lengths-same d acls groups rows rules none = by (none-too_long d none)
  where
    by : AreEmpty (too_long_by_list d) → too_many_rows (with_filters d acls groups) ≡ []
    by (vpcs, (subnets, (interfaces, (tables, (prefix_lists, (of_acls, (of_groups, later))))))) =
        too_long-none (with_filters d acls groups) (
          vpcs,
          (
            subnets,
            (
              interfaces,
              (
                tables,
                (
                  prefix_lists,
                  (
                    too_long-alike FewerRows lists.NetworkAcls (λ (a : Acl). is_long a.subnets || is_long a.rows) short-acl d.acls acls rows of_acls,
                    (too_long-alike FewerRules lists.SecurityGroups is_long_group short-group d.groups groups rules of_groups, later),
                  ),
                ),
              ),
            ),
          ),
        )

addresses-same : (d : Description) (acls : List Acl) (groups : List Group) (earlier : List Claim) (es : List Interface)
    → clashes_after (with_filters d acls groups) earlier es ≡ clashes_after d earlier es
addresses-same d acls groups earlier [] = refl
addresses-same d acls groups earlier (e ∷ es) =
    ap (λ (rest : List Refusal). interface_clashes d earlier e ++ rest) (addresses-same d acls groups (earlier ++ claims_of d e) es)

-- ---- all of it

pub accepted_with_fewer : (d : Description) (acls : List Acl) (groups : List Group) → Alike FewerRows d.acls acls → Alike FewerRules d.groups groups
    → IsAccepted d → IsAccepted (with_filters d acls groups)
accepted_with_fewer d acls groups rows rules accepted =
    let right = accepted_is_faultless d accepted in
    faultless_is_accepted (with_filters d acls groups) (record {
      ids = ap (flat_map duplicates_in) (ids-same d acls groups rows rules) ∙ right.ids;
      references = references-same d acls groups rows rules right.references;
      addresses = addresses-same d acls groups [] d.interfaces ∙ right.addresses;
      publics = right.publics;
      tables = right.tables;
      acls = without_acl-same d acls groups rows ∙ right.acls;
      one_gateway = right.one_gateway;
      one_table = right.one_table;
      one_acl = two_acls-same d acls groups rows ∙ right.one_acl;
      lengths = lengths-same d acls groups rows rules right.lengths;
    })
