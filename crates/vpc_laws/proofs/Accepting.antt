-- An accepted description has no fault: nothing that its rows name is missing, and nothing stands twice.
use Rattle.std.proofs.Common.{◌≡◌, ℕ, ◌<◌, ◌==◌, ◌&&◌, ◌||◌, Bool, List, [], ◌∷◌, ◌++◌, cond, false, inl, inr, map, refl, subst, sym, true, ◌∙◌}
use Rattle.std.specs.List.{AllByRecursion, Contains, IsDistinct, count_by, filter, flat_map, list_any}
use Rattle.std.specs.Str.{bytes_eq}
use Rattle.std.proofs.lemmas.Bool.{and_from, and_parts, cases_Bool, leb-false, or_parts}
use Rattle.std.proofs.lemmas.List.Folds.{list_any-append}
use Rattle.vpc_base.proofs.Bytes.{bytes_eq-comm}
use Rattle.vpc_base.proofs.Members.{AllByRecursion-weaker, append-nothing, filter-nothing, flat_map-nothing, map-nothing, nothing-append}
use Rattle.vpc_base.proofs.Numbers.{eqb-comm}
use Rattle.vpc_laws.specs.Types.{Acl, Appliance, Attachment, Description, FirewallEndpoint, Group, Interface, InternetGateway, NatGateway, NatLife, Permission, Refusal, Route, RouteTable, Subnet, Target, Vpc}
use Rattle.vpc_model.specs.declared.rows.NatLife.TheVariants as lives
use Rattle.vpc_model.specs.declared.rows.Target.TheVariants as targets
use Rattle.vpc_model.specs.declared.refusals.Refusal.TheVariants as refusals
use Rattle.vpc_model.specs.Accepted.{IsAccepted, duplicate_addresses, duplicate_ids, duplicate_publics, duplicates_in, holds_twice, ids_by_list, is_interface_in, is_main_of, is_side, is_subnet_of, is_table_of, missing_of_acl, missing_of_appliance, missing_of_attachment, missing_of_firewall, missing_of_group, missing_of_igw, missing_of_interface, missing_of_life, missing_of_reach, missing_of_route, missing_of_subnet, missing_of_table, missing_of_target, missing_references, private_addresses, public_addresses, repeats, repeats_after, same_address, serves_vpc, too_many_rows, two_acls, two_gateways, two_tables, wanted, without_acl, without_table}
use Rattle.vpc_model.specs.Firewalls.{is_followed}
use Rattle.vpc_model.specs.Lookup.{eni_no, has_group, has_igw, has_interface, has_list, has_nat, has_peering, has_subnet, has_vpc, interface_at, is_listed, nat_at, nat_no, peer_no, peering_at}
use Rattle.vpc_laws.proofs.Claims.{apart, assigned-once}
use Rattle.vpc_laws.specs.Accepted.{HasAllNamed, HasNothingTwice, HasTarget, IsFaultless}

-- ---- lists one after the other

-- these lists behind the first
abbrev pub joined : {X : Type 0} → List X → List (List X) → List X
joined first [] = first
joined first (xs ∷ rest) = joined (first ++ xs) rest

abbrev pub AreEmpty : {X : Type 0} → List (List X) → Type 0
AreEmpty lists = AllByRecursion (λ xs. xs ≡ []) lists

pub joined-nothing : {X : Type 0} (first : List X) (rest : List (List X)) → joined first rest ≡ [] → (first ≡ []) × AreEmpty rest
joined-nothing first [] e = (e, tt)
joined-nothing first (xs ∷ rest) e =
    let later = joined-nothing (first ++ xs) rest e in
    let parts = append-nothing first xs later.0 in
    (parts.0, (parts.1, later.1))

pub nothing-joined : {X : Type 0} (first : List X) (rest : List (List X)) → first ≡ [] → AreEmpty rest → joined first rest ≡ []
nothing-joined first [] e none = e
nothing-joined first (xs ∷ rest) e none = nothing-joined (first ++ xs) rest (nothing-append first xs e none.0) none.1

-- ---- what is wrong, by kind

abbrev kinds : Description → List (List Refusal)
kinds d =
    duplicate_ids d ∷ missing_references d ∷ duplicate_addresses d ∷ duplicate_publics d ∷ without_table d ∷ without_acl d ∷ two_gateways d ∷ two_tables d ∷ two_acls d ∷ too_many_rows d ∷ []

pub accepted_is_faultless : (d : Description) → IsAccepted d → IsFaultless d
accepted_is_faultless d accepted = by (joined-nothing [] (kinds d) accepted).1
  where
    by : AreEmpty (kinds d) → IsFaultless d
    by (ids, (references, (addresses, (publics, (tables, (acls, (one_gateway, (one_table, (one_acl, (lengths, _)))))))))) = record {
      ids = ids;
      references = references;
      addresses = addresses;
      publics = publics;
      tables = tables;
      acls = acls;
      one_gateway = one_gateway;
      one_table = one_table;
      one_acl = one_acl;
      lengths = lengths;
    }

pub faultless_is_accepted : (d : Description) → IsFaultless d → IsAccepted d
faultless_is_accepted d is =
    nothing-joined [] (kinds d) refl
    (is.ids, (is.references, (is.addresses, (is.publics, (is.tables, (is.acls, (is.one_gateway, (is.one_table, (is.one_acl, (is.lengths, tt))))))))))

-- ---- references

pub wanted-there : (is_there : Bool) (from to : List ℕ) → wanted is_there from to ≡ [] → is_there ≡ true
wanted-there true from to e = refl
wanted-there false from to e = absurd cc

-- each kind of row names nothing that is missing
record IsComplete (d : Description) : Type 0 where
  pub subnets : (s : Subnet) → Contains d.subnets s → missing_of_subnet d s ≡ []
  pub interfaces : (e : Interface) → Contains d.interfaces e → missing_of_interface d e ≡ []
  pub tables : (t : RouteTable) → Contains d.tables t → missing_of_table d t ≡ []
  pub acls : (a : Acl) → Contains d.acls a → missing_of_acl d a ≡ []
  pub groups : (g : Group) → Contains d.groups g → missing_of_group d g ≡ []
  pub igws : (g : InternetGateway) → Contains d.igws g → missing_of_igw d g ≡ []
  pub nats : (n : NatGateway) → Contains d.nats n → missing_of_life d n.id n.life ≡ []
  pub attachments : (a : Attachment) → Contains d.attachments a → missing_of_attachment d a ≡ []
  pub appliances : (a : Appliance) → Contains d.appliances a → missing_of_appliance d a ≡ []
  pub firewalls : (e : FirewallEndpoint) → Contains d.firewalls e → missing_of_firewall d e ≡ []

complete : (d : Description) → missing_references d ≡ [] → IsComplete d
complete d none =
    let m1 = flat_map (missing_of_subnet d) d.subnets in
    let m2 = m1 ++ flat_map (missing_of_interface d) d.interfaces in
    let m3 = m2 ++ flat_map (missing_of_table d) d.tables in
    let m4 = m3 ++ flat_map (missing_of_acl d) d.acls in
    let m5 = m4 ++ flat_map (missing_of_group d) d.groups in
    let m6 = m5 ++ flat_map (missing_of_igw d) d.igws in
    let m7 = m6 ++ flat_map (λ (n : NatGateway). missing_of_life d n.id n.life) d.nats in
    let m8 = m7 ++ flat_map (missing_of_attachment d) d.attachments in
    let m9 = m8 ++ flat_map (missing_of_appliance d) d.appliances in
    let p9 = append-nothing m9 (flat_map (missing_of_firewall d) d.firewalls) none in
    let p8 = append-nothing m8 (flat_map (missing_of_appliance d) d.appliances) p9.0 in
    let p7 = append-nothing m7 (flat_map (missing_of_attachment d) d.attachments) p8.0 in
    let p6 = append-nothing m6 (flat_map (λ (n : NatGateway). missing_of_life d n.id n.life) d.nats) p7.0 in
    let p5 = append-nothing m5 (flat_map (missing_of_igw d) d.igws) p6.0 in
    let p4 = append-nothing m4 (flat_map (missing_of_group d) d.groups) p5.0 in
    let p3 = append-nothing m3 (flat_map (missing_of_acl d) d.acls) p4.0 in
    let p2 = append-nothing m2 (flat_map (missing_of_table d) d.tables) p3.0 in
    let p1 = append-nothing m1 (flat_map (missing_of_interface d) d.interfaces) p2.0 in
    record {
      subnets = flat_map-nothing (missing_of_subnet d) d.subnets p1.0;
      interfaces = flat_map-nothing (missing_of_interface d) d.interfaces p1.1;
      tables = flat_map-nothing (missing_of_table d) d.tables p2.1;
      acls = flat_map-nothing (missing_of_acl d) d.acls p3.1;
      groups = flat_map-nothing (missing_of_group d) d.groups p4.1;
      igws = flat_map-nothing (missing_of_igw d) d.igws p5.1;
      nats = flat_map-nothing (λ (n : NatGateway). missing_of_life d n.id n.life) d.nats p6.1;
      attachments = flat_map-nothing (missing_of_attachment d) d.attachments p7.1;
      appliances = flat_map-nothing (missing_of_appliance d) d.appliances p8.1;
      firewalls = flat_map-nothing (missing_of_firewall d) d.firewalls p9.1;
    }

-- of a list of ids each is there
ids-there : {X : Type 0} (is_there : X → Bool) (from : List ℕ) (id_of : X → List ℕ) (xs : List X) → flat_map (λ x. wanted (is_there x) from (id_of x)) xs ≡ [] → (x : X) → Contains xs x → is_there x ≡ true
ids-there is_there from id_of xs e x has = wanted-there (is_there x) from (id_of x) (flat_map-nothing (λ y. wanted (is_there y) from (id_of y)) xs e x has)

target-there : (d : Description) (t : RouteTable) (target : Target) → missing_of_target d t target ≡ [] → HasTarget d t.vpc target
target-there d t targets.Local e = tt
target-there d t (targets.Internet id) e = wanted-there (has_igw d id) t.id id e
target-there d t (targets.Nat id) e = let n = nat_at d (nat_no d id) in and_parts (has_nat d id) (serves_vpc d t.vpc n.life) (wanted-there (has_nat d id && serves_vpc d t.vpc n.life) t.id id e)
target-there d t (targets.Transit id) e = tt
target-there d t (targets.Peer id) e = let x = peering_at d (peer_no d id) in and_parts (has_peering d id) (is_side t.vpc x.pair) (wanted-there (has_peering d id && is_side t.vpc x.pair) t.id id e)
target-there d t (targets.Interface id) e = let i = interface_at d (eni_no d id) in and_parts (has_interface d id) (is_subnet_of d t.vpc i.subnet) (wanted-there (has_interface d id && is_subnet_of d t.vpc i.subnet) t.id id e)
target-there d t (targets.Other id) e = tt

table-parts : (d : Description) → IsComplete d → (t : RouteTable) → Contains d.tables t
    → (has_vpc d t.vpc ≡ true) × (flat_map (λ s. wanted (is_subnet_of d t.vpc s) t.id s) t.subnets ≡ []) × (flat_map (missing_of_route d t) t.routes ≡ [])
table-parts d whole t has =
    let a = wanted (has_vpc d t.vpc) t.id t.vpc in
    let b = flat_map (λ s. wanted (is_subnet_of d t.vpc s) t.id s) t.subnets in
    let outer = append-nothing (a ++ b) (flat_map (missing_of_route d t) t.routes) (whole.tables t has) in
    let inner = append-nothing a b outer.0 in
    (wanted-there (has_vpc d t.vpc) t.id t.vpc inner.0, inner.1, outer.1)

route-parts : (d : Description) → IsComplete d → (t : RouteTable) (r : Route) → Contains d.tables t → Contains t.routes r → (missing_of_reach d t r.reach ≡ []) × (cond r.blackhole [] (missing_of_target d t r.target) ≡ [])
route-parts d whole t r has at = append-nothing (missing_of_reach d t r.reach) (cond r.blackhole [] (missing_of_target d t r.target)) (flat_map-nothing (missing_of_route d t) t.routes (table-parts d whole t has).2 r at)

life-there : (d : Description) (id : List ℕ) (life : NatLife) (subnet eni : List ℕ) (address : ℕ) → missing_of_life d id life ≡ [] → life ≡ lives.Live subnet eni address → (has_subnet d subnet ≡ true) × (is_interface_in d subnet eni address ≡ true)
life-there d id life subnet eni address e is =
    let none : missing_of_life d id (lives.Live subnet eni address) ≡ [] = subst (λ l. missing_of_life d id l ≡ []) is e in
    let parts = append-nothing (wanted (has_subnet d subnet) id subnet) (wanted (is_interface_in d subnet eni address) id eni) none in
    (wanted-there (has_subnet d subnet) id subnet parts.0, wanted-there (is_interface_in d subnet eni address) id eni parts.1)

pub accepted_has_all_named : (d : Description) → IsAccepted d → HasAllNamed d
accepted_has_all_named d accepted =
    let faultless = accepted_is_faultless d accepted in
    let whole = complete d faultless.references in
    record {
      vpc_of_subnet = λ s has. wanted-there (has_vpc d s.vpc) s.id s.vpc (whole.subnets s has);
      subnet_of_interface = λ e has.
          wanted-there (has_subnet d e.subnet) e.id e.subnet (append-nothing (wanted (has_subnet d e.subnet) e.id e.subnet) (flat_map (λ g. wanted (has_group d g) e.id g) e.groups) (whole.interfaces e has)).0;
      group_of_interface = λ e g has at.
          ids-there (has_group d) e.id (λ x. x) e.groups (append-nothing (wanted (has_subnet d e.subnet) e.id e.subnet) (flat_map (λ x. wanted (has_group d x) e.id x) e.groups) (whole.interfaces e has)).1 g at;
      vpc_of_table = λ t has. (table-parts d whole t has).0;
      subnet_of_table = λ t s has at. ids-there (is_subnet_of d t.vpc) t.id (λ x. x) t.subnets (table-parts d whole t has).1 s at;
      list_of_route = λ t r l has at is. wanted-there (has_list d l) t.id l (subst (λ reach. missing_of_reach d t reach ≡ []) is (route-parts d whole t r has at).0);
      target_of_route = λ t r has at alive. target-there d t r.target (subst (λ b. cond b [] (missing_of_target d t r.target) ≡ []) alive (route-parts d whole t r has at).1);
      subnet_of_acl = λ a s has at. ids-there (has_subnet d) a.id (λ x. x) a.subnets (whole.acls a has) s at;
      vpc_of_group = λ g has.
          wanted-there (has_vpc d g.vpc) g.id g.vpc
          (append-nothing (wanted (has_vpc d g.vpc) g.id g.vpc) (flat_map (λ (p : Permission). flat_map (λ l. wanted (has_list d l) g.id l) p.lists) (g.inward ++ g.outward)) (whole.groups g has)).0;
      list_of_rule = λ g p l has at named.
          let rules = (append-nothing (wanted (has_vpc d g.vpc) g.id g.vpc) (flat_map (λ (p : Permission). flat_map (λ l. wanted (has_list d l) g.id l) p.lists) (g.inward ++ g.outward)) (whole.groups g has)).1 in
          ids-there (has_list d) g.id (λ x. x) p.lists (flat_map-nothing (λ (p : Permission). flat_map (λ l. wanted (has_list d l) g.id l) p.lists) (g.inward ++ g.outward) rules p at) l named;
      vpc_of_gateway = λ g v has at. ids-there (has_vpc d) g.id (λ x. x) g.vpcs (whole.igws g has) v at;
      place_of_nat = λ n subnet eni address has is. life-there d n.id n.life subnet eni address (whole.nats n has) is;
      subnet_of_attachment = λ a s has there at.
          ids-there (is_subnet_of d a.vpc) a.id (λ x. x) a.subnets (subst (λ b. cond b (flat_map (λ x. wanted (is_subnet_of d a.vpc x) a.id x) a.subnets) [] ≡ []) there (whole.attachments a has)) s at;
      interface_of_appliance = λ a has stands.
          wanted-there (has_interface d a.id) a.id a.id (subst (λ b. cond b (wanted (has_interface d a.id) a.id a.id) [] ≡ []) stands (whole.appliances a has));
      subnet_of_firewall = λ e has followed there.
          wanted-there (is_subnet_of d e.vpc e.subnet) e.id e.subnet
          (subst (λ b. cond b (wanted (is_subnet_of d e.vpc e.subnet) e.id e.subnet) [] ≡ []) (and_from (is_followed d e) (has_vpc d e.vpc) followed there) (whole.firewalls e has));
    }

-- ---- what stands twice

none-earlier : {X : Type 0} (same : X → X → Bool) (earlier : List X) (x : X) (later : List X) → cond (list_any (same x) earlier) (x ∷ later) later ≡ [] → (list_any (same x) earlier ≡ false) × (later ≡ [])
none-earlier same earlier x later e =
    elim (cases_Bool (list_any (same x) earlier)) [
      | inl there ↦ let none : x ∷ later ≡ [] = (rw there at e) in absurd cc
      | inr new ↦ (new, rw new at e)
    ]

-- no value of the list is the same as one before it
abbrev AllNew : {X : Type 0} → (X → X → Bool) → List X → List X → Type 0
AllNew same earlier xs = AllByRecursion (λ x. list_any (same x) earlier ≡ false) xs

list_any-push : {X : Type 0} (p : X → Bool) (xs : List X) (y : X) → list_any p (xs ++ y ∷ []) ≡ false → (list_any p xs ≡ false) × (p y ≡ false)
list_any-push p xs y e =
    let parts = or_parts (list_any p xs) (p y || false) (sym (list_any-append p xs (y ∷ [])) ∙ e) in
    (parts.0, (or_parts (p y) false parts.1).0)

-- of the values of a list without repeats none is the same as an earlier one, and none as one of the list before it
repeats_after-none : {X : Type 0} (same : X → X → Bool) → ((x y : X) → same x y ≡ same y x) → (earlier xs : List X) → repeats_after same earlier xs ≡ [] → AllNew same earlier xs × IsDistinct same xs
unfolding IsDistinct
repeats_after-none same flips earlier [] e = (tt, tt)
repeats_after-none same flips earlier (x ∷ xs) e =
    let here = none-earlier same earlier x (repeats_after same (earlier ++ x ∷ []) xs) e in
    let rest = repeats_after-none same flips (earlier ++ x ∷ []) xs here.1 in (
      (here.0, AllByRecursion-weaker (λ y. list_any (same y) (earlier ++ x ∷ []) ≡ false) (λ y. list_any (same y) earlier ≡ false) (λ y new. (list_any-push (same y) earlier x new).0) xs rest.0),
      (AllByRecursion-weaker (λ y. list_any (same y) (earlier ++ x ∷ []) ≡ false) (λ y. same x y ≡ false) (λ y new. flips x y ∙ (list_any-push (same y) earlier x new).1) xs rest.0, rest.1),
    )

repeats-none : {X : Type 0} (same : X → X → Bool) → ((x y : X) → same x y ≡ same y x) → (xs : List X) → repeats same xs ≡ [] → IsDistinct same xs
repeats-none same flips xs e = (repeats_after-none same flips [] xs e).1

two-flips : (a b c d : Bool) → a ≡ c → b ≡ d → (a && b) ≡ (c && d)
two-flips a b c d e f = cc

same_address-flips : (a b : List ℕ × ℕ) → same_address a b ≡ same_address b a
same_address-flips a b = two-flips (bytes_eq a.0 b.0) (a.1 == b.1) (bytes_eq b.0 a.0) (b.1 == a.1) (bytes_eq-comm a.0 b.0) (eqb-comm a.1 b.1)

distinct-lists : (lists : List (List (List ℕ))) → flat_map duplicates_in lists ≡ [] → AllByRecursion (IsDistinct bytes_eq) lists
distinct-lists [] e = tt
distinct-lists (ids ∷ lists) e =
    let parts = append-nothing (duplicates_in ids) (flat_map duplicates_in lists) e in
    (repeats-none bytes_eq bytes_eq-comm ids (map-nothing refusals.DuplicateId (repeats bytes_eq ids) parts.0), distinct-lists lists parts.1)

once : {X : Type 0} (test : X → Bool) (rows : List X) → holds_twice test rows ≡ false → count_by test rows < 2
once test rows e = leb-false 2 (count_by test rows) e

pub accepted_has_nothing_twice : (d : Description) → IsAccepted d → HasNothingTwice d
accepted_has_nothing_twice d accepted =
    let faultless = accepted_is_faultless d accepted in
    let vpcs = filter (λ (v : Vpc). holds_twice (is_main_of v.id) d.tables) d.vpcs in
    let subnets = filter (λ (s : Subnet). holds_twice (is_table_of s.id) d.tables) d.subnets in
    let tables = append-nothing (map (λ (v : Vpc). refusals.TwoTables v.id) vpcs) (map (λ (s : Subnet). refusals.TwoTables s.id) subnets) faultless.one_table in
    record {
      ids = distinct-lists (ids_by_list d) faultless.ids;
      addresses = repeats-none same_address same_address-flips (private_addresses d) (assigned-once d faultless.addresses);
      hosts = λ a. apart d a faultless.addresses;
      publics = repeats-none (λ a b. a == b) eqb-comm (public_addresses d) (map-nothing refusals.DuplicatePublic (repeats (λ a b. a == b) (public_addresses d)) faultless.publics);
      gateways = λ v has. once (λ (g : InternetGateway). is_listed v.id g.vpcs) d.igws
          (filter-nothing (λ (v : Vpc). holds_twice (λ (g : InternetGateway). is_listed v.id g.vpcs) d.igws) d.vpcs
          (map-nothing (λ (v : Vpc). refusals.TwoInternetGateways v.id) (filter (λ (v : Vpc). holds_twice (λ (g : InternetGateway). is_listed v.id g.vpcs) d.igws) d.vpcs) faultless.one_gateway) v has);
      main_tables = λ v has. once (is_main_of v.id) d.tables (filter-nothing (λ (v : Vpc). holds_twice (is_main_of v.id) d.tables) d.vpcs (map-nothing (λ (v : Vpc). refusals.TwoTables v.id) vpcs tables.0) v has);
      tables = λ s has. once (is_table_of s.id) d.tables (filter-nothing (λ (s : Subnet). holds_twice (is_table_of s.id) d.tables) d.subnets (map-nothing (λ (s : Subnet). refusals.TwoTables s.id) subnets tables.1) s has);
      acls = λ s has. once (λ (a : Acl). is_listed s.id a.subnets) d.acls
          (filter-nothing (λ (s : Subnet). holds_twice (λ (a : Acl). is_listed s.id a.subnets) d.acls) d.subnets
          (map-nothing (λ (s : Subnet). refusals.TwoAcls s.id) (filter (λ (s : Subnet). holds_twice (λ (a : Acl). is_listed s.id a.subnets) d.acls) d.subnets) faultless.one_acl) s has);
    }
