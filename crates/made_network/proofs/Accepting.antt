-- A generated network is accepted: one kind of refusal at a time.
use Rattle.std.proofs.Common.{◌==◌, ◌≡◌, ◌≤◌, ◌∙◌, ◌∷◌, ◌||◌, [], Bool, List, ap, arith, bytes_eq, codes, false, length, map, nat_le, nat_lt, ne_eqb, not, refl, true, ℕ}
use Rattle.std.specs.List.{count_by, filter, filter_map, list_any}
use Rattle.std.proofs.lemmas.Bool.{and_right, or_left}
use Rattle.std.proofs.lemmas.Bool.Decides.{nat_tests}
use Rattle.std.proofs.lemmas.List.FromFn.{length-map-range_with_len}
use Rattle.vpc_base.proofs.Members.{nothing-append}
use Rattle.reference_check.proofs.Alone.{assigned-alone}
use Rattle.reference_check.specs.Claimed.{has_prefixes}
use Rattle.vpc_laws.proofs.Accepting.{faultless_is_accepted}
use Rattle.vpc_laws.proofs.Lengths.{too_long-none}
use Rattle.vpc_model.specs.Accepted.{duplicate_addresses, duplicate_ids, duplicate_publics, duplicates_in, holds_twice, ids_by_list, is_long, is_long_group, is_main_of, is_table_of, public_addresses, repeats, same_address, too_long, too_many_rows, two_acls, two_gateways, two_tables, without_acl, without_table}
use Rattle.vpc_model.specs.Lookup.{is_listed, vpc_of_interface}
use Rattle.vpc_model.specs.declared.refusals.ListName.{ListName}
use Rattle.vpc_model.specs.declared.refusals.ListName.TheVariants as named
use Rattle.vpc_model.specs.declared.refusals.Refusal.TheVariants as refusals
use Rattle.vpc_model.specs.declared.rows.InternetGateway.{InternetGateway}
use Rattle.made_network.specs.Types.{Acl, Association, Attachment, Group, Interface, RouteTable, Subnet, TgwTable, Vpc}
use Rattle.made_network.specs.Made.{MadeIsAccepted, for_each, host_address, made, made_acl, made_association, made_attachment, made_gateway_table, made_group, made_interface, made_subnet, made_table, made_vpc, subnet_id, vpc_id}
use Rattle.made_network.proofs.Described.{nothing-missing}
use Rattle.made_network.proofs.Numbers.{ids-differ, numbered-same, numbered-self}
use Rattle.made_network.proofs.Ranges.{Differ, IsOneOf, count-none, count-one, filter-each, flat_map-each, flat_map-none, flat_map-single, list_any-each, list_any-none, repeats-each}

-- ---- what would stand twice

no-duplicate_ids : (n : ℕ) → n ≤ 50 → duplicate_ids (made n) ≡ []
no-duplicate_ids n most =
    flat_map-none duplicates_in (ids_by_list (made n)) (
      ids-differ (λ (v : Vpc). v.id) made_vpc (codes "vpc") n most (λ k. refl),
      (
        ids-differ (λ (s : Subnet). s.id) made_subnet (codes "subnet") n most (λ k. refl),
        (
          ids-differ (λ (e : Interface). e.id) made_interface (codes "eni") n most (λ k. refl),
          (
            ids-differ (λ (t : RouteTable). t.id) made_table (codes "rtb") n most (λ k. refl),
            (
              refl,
              (
                ids-differ (λ (a : Acl). a.id) made_acl (codes "acl") n most (λ k. refl),
                (
                  ids-differ (λ (g : Group). g.id) made_group (codes "sg") n most (λ k. refl),
                  (
                    refl,
                    (
                      refl,
                      (
                        refl,
                        (
                          ids-differ (λ (a : Attachment). a.id) made_attachment (codes "att") n most (λ k. refl),
                          (
                            ids-differ (λ (x : Association). x.attachment) made_association (codes "att") n most (λ k. refl),
                            (
                              refl,
                              (
                                refl,
                                tt,
                              ),
                            ),
                          ),
                        ),
                      ),
                    ),
                  ),
                ),
              ),
            ),
          ),
        ),
      ),
    )

addresses-differ : (vpc_of : ℕ → List ℕ) (n : ℕ) → Differ same_address (λ k. (vpc_of k, host_address k)) 1 n
addresses-differ vpc_of n j k from below to =
    let other : (host_address k == host_address j) ≡ false = ne_eqb (host_address k) (host_address j) (λ same. omega (arith, same, below)) in
    and_right (bytes_eq (vpc_of k) (vpc_of j)) (host_address k == host_address j) other

no-prefixes : (n : ℕ) → has_prefixes (made n) ≡ false
no-prefixes n = list_any-none (λ (e : Interface). nat_lt 0 (length e.prefixes)) made_interface 1 n (λ k. refl)

no-duplicate_addresses : (n : ℕ) → duplicate_addresses (made n) ≡ []
no-duplicate_addresses n =
    let d = made n in
    let vpc_of : ℕ → List ℕ = λ k. vpc_of_interface d (made_interface k) in
    let addresses = flat_map-single (λ (e : Interface). map (λ (x : ℕ × _). (vpc_of_interface d e, x.0)) e.addresses) made_interface (λ k. (vpc_of k, host_address k)) 1 n (λ k. refl) in
    assigned-alone d (no-prefixes n)
    ∙ ap (λ (xs : List (List ℕ × ℕ)). map (λ (a : List ℕ × ℕ). refusals.DuplicateAddress a.0 a.1) (repeats same_address xs)) addresses
    ∙ ap (map (λ (a : List ℕ × ℕ). refusals.DuplicateAddress a.0 a.1)) (repeats-each same_address (λ k. (vpc_of k, host_address k)) 1 n (addresses-differ vpc_of n))

no-duplicate_publics : (n : ℕ) → duplicate_publics (made n) ≡ []
no-duplicate_publics n =
    let none : public_addresses (made n) ≡ [] = flat_map-each (λ (e : Interface). filter_map (λ x. x.1) e.addresses) made_interface 1 n (λ k one. refl) in
    ap (λ (xs : List ℕ). map refusals.DuplicatePublic (repeats (λ a b. a == b) xs)) none

-- ---- tables, ACLs and gateways

no-lack_of_table : (n : ℕ) → without_table (made n) ≡ []
no-lack_of_table n =
    let d = made n in
    let serves : Subnet → RouteTable → Bool = λ s t. is_table_of s.id t || is_main_of s.vpc t in
    let main : (k : ℕ) → IsOneOf 1 n k → list_any (serves (made_subnet k)) d.tables ≡ true = λ k one. list_any-each (serves (made_subnet k)) made_table 1 n k one (numbered-self (codes "vpc") k) in
    ap (map (λ (s : Subnet). refusals.NoRouteTable s.id)) (filter-each (λ (s : Subnet). not (list_any (serves s) d.tables)) made_subnet 1 n (λ k one. ap not (main k one)))

no-lack_of_acl : (n : ℕ) → without_acl (made n) ≡ []
no-lack_of_acl n =
    let d = made n in
    let judges : Subnet → Acl → Bool = λ s a. is_listed s.id a.subnets in
    let own : (k : ℕ) → IsOneOf 1 n k → list_any (judges (made_subnet k)) d.acls ≡ true = λ k one.
    list_any-each (judges (made_subnet k)) made_acl 1 n k one (or_left (bytes_eq (subnet_id k) (subnet_id k)) false (numbered-self (codes "subnet") k)) in
    ap (map (λ (s : Subnet). refusals.NoAcl s.id)) (filter-each (λ (s : Subnet). not (list_any (judges s) d.acls)) made_subnet 1 n (λ k one. ap not (own k one)))

no-two_gateways : (n : ℕ) → two_gateways (made n) ≡ []
no-two_gateways n = ap (map (λ (v : Vpc). refusals.TwoInternetGateways v.id)) (filter-each (λ (v : Vpc). holds_twice (λ (g : InternetGateway). is_listed v.id g.vpcs) []) made_vpc 1 n (λ k one. refl))

once : (count : ℕ) → count ≤ 1 → nat_le 2 count ≡ false
once count most = grind (arith, nat_tests)

no-two_tables : (n : ℕ) → n ≤ 50 → two_tables (made n) ≡ []
no-two_tables n most =
    let d = made n in
    let alone : (k : ℕ) → IsOneOf 1 n k → holds_twice (is_main_of (vpc_id k)) d.tables ≡ false = λ k one.
    once (count_by (is_main_of (vpc_id k)) d.tables) (count-one (is_main_of (vpc_id k)) made_table 1 n k
    (λ j other same. numbered-same (codes "vpc") j k (omega (arith, other.1, most)) (omega (arith, one.1, most)) same)) in
    let none : (k : ℕ) → IsOneOf 1 n k → holds_twice (is_table_of (subnet_id k)) d.tables ≡ false = λ k one.
    ap (nat_le 2) (count-none (is_table_of (subnet_id k)) made_table 1 n (λ j other. refl)) in
    nothing-append (map (λ (v : Vpc). refusals.TwoTables v.id) (filter (λ (v : Vpc). holds_twice (is_main_of v.id) d.tables) d.vpcs)) (map (λ (s : Subnet). refusals.TwoTables s.id) (filter (λ (s : Subnet). holds_twice (is_table_of s.id) d.tables) d.subnets))
    (ap (map (λ (v : Vpc). refusals.TwoTables v.id)) (filter-each (λ (v : Vpc). holds_twice (is_main_of v.id) d.tables) made_vpc 1 n alone))
    (ap (map (λ (s : Subnet). refusals.TwoTables s.id)) (filter-each (λ (s : Subnet). holds_twice (is_table_of s.id) d.tables) made_subnet 1 n none))

or-false : (b : Bool) → (b || false) ≡ true → b ≡ true
or-false true e = refl
or-false false e = e

no-two_acls : (n : ℕ) → n ≤ 50 → two_acls (made n) ≡ []
no-two_acls n most =
    let d = made n in
    let alone : (k : ℕ) → IsOneOf 1 n k → holds_twice (λ (a : Acl). is_listed (subnet_id k) a.subnets) d.acls ≡ false = λ k one.
    once (count_by (λ (a : Acl). is_listed (subnet_id k) a.subnets) d.acls) (count-one (λ (a : Acl). is_listed (subnet_id k) a.subnets) made_acl 1 n k
    (λ j other same. numbered-same (codes "subnet") j k (omega (arith, other.1, most)) (omega (arith, one.1, most)) (or-false (bytes_eq (subnet_id j) (subnet_id k)) same))) in
    ap (map (λ (s : Subnet). refusals.TwoAcls s.id)) (filter-each (λ (s : Subnet). holds_twice (λ a. is_listed s.id a.subnets) d.acls) made_subnet 1 n alone)

-- ---- the length of lists

short : {X : Type 0} (row : ℕ → X) (n : ℕ) → n ≤ 50 → is_long (for_each row n) ≡ false
short row n most = ap (nat_lt 100000) (length-map-range_with_len row 1 n) ∙ below
  where
    below : nat_lt 100000 n ≡ false
    below = grind (arith, nat_tests)

short-lists : {X : Type 0} (name : ListName) (p : X → Bool) (row : ℕ → X) (n : ℕ) → n ≤ 50 → ((k : ℕ) → p (row k) ≡ false) → too_long name p (for_each row n) ≡ []
short-lists name p row n most none = rw (short row n most, list_any-none p row 1 n none)

no-long_lists : (n : ℕ) → n ≤ 50 → too_many_rows (made n) ≡ []
no-long_lists n most =
    too_long-none (made n) (
      short-lists named.Vpcs (λ (v : Vpc). is_long v.blocks) made_vpc n most (λ k. refl),
      (
        short-lists named.Subnets (λ (s : Subnet). false) made_subnet n most (λ k. refl),
        (
          short-lists named.NetworkInterfaces (λ (e : Interface). is_long e.addresses || (is_long e.prefixes || is_long e.groups)) made_interface n most (λ k. refl),
          (
            short-lists named.RouteTables (λ (t : RouteTable). is_long t.subnets || (is_long t.gateways || is_long t.routes)) made_table n most (λ k. refl),
            (
              refl,
              (
                short-lists named.NetworkAcls (λ (a : Acl). is_long a.subnets || is_long a.rows) made_acl n most (λ k. refl),
                (
                  short-lists named.SecurityGroups is_long_group made_group n most (λ k. refl),
                  (
                    refl,
                    (
                      refl,
                      (
                        refl,
                        (
                          short-lists named.TransitGatewayVpcAttachments (λ (a : Attachment). is_long a.subnets) made_attachment n most (λ k. refl),
                          (
                            short-lists named.TransitGatewayAttachments (λ (x : Association). false) made_association n most (λ k. refl),
                            (
                              one_list named.TransitGatewayRoutes (λ (t : TgwTable). is_long t.routes) (made_gateway_table n) (short _ n most),
                              (refl, (refl, (refl, tt))),
                            ),
                          ),
                        ),
                      ),
                    ),
                  ),
                ),
              ),
            ),
          ),
        ),
      ),
    )
  where
    one_list : {X : Type 0} (name : ListName) (p : X → Bool) (x : X) → p x ≡ false → too_long name p (x ∷ []) ≡ []
    one_list name p x e = rw e

-- ---- all of them

pub made_is_accepted : MadeIsAccepted
made_is_accepted n some most =
    faultless_is_accepted (made n) (record {
      ids = no-duplicate_ids n most;
      references = nothing-missing n most;
      addresses = no-duplicate_addresses n;
      publics = no-duplicate_publics n;
      tables = no-lack_of_table n;
      acls = no-lack_of_acl n;
      one_gateway = no-two_gateways n;
      one_table = no-two_tables n most;
      one_acl = no-two_acls n most;
      lengths = no-long_lists n most;
    })
