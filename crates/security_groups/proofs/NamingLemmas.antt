-- Which groups rules may name, by ids as by numbers.
use Rattle.std.proofs.Common.{◌≡◌, ◌∙◌, ◌&&◌, ◌<◌, ◌==◌, ◌↔◌, ◌||◌, ◌∷◌, ◌^◌, [], ℕ, Bool, Contains, IsTrue, List, None, Option, Some, ap, arith, bytes_eq, false, filter, get_or, length, refl, slice_index_or, sym, true}
use Rattle.std.specs.List.{list_any}
use Rattle.std.proofs.Math.Bool.{or_comm}
use Rattle.vpc_base.specs.declared.headers.Dir.TheVariants as dirs
use Rattle.vpc_base.proofs.Lemmas.{All-contains, and_from, and_parts, bytes_self, false_from_ne_true, filter-member, list_any-agree, list_any-member, map-member, member-list_any, same_bytes, zip_at}
use Rattle.vpc_laws.specs.Types.{Attachment, Description, Dir, Group}
use Rattle.vpc_model.specs.declared.rows.GroupVpc.{GroupVpc}
use Rattle.vpc_model.specs.Terms.{are_on_one, are_over_transit, are_peers, group_at, is_listed, lets_name, may_name, no_group, vpcs_of_group}
use Rattle.vpc_model.specs.Groups.{is_pair_of}
use Rattle.security_groups.specs.declared.naming.Naming.{Naming}
use Rattle.security_groups.specs.declared.vpcs.GroupVpcs.{GroupVpcs}
use Rattle.security_groups.specs.Terms.{AnyShares, AreAttached, HasOwn, HasPlace, HasVpcsOf, IsNaming, IsVpcNumber, Shares, TellsOfGroup, TellsOfVpcs, further_of, has_pair, is_number, over_transit, place_of}
use Rattle.security_groups.proofs.IdPlaces.{found-number, listed-place, number-found, place-within, same-id, same-number}

-- ---- answers

-- a test that says the same as a statement is any other that does
pub told-by : (P : Type 0) (r b : Bool) → (IsTrue r ↔ P) → (P → b ≡ true) → (b ≡ true → P) → r ≡ b
told-by P true b says from to = sym (from (says.0 refl))
told-by P false b says from to = sym (false_from_ne_true b (λ is. let wrong : false ≡ true = says.1 (to is) in absurd cc))

-- a test of two tests
any-either : {X : Type 0} (p q : X → Bool) (xs : List X) → list_any (λ x. p x || q x) xs ≡ (list_any p xs || list_any q xs)
any-either p q [] = refl
any-either p q (x ∷ xs) = ap (λ (b : Bool). (p x || q x) || b) (any-either p q xs) ∙ four (p x) (q x) (list_any p xs) (list_any q xs)
  where
    four : (a b s t : Bool) → ((a || b) || (s || t)) ≡ ((a || s) || (b || t))
    four true b s t = refl
    four false true true t = refl
    four false true false t = refl
    four false false s t = refl

none-passes : {X : Type 0} (xs : List X) → list_any (λ (x : X). false) xs ≡ false
none-passes [] = refl
none-passes (x ∷ xs) = none-passes xs

-- ---- peerings

-- two VPCs are peered either way round
pub peers-either-way : (d : Description) (v w : List ℕ) → are_peers d v w ≡ are_peers d w v
peers-either-way d v w = list_any-agree (λ x. is_pair_of v w x.pair) (λ x. is_pair_of w v x.pair) (λ x. by x.pair) d.peerings
  where
    by : (o : Option (List ℕ × List ℕ)) → is_pair_of v w o ≡ is_pair_of w v o
    by None = refl
    by (Some pair) = or_comm (bytes_eq pair.0 v && bytes_eq pair.1 w) (bytes_eq pair.0 w && bytes_eq pair.1 v)

-- ---- transit gateways

-- a VPC's attachment to the gateway with a number
record IsOnGateway (d : Description) (gateways : List (List ℕ)) (v : List ℕ) (k : ℕ) : Type 0 where
  pub row : Attachment
  pub has : Contains d.attachments row
  pub lets : lets_name d row ≡ true
  pub vpc : bytes_eq row.vpc v ≡ true
  pub gateway : place_of gateways row.gateway ≡ Some k

on-gateway : (d : Description) (gateways : List (List ℕ)) (v : List ℕ) (k : ℕ) → list_any (λ a. lets_name d a && (bytes_eq a.vpc v && is_number (place_of gateways a.gateway) k)) d.attachments ≡ true → IsOnGateway d gateways v k
on-gateway d gateways v k some =
    let found = list_any-member (λ a. lets_name d a && (bytes_eq a.vpc v && is_number (place_of gateways a.gateway) k)) d.attachments some in
    let a = found.0 in
    let both = and_parts (lets_name d a) (bytes_eq a.vpc v && is_number (place_of gateways a.gateway) k) found.2 in
    let rest = and_parts (bytes_eq a.vpc v) (is_number (place_of gateways a.gateway) k) both.1 in
    record { row = a; has = found.1; lets = both.0; vpc = rest.0; gateway = number-found (place_of gateways a.gateway) k rest.1 }

has-gateway : (d : Description) (gateways : List (List ℕ)) (v : List ℕ) (k : ℕ) (a : Attachment) → Contains d.attachments a → lets_name d a ≡ true → bytes_eq a.vpc v ≡ true → place_of gateways a.gateway ≡ Some k
    → list_any (λ b. lets_name d b && (bytes_eq b.vpc v && is_number (place_of gateways b.gateway) k)) d.attachments ≡ true
has-gateway d gateways v k a has lets vpc number =
    member-list_any (λ b. lets_name d b && (bytes_eq b.vpc v && is_number (place_of gateways b.gateway) k)) d.attachments a has
    (and_from (lets_name d a) (bytes_eq a.vpc v && is_number (place_of gateways a.gateway) k) lets (and_from (bytes_eq a.vpc v) (is_number (place_of gateways a.gateway) k) vpc (found-number (place_of gateways a.gateway) k number)))

-- a gateway that both have joins them
pub transit-from : (d : Description) (ids : List (List ℕ)) (set : List ℕ) (v w : List ℕ) (m k : ℕ) → AreAttached d ids set → place_of ids v ≡ Some m → place_of ids w ≡ Some k → Shares set k set m → are_over_transit d w v ≡ true
transit-from d ids set v w m k are at_v at_w shares =
    let one = on-gateway d are.gateways w shares.number (sym (are.keys w k shares.number at_w shares.fits) ∙ shares.one) in
    let other = on-gateway d are.gateways v shares.number (sym (are.keys v m shares.number at_v shares.fits) ∙ shares.other) in
    let a = one.row in
    let b = other.row in
    let same : a.gateway ≡ b.gateway = same-id are.gateways a.gateway b.gateway shares.number one.gateway other.gateway in
    let on_one : are_on_one w v a b ≡ true = and_from (bytes_eq a.gateway b.gateway) (bytes_eq a.vpc w && bytes_eq b.vpc v) (ap (bytes_eq a.gateway) (sym same) ∙ bytes_self a.gateway) (and_from (bytes_eq a.vpc w) (bytes_eq b.vpc v) one.vpc other.vpc) in
    let inner : list_any (λ y. lets_name d y && are_on_one w v a y) d.attachments ≡ true = member-list_any (λ y. lets_name d y && are_on_one w v a y) d.attachments b other.has (and_from (lets_name d b) (are_on_one w v a b) other.lets on_one) in
    member-list_any (λ x. lets_name d x && list_any (λ y. lets_name d y && are_on_one w v x y) d.attachments) d.attachments a one.has (and_from (lets_name d a) (list_any (λ y. lets_name d y && are_on_one w v a y) d.attachments) one.lets inner)

-- the number of an attachment's gateway
gateway-place : (d : Description) (ids : List (List ℕ)) (set : List ℕ) (a : Attachment) (are : AreAttached d ids set) → lets_name d a ≡ true → (k : ℕ) × (place_of are.gateways a.gateway ≡ Some k)
gateway-place d ids set a are lets =
    let parts = and_parts (is_listed a.id d.scope.attachments) (is_listed a.gateway d.scope.gateways) lets in
    listed-place are.gateways a.gateway (are.named a.gateway ∙ parts.1)

-- and a gateway that joins them is one that both have
pub transit-to : (d : Description) (ids : List (List ℕ)) (set : List ℕ) (v w : List ℕ) (m k : ℕ) → AreAttached d ids set → place_of ids v ≡ Some m → place_of ids w ≡ Some k → are_over_transit d w v ≡ true → Shares set k set m
transit-to d ids set v w m k are at_v at_w joined =
    let outer = list_any-member (λ x. lets_name d x && list_any (λ y. lets_name d y && are_on_one w v x y) d.attachments) d.attachments joined in
    let a = outer.0 in
    let first = and_parts (lets_name d a) (list_any (λ y. lets_name d y && are_on_one w v a y) d.attachments) outer.2 in
    let inner = list_any-member (λ y. lets_name d y && are_on_one w v a y) d.attachments first.1 in
    let b = inner.0 in
    let second = and_parts (lets_name d b) (are_on_one w v a b) inner.2 in
    let on = and_parts (bytes_eq a.gateway b.gateway) (bytes_eq a.vpc w && bytes_eq b.vpc v) second.1 in
    let vpcs = and_parts (bytes_eq a.vpc w) (bytes_eq b.vpc v) on.1 in
    let place = gateway-place d ids set a are first.0 in
    let also : place_of are.gateways b.gateway ≡ Some place.0 = ap (place_of are.gateways) (sym (same_bytes a.gateway b.gateway on.0)) ∙ place.1 in
    let within = place-within are.gateways a.gateway place.0 place.1 in
    let few = are.few in
    let fits : place.0 < 2 ^ 32 = omega arith in
    record {
      number = place.0;
      fits = fits;
      one = are.keys w k place.0 at_w fits ∙ has-gateway d are.gateways w place.0 a outer.1 first.0 vpcs.0 place.1;
      other = are.keys v m place.0 at_v fits ∙ has-gateway d are.gateways v place.0 b inner.1 second.0 vpcs.1 also;
    }

pub transit-is : (d : Description) (named : Naming) (v w : List ℕ) (m k : ℕ) (r : Bool) → IsNaming d named → place_of named.vpcs.ids v ≡ Some m → place_of named.vpcs.ids w ≡ Some k → (IsTrue r ↔ Shares named.attached k named.attached m)
    → r ≡ are_over_transit d w v
transit-is d named v w m k r is at_v at_w says =
    told-by (Shares named.attached k named.attached m) r (are_over_transit d w v) says (transit-from d named.vpcs.ids named.attached v w m k is.attached at_v at_w) (transit-to d named.vpcs.ids named.attached v w m k is.attached at_v at_w)

-- ---- one VPC

pub own-named : (d : Description) (named : Naming) (dir : Dir) (vpc own : ℕ) (v w : List ℕ) (peered over r : Bool) → IsNaming d named → place_of named.vpcs.ids v ≡ Some vpc → place_of named.vpcs.ids w ≡ Some own → peered ≡ has_pair named.peers own vpc
    → over ≡ over_transit dir d v w → r ≡ ((own == vpc) || (peered || over))
    → r ≡ may_name d dir v w
own-named d named dir vpc own v w peered over r naming at_v at_w is_peered is_over is =
    let ids = named.vpcs.ids in
    let one : (own == vpc) ≡ bytes_eq w v = ap (λ (o : Option ℕ). is_number o vpc) (sym at_w) ∙ same-number ids v vpc at_v w in
    let two : peered ≡ are_peers d w v = is_peered ∙ naming.peers w v own vpc at_w at_v in
    is
    ∙ ap (λ (b : Bool). b || (peered || over)) one
    ∙ ap (λ (b : Bool). bytes_eq w v || (b || over)) two
    ∙ ap (λ (b : Bool). bytes_eq w v || (are_peers d w v || b)) is_over

-- an answer that needs no more of three, or of two
pub first-of-three : (a b : Bool) → a ≡ true → a ≡ (a || b)
first-of-three true b is = refl
first-of-three false b is = absurd cc

pub second-of-three : (a b c : Bool) → b ≡ true → b ≡ (a || (b || c))
second-of-three a false c is = absurd cc
second-of-three true true c is = refl
second-of-three false true c is = refl

pub last-of-three : (a b c : Bool) → a ≡ false → b ≡ false → c ≡ (a || (b || c))
last-of-three true b c is also = absurd cc
last-of-three false true c is also = absurd cc
last-of-three false false c is also = refl

pub last-of-two : (a b : Bool) → a ≡ false → b ≡ (a || b)
last-of-two true b is = absurd cc
last-of-two false b is = refl

-- ---- the further VPCs of a group

-- a further VPC, with its number
record IsFurtherPlace (d : Description) (ids : List (List ℕ)) (g : Group) (k : ℕ) : Type 0 where
  pub id : List ℕ
  pub has : Contains (further_of d g) id
  pub at : place_of ids id ≡ Some k

further-at : (d : Description) (vpcs : GroupVpcs) (g k : ℕ) → HasVpcsOf d vpcs → g < length d.groups → k < 2 ^ 32 → has_pair vpcs.pairs g k ≡ true → IsFurtherPlace d vpcs.ids (group_at d (record { 0 = g })) k
further-at d vpcs g k naming within small has =
    let ids = vpcs.ids in
    let row = group_at d (record { 0 = g }) in
    let found = list_any-member (λ id. is_number (place_of ids id) k) (further_of d row) (sym (naming.pairs g k within small) ∙ has) in
    record { id = found.0; has = found.1; at = number-found (place_of ids found.0) k found.2 }

-- the number of a further VPC, as a key
pub record HasFurtherPlace (d : Description) (vpcs : GroupVpcs) (g : ℕ) (id : List ℕ) : Type 0 where
  pub number : ℕ
  pub at : place_of vpcs.ids id ≡ Some number
  pub fits : number < 2 ^ 32
  pub has : has_pair vpcs.pairs g number ≡ true

pub further-place : (d : Description) (vpcs : GroupVpcs) (g : ℕ) (id : List ℕ) → HasVpcsOf d vpcs → g < length d.groups → Contains (further_of d (group_at d (record { 0 = g }))) id → HasFurtherPlace d vpcs g id
further-place d vpcs g id naming within there =
    let ids = vpcs.ids in
    let row = group_at d (record { 0 = g }) in
    let mapped = map-member (λ (x : GroupVpc). x.vpc) (filter (λ x. bytes_eq x.group row.id) d.scope.vpcs) id there in
    let kept = filter-member (λ x. bytes_eq x.group row.id) d.scope.vpcs mapped.0 mapped.1 in
    let place = All-contains (HasPlace ids) d.scope.vpcs mapped.0 naming.further kept.1 in
    let at : place_of ids id ≡ Some place.0 = ap (place_of ids) (sym mapped.2) ∙ place.1 in
    let below = place-within ids id place.0 at in
    let few = naming.few in
    let fits : place.0 < 2 ^ 32 = omega arith in
    record {
      number = place.0;
      at = at;
      fits = fits;
      has = naming.pairs g place.0 within fits ∙ member-list_any (λ x. is_number (place_of ids x) place.0) (further_of d row) id there (found-number (place_of ids id) place.0 at);
    }

-- one of them is the VPC itself
pub further-same : (d : Description) (vpcs : GroupVpcs) (g vpc : ℕ) (v : List ℕ) → HasVpcsOf d vpcs → place_of vpcs.ids v ≡ Some vpc → g < length d.groups
    → has_pair vpcs.pairs g vpc ≡ is_listed v (further_of d (group_at d (record { 0 = g })))
further-same d vpcs g vpc v has at_v within =
    let below = place-within vpcs.ids v vpc at_v in
    let few = has.few in
    has.pairs g vpc within (omega arith)
    ∙ list_any-agree (λ w. is_number (place_of vpcs.ids w) vpc) (λ w. bytes_eq w v) (same-number vpcs.ids v vpc at_v) (further_of d (group_at d (record { 0 = g })))

-- one of them is peered with it
pub further-peered : (d : Description) (named : Naming) (g vpc : ℕ) (v : List ℕ) (r : Bool) → IsNaming d named → place_of named.vpcs.ids v ≡ Some vpc → g < length d.groups → (IsTrue r ↔ Shares named.peers vpc named.vpcs.pairs g)
    → r ≡ list_any (λ w. are_peers d w v) (further_of d (group_at d (record { 0 = g })))
further-peered d named g vpc v r naming at_v within says =
    told-by (Shares named.peers vpc named.vpcs.pairs g) r (list_any (λ w. are_peers d w v) vpcs) says
    (λ shares.
    let at = further-at d named.vpcs g shares.number naming.vpcs within shares.fits shares.other in
    member-list_any (λ w. are_peers d w v) vpcs at.id at.has (peers-either-way d at.id v ∙ sym (naming.peers v at.id vpc shares.number at_v at.at) ∙ shares.one))
    (λ some.
    let found = list_any-member (λ w. are_peers d w v) vpcs some in
    let place = further-place d named.vpcs g found.0 naming.vpcs within found.1 in
    record { number = place.number; fits = place.fits; one = naming.peers v found.0 vpc place.number at_v place.at ∙ peers-either-way d v found.0 ∙ found.2; other = place.has })
  where
    vpcs : List (List ℕ)
    vpcs = further_of d (group_at d (record { 0 = g }))

-- one of them is joined with it by a transit gateway
pub further-joined : (d : Description) (named : Naming) (g vpc : ℕ) (v : List ℕ) (r : Bool) → IsNaming d named → place_of named.vpcs.ids v ≡ Some vpc → g < length d.groups → (IsTrue r ↔ AnyShares named.vpcs.pairs g named.attached vpc)
    → r ≡ list_any (λ w. are_over_transit d w v) (further_of d (group_at d (record { 0 = g })))
further-joined d named g vpc v r naming at_v within says =
    told-by (AnyShares named.vpcs.pairs g named.attached vpc) r (list_any (λ w. are_over_transit d w v) vpcs) says
    (λ any.
    let at = further-at d named.vpcs g any.number naming.vpcs within any.fits any.has in
    member-list_any (λ w. are_over_transit d w v) vpcs at.id at.has (transit-from d named.vpcs.ids named.attached v at.id vpc any.number naming.attached at_v at.at any.shares))
    (λ some.
    let found = list_any-member (λ w. are_over_transit d w v) vpcs some in
    let place = further-place d named.vpcs g found.0 naming.vpcs within found.1 in
    record { number = place.number; fits = place.fits; has = place.has; shares = transit-to d named.vpcs.ids named.attached v found.0 vpc place.number naming.attached at_v place.at found.2 })
  where
    vpcs : List (List ℕ)
    vpcs = further_of d (group_at d (record { 0 = g }))

pub outward-none : (named : Naming) (vpc g : ℕ) → TellsOfGroup (over_transit dirs.Outward) further_of named vpc g false
outward-none named vpc g d v naming at_v within = sym (none-passes (further_of d (group_at d (record { 0 = g }))))

-- all three
pub further-named : (d : Description) (named : Naming) (dir : Dir) (vpc g : ℕ) (v : List ℕ) (same peered over r : Bool) → IsNaming d named → place_of named.vpcs.ids v ≡ Some vpc → g < length d.groups → same ≡ has_pair named.vpcs.pairs g vpc
    → peered ≡ list_any (λ w. are_peers d w v) (further_of d (group_at d (record { 0 = g }))) → over ≡ list_any (over_transit dir d v) (further_of d (group_at d (record { 0 = g }))) → r ≡ (same || (peered || over))
    → r ≡ list_any (may_name d dir v) (further_of d (group_at d (record { 0 = g })))
further-named d named dir vpc g v same peered over r naming at_v within is_same is_peered is_over is =
    let vpcs = further_of d (group_at d (record { 0 = g })) in
    is
    ∙ ap (λ (b : Bool). b || (peered || over)) (is_same ∙ further-same d named.vpcs g vpc v naming.vpcs at_v within)
    ∙ ap (λ (b : Bool). list_any (λ w. bytes_eq w v) vpcs || (b || over)) is_peered
    ∙ ap (λ (b : Bool). list_any (λ w. bytes_eq w v) vpcs || (list_any (λ w. are_peers d w v) vpcs || b)) is_over
    ∙ ap (λ (b : Bool). list_any (λ w. bytes_eq w v) vpcs || b) (sym (any-either (λ w. are_peers d w v) (over_transit dir d v) vpcs))
    ∙ sym (any-either (λ w. bytes_eq w v) (λ w. are_peers d w v || over_transit dir d v w) vpcs)

-- ---- all VPCs of a group

pub own-at : (d : Description) (vpcs : GroupVpcs) (g own : ℕ) → HasVpcsOf d vpcs → g < length d.groups → own ≡ get_or vpcs.own.items g own → place_of vpcs.ids (group_at d (record { 0 = g })).vpc ≡ Some own
own-at d vpcs g own has within is = zip_at (HasOwn vpcs.ids) d.groups vpcs.own.items g no_group own has.own within ∙ ap Some (sym is)

-- its own one, where that is enough
pub group-by-own : (d : Description) (named : Naming) (dir : Dir) (vpc g own : ℕ) (here : Bool) → IsNaming d named → IsVpcNumber named.vpcs.ids vpc → g < length d.groups → own ≡ get_or named.vpcs.own.items g own
    → TellsOfVpcs (λ x. may_name x dir) named vpc own here → here ≡ true
    → here ≡ list_any (may_name d dir (slice_index_or named.vpcs.ids vpc [])) (vpcs_of_group d (group_at d (record { 0 = g })))
group-by-own d named dir vpc g own here naming at_v within own_is tells passes =
    let v = slice_index_or named.vpcs.ids vpc [] in
    let row = group_at d (record { 0 = g }) in
    first-of-three here (list_any (may_name d dir v) (further_of d row)) passes
    ∙ ap (λ (b : Bool). b || list_any (may_name d dir v) (further_of d row)) (tells d v row.vpc naming at_v (own-at d named.vpcs g own naming.vpcs within own_is))

-- else its further ones
pub group-by-further : (d : Description) (named : Naming) (dir : Dir) (vpc g own : ℕ) (here further : Bool) → IsNaming d named → IsVpcNumber named.vpcs.ids vpc → g < length d.groups → own ≡ get_or named.vpcs.own.items g own
    → TellsOfVpcs (λ x. may_name x dir) named vpc own here → here ≡ false → TellsOfGroup (λ x. may_name x dir) further_of named vpc g further
    → further ≡ list_any (may_name d dir (slice_index_or named.vpcs.ids vpc [])) (vpcs_of_group d (group_at d (record { 0 = g })))
group-by-further d named dir vpc g own here further naming at_v within own_is tells fails also =
    let v = slice_index_or named.vpcs.ids vpc [] in
    let row = group_at d (record { 0 = g }) in
    also d v naming at_v within
    ∙ last-of-two here (list_any (may_name d dir v) (further_of d row)) fails
    ∙ ap (λ (b : Bool). b || list_any (may_name d dir v) (further_of d row)) (tells d v row.vpc naming at_v (own-at d named.vpcs g own naming.vpcs within own_is))
