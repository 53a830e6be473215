-- The cuts of addresses, of places and of walks.
use Rattle.std.proofs.Common.{◌≡◌, ◌∙◌, ◌++◌, ◌∷◌, [], List, None, Option, Some, ap, get_or, refl, subst, suc, sym, zero, ℕ}
use Rattle.std.specs.List.{flat_map}
use Rattle.std.proofs.lemmas.Grind.{flat_map-append}
use Rattle.vpc_base.specs.Cuts.{AreAmong, CutLists, joined_cuts, no_cuts}
use Rattle.vpc_model.specs.Cuts.{address_cuts, all_cuts, asked_at, block_cuts, cuts_at, cuts_at_interface, cuts_at_table, cuts_at_tgw_table, cuts_from_far, cuts_of, cuts_of_blocks, cuts_of_group, cuts_of_group_id, cuts_of_interface, cuts_of_list, cuts_of_table, cuts_of_tgw_table, fixed_cuts, pair_cuts, unbounded_asked, unbounded_standing}
use Rattle.vpc_model.specs.Far.{table_of_attachment_id}
use Rattle.vpc_model.specs.Firewalls.{entrance_table}
use Rattle.vpc_model.specs.Lookup.{addresses_in, both_addresses, far_at, group_at, group_of_id, interface_at, no_group, no_table, no_tgw_table, table_at, table_of}
use Rattle.vpc_model.specs.Near.{cuts_of_hops}
use Rattle.vpc_model.specs.Transit.{table_of_attachment}
use Rattle.vpc_model.specs.Verdict.{reply_hops, request_walk}
use Rattle.vpc_model.specs.declared.numbers.GroupNo.{GroupNo}
use Rattle.vpc_model.specs.declared.numbers.TableNo.{TableNo}
use Rattle.vpc_model.specs.declared.numbers.TgwTableNo.{TgwTableNo}
use Rattle.vpc_model.specs.declared.outcomes.Hop.{Hop}
use Rattle.vpc_model.specs.declared.places.Place.TheVariants as places
use Rattle.vpc_model.specs.declared.rows.FarKind.{FarKind}
use Rattle.vpc_model.specs.declared.rows.FarKind.TheVariants as kinds
use Rattle.cut_laws.proofs.Among.{among_itself, among_through, both_among, joined_among, left_among, none_among, on_sides_among, right_among, rows_among}
use Rattle.cut_laws.proofs.Rows.{from_acls, from_vpcs, here, in_interfaces, later}
use Rattle.cut_laws.specs.Laws.{AddressesAreStanding, NearCutsAreAmongAll, PlacesCutTheDescription}
use Rattle.cut_laws.specs.Types.{Description, Interface, Place}

-- ---- addresses

address-cuts : (x : ℕ × Option ℕ) → flat_map address_cuts (both_addresses x) ≡ pair_cuts x
address-cuts (own, None) = refl
address-cuts (own, Some public) = refl

addresses-cut : (xs : List (ℕ × Option ℕ)) → flat_map address_cuts (flat_map both_addresses xs) ≡ flat_map pair_cuts xs
addresses-cut [] = refl
addresses-cut (x ∷ xs) =
    flat_map-append address_cuts (both_addresses x) (flat_map both_addresses xs)
    ∙ (ap (λ (l : List ℕ). l ++ flat_map address_cuts (flat_map both_addresses xs)) (address-cuts x) ∙ ap (λ (l : List ℕ). pair_cuts x ++ l) (addresses-cut xs))

abbrev addresses_at : Interface → List ℕ
addresses_at e = flat_map both_addresses e.addresses

interfaces-among : (es : List Interface) → AreAmong (cuts_of_blocks (flat_map address_cuts (flat_map addresses_at es))) (all_cuts cuts_of_interface es)
interfaces-among [] = among_itself no_cuts
interfaces-among (e ∷ es) =
    let own = cuts_of_blocks (flat_map pair_cuts e.addresses) in
    let later_ones = flat_map address_cuts (flat_map addresses_at es) in
    subst (λ (c : CutLists). AreAmong c (joined_cuts (cuts_of_interface e) (all_cuts cuts_of_interface es)))
    (sym (ap cuts_of_blocks (flat_map-append address_cuts (addresses_at e) (flat_map addresses_at es) ∙ ap (λ (l : List ℕ). l ++ later_ones) (addresses-cut e.addresses))))
    (joined_among own (cuts_of_blocks later_ones) (cuts_of_interface e) (all_cuts cuts_of_interface es)
    (left_among own (cuts_of_blocks (flat_map block_cuts e.prefixes))) (interfaces-among es))

pub addresses_are_standing : AddressesAreStanding
addresses_are_standing d =
    let rows = all_cuts cuts_of_interface d.interfaces in
    let blocks = cuts_of_blocks (flat_map address_cuts (addresses_in d)) in
    on_sides_among (joined_cuts fixed_cuts blocks) (unbounded_standing d)
    (both_among fixed_cuts blocks (unbounded_standing d) (left_among fixed_cuts (from_vpcs d))
    (among_through blocks rows (unbounded_standing d) (interfaces-among d.interfaces) (in_interfaces d rows (left_among rows (from_acls d)))))

-- ---- places

-- the cuts of the row at a number are among those of all rows, where no row has none
row-at-among : {X : Type 0} (f : X → CutLists) (none : X) (xs : List X) (k : ℕ) → f none ≡ no_cuts → AreAmong (f (get_or xs k none)) (all_cuts f xs)
row-at-among f none [] k is = subst (λ (c : CutLists). AreAmong c no_cuts) (sym is) (among_itself no_cuts)
row-at-among f none (x ∷ xs) zero is = left_among (f x) (all_cuts f xs)
row-at-among f none (x ∷ xs) (suc k) is =
    among_through (f (get_or xs k none)) (all_cuts f xs) (all_cuts f (x ∷ xs)) (row-at-among f none xs k is) (right_among (f x) (all_cuts f xs))

group-among : (d : Description) (o : Option GroupNo) → AreAmong (elim o [ None ↦ no_cuts | Some g ↦ cuts_of_group d (group_at d g) ]) (all_cuts (cuts_of_group d) d.groups)
group-among d None = none_among (all_cuts (cuts_of_group d) d.groups)
group-among d (Some g) = row-at-among (cuts_of_group d) no_group d.groups g.0 refl

groups-among : (d : Description) (ids : List (List ℕ)) → AreAmong (all_cuts (cuts_of_group_id d) ids) (all_cuts (cuts_of_group d) d.groups)
groups-among d ids = rows_among (cuts_of_group_id d) (all_cuts (cuts_of_group d) d.groups) ids (λ id has. group-among d (group_of_id d id))

tgw-among : (d : Description) (o : Option TgwTableNo) → AreAmong (cuts_at_tgw_table d o) (all_cuts cuts_of_tgw_table d.tgw_tables)
tgw-among d None = none_among (all_cuts cuts_of_tgw_table d.tgw_tables)
tgw-among d (Some t) = row-at-among cuts_of_tgw_table no_tgw_table d.tgw_tables t.0 refl

table-among : (d : Description) (o : Option TableNo) → AreAmong (cuts_at_table d o) (all_cuts (cuts_of_table d) d.tables)
table-among d None = none_among (all_cuts (cuts_of_table d) d.tables)
table-among d (Some t) = row-at-among (cuts_of_table d) no_table d.tables t.0 refl

-- from a network that isn't described
far-among : (d : Description) (id : List ℕ) (kind : FarKind) → AreAmong (cuts_from_far d (record { id = id; kind = kind })) (all_cuts cuts_of_tgw_table d.tgw_tables)
far-among d id (kinds.PrivateGateway vpc) = none_among (all_cuts cuts_of_tgw_table d.tgw_tables)
far-among d id (kinds.Attachment vpc) = tgw-among d (table_of_attachment_id d id)
far-among d id (kinds.Peering requester accepter) = none_among (all_cuts cuts_of_tgw_table d.tgw_tables)
far-among d id (kinds.Endpoint vpc) = none_among (all_cuts cuts_of_tgw_table d.tgw_tables)

asked-among : (d : Description) (p : Place) → AreAmong (asked_at d p) (unbounded_asked d)
asked-among d p = by p
  where
    lists : CutLists
    lists = all_cuts cuts_of_list d.lists

    tables : CutLists
    tables = all_cuts (cuts_of_table d) d.tables

    groups : CutLists
    groups = all_cuts (cuts_of_group d) d.groups

    transit : CutLists
    transit = all_cuts cuts_of_tgw_table d.tgw_tables

    of-groups : (few : CutLists) → AreAmong few groups → AreAmong few (unbounded_asked d)
    of-groups few k = later few lists (joined_cuts tables (joined_cuts groups transit)) (later few tables (joined_cuts groups transit) (here few groups transit k))

    of-tables : (few : CutLists) → AreAmong few tables → AreAmong few (unbounded_asked d)
    of-tables few k = later few lists (joined_cuts tables (joined_cuts groups transit)) (here few tables (joined_cuts groups transit) k)

    of-transit : (few : CutLists) → AreAmong few transit → AreAmong few (unbounded_asked d)
    of-transit few k = later few lists (joined_cuts tables (joined_cuts groups transit)) (later few tables (joined_cuts groups transit) (later few groups transit k))

    by : (p : Place) → AreAmong (asked_at d p) (unbounded_asked d)
    by (places.OutOf i) = of-groups (cuts_at_interface d i) (groups-among d (interface_at d i).groups)
    by (places.Into i) = of-groups (cuts_at_interface d i) (groups-among d (interface_at d i).groups)
    by (places.Router s came) =
        of-tables (cuts_of_table d (table_at d (table_of d s)))
        (row-at-among (cuts_of_table d) no_table d.tables (table_of d s).0 refl)
    by (places.Tgw a entered) = of-transit (cuts_at_tgw_table d (table_of_attachment d a)) (tgw-among d (table_of_attachment d a))
    by (places.Enter v b) = of-tables (cuts_at_table d (entrance_table d v b)) (table-among d (entrance_table d v b))
    by (places.IgwOut v) = none_among (unbounded_asked d)
    by places.Internet = none_among (unbounded_asked d)
    by (places.IgwIn v) = none_among (unbounded_asked d)
    by (places.NatOut n) = none_among (unbounded_asked d)
    by (places.NatIn n) = none_among (unbounded_asked d)
    by (places.Peer x v) = none_among (unbounded_asked d)
    by (places.TgwLeave a entered) = none_among (unbounded_asked d)
    by (places.FarOut k) = none_among (unbounded_asked d)
    by (places.FarIn k) = let f = far_at d k in of-transit (cuts_from_far d f) (far-among d f.id f.kind)
    by (places.Inspect e) = none_among (unbounded_asked d)

pub places_cut_the_description : PlacesCutTheDescription
places_cut_the_description d p =
    on_sides_among (joined_cuts (unbounded_standing d) (asked_at d p)) (joined_cuts (unbounded_standing d) (unbounded_asked d))
    (joined_among (unbounded_standing d) (asked_at d p) (unbounded_standing d) (unbounded_asked d) (among_itself (unbounded_standing d)) (asked-among d p))

-- ---- walks

hops-among : (d : Description) (hops : List Hop) → AreAmong (cuts_of_hops d hops) (cuts_of d)
hops-among d hops = rows_among (λ (h : Hop). cuts_at d h.place) (cuts_of d) hops (λ h has. places_cut_the_description d h.place)

pub near_cuts_are_among_all : NearCutsAreAmongAll
near_cuts_are_among_all d appliances start goal h =
    let request = request_walk d appliances start h in
    both_among (cuts_of_hops d request.hops) (cuts_of_hops d (reply_hops d appliances start goal h)) (cuts_of d)
    (hops-among d request.hops) (hops-among d (reply_hops d appliances start goal h))
