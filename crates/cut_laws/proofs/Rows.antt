-- Rows among the rows of a description.
use Rattle.vpc_base.specs.Cuts.{AreAmong, CutLists, joined_cuts}
use Rattle.vpc_model.specs.Cuts.{all_cuts, asked_at, cuts_of_acl, cuts_of_appliance, cuts_of_far, cuts_of_interface, cuts_of_vpc, fixed_cuts, unbounded_standing}
use Rattle.cut_laws.proofs.Among.{among_through, left_among, on_sides_among, right_among, row_among}
use Rattle.cut_laws.specs.Types.{Description}
use Rattle.cut_laws.specs.Laws.{AclsAreStanding, AppliancesAreStanding, FarsAreStanding, FixedAreStanding, InterfacesAreStanding, PlacesHaveTheirCuts, VpcsAreStanding}

-- what is among a list is among that list joined with others
pub later : (few a rest : CutLists) → AreAmong few rest → AreAmong few (joined_cuts a rest)
later few a rest k = among_through few rest (joined_cuts a rest) k (right_among a rest)

pub here : (few a rest : CutLists) → AreAmong few a → AreAmong few (joined_cuts a rest)
here few a rest k = among_through few a (joined_cuts a rest) k (left_among a rest)

-- ---- the standing cuts from one list of rows on

abbrev pub from_fars : Description → CutLists
from_fars d = all_cuts cuts_of_far d.fars

abbrev pub from_appliances : Description → CutLists
from_appliances d = joined_cuts (all_cuts cuts_of_appliance d.appliances) (from_fars d)

abbrev pub from_acls : Description → CutLists
from_acls d = joined_cuts (all_cuts cuts_of_acl d.acls) (from_appliances d)

abbrev pub from_interfaces : Description → CutLists
from_interfaces d = joined_cuts (all_cuts cuts_of_interface d.interfaces) (from_acls d)

abbrev pub from_vpcs : Description → CutLists
from_vpcs d = joined_cuts (all_cuts cuts_of_vpc d.vpcs) (from_interfaces d)

pub in_interfaces : (d : Description) (few : CutLists) → AreAmong few (from_interfaces d) → AreAmong few (unbounded_standing d)
in_interfaces d few k = later few fixed_cuts (from_vpcs d) (later few (all_cuts cuts_of_vpc d.vpcs) (from_interfaces d) k)

in_appliances : (d : Description) (few : CutLists) → AreAmong few (from_appliances d) → AreAmong few (unbounded_standing d)
in_appliances d few k =
    in_interfaces d few (later few (all_cuts cuts_of_interface d.interfaces) (from_acls d) (later few (all_cuts cuts_of_acl d.acls) (from_appliances d) k))

-- ---- rows

pub fixed_are_standing : FixedAreStanding
fixed_are_standing d = on_sides_among fixed_cuts (unbounded_standing d) (left_among fixed_cuts (from_vpcs d))

pub vpcs_are_standing : VpcsAreStanding
vpcs_are_standing d v has =
    let vpcs = all_cuts cuts_of_vpc d.vpcs in
    on_sides_among (cuts_of_vpc v) (unbounded_standing d)
    (later (cuts_of_vpc v) fixed_cuts (from_vpcs d) (here (cuts_of_vpc v) vpcs (from_interfaces d) (row_among cuts_of_vpc d.vpcs v has)))

pub interfaces_are_standing : InterfacesAreStanding
interfaces_are_standing d e has =
    let interfaces = all_cuts cuts_of_interface d.interfaces in
    on_sides_among (cuts_of_interface e) (unbounded_standing d)
    (in_interfaces d (cuts_of_interface e) (here (cuts_of_interface e) interfaces (from_acls d) (row_among cuts_of_interface d.interfaces e has)))

pub acls_are_standing : AclsAreStanding
acls_are_standing d a has =
    let acls = all_cuts cuts_of_acl d.acls in
    on_sides_among (cuts_of_acl a) (unbounded_standing d)
    (in_interfaces d (cuts_of_acl a)
    (later (cuts_of_acl a) (all_cuts cuts_of_interface d.interfaces) (from_acls d) (here (cuts_of_acl a) acls (from_appliances d) (row_among cuts_of_acl d.acls a has))))

pub appliances_are_standing : AppliancesAreStanding
appliances_are_standing d a has =
    let appliances = all_cuts cuts_of_appliance d.appliances in
    on_sides_among (cuts_of_appliance a) (unbounded_standing d)
    (in_appliances d (cuts_of_appliance a) (here (cuts_of_appliance a) appliances (from_fars d) (row_among cuts_of_appliance d.appliances a has)))

pub fars_are_standing : FarsAreStanding
fars_are_standing d f has =
    let appliances = all_cuts cuts_of_appliance d.appliances in
    on_sides_among (cuts_of_far f) (unbounded_standing d)
    (in_appliances d (cuts_of_far f) (later (cuts_of_far f) appliances (from_fars d) (row_among cuts_of_far d.fars f has)))

pub places_have_their_cuts : PlacesHaveTheirCuts
places_have_their_cuts d p = record {
  standing = on_sides_among (unbounded_standing d) (joined_cuts (unbounded_standing d) (asked_at d p)) (left_among (unbounded_standing d) (asked_at d p));
  asked = on_sides_among (asked_at d p) (joined_cuts (unbounded_standing d) (asked_at d p)) (right_among (unbounded_standing d) (asked_at d p));
}
