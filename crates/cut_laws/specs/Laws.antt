-- Whose cuts are among those at which places.
use Rattle.std.specs.Prelude.{Contains}
use Rattle.vpc_base.specs.Cuts.{AreAmong}
use Rattle.vpc_model.specs.Appliances.{Appliances}
use Rattle.vpc_model.specs.Cuts.{asked_at, cuts_at, cuts_of, cuts_of_acl, cuts_of_appliance, cuts_of_far, cuts_of_interface, cuts_of_vpc, fixed_cuts, standing_cuts}
use Rattle.vpc_model.specs.Lookup.{addresses_in}
use Rattle.vpc_model.specs.Near.{near_cuts}
use Rattle.vpc_base.specs.declared.headers.Header.{Header}
use Rattle.cut_laws.specs.Types.{Acl, Appliance, Description, End, Far, Interface, Place, Vpc}
use Rattle.cut_laws.specs.Dividing.{Divide, DivideAddresses}

-- what is cut in every network is a standing cut of each description
abbrev pub FixedAreStanding : Type 0
FixedAreStanding = (d : Description) → Divide fixed_cuts (standing_cuts d)

-- the blocks of its VPCs cut by standing cuts
abbrev pub VpcsAreStanding : Type 0
VpcsAreStanding = (d : Description) (v : Vpc) → Contains d.vpcs v → Divide (cuts_of_vpc v) (standing_cuts d)

-- the addresses of its interfaces
abbrev pub InterfacesAreStanding : Type 0
InterfacesAreStanding = (d : Description) (e : Interface) → Contains d.interfaces e → Divide (cuts_of_interface e) (standing_cuts d)

-- all their addresses at once, with what is cut in every network
abbrev pub AddressesAreStanding : Type 0
AddressesAreStanding = (d : Description) → DivideAddresses (addresses_in d) (standing_cuts d)

-- the rows of its ACLs
abbrev pub AclsAreStanding : Type 0
AclsAreStanding = (d : Description) (a : Acl) → Contains d.acls a → Divide (cuts_of_acl a) (standing_cuts d)

-- the boxes of its appliances
abbrev pub AppliancesAreStanding : Type 0
AppliancesAreStanding = (d : Description) (a : Appliance) → Contains d.appliances a → Divide (cuts_of_appliance a) (standing_cuts d)

-- the blocks of peerings with VPCs that aren't described
abbrev pub FarsAreStanding : Type 0
FarsAreStanding = (d : Description) (f : Far) → Contains d.fars f → Divide (cuts_of_far f) (standing_cuts d)

-- the cuts at a place are the standing cuts, and those of the rows that it asks
pub record HasPlaceCuts (d : Description) (p : Place) : Type 0 where
  pub standing : AreAmong (standing_cuts d) (cuts_at d p)
  pub asked : Divide (asked_at d p) (cuts_at d p)

abbrev pub PlacesHaveTheirCuts : Type 0
PlacesHaveTheirCuts = (d : Description) (p : Place) → HasPlaceCuts d p

-- the cuts at a place are cuts of the description
abbrev pub PlacesCutTheDescription : Type 0
PlacesCutTheDescription = (d : Description) (p : Place) → AreAmong (cuts_at d p) (cuts_of d)

-- and so are those at the places of the two walks of a request
abbrev pub NearCutsAreAmongAll : Type 0
NearCutsAreAmongAll =
    (d : Description) (appliances : Appliances) (start goal : End) (h : Header) → AreAmong (near_cuts d appliances start goal h) (cuts_of d)
