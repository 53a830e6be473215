-- The standing cuts of a description divide enough for what its edges ask.
use Rattle.std.specs.Prelude.{◌≡◌, is_some, true}
use Rattle.cut_laws.specs.Dividing.{CutOut}
use Rattle.vpc_model.specs.Cuts.{standing_cuts}
use Rattle.vpc_model.specs.declared.numbers.PeerNo.{PeerNo}
use Rattle.vpc_model.specs.declared.numbers.VpcNo.{VpcNo}
use Rattle.vpc_model.specs.declared.rows.Description.{Description}
use Rattle.vpc_model.specs.Sound.{is_vpc}
use Rattle.edge_gateways.specs.Edges.{AreEdgesOf, CanCarry, EdgeLists, owner_in, public_in}
use Rattle.edge_gateways.specs.OnImages.{DivideSides}

-- for public addresses by private ones
abbrev pub PublicsAreCutOut : Type 0
PublicsAreCutOut =
    (d : Description) (m : EdgeLists) (v : VpcNo) → AreEdgesOf d m → is_vpc d v ≡ true
    → CutOut (λ own. is_some (public_in m v own)) (standing_cuts d)

-- for the owners of public addresses
abbrev pub OwnersAreCutOut : Type 0
OwnersAreCutOut =
    (d : Description) (m : EdgeLists) → AreEdgesOf d m → CutOut (λ public. is_some (owner_in m public)) (standing_cuts d)

-- for peerings that can carry
abbrev pub SidesAreDivided : Type 0
SidesAreDivided =
    (d : Description) (m : EdgeLists) (x : PeerNo) (v : VpcNo) → AreEdgesOf d m → CanCarry d x v
    → DivideSides m.blocks m.sides x v (standing_cuts d)
