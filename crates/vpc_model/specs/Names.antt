-- The names of stops, as they are printed and read.
use Rattle.std.specs.Prelude.{◌∷◌, [], List, Option, bytes_eq, codes, ℕ}
use Rattle.std.specs.List.{find}
use Rattle.vpc_model.specs.declared.stops.StopName.{StopName}
use Rattle.vpc_model.specs.declared.stops.StopName.TheVariants as names

-- a name as it is printed
abbrev pub name_text : StopName → List ℕ
name_text names.Detached = codes "Detached"
name_text names.SourceCheck = codes "SourceCheck"
name_text names.DestCheck = codes "DestCheck"
name_text names.GroupsOut = codes "GroupsOut"
name_text names.GroupsIn = codes "GroupsIn"
name_text names.NotAHost = codes "NotAHost"
name_text names.ApplianceDrop = codes "ApplianceDrop"
name_text names.NoRoute = codes "NoRoute"
name_text names.Blackhole = codes "Blackhole"
name_text names.AclOut = codes "AclOut"
name_text names.AclIn = codes "AclIn"
name_text names.NoHost = codes "NoHost"
name_text names.NoGateway = codes "NoGateway"
name_text names.GatewayDetached = codes "GatewayDetached"
name_text names.NoPublic = codes "NoPublic"
name_text names.PrivateAddress = codes "PrivateAddress"
name_text names.BlockPublicAccess = codes "BlockPublicAccess"
name_text names.NatNotAvailable = codes "NatNotAvailable"
name_text names.NatAnswer = codes "NatAnswer"
name_text names.NatProtocol = codes "NatProtocol"
name_text names.NatFull = codes "NatFull"
name_text names.NatUnsolicited = codes "NatUnsolicited"
name_text names.PeerNotActive = codes "PeerNotActive"
name_text names.PeerSource = codes "PeerSource"
name_text names.PeerDestination = codes "PeerDestination"
name_text names.TgwNoAttachment = codes "TgwNoAttachment"
name_text names.TgwNoZone = codes "TgwNoZone"
name_text names.TgwNoTable = codes "TgwNoTable"
name_text names.TgwNoRoute = codes "TgwNoRoute"
name_text names.TgwBlackhole = codes "TgwBlackhole"
name_text names.FarDetached = codes "FarDetached"
name_text names.FarNoTable = codes "FarNoTable"
name_text names.FarSource = codes "FarSource"
name_text names.FarOpens = codes "FarOpens"
name_text names.InspectDrop = codes "InspectDrop"
name_text names.Unmodelled = codes "Unmodelled"
name_text names.Loop = codes "Loop"
name_text names.TooFar = codes "TooFar"
name_text names.WrongPlace = codes "WrongPlace"
name_text names.WrongReturn = codes "WrongReturn"
name_text names.NoReply = codes "NoReply"

-- all names of stops
abbrev pub all_names : List StopName
all_names =
    names.Detached ∷ names.SourceCheck ∷ names.DestCheck ∷ names.GroupsOut ∷ names.GroupsIn ∷ names.NotAHost
    ∷ names.ApplianceDrop ∷ names.NoRoute ∷ names.Blackhole ∷ names.AclOut ∷ names.AclIn ∷ names.NoHost ∷ names.NoGateway
    ∷ names.GatewayDetached ∷ names.NoPublic ∷ names.PrivateAddress ∷ names.BlockPublicAccess ∷ names.NatNotAvailable
    ∷ names.NatAnswer ∷ names.NatProtocol ∷ names.NatFull ∷ names.NatUnsolicited ∷ names.PeerNotActive ∷ names.PeerSource
    ∷ names.PeerDestination ∷ names.TgwNoAttachment ∷ names.TgwNoZone ∷ names.TgwNoTable ∷ names.TgwNoRoute
    ∷ names.TgwBlackhole ∷ names.FarDetached ∷ names.FarNoTable ∷ names.FarSource ∷ names.FarOpens ∷ names.InspectDrop
    ∷ names.Unmodelled ∷ names.Loop ∷ names.TooFar ∷ names.WrongPlace ∷ names.WrongReturn
    ∷ names.NoReply ∷ []

-- the name that a word spells
abbrev pub name_spelled : List ℕ → Option StopName
name_spelled word = find (λ name. bytes_eq (name_text name) word) all_names
