-- A stop is known by its parts.
use Rattle.std.proofs.Common.{◌≡◌, Option, Some, None, refl, ap, sym, ◌∙◌}
use Rattle.std.proofs.lemmas.Option.{same_Some}
use Rattle.vpc_model.specs.Types.{Component, Stop, StopName, StopRule}
use Rattle.vpc_model.specs.declared.places.End.TheVariants as ends
use Rattle.vpc_model.specs.declared.places.Place.TheVariants as places
use Rattle.vpc_model.specs.declared.stops.Component.TheVariants as at
use Rattle.vpc_model.specs.declared.stops.Stop.TheVariants as stops
use Rattle.vpc_model.specs.declared.stops.StopName.TheVariants as is
use Rattle.vpc_model.specs.declared.stops.StopRule.TheVariants as by
use Rattle.vpc_model.specs.Told.{parts_of}

-- the stop of these parts
abbrev rebuilt : StopName → Component → StopRule → Option Stop
rebuilt is.Detached (at.Interface i) by.None = Some (stops.Detached i)
rebuilt is.SourceCheck (at.Interface i) by.None = Some (stops.SourceCheck i)
rebuilt is.DestCheck (at.Interface i) by.None = Some (stops.DestCheck i)
rebuilt is.GroupsOut (at.Interface i) by.None = Some (stops.GroupsOut i)
rebuilt is.GroupsIn (at.Interface i) by.None = Some (stops.GroupsIn i)
rebuilt is.NotAHost (at.Interface i) by.None = Some (stops.NotAHost i)
rebuilt is.ApplianceDrop (at.Interface i) by.None = Some (stops.ApplianceDrop i)
rebuilt is.NoRoute (at.Table t) by.None = Some (stops.NoRoute t)
rebuilt is.Blackhole (at.Table t) (by.Route _ k) = Some (stops.Blackhole t k)
rebuilt is.AclOut (at.Acl a) (by.AclRow n) = Some (stops.AclOut a n)
rebuilt is.AclIn (at.Acl a) (by.AclRow n) = Some (stops.AclIn a n)
rebuilt is.NoHost (at.Vpc v) by.None = Some (stops.NoHost v)
rebuilt is.NoGateway (at.Vpc v) by.None = Some (stops.NoGateway v)
rebuilt is.GatewayDetached (at.InternetGateway g) by.None = Some (stops.GatewayDetached g)
rebuilt is.NoPublic (at.InternetGateway g) by.None = Some (stops.NoPublic g)
rebuilt is.PrivateAddress (at.End ends.Internet) by.None = Some stops.PrivateAddress
rebuilt is.BlockPublicAccess (at.Subnet s) (by.Access _) = Some (stops.BlockPublicAccess s)
rebuilt is.NatNotAvailable (at.NatGateway g) by.None = Some (stops.NatNotAvailable g)
rebuilt is.NatAnswer (at.NatGateway g) by.None = Some (stops.NatAnswer g)
rebuilt is.NatProtocol (at.NatGateway g) by.None = Some (stops.NatProtocol g)
rebuilt is.NatFull (at.NatGateway g) by.None = Some (stops.NatFull g)
rebuilt is.NatUnsolicited (at.NatGateway g) by.None = Some (stops.NatUnsolicited g)
rebuilt is.PeerNotActive (at.Peering x) by.None = Some (stops.PeerNotActive x)
rebuilt is.PeerSource (at.Peering x) by.None = Some (stops.PeerSource x)
rebuilt is.PeerDestination (at.Peering x) by.None = Some (stops.PeerDestination x)
rebuilt is.TgwNoAttachment (at.Target t k) by.None = Some (stops.TgwNoAttachment t k)
rebuilt is.TgwNoZone (at.Attachment a) by.None = Some (stops.TgwNoZone a)
rebuilt is.TgwNoTable (at.Attachment a) by.None = Some (stops.TgwNoTable a)
rebuilt is.TgwNoRoute (at.TransitTable t) by.None = Some (stops.TgwNoRoute t)
rebuilt is.TgwBlackhole (at.TransitTable t) (by.TransitRoute _ k) = Some (stops.TgwBlackhole t k)
rebuilt is.FarDetached (at.End (ends.Far k)) by.None = Some (stops.FarDetached k)
rebuilt is.FarNoTable (at.End (ends.Far k)) by.None = Some (stops.FarNoTable k)
rebuilt is.FarSource (at.End (ends.Far k)) by.None = Some (stops.FarSource k)
rebuilt is.FarOpens (at.End (ends.Far k)) by.None = Some (stops.FarOpens k)
rebuilt is.InspectDrop (at.Place (places.Inspect k)) by.None = Some (stops.InspectDrop k)
rebuilt is.Unmodelled (at.Foreign f) by.None = Some (stops.Unmodelled f)
rebuilt is.Loop (at.Place p) by.None = Some (stops.Loop p)
rebuilt is.TooFar (at.Place p) by.None = Some (stops.TooFar p)
rebuilt is.WrongPlace (at.End e) by.None = Some (stops.WrongPlace e)
rebuilt is.WrongReturn (at.End e) by.None = Some (stops.WrongReturn e)
rebuilt is.NoReply (at.End e) by.None = Some (stops.NoReply e)
rebuilt _ _ _ = None

abbrev of_parts : StopName × Component × StopRule → Option Stop
of_parts parts = rebuilt parts.0 parts.1 parts.2

rebuilt-parts : (s : Stop) → of_parts (parts_of s) ≡ Some s
rebuilt-parts (stops.Detached x) = refl
rebuilt-parts _ = refl

three : (n m : StopName) (c e : Component) (r t : StopRule) → n ≡ m → c ≡ e → r ≡ t → rebuilt n c r ≡ rebuilt m e t
three n m c e r t name component rule = cc

pub same_parts : (a b : Stop) (p q : StopName × Component × StopRule) → p ≡ parts_of a → q ≡ parts_of b → p.0 ≡ q.0 → p.1 ≡ q.1 → p.2 ≡ q.2 → a ≡ b
same_parts a b p q is_p is_q name component rule =
    same_Some a b
    (sym (rebuilt-parts a) ∙ (sym (ap of_parts is_p)
    ∙ (three p.0 q.0 p.1 q.1 p.2 q.2 name component rule ∙ (ap of_parts is_q ∙ rebuilt-parts b))))
