-- Tests that decide whether two values are one.
use Rattle.std.specs.Prelude.{◌≡◌}
use Rattle.std.specs.Bool.{Decides}
use Rattle.vpc_laws.specs.Types.{End, Header, Place}
use Rattle.vpc_model.specs.Connections.{Connection, same_connection, same_header}
use Rattle.vpc_model.specs.Verdict.{same_end}
use Rattle.vpc_model.specs.Walk.{same_place}

-- a place is met again only where all of it is the same, and so are headers and ends
abbrev pub PlacesAreToldApart : Type 0
PlacesAreToldApart = (p q : Place) → Decides (same_place p q) (p ≡ q)

abbrev pub HeadersAreToldApart : Type 0
HeadersAreToldApart = (a b : Header) → Decides (same_header a b) (a ≡ b)

abbrev pub ConnectionsAreToldApart : Type 0
ConnectionsAreToldApart = (a b : Connection) → Decides (same_connection a b) (a ≡ b)

abbrev pub EndsAreToldApart : Type 0
EndsAreToldApart = (a b : End) → Decides (same_end a b) (a ≡ b)
