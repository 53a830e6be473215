-- What middlebox appliances forward. AWS describes no such thing: the boxes of a kind are this project's profile.
use Rattle.std.specs.List.{list_any}
use Rattle.std.specs.Prelude.{◌==◌, ◌++◌, ◌∷◌, [], Bool, List, Option, false, filter, find, map, option_map, true, ℕ}
use Rattle.vpc_model.specs.Types.{ApplianceAt, ApplianceKind, Block, Box5, Description, EniNo, Header}
use Rattle.vpc_model.specs.declared.rows.ApplianceAt.TheVariants as at
use Rattle.vpc_model.specs.declared.rows.ApplianceKind.TheVariants as forwards
use Rattle.header_boxes.specs.Boxes.{holds}
use Rattle.prefix_text.specs.Block.{last_of}
use Rattle.vpc_model.specs.Lookup.{eni_no}

-- every header
abbrev pub all_headers : Box5
all_headers = record { proto = (0, 255); src = (0, 4294967295); dst = (0, 4294967295); p = (0, 65535); q = (0, 65535) }

-- to and from these ports, by one protocol
abbrev pub service_boxes : ℕ → ℕ × ℕ → List Box5
service_boxes proto ports = record all_headers { proto = (proto, proto); q = ports } ∷ record all_headers { proto = (proto, proto); p = ports } ∷ []

-- the addresses of a block
abbrev pub addresses_of : Block → ℕ × ℕ
addresses_of b = (b.first, last_of b)

-- from and to the addresses of a block
abbrev pub boxes_of_block : Block → List Box5
boxes_of_block b = record all_headers { src = addresses_of b } ∷ record all_headers { dst = addresses_of b } ∷ []

-- the boxes that an appliance of a kind forwards: TCP and UDP of a service's ports, or packets from and to a block (profile)
abbrev pub boxes_of_kind : ApplianceKind → List Box5
boxes_of_kind forwards.All = all_headers ∷ []
boxes_of_kind forwards.Nothing = []
boxes_of_kind (forwards.Service from to) = service_boxes 6 (from, to) ++ service_boxes 17 (from, to)
boxes_of_kind (forwards.Peer b) = boxes_of_block b

-- appliances: interfaces, each with the boxes of headers that it forwards
abbrev pub Appliances : Type 0
Appliances = List (EniNo × List Box5)

-- the appliance stands at an interface
abbrev pub is_at_interface : ApplianceAt → Bool
is_at_interface at.Interface = true
is_at_interface at.Endpoint = false

-- the appliances at interfaces of a description
abbrev pub appliances_of : Description → Appliances
appliances_of d = map (λ a. (eni_no d a.id, boxes_of_kind a.kind)) (filter (λ a. is_at_interface a.at) d.appliances)

-- the boxes of the appliance at an interface, if there is one
abbrev pub boxes_at : Appliances → EniNo → Option (List Box5)
boxes_at appliances i = option_map (λ a. a.1) (find (λ a. a.0.0 == i.0) appliances)

-- an appliance forwards a header that one of its boxes holds
abbrev pub passes : List Box5 → Header → Bool
passes boxes h = list_any (holds h) boxes
