-- Worked commands: what their words mean.
use Rattle.std.specs.Prelude.{◌==◌, ◌≡◌, ◌∷◌, [], Err, List, None, Ok, Result, Some, codes, ℕ}
use Rattle.std.specs.List.{slice_split}
use Rattle.prefix_text.specs.Addr.{addr_at}
use Rattle.vpc_laws.specs.Types.{Description, End, Event, Interface}
use Rattle.vpc_base.specs.declared.headers.Label.{Label}
use Rattle.vpc_base.specs.declared.headers.Label.TheVariants as labels
use Rattle.vpc_model.specs.declared.places.End.TheVariants as ends
use Rattle.vpc_model.specs.declared.rows.InterfaceKind.{InterfaceKind}
use Rattle.vpc_model.specs.declared.rows.InterfaceKind.TheVariants as kinds
use Rattle.vpc_model.specs.declared.rows.FarKind.TheVariants as leads
use Rattle.vpc_model.specs.Lookup.{no_interface, no_scope, no_vpc}
use Rattle.query_words.specs.declared.refusal.QueryRefusal.{QueryRefusal}
use Rattle.query_words.specs.declared.refusal.QueryRefusal.TheVariants as refusals
use Rattle.query_words.specs.Packet.{packet_of}

abbrev pub interface : List ℕ → InterfaceKind → Interface
interface id kind = record no_interface { id = id; kind = kind }

-- three interfaces: a gateway's, one with the id `internet`, and a host's; and what leads to networks that aren't described, with a
-- service among them and an attachment of the described VPC, which leads to none
abbrev pub network : Description
network = record {
  vpcs = record no_vpc { id = codes "vpc-1" } ∷ [];
  subnets = [];
  interfaces =
      interface (codes "eni-nat") kinds.Gateway
      ∷ interface (codes "internet") kinds.Host
      ∷ interface (codes "eni-a") kinds.Host
      ∷ [];
  tables = [];
  lists = [];
  acls = [];
  groups = [];
  igws = [];
  nats = [];
  peerings = [];
  attachments = [];
  associations = [];
  tgw_tables = [];
  appliances = [];
  fars =
      record { id = codes "vgw-1"; kind = leads.PrivateGateway None }
      ∷ record { id = codes "att-in"; kind = leads.Attachment (Some (codes "vpc-1")) }
      ∷ record { id = codes "att-out"; kind = leads.Attachment (Some (codes "vpc-9")) }
      ∷ record { id = codes "vpce-s3"; kind = leads.Endpoint (codes "vpc-1") }
      ∷ record { id = codes "eni-a"; kind = leads.PrivateGateway None }
      ∷ [];
  firewalls = [];
  scope = no_scope;
}

-- what the words of `trace` mean, the last eight as one text with a blank between each two
abbrev pub Means : List ℕ → Result Event QueryRefusal → Type 0
Means text answer =
    packet_of network (codes "trace" ∷ codes "b.json" ∷ slice_split (λ c. c == 32) text) ≡ answer

-- a packet between two addresses
abbrev pub packet : Label → End → ℕ → ℕ → ℕ → Event
packet label start proto p q = record {
  label = label;
  start = start;
  header = record { proto = proto; src = addr_at 10 0 1 10; dst = addr_at 10 0 2 20; p = p; q = q };
}

-- labels, ends and protocols
abbrev pub TakesWords : Type 0
TakesWords =
    let a : End = ends.Interface (record { 0 = 2 }) in
    Means (codes "open from eni-a tcp 10.0.1.10 10.0.2.20 5000 443") (Ok (packet labels.Opening a 6 5000 443))
    × (Means (codes "answer from eni-a udp 10.0.1.10 10.0.2.20 53 65535") (Ok (packet labels.Answer a 17 53 65535))
    × (Means (codes "open from internet icmp 10.0.1.10 10.0.2.20 7 2048") (Ok (packet labels.Opening ends.Internet 1 7 2048))
    × (Means (codes "open from eni-a 17 10.0.1.10 10.0.2.20 0 53") (Ok (packet labels.Opening a 17 0 53))
    × Means (codes "open from eni-a 50 10.0.1.10 10.0.2.20 0 0") (Ok (packet labels.Opening a 50 0 0)))))

abbrev pub far : ℕ → End
far number = ends.Far (record { 0 = number })

-- packets of networks that aren't described, a service's too; an interface's id is its own
abbrev pub TakesFarEnds : Type 0
TakesFarEnds =
    let a : End = ends.Interface (record { 0 = 2 }) in
    Means (codes "open from vgw-1 tcp 10.0.1.10 10.0.2.20 5000 443") (Ok (packet labels.Opening (far 0) 6 5000 443))
    × (Means (codes "open from att-out tcp 10.0.1.10 10.0.2.20 5000 443") (Ok (packet labels.Opening (far 2) 6 5000 443))
    × (Means (codes "answer from vpce-s3 tcp 10.0.1.10 10.0.2.20 443 5000") (Ok (packet labels.Answer (far 3) 6 443 5000))
    × (Means (codes "open from vpce-s3 tcp 10.0.1.10 10.0.2.20 443 5000") (Ok (packet labels.Opening (far 3) 6 443 5000))
    × Means (codes "open from eni-a tcp 10.0.1.10 10.0.2.20 5000 443") (Ok (packet labels.Opening a 6 5000 443)))))

-- the first word from the left that can't be taken
abbrev pub RefusesWords : Type 0
RefusesWords =
    Means (codes "opens form eni-z tcp 10.0.1.10 10.0.2.20 5000 443") (Err (refusals.BadWord 3))
    × (Means (codes "open form eni-z tcp 10.0.1.10 10.0.2.20 5000 443") (Err (refusals.BadWord 4))
    × (Means (codes "open from eni-z sctp 10.0.1.10 10.0.2.20 5000 443") (Err (refusals.UnknownId 5))
    × (Means (codes "open from eni-nat sctp 10.0.1.10 10.0.2.20 5000 443") (Err (refusals.NotAnEnd (codes "eni-nat")))
    × (Means (codes "open from att-in sctp 10.0.1.10 10.0.2.20 5000 443") (Err (refusals.NotAnEnd (codes "att-in")))
    × (Means (codes "open from eni-a 256 10.0.1 10.0.2.20 5000 443") (Err (refusals.BadWord 6))
    × (Means (codes "open from eni-a tcp 10.0.1 10.0.2.256 5000 443") (Err (refusals.BadWord 7))
    × (Means (codes "open from eni-a tcp 10.0.1.10 10.0.2.256 65536 443") (Err (refusals.BadWord 8))
    × (Means (codes "open from eni-a tcp 10.0.1.10 10.0.2.20 65536 0443") (Err (refusals.BadWord 9))
    × Means (codes "open from eni-a tcp 10.0.1.10 10.0.2.20 5000 0443") (Err (refusals.BadWord 10))))))))))

-- protocols without ports
abbrev pub RefusesPorts : Type 0
RefusesPorts =
    Means (codes "open from eni-a 50 10.0.1.10 10.0.2.20 1 1") (Err (refusals.BadWord 9))
    × Means (codes "open from eni-a 50 10.0.1.10 10.0.2.20 0 1") (Err (refusals.BadWord 10))
