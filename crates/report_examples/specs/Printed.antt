-- What is printed of packets in small networks.
use Rattle.std.specs.Prelude.{◌++◌, ◌∷◌, ◌≡◌, [], List, codes, ℕ}
use Rattle.vpc_laws.specs.Types.{Description}
use Rattle.vpc_model.specs.declared.stops.Foreign.TheVariants as foreign
use Rattle.vpc_base.specs.declared.headers.Label.TheVariants as labels
use Rattle.vpc_model.specs.declared.places.Place.TheVariants as places
use Rattle.vpc_model.specs.declared.stops.Stop.TheVariants as stops
use Rattle.vpc_examples.specs.Crossings.{a_to_peer, joined}
use Rattle.vpc_examples.specs.Examples.{a_to_c, a_to_server, att, eni, first_walk, from_server, subnet, tcp, walk_after}
use Rattle.vpc_examples.specs.Networks.{acl_1, behind_nat, high_ports_only, low_ports_in, peered, transit, transit_loop, two_subnets, v4}
use Rattle.block_report.specs.Walks.{stop_text, walk_text}
use Rattle.vpc_model.specs.Walk.{Walk}

-- each line ends with a newline
abbrev pub lines : List (List ℕ) → List ℕ
lines [] = []
lines (l ∷ ls) = l ++ (10 ∷ lines ls)

abbrev pub text_of : Description → Walk → List ℕ
text_of d w = walk_text d w.hops w.outcome

-- a request between two subnets, and its reply
abbrev pub there : Walk
there = first_walk (two_subnets (acl_1 ∷ [])) labels.Opening (places.OutOf (eni 0)) (a_to_c 0)

abbrev pub PrintsRequestAndReply : Type 0
PrintsRequestAndReply =
    (text_of (two_subnets (acl_1 ∷ [])) there
    ≡ lines (codes "hop 1 out eni-a tcp 10.0.1.10 10.0.2.20 0 443 by sg-a out 1"
    ∷ codes "hop 2 router subnet-a tcp 10.0.1.10 10.0.2.20 0 443"
    ∷ codes "hop 3 in eni-b tcp 10.0.1.10 10.0.2.20 0 443 by sg-b in 1"
    ∷ codes "arrived eni-b"
    ∷ []))
    × (text_of (two_subnets (acl_1 ∷ [])) (walk_after (two_subnets (acl_1 ∷ [])) labels.Answer there (places.OutOf (eni 1)) (tcp (v4 10 0 2 20) (v4 10 0 1 10) 443 0))
    ≡ lines (codes "hop 1 out eni-b tcp 10.0.2.20 10.0.1.10 443 0 by tracked"
    ∷ codes "hop 2 router subnet-b tcp 10.0.2.20 10.0.1.10 443 0"
    ∷ codes "hop 3 in eni-a tcp 10.0.2.20 10.0.1.10 443 0 by tracked"
    ∷ codes "arrived eni-a"
    ∷ []))

-- a request through a NAT gateway, and its reply
abbrev pub out_by_nat : Walk
out_by_nat = first_walk (behind_nat low_ports_in) labels.Opening (places.OutOf (eni 0)) (a_to_server 0)

abbrev pub PrintsNatRoundTrip : Type 0
PrintsNatRoundTrip =
    (text_of (behind_nat low_ports_in) out_by_nat
    ≡ lines (codes "hop 1 out eni-a tcp 10.0.1.10 198.51.100.7 0 443 by sg-a out 1"
    ∷ codes "hop 2 router subnet-a tcp 10.0.1.10 198.51.100.7 0 443"
    ∷ codes "hop 3 nat-out nat-1 tcp 10.0.1.10 198.51.100.7 0 443"
    ∷ codes "hop 4 router subnet-n tcp 10.0.3.5 198.51.100.7 1024 443"
    ∷ codes "hop 5 igw-out igw-1 tcp 10.0.3.5 198.51.100.7 1024 443"
    ∷ codes "hop 6 internet internet tcp 203.0.113.5 198.51.100.7 1024 443"
    ∷ codes "arrived internet"
    ∷ []))
    × (text_of (behind_nat low_ports_in) (walk_after (behind_nat low_ports_in) labels.Answer out_by_nat places.Internet (from_server 1024))
    ≡ lines (codes "hop 1 internet internet tcp 198.51.100.7 203.0.113.5 443 1024"
    ∷ codes "hop 2 igw-in igw-1 tcp 198.51.100.7 203.0.113.5 443 1024"
    ∷ codes "hop 3 enter vpc-1 tcp 198.51.100.7 10.0.3.5 443 1024"
    ∷ codes "hop 4 nat-in nat-1 tcp 198.51.100.7 10.0.3.5 443 1024"
    ∷ codes "hop 5 router subnet-n tcp 198.51.100.7 10.0.1.10 443 0"
    ∷ codes "hop 6 in eni-a tcp 198.51.100.7 10.0.1.10 443 0 by tracked"
    ∷ codes "arrived eni-a"
    ∷ []))

-- a loop between two transit tables
abbrev pub PrintsLoop : Type 0
PrintsLoop =
    text_of transit_loop (first_walk transit_loop labels.Opening (places.OutOf (eni 0)) (tcp (v4 10 1 1 10) (v4 172 20 0 1) 1 2))
    ≡ lines (codes "hop 1 out eni-a tcp 10.1.1.10 172.20.0.1 1 2 by sg-a out 1"
    ∷ codes "hop 2 router subnet-a tcp 10.1.1.10 172.20.0.1 1 2"
    ∷ codes "hop 3 tgw att-a tcp 10.1.1.10 172.20.0.1 1 2"
    ∷ codes "hop 4 tgw-leave att-b tcp 10.1.1.10 172.20.0.1 1 2"
    ∷ codes "hop 5 router subnet-tb tcp 10.1.1.10 172.20.0.1 1 2"
    ∷ codes "hop 6 tgw att-b tcp 10.1.1.10 172.20.0.1 1 2"
    ∷ codes "hop 7 tgw-leave att-a tcp 10.1.1.10 172.20.0.1 1 2"
    ∷ codes "hop 8 router subnet-ta tcp 10.1.1.10 172.20.0.1 1 2"
    ∷ codes "stopped Loop att-a -"
    ∷ [])

-- an answer that belongs to nothing
abbrev pub PrintsStray : Type 0
PrintsStray =
    text_of (two_subnets (acl_1 ∷ [])) (first_walk (two_subnets (acl_1 ∷ [])) labels.Answer (places.OutOf (eni 1)) (tcp (v4 10 0 2 20) (v4 10 0 1 10) 443 0))
    ≡ lines (codes "hop 1 out eni-b tcp 10.0.2.20 10.0.1.10 443 0"
    ∷ codes "stopped GroupsOut eni-b -"
    ∷ [])

-- stops: a component, and the rule where there is one
abbrev pub PrintsStops : Type 0
PrintsStops =
    (stop_text (two_subnets (acl_1 ∷ [])) (stops.GroupsIn (eni 1)) ≡ codes "GroupsIn eni-b -")
    × ((stop_text high_ports_only (stops.AclOut (record { 0 = 1 }) 32767) ≡ codes "AclOut acl-b 32767")
    × ((stop_text peered (stops.PeerDestination (record { 0 = 0 })) ≡ codes "PeerDestination pcx-ab -")
    × ((stop_text transit (stops.TgwBlackhole (record { 0 = 0 }) 1) ≡ codes "TgwBlackhole tgw-rtb-a 10.2.9.0/24")
    × ((stop_text transit (stops.TgwNoAttachment (record { 0 = 0 }) 1) ≡ codes "TgwNoAttachment tgw-1 -")
    × ((stop_text transit (stops.Unmodelled (foreign.Attachment (att 1))) ≡ codes "Unmodelled att-b -")
    × (stop_text transit (stops.TooFar (places.Tgw (att 1) (subnet 2))) ≡ codes "TooFar att-b -"))))))

-- a packet over a peering
abbrev pub PrintsPeering : Type 0
PrintsPeering =
    text_of joined (first_walk joined labels.Opening (places.OutOf (eni 0)) (a_to_peer (v4 10 2 1 10)))
    ≡ lines (codes "hop 1 out eni-a tcp 10.1.1.10 10.2.1.10 5000 443 by sg-a out 1"
    ∷ codes "hop 2 router subnet-a tcp 10.1.1.10 10.2.1.10 5000 443"
    ∷ codes "hop 3 peer pcx-ab tcp 10.1.1.10 10.2.1.10 5000 443"
    ∷ codes "hop 4 enter vpc-b tcp 10.1.1.10 10.2.1.10 5000 443"
    ∷ codes "hop 5 in eni-b tcp 10.1.1.10 10.2.1.10 5000 443 by sg-b in 1"
    ∷ codes "arrived eni-b"
    ∷ [])
