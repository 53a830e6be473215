-- The walks of a request and of its reply.
use Rattle.std.proofs.Common.{◌≡◌, ◌∙◌, [], List, ap, sym}
use Rattle.packet_emulator.specs.Moments.{at_place}
use Rattle.vpc_base.specs.declared.headers.Label.TheVariants as labels
use Rattle.vpc_laws.specs.Types.{Description, End, Header, Place}
use Rattle.vpc_model.specs.Appliances.{Appliances}
use Rattle.vpc_model.specs.Connections.{Connection}
use Rattle.vpc_model.specs.Nat.{Translation}
use Rattle.vpc_model.specs.Place.{start_of}
use Rattle.vpc_model.specs.Verdict.{reply_walk, request_walk}
use Rattle.vpc_model.specs.Walk.{Walk, walk_of}

pub walk_of-request : (d : Description) (a : Appliances) (start : End) (h : Header) (p : Place) (conns : List Connection) (nats : List Translation)
    → p ≡ start_of start → conns ≡ [] → nats ≡ [] → walk_of d a labels.Opening (at_place p h conns nats) ≡ request_walk d a start h
walk_of-request d a start h p conns nats place no_conns no_nats =
    ap (λ (x : Place). walk_of d a labels.Opening (at_place x h conns nats)) place
    ∙ ap (λ (c : List Connection). walk_of d a labels.Opening (at_place (start_of start) h c nats)) no_conns
    ∙ ap (λ (t : List Translation). walk_of d a labels.Opening (at_place (start_of start) h [] t)) no_nats

pub walk_of-reply : (d : Description) (a : Appliances) (goal : End) (r : Header) (request : Walk) (p : Place) (conns : List Connection) (nats : List Translation)
    → p ≡ start_of goal → request.conns ≡ conns → request.nats ≡ nats → walk_of d a labels.Answer (at_place p r conns nats) ≡ reply_walk d a goal r request
walk_of-reply d a goal r request p conns nats place conns_are nats_are =
    ap (λ (x : Place). walk_of d a labels.Answer (at_place x r conns nats)) place
    ∙ ap (λ (c : List Connection). walk_of d a labels.Answer (at_place (start_of goal) r c nats)) (sym conns_are)
    ∙ ap (λ (t : List Translation). walk_of d a labels.Answer (at_place (start_of goal) r request.conns t)) (sym nats_are)
