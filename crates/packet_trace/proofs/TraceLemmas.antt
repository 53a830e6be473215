-- The walk of a packet, and what is told of it.
use Rattle.std.proofs.Common.{◌≡◌, ◌∙◌, Err, IfOk, List, Ok, Result, [], ap, subst, sym, true}
use Rattle.std.specs.List.{All, AllByRecursion}
use Rattle.std.proofs.lemmas.List.Elements.{All-from_recursion}
use Rattle.block_report.specs.Walks.{walk_text}
use Rattle.vpc_laws.proofs.Telling.{walks_are_sound}
use Rattle.vpc_laws.specs.Sound.{EndsWell, IsSoundHop}
use Rattle.vpc_laws.specs.Types.{Description, Event, Hop, Outcome, Place}
use Rattle.vpc_model.specs.Accepted.{IsAccepted}
use Rattle.vpc_model.specs.Appliances.{Appliances, appliances_of}
use Rattle.vpc_model.specs.Connections.{Connection}
use Rattle.vpc_model.specs.Nat.{Translation}
use Rattle.vpc_model.specs.Place.{start_of}
use Rattle.vpc_model.specs.Sound.{is_sound}
use Rattle.vpc_model.specs.Walk.{Walk, walk_of}
use Rattle.packet_trace.specs.Traced.{IsWalked, status_of, traced_text, walk_of_event}
use Rattle.command_job.specs.declared.status.Answer.{Answer}

-- a walk with the described appliances and nothing remembered is that of the packet
pub walk_of-event : (d : Description) (e : Event) (appliances : Appliances) (place : Place) (conns : List Connection) (nats : List Translation)
    → appliances ≡ appliances_of d → place ≡ start_of e.start → conns ≡ [] → nats ≡ []
    → walk_of d appliances e.label (record { place = place; header = e.header; conns = conns; nats = nats }) ≡ walk_of_event d e
walk_of-event d e appliances place conns nats a p c n =
    ap (λ (x : Appliances). walk_of d x e.label (record { place = place; header = e.header; conns = conns; nats = nats })) a
    ∙ (ap (λ (x : Place). walk_of d (appliances_of d) e.label (record { place = x; header = e.header; conns = conns; nats = nats })) p
    ∙ (ap (λ (x : List Connection). walk_of d (appliances_of d) e.label (record { place = start_of e.start; header = e.header; conns = x; nats = nats })) c
    ∙ ap (λ (x : List Translation). walk_of d (appliances_of d) e.label (record { place = start_of e.start; header = e.header; conns = []; nats = x })) n))

-- from a sound place, by sound places, and to an end that has a text
abbrev pub IsTold : Description → Walk → Type 0
IsTold d walk = AllByRecursion (IsSoundHop d) walk.hops × EndsWell d walk.outcome

pub walk_is_told : (d m : Description) (e : Event) (walk : Walk) → walk ≡ walk_of_event d e → IsAccepted m → m ≡ d → is_sound d (start_of e.start) ≡ true → IsTold d walk
walk_is_told d m e walk is accepted same sound =
    subst (IsTold d) (sym is)
    (walks_are_sound d (appliances_of d) e.label (record { place = start_of e.start; header = e.header; conns = []; nats = [] }) (subst IsAccepted same accepted) sound)

pub hops_are_sound : (d n : Description) (walk : Walk) (hops : List Hop) → n ≡ d → hops ≡ walk.hops → IsTold d walk → All (IsSoundHop n) hops
hops_are_sound d n walk hops same are told =
    All-from_recursion (IsSoundHop n) hops
    (subst (λ (x : Description). AllByRecursion (IsSoundHop x) hops) (sym same) (subst (λ (l : List Hop). AllByRecursion (IsSoundHop d) l) (sym are) told.0))

pub end_is_well : (d n : Description) (walk : Walk) (outcome : Outcome) → n ≡ d → outcome ≡ walk.outcome → IsTold d walk → EndsWell n outcome
end_is_well d n walk outcome same ends told =
    subst (λ (x : Description). EndsWell x outcome) (sym same) (subst (λ (o : Outcome). EndsWell d o) (sym ends) told.1)

-- the same of the network that a fabric is of, and of the hops as a slice
pub hops_in : (d n : Description) (hops slice : List Hop) → n ≡ d → slice ≡ hops → All (IsSoundHop d) hops → All (IsSoundHop n) slice
hops_in d n hops slice same are sound =
    subst (λ (x : Description). All (IsSoundHop x) slice) (sym same) (subst (λ (l : List Hop). All (IsSoundHop d) l) (sym are) sound)

pub ends_in : (d n : Description) (outcome : Outcome) → n ≡ d → EndsWell d outcome → EndsWell n outcome
ends_in d n outcome same well = subst (λ (x : Description). EndsWell x outcome) (sym same) well

-- how its command ends, and what is printed of it
walk_text-event : (d n : Description) (e : Event) (hops : List Hop) (outcome : Outcome) → n ≡ d → (let walk = walk_of_event d e in hops ≡ walk.hops)
    → (let walk = walk_of_event d e in outcome ≡ walk.outcome) → walk_text n hops outcome ≡ traced_text d e
walk_text-event d n e hops outcome same are ends =
    let walk = walk_of_event d e in
    ap (λ (x : Description). walk_text x hops outcome) same
    ∙ (ap (λ (l : List Hop). walk_text d l outcome) are ∙ ap (λ (o : Outcome). walk_text d walk.hops o) ends)

-- what is answered to its packet
pub answers_event : {E : Type 0} (r : Result Answer E) (d n : Description) (e : Event) (hops : List Hop) (outcome : Outcome) → n ≡ d → (let walk = walk_of_event d e in hops ≡ walk.hops)
    → (let walk = walk_of_event d e in outcome ≡ walk.outcome)
    → IfOk r (λ a. a.status ≡ status_of outcome) → IfOk r (λ a. a.text.items ≡ walk_text n hops outcome) → IfOk r (λ a. IsWalked d e a.status a.text.items)
answers_event (Ok a) d n e hops outcome same are ends status_is text_is = record {
  status_is = status_is ∙ ap status_of ends;
  text_is = text_is ∙ walk_text-event d n e hops outcome same are ends;
}
answers_event (Err x) d n e hops outcome same are ends status_is text_is = tt
