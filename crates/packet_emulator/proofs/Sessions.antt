-- What a session remembers after the walk of one more event.
use Rattle.std.proofs.Common.{◌≡◌, ◌∙◌, ◌<◌, ◌^◌, List, ap, subst, sym, true}
use Rattle.packet_emulator.specs.Moments.{at_place}
use Rattle.packet_emulator.specs.Session.{Remembered}
use Rattle.vpc_laws.proofs.Telling.{walks_are_sound}
use Rattle.vpc_laws.proofs.Walking.{walk_keeps_book}
use Rattle.vpc_laws.specs.Sound.{EndsWell}
use Rattle.vpc_laws.specs.Translations.{IsBook}
use Rattle.vpc_laws.specs.Types.{Description, End, Event, Header, Label, Outcome, Place}
use Rattle.vpc_model.specs.Accepted.{IsAccepted}
use Rattle.vpc_model.specs.Appliances.{Appliances}
use Rattle.vpc_model.specs.Connections.{Connection}
use Rattle.vpc_model.specs.Nat.{Translation}
use Rattle.vpc_model.specs.Place.{start_of}
use Rattle.vpc_model.specs.Replay.{moment_of}
use Rattle.vpc_model.specs.Sound.{is_sound}
use Rattle.vpc_model.specs.Walk.{walk_of}

-- the walk of an event where room was made for it
pub walk_of-event : (d : Description) (a : Appliances) (e : Event) (p : Place) (conns : List Connection) (nats : List Translation) (before : Remembered)
    → p ≡ start_of e.start → conns ≡ before.conns → nats ≡ before.nats
    → walk_of d a e.label (at_place p e.header conns nats) ≡ walk_of d a e.label (moment_of e before.conns before.nats)
walk_of-event d a e p conns nats before place same_conns same_nats =
    ap (λ (x : Place). walk_of d a e.label (at_place x e.header conns nats)) place
    ∙ ap (λ (cs : List Connection). walk_of d a e.label (moment_of e cs nats)) same_conns
    ∙ ap (λ (ts : List Translation). walk_of d a e.label (moment_of e before.conns ts)) same_nats

-- the translations stay in order
pub walk-keeps_book : (d : Description) (a : Appliances) (label : Label) (p : Place) (h : Header) (conns : List Connection) (before nats after : List Translation)
    → h.p < 2 ^ 16 → nats ≡ before → IsBook before → (let w = walk_of d a label (at_place p h conns nats) in after ≡ w.nats) → IsBook after
walk-keeps_book d a label p h conns before nats after fits same book is =
    subst IsBook (sym is) (walk_keeps_book d a label (at_place p h conns nats) fits (subst IsBook (sym same) book))

-- the end can be told
pub walk-ends_well : (d n : Description) (a : Appliances) (label : Label) (start : End) (p : Place) (h : Header) (conns : List Connection) (nats : List Translation) (o : Outcome)
    → n ≡ d → IsAccepted n → p ≡ start_of start → is_sound d (start_of start) ≡ true
    → (let w = walk_of d a label (at_place p h conns nats) in o ≡ w.outcome) → EndsWell d o
walk-ends_well d n a label start p h conns nats o same accepted place sound is =
    let here : is_sound d p ≡ true = ap (is_sound d) place ∙ sound in
    subst (EndsWell d) (sym is) (walks_are_sound d a label (at_place p h conns nats) (subst IsAccepted same accepted) here).1
