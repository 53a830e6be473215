-- Each event of a replay meets what the events before it made.
use Rattle.std.proofs.Common.{◌≡◌, ◌∷◌, ◌++◌, [], List, ap, append-nil, append_assoc, subst, sym}
use Rattle.std.specs.List.{zip}
use Rattle.vpc_base.proofs.Members.{Contains-none}
use Rattle.vpc_laws.specs.Types.{Description, Event}
use Rattle.vpc_model.specs.Appliances.{Appliances}
use Rattle.vpc_model.specs.Connections.{Connection}
use Rattle.vpc_model.specs.Nat.{Translation}
use Rattle.vpc_model.specs.Replay.{moment_of, walks_after}
use Rattle.vpc_model.specs.Walk.{Walk, walk_of}
use Rattle.replay_laws.specs.Interleaved.{Comes}
use Rattle.replay_laws.proofs.Moments.{cons-head, cons-tail, nil≢middle}
use Rattle.replay_laws.proofs.Remembered.{IsMadeBy, walk-made}

-- the walk of an event, and what was remembered before it
pub record IsWalked (d : Description) (appliances : Appliances) (earlier : List (Event × Walk)) (e : Event) (w : Walk) : Type 0 where
  pub conns : List Connection
  pub nats : List Translation
  pub made : IsMadeBy earlier conns nats
  pub is : w ≡ walk_of d appliances e.label (moment_of e conns nats)

walks_after-walked : (d : Description) (appliances : Appliances) (done : List (Event × Walk)) (conns : List Connection) (nats : List Translation)
    (events : List Event)
    (earlier later : List (Event × Walk)) (e : Event) (w : Walk) → IsMadeBy done conns nats → zip events (walks_after d appliances conns nats events) ≡ earlier ++ (e, w) ∷ later
    → IsWalked d appliances (done ++ earlier) e w
walks_after-walked d appliances done conns nats [] earlier later e w made order = absurd (nil≢middle earlier (e, w) later order)
walks_after-walked d appliances done conns nats (f ∷ events) [] later e w made order =
    let v = walk_of d appliances f.label (moment_of f conns nats) in
    let same : ◌≡◌ {A = Event × Walk} (f, v) (e, w) = cons-head (f, v) (e, w) (zip events (walks_after d appliances v.conns v.nats events)) later order in
    let event = ap (λ (pair : Event × Walk). pair.0) same in
    record {
      conns = conns;
      nats = nats;
      made = subst (λ (all : List (Event × Walk)). IsMadeBy all conns nats) (sym (append-nil done)) made;
      is = subst (λ (g : Event). w ≡ walk_of d appliances g.label (moment_of g conns nats)) event (sym (ap (λ (pair : Event × Walk). pair.1) same));
    }
walks_after-walked d appliances done conns nats (f ∷ events) (x ∷ earlier) later e w made order =
    let v = walk_of d appliances f.label (moment_of f conns nats) in
    let rest = zip events (walks_after d appliances v.conns v.nats events) in
    let first : ◌≡◌ {A = Event × Walk} (f, v) x = cons-head (f, v) x rest (earlier ++ (e, w) ∷ later) order in
    let tail = cons-tail (f, v) x rest (earlier ++ (e, w) ∷ later) order in
    let walked = walks_after-walked d appliances (done ++ (f, v) ∷ []) v.conns v.nats events earlier later e w (walk-made d appliances done f (moment_of f conns nats) made) tail in
    subst (λ (y : Event × Walk). IsWalked d appliances (done ++ y ∷ earlier) e w) first
    (subst (λ (all : List (Event × Walk)). IsWalked d appliances all e w) (append_assoc done ((f, v) ∷ []) earlier) walked)

pub comes-walked : (d : Description) (appliances : Appliances) (events : List Event) (earlier : List (Event × Walk)) (e : Event) (w : Walk)
    → Comes d appliances events earlier e w
    → IsWalked d appliances earlier e w
comes-walked d appliances events earlier e w comes =
    walks_after-walked d appliances [] [] [] events earlier comes.later e w
    (record { opened = λ c none. absurd (Contains-none c none); translated = λ t none. absurd (Contains-none t none) }) comes.in_order
