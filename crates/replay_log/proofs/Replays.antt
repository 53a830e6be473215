-- One more event of a replay.
use Rattle.std.proofs.Common.{◌≡◌, ◌∙◌, ◌+◌, ◌<◌, ◌++◌, ◌∷◌, [], List, add-one, ap, append_assoc, drop, drop-cons, get_or, length, map, subst, suc, sym, ℕ}
use Rattle.std.specs.List.{All}
use Rattle.std.proofs.lemmas.List.Elements.{All-append, All-from_recursion}
use Rattle.vpc_laws.specs.Sound.{EndsWell}
use Rattle.vpc_laws.specs.Types.{Description, Event, Outcome}
use Rattle.vpc_model.specs.Appliances.{Appliances}
use Rattle.vpc_model.specs.Connections.{Connection}
use Rattle.vpc_model.specs.Nat.{Translation}
use Rattle.vpc_model.specs.Replay.{moment_of, walks_after}
use Rattle.vpc_model.specs.Walk.{Walk, walk_of}

-- how the walks of events end that meet these connections and translations
abbrev pub outcomes_after : Description → Appliances → List Connection → List Translation → List Event → List Outcome
outcomes_after d a conns nats events = map (λ (w : Walk). w.outcome) (walks_after d a conns nats events)

pub outcomes_after-more : (d : Description) (a : Appliances) (conns more_conns : List Connection) (nats more_nats : List Translation) (done : List Outcome)
    (e : Event) (rest : List Event) (o : Outcome)
    → (let w = walk_of d a e.label (moment_of e conns nats) in o ≡ w.outcome) → (let w = walk_of d a e.label (moment_of e conns nats) in more_conns ≡ w.conns)
    → (let w = walk_of d a e.label (moment_of e conns nats) in more_nats ≡ w.nats)
    → (done ++ o ∷ []) ++ outcomes_after d a more_conns more_nats rest ≡ done ++ outcomes_after d a conns nats (e ∷ rest)
outcomes_after-more d a conns more_conns nats more_nats done e rest o ends leaves_conns leaves_nats =
    let w = walk_of d a e.label (moment_of e conns nats) in
    append_assoc done (o ∷ []) (outcomes_after d a more_conns more_nats rest)
    ∙ ap (λ (x : Outcome). done ++ x ∷ outcomes_after d a more_conns more_nats rest) ends
    ∙ ap (λ (cs : List Connection). done ++ w.outcome ∷ outcomes_after d a cs more_nats rest) leaves_conns
    ∙ ap (λ (ts : List Translation). done ++ w.outcome ∷ outcomes_after d a w.conns ts rest) leaves_nats

-- the events from one on are that one and those after it
drop-split : (events : List Event) (i : ℕ) (e none : Event) → i < length events → e ≡ get_or events i none → drop i events ≡ e ∷ drop (i + 1) events
drop-split events i e none within is = rw add-one (drop-cons events i none within ∙ ap (λ (x : Event). x ∷ drop (suc i) events) (sym is))

pub outcomes_after-step : (d : Description) (a : Appliances) (conns more_conns : List Connection) (nats more_nats : List Translation) (done more : List Outcome)
    (events : List Event) (i : ℕ) (e none : Event) (o : Outcome) (all : List Outcome) → i < length events → e ≡ get_or events i none
    → (let w = walk_of d a e.label (moment_of e conns nats) in o ≡ w.outcome) → (let w = walk_of d a e.label (moment_of e conns nats) in more_conns ≡ w.conns)
    → (let w = walk_of d a e.label (moment_of e conns nats) in more_nats ≡ w.nats) → more ≡ done ++ o ∷ []
    → done ++ outcomes_after d a conns nats (drop i events) ≡ all → more ++ outcomes_after d a more_conns more_nats (drop (i + 1) events) ≡ all
outcomes_after-step d a conns more_conns nats more_nats done more events i e none o all within is ends leaves_conns leaves_nats adds before =
    ap (λ (os : List Outcome). os ++ outcomes_after d a more_conns more_nats (drop (i + 1) events)) adds
    ∙ outcomes_after-more d a conns more_conns nats more_nats done e (drop (i + 1) events) o ends leaves_conns leaves_nats
    ∙ ap (λ (es : List Event). done ++ outcomes_after d a conns nats es) (sym (drop-split events i e none within is))
    ∙ before

-- one more that can be told
pub told-more : (d : Description) (done more : List Outcome) (o : Outcome) → All (EndsWell d) done → EndsWell d o → more ≡ done ++ o ∷ [] → All (EndsWell d) more
told-more d done more o told last adds =
    subst (λ (os : List Outcome). All (EndsWell d) os) (sym adds) (All-append (EndsWell d) done (o ∷ []) told (All-from_recursion (EndsWell d) (o ∷ []) (last, tt)))
