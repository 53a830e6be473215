-- What one step keeps and adds.
use Rattle.std.specs.Prelude.{◌≡◌, ◌⊎◌, ◌&&◌, not, ◌++◌, ◌∷◌, [], Bool, List, None, Option, Some, false, true}
use Rattle.std.specs.List.{AllByRecursion}
use Rattle.vpc_laws.specs.Types.{By, Description, EniNo, Header, Label, NatNo, Place, RuleRef, Stop}
use Rattle.vpc_base.specs.declared.headers.Dir.TheVariants as dirs
use Rattle.vpc_base.specs.declared.headers.Label.TheVariants as labels
use Rattle.vpc_model.specs.declared.places.Place.TheVariants as places
use Rattle.vpc_model.specs.declared.outcomes.By.TheVariants as bys
use Rattle.vpc_model.specs.declared.stops.Stop.TheVariants as stops
use Rattle.vpc_model.specs.Appliances.{Appliances}
use Rattle.vpc_model.specs.Connections.{Connection, added, is_tracked}
use Rattle.vpc_model.specs.Groups.{first_rule}
use Rattle.vpc_model.specs.Lookup.{has_address, interface_at, nat_at}
use Rattle.vpc_model.specs.Nat.{Translation, is_full, is_translatable, new_translation, translation_of}
use Rattle.vpc_model.specs.Step.{step_of}
use Rattle.vpc_model.specs.Step.Nat.{own_address}
use Rattle.vpc_model.specs.Step.Words.{Moment, Next, arrive, go, stop}
use Rattle.vpc_laws.specs.Memory.{Memory, connection, memory_at, nothing, translation}
use Rattle.vpc_laws.specs.Translations.{IsTranslation}

-- ---- words

-- the second list is the first with more behind it
abbrev pub Begins : {X : Type 0} → List X → List X → Type 0
Begins {X = X} before after = (more : List X) × (after ≡ before ++ more)

-- the connection that is remembered of a header, if one is
abbrev pub connection_of : Memory → Header → Option Connection
connection_of (connection i dir) h = Some (record { eni = i; dir = dir; header = h })
connection_of (translation n) h = None
connection_of nothing h = None

-- the connection that an open makes where it leaves or reaches an interface
abbrev pub own_connection : Place → Header → Option Connection
own_connection p h = connection_of (memory_at p) h

-- the connections after a packet's step: those before it, or one more, that of an open at its place
abbrev pub AddsOwn : Label → Place → Header → List Connection → List Connection → Type 0
AddsOwn label p h before after =
    (after ≡ before)
    ⊎ ((c : Connection) × ((label ≡ labels.Opening) × ((own_connection p h ≡ Some c) × (after ≡ before ++ c ∷ []))))

-- the translations after a packet's step: those before it, or one more, of an open at that NAT gateway
abbrev pub AddsTranslation : Label → Place → Header → List Translation → List Translation → Type 0
AddsTranslation label p h before after =
    (after ≡ before)
    ⊎ ((t : Translation) × ((label ≡ labels.Opening) × ((p ≡ places.NatOut t.nat) × ((t.before ≡ h) × (after ≡ before ++ t ∷ [])))))

-- a header of the same protocol and q comes next, if one does
abbrev pub KeepsFlow : Header → Next → Type 0
KeepsFlow h (go p k) = (k.proto ≡ h.proto) × (k.q ≡ h.q)
KeepsFlow h (arrive end) = Unit {0}
KeepsFlow h (stop s) = Unit {0}

-- the same header comes next, if one does
abbrev pub SendsSame : Header → Next → Type 0
SendsSame h (go p k) = k ≡ h
SendsSame h (arrive end) = Unit {0}
SendsSame h (stop s) = Unit {0}

-- a stop that a step may give: the others are those of walks and verdicts
abbrev pub is_of_step : Stop → Bool
is_of_step (stops.Loop p) = false
is_of_step (stops.TooFar p) = false
is_of_step (stops.WrongPlace e) = false
is_of_step (stops.WrongReturn e) = false
is_of_step (stops.NoReply e) = false
is_of_step _ = true

-- a stop of a step, if it is one
abbrev pub StopsItself : Next → Type 0
StopsItself (go p k) = Unit {0}
StopsItself (arrive end) = Unit {0}
StopsItself (stop s) = is_of_step s ≡ true

-- the places that rewrite headers
abbrev pub is_rewriting : Place → Bool
is_rewriting (places.IgwOut v) = true
is_rewriting (places.IgwIn v) = true
is_rewriting (places.NatOut n) = true
is_rewriting (places.NatIn n) = true
is_rewriting _ = false

-- ---- laws

-- an open keeps its protocol and q
abbrev pub OpenKeepsFlow : Type 0
OpenKeepsFlow =
    (d : Description) (appliances : Appliances) (m : Moment) → AllByRecursion IsTranslation m.nats
    → let s = step_of d appliances labels.Opening m in KeepsFlow m.header s.next

-- headers are rewritten at internet gateways and NAT gateways alone
abbrev pub HeaderStays : Type 0
HeaderStays =
    (d : Description) (appliances : Appliances) (label : Label) (m : Moment)
    → is_rewriting m.place ≡ false → let s = step_of d appliances label m in SendsSame m.header s.next

-- a step adds at most the connection of an open at its place, also where it then stops or arrives
abbrev pub StepAddsOwn : Type 0
StepAddsOwn =
    (d : Description) (appliances : Appliances) (label : Label) (m : Moment)
    → let s = step_of d appliances label m in AddsOwn label m.place m.header m.conns s.conns

-- so connections change at OutOf and Into alone
abbrev pub ConnectionsChangeAtInterfaces : Type 0
ConnectionsChangeAtInterfaces =
    (d : Description) (appliances : Appliances) (label : Label) (m : Moment)
    → own_connection m.place m.header ≡ None → let s = step_of d appliances label m in s.conns ≡ m.conns

-- a step adds at most a translation of an open at a NAT gateway
abbrev pub StepAddsTranslation : Type 0
StepAddsTranslation =
    (d : Description) (appliances : Appliances) (label : Label) (m : Moment)
    → let s = step_of d appliances label m in AddsTranslation label m.place m.header m.nats s.nats

-- so connections and translations only grow
abbrev pub StepKeeps : Type 0
StepKeeps =
    (d : Description) (appliances : Appliances) (label : Label) (m : Moment)
    → let s = step_of d appliances label m in Begins m.conns s.conns × Begins m.nats s.nats

-- and an answer adds none
abbrev pub AnswerAddsNothing : Type 0
AnswerAddsNothing =
    (d : Description) (appliances : Appliances) (m : Moment)
    → let s = step_of d appliances labels.Answer m in (s.conns ≡ m.conns) × (s.nats ≡ m.nats)

-- no step stops a packet by a loop, by length, at a wrong end or without a reply
abbrev pub StepsStopThemselves : Type 0
StepsStopThemselves =
    (d : Description) (appliances : Appliances) (label : Label) (m : Moment)
    → let s = step_of d appliances label m in StopsItself s.next

-- ---- laws of security groups

-- what is remembered after an interface, by what the packet passed its groups: where an open passed by
-- a rule, its connection too
abbrev pub remembered : Label → By → Option Connection → List Connection → List Connection
remembered labels.Answer by own conns = conns
remembered labels.Opening bys.Nothing own conns = conns
remembered labels.Opening bys.NoGroups own conns = conns
remembered labels.Opening bys.Tracked own conns = conns
remembered labels.Opening (bys.Rule r) None conns = conns
remembered labels.Opening (bys.Rule r) (Some c) conns = added conns c

-- a connection is added exactly where an open passes by a rule
abbrev pub RulesAreRemembered : Type 0
RulesAreRemembered =
    (d : Description) (appliances : Appliances) (label : Label) (m : Moment)
    → let s = step_of d appliances label m in
    s.conns ≡ remembered label s.by (own_connection m.place m.header) m.conns

-- what lets a packet pass the groups of an interface: that it has none, that an answer is tracked, or
-- else the first rule
abbrev pub LetsPass : Description → Label → List Connection → Connection → By → Type 0
LetsPass d label conns c bys.Nothing = Unit {0}
LetsPass d label conns c bys.NoGroups = let e = interface_at d c.eni in e.groups ≡ []
LetsPass d label conns c bys.Tracked =
    (label ≡ labels.Answer) × (is_tracked conns c.eni c.dir c.header ≡ true)
LetsPass d label conns c (bys.Rule r) =
    (first_rule d (interface_at d c.eni) c.dir c.header ≡ Some r)
    × (label ≡ labels.Answer → is_tracked conns c.eni c.dir c.header ≡ false)

-- no groups are asked but those of the interface that a packet leaves or reaches
abbrev pub AsksGroups : Description → Label → List Connection → Option Connection → By → Type 0
AsksGroups d label conns None by = by ≡ bys.Nothing
AsksGroups d label conns (Some c) by = LetsPass d label conns c by

-- a packet passes by what lets it pass
abbrev pub PacketsPassByGroups : Type 0
PacketsPassByGroups =
    (d : Description) (appliances : Appliances) (label : Label) (m : Moment)
    → let s = step_of d appliances label m in
    AsksGroups d label m.conns (own_connection m.place m.header) s.by

-- an open that a rule allows passes by the first one, where the interface is attached and the addresses
-- are checked
abbrev pub OpensPassByRules : Type 0
OpensPassByRules =
    (d : Description) (appliances : Appliances) (i : EniNo) (h : Header) (conns : List Connection) (nats : List Translation) (r : RuleRef)
    → let e = interface_at d i in
    let out = step_of d appliances labels.Opening (record { place = places.OutOf i; header = h; conns = conns; nats = nats }) in
    let into = step_of d appliances labels.Opening (record { place = places.Into i; header = h; conns = conns; nats = nats }) in
    e.idle ≡ false
    → (((e.checked && not (has_address e h.src)) ≡ false → first_rule d e dirs.Outward h ≡ Some r → out.by ≡ bys.Rule r)
    × ((e.checked && not (has_address e h.dst)) ≡ false → first_rule d e dirs.Inward h ≡ Some r → into.by ≡ bys.Rule r))

-- groups refuse a packet
abbrev pub is_refused : Next → Bool
is_refused (go p k) = false
is_refused (arrive end) = false
is_refused (stop (stops.GroupsOut i)) = true
is_refused (stop (stops.GroupsIn i)) = true
is_refused (stop _) = false

-- nothing is remembered of a packet that groups refuse
abbrev pub RefusedAreForgotten : Type 0
RefusedAreForgotten =
    (d : Description) (appliances : Appliances) (label : Label) (m : Moment)
    → let s = step_of d appliances label m in is_refused s.next ≡ true → s.conns ≡ m.conns

-- ---- laws of translations

-- an open at a NAT gateway that may be translated, wasn't before, and finds room
pub record IsNewOpen (label : Label) (m : Moment) (n : NatNo) : Type 0 where
  pub opens : label ≡ labels.Opening
  pub here : m.place ≡ places.NatOut n
  pub translatable : is_translatable m.header.proto ≡ true
  pub unknown : translation_of m.nats n m.header ≡ None
  pub room : is_full m.nats n m.header ≡ false

-- the translation that its gateway then makes
abbrev pub translation_by : Description → Moment → NatNo → Translation
translation_by d m n = let row = nat_at d n in new_translation m.nats n (own_address row.life) m.header

-- a translation is added exactly for such an open
abbrev pub NewOpensAreTranslated : Type 0
NewOpensAreTranslated =
    (d : Description) (appliances : Appliances) (label : Label) (m : Moment)
    → let s = step_of d appliances label m in
    ((s.nats ≡ m.nats) × ((n : NatNo) → IsNewOpen label m n → ⊥))
    ⊎ ((n : NatNo) × (IsNewOpen label m n × (s.nats ≡ m.nats ++ translation_by d m n ∷ [])))
