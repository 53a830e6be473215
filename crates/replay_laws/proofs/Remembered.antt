-- Which events made what the network remembers.
use Rattle.std.proofs.Common.{◌≡◌, ◌⊎◌, ◌∷◌, ◌++◌, [], List, None, Option, Some, ap, inl, inr, refl, subst}
use Rattle.std.specs.List.{Contains, list_any}
use Rattle.std.proofs.lemmas.Bool.{cond_both}
use Rattle.std.proofs.lemmas.List.Elements.{Contains-append_left, Contains-push, Contains-push_cases}
use Rattle.vpc_base.specs.declared.headers.Label.TheVariants.{Answer, Opening}
use Rattle.vpc_laws.specs.Types.{By, Description, Event, Hop, Label, RuleRef}
use Rattle.vpc_model.specs.declared.outcomes.By.TheVariants.{NoGroups, Nothing, Rule, Tracked}
use Rattle.vpc_model.specs.declared.places.Place.TheVariants.{NatOut}
use Rattle.vpc_model.specs.Appliances.{Appliances}
use Rattle.vpc_model.specs.Connections.{Connection, added, same_connection}
use Rattle.vpc_model.specs.Nat.{Translation}
use Rattle.vpc_model.specs.Step.Words.{Moment, Next}
use Rattle.vpc_model.specs.Walk.{Walk, walk_of}
use Rattle.vpc_laws.specs.Step.{own_connection, remembered}
use Rattle.vpc_laws.proofs.Passing.{rules_are_remembered}
use Rattle.vpc_laws.proofs.Walking.{IsKept, hop_at, left_translations_are_own, walk_of-keeps}

-- ---- connections of one walk

-- the connection is that of an open at one of the hops, where it passed by a rule
pub record IsPassed (label : Label) (hops : List Hop) (c : Connection) : Type 0 where
  pub opens : label ≡ Opening
  pub hop : Hop
  pub came : Contains hops hop
  pub own : own_connection hop.place hop.header ≡ Some c
  pub rule : RuleRef
  pub by : hop.by ≡ Rule rule

abbrev ArePassed : Label → Moment → Next → List Hop → List Connection → List Translation → Type 0
ArePassed label start next hops conns nats = (c : Connection) → Contains conns c → Contains start.conns c ⊎ IsPassed label hops c

-- the connection was there, or it is the open's own, which passed by a rule
abbrev IsOwn : Label → By → Option Connection → List Connection → Connection → Type 0
IsOwn label by own before c = Contains before c ⊎ ((label ≡ Opening) × ((own ≡ Some c) × ((r : RuleRef) × (by ≡ Rule r))))

added-own : (r : RuleRef) (k : Connection) (before : List Connection) (c : Connection) → Contains (added before k) c → IsOwn Opening (Rule r) (Some k) before c
added-own r k before c =
    cond_both (list_any (same_connection k) before) before (before ++ k ∷ []) (λ (after : List Connection). Contains after c → IsOwn Opening (Rule r) (Some k) before c)
    (λ _ has. inl has)
    (λ _ has. elim (Contains-push_cases before k c has) [ inl old ↦ inl old | inr same ↦ inr (refl, (ap Some same, (r, refl))) ])

remembered-own : (label : Label) (by : By) (own : Option Connection) (before : List Connection) (c : Connection)
    → Contains (remembered label by own before) c → IsOwn label by own before c
remembered-own Answer by own before c has = inl has
remembered-own Opening Nothing own before c has = inl has
remembered-own Opening NoGroups own before c has = inl has
remembered-own Opening Tracked own before c has = inl has
remembered-own Opening (Rule r) None before c has = inl has
remembered-own Opening (Rule r) (Some k) before c has = added-own r k before c has

IsPassed-more : (label : Label) (hops : List Hop) (hop : Hop) (c : Connection) → IsPassed label hops c → IsPassed label (hops ++ hop ∷ []) c
IsPassed-more label hops hop c is = record {
  opens = is.opens;
  hop = is.hop;
  came = Contains-append_left hops (hop ∷ []) is.hop is.came;
  own = is.own;
  rule = is.rule;
  by = is.by;
}

ArePassed-after : (label : Label) (start : Moment) (hops : List Hop) (hop : Hop) (before after : List Connection)
    → after ≡ remembered label hop.by (own_connection hop.place hop.header) before
    → ((c : Connection) → Contains before c → Contains start.conns c ⊎ IsPassed label hops c)
    → (c : Connection) → Contains after c → Contains start.conns c ⊎ IsPassed label (hops ++ hop ∷ []) c
ArePassed-after label start hops hop before after e passed c has =
    elim (remembered-own label hop.by (own_connection hop.place hop.header) before c (subst (λ (cs : List Connection). Contains cs c) e has)) [
      | inl old ↦ elim (passed c old) [ inl first ↦ inl first | inr is ↦ inr (IsPassed-more label hops hop c is) ]
      | inr (opens, (own, (r, by))) ↦ inr record { opens = opens; hop = hop; came = Contains-push hops hop; own = own; rule = r; by = by }
    ]

ArePassed-kept : (d : Description) (appliances : Appliances) (label : Label) (start : Moment) → IsKept d appliances label (ArePassed label start)
ArePassed-kept d appliances label start hops m new passed = ArePassed-after label start hops (hop_at d appliances label m) m.conns _ (rules_are_remembered d appliances label m) passed

pub left_connections_are_passed : (d : Description) (appliances : Appliances) (label : Label) (m : Moment) (c : Connection)
    → let w = walk_of d appliances label m in Contains w.conns c → Contains m.conns c ⊎ IsPassed label w.hops c
left_connections_are_passed d appliances label m c =
    (walk_of-keeps d appliances label (ArePassed label m) (ArePassed-kept d appliances label m) m
    (ArePassed-after label m [] (hop_at d appliances label m) m.conns _ (rules_are_remembered d appliances label m) (λ k has. inl has))).1 c

-- ---- events

-- one of the events was an open that made the connection, where it passed by a rule
pub record IsOpened (earlier : List (Event × Walk)) (c : Connection) : Type 0 where
  pub event : Event
  pub walk : Walk
  pub is_earlier : Contains earlier (event, walk)
  pub passed : IsPassed event.label walk.hops c

-- one of the events was an open that made the translation
pub record IsTranslated (earlier : List (Event × Walk)) (t : Translation) : Type 0 where
  pub event : Event
  pub walk : Walk
  pub is_earlier : Contains earlier (event, walk)
  pub opens : event.label ≡ Opening
  pub sent : Hop
  pub came : Contains walk.hops sent
  pub there : sent.place ≡ NatOut t.nat
  pub before : t.before ≡ sent.header
  pub kept : Contains walk.nats t

-- all that is remembered was made by these events
pub record IsMadeBy (earlier : List (Event × Walk)) (conns : List Connection) (nats : List Translation) : Type 0 where
  pub opened : (c : Connection) → Contains conns c → IsOpened earlier c
  pub translated : (t : Translation) → Contains nats t → IsTranslated earlier t

IsOpened-more : (earlier : List (Event × Walk)) (last : Event × Walk) (c : Connection) → IsOpened earlier c → IsOpened (earlier ++ last ∷ []) c
IsOpened-more earlier last c is = record {
  event = is.event;
  walk = is.walk;
  is_earlier = Contains-append_left earlier (last ∷ []) (is.event, is.walk) is.is_earlier;
  passed = is.passed;
}

IsTranslated-more : (earlier : List (Event × Walk)) (last : Event × Walk) (t : Translation) → IsTranslated earlier t → IsTranslated (earlier ++ last ∷ []) t
IsTranslated-more earlier last t is = record {
  event = is.event;
  walk = is.walk;
  is_earlier = Contains-append_left earlier (last ∷ []) (is.event, is.walk) is.is_earlier;
  opens = is.opens;
  sent = is.sent;
  came = is.came;
  there = is.there;
  before = is.before;
  kept = is.kept;
}

-- what the walk of one more event leaves
pub walk-made : (d : Description) (appliances : Appliances) (earlier : List (Event × Walk)) (e : Event) (m : Moment) → IsMadeBy earlier m.conns m.nats
    → let w = walk_of d appliances e.label m in IsMadeBy (earlier ++ (e, w) ∷ []) w.conns w.nats
walk-made d appliances earlier e m made =
    let w = walk_of d appliances e.label m in
    record {
      opened = λ c has. elim (left_connections_are_passed d appliances e.label m c has) [
        | inl old ↦ IsOpened-more earlier (e, w) c (made.opened c old)
        | inr passed ↦ record { event = e; walk = w; is_earlier = Contains-push earlier (e, w); passed = passed }
      ];
      translated = λ t has. elim (left_translations_are_own d appliances e.label m t has) [
        | inl old ↦ IsTranslated-more earlier (e, w) t (made.translated t old)
        | inr (opens, (sent, (came, (there, before)))) ↦ record {
          event = e;
          walk = w;
          is_earlier = Contains-push earlier (e, w);
          opens = opens;
          sent = sent;
          came = came;
          there = there;
          before = before;
          kept = has;
        }
      ];
    }
