-- What lets the answers of a replay through.
use Rattle.std.proofs.Common.{Contains, List, None, Option, Some, [], ap, inl, inr, not, refl, subst, sym, true, ℕ, ◌&&◌, ◌++◌, ◌==◌, ◌∙◌, ◌∷◌, ◌≡◌, ◌⊎◌}
use Rattle.vpc_base.proofs.Lemmas.{and_parts, cond_both, list_any-member}
use Rattle.vpc_base.specs.Terms.{reply_of, same_dir}
use Rattle.vpc_base.specs.declared.headers.Dir.TheVariants.{Inward, Outward}
use Rattle.vpc_base.specs.declared.headers.Label.TheVariants.{Answer}
use Rattle.vpc_model.specs.declared.outcomes.By.TheVariants.{NoGroups, Nothing, Rule, Tracked}
use Rattle.vpc_model.specs.declared.outcomes.Outcome.TheVariants.{Stopped}
use Rattle.vpc_model.specs.declared.places.Place.TheVariants.{Into, NatIn, NatOut, OutOf}
use Rattle.vpc_model.specs.declared.stops.Stop.TheVariants.{DestCheck, Detached, GroupsIn, NatUnsolicited}
use Rattle.vpc_laws.specs.Types.{By, Description, Dir, EniNo, Event, Header, Hop, Label, NatNo, Place, RuleRef, Stop}
use Rattle.vpc_model.specs.Terms.{Appliances, Connection, Moment, Passing, Step, Translation, Walk, answer_passing, first_rule, from_inward, has_address, in_passing, interface_at, inward, is_header, is_tracked, label_passing, moment_of, passing_groups, passing_of, step_at, step_into, step_of, stop, walk_of}
use Rattle.vpc_model.proofs.Nexts.{go-header}
use Rattle.vpc_laws.specs.Terms.{AsksGroups, IsWalk, LetsPass, own_connection}
use Rattle.vpc_laws.proofs.Lemmas.{EniNo-same, inward_answers_opens, is_header-some, own_connection-made, packets_pass_by_groups, place_by, same_dir-true, same_header-true, three, walks_are_of_steps}
use Rattle.replay_laws.specs.Interleaved.{AnswersAreLetIn, AnswersAreToOpens, GoesOnAs, IsLetIn, IsStoppedInto, IsStopInto, PassedOutward, SentOut}
use Rattle.replay_laws.proofs.Moments.{IsBefore, IsHopAt, befores_at, hops_at}
use Rattle.replay_laws.proofs.Remembered.{IsOpened, IsTranslated}
use Rattle.replay_laws.proofs.Replaying.{comes-walked}

-- ---- hops of an event's walk

Answer-walk : (d : Description) (appliances : Appliances) (label : Label) (m : Moment) (w : Walk) → label ≡ Answer → w ≡ walk_of d appliances label m
    → IsWalk d appliances Answer m w
Answer-walk d appliances label m w answers e =
    subst (λ (v : Walk). IsWalk d appliances Answer m v) (sym (e ∙ ap (λ (l : Label). walk_of d appliances l m) answers)) (walks_are_of_steps d appliances Answer m)

hop-at : (d : Description) (appliances : Appliances) (m : Moment) (w : Walk) (hop : Hop) → IsWalk d appliances Answer m w → Contains w.hops hop
    → IsHopAt d appliances m w.hops w.outcome hop
hop-at d appliances m w hop is has =
    subst (λ (hops : List Hop). IsHopAt d appliances m hops w.outcome hop) (sym is.hops)
    (hops_at d appliances m is.rest w.hops w.outcome hop is.follows is.ends (subst (λ (hops : List Hop). Contains hops hop) is.hops has))

hop-before : (d : Description) (appliances : Appliances) (m : Moment) (w : Walk) (before after : List Hop) (hop next : Hop)
    → IsWalk d appliances Answer m w → w.hops ≡ before ++ hop ∷ next ∷ after → IsBefore d appliances m hop next
hop-before d appliances m w before after hop next is e = befores_at d appliances m is.rest before after hop next is.follows (sym is.hops ∙ e)

-- ---- into an interface

-- what passes groups passes by something
abbrev IsSomething : Option By → Type 0
IsSomething by = by ≡ Some Nothing → ⊥

answer_passing-something : (conns : List Connection) (r : Option RuleRef) → IsSomething (answer_passing conns r).by
answer_passing-something conns None = λ e. cc
answer_passing-something conns (Some r) = λ e. cc

label_passing-something : (d : Description) (i : EniNo) (dir : Dir) (h : Header) (conns : List Connection)
    → IsSomething (label_passing d Answer i dir h conns).by
label_passing-something d i dir h conns =
    let tracked : Passing = record { by = Some Tracked; conns = conns } in
    cond_both (is_tracked conns i dir h) tracked (answer_passing conns (first_rule d (interface_at d i) dir h)) (λ (x : Passing). IsSomething x.by)
    (λ _. λ e. cc) (λ _. answer_passing-something conns (first_rule d (interface_at d i) dir h))

passing_groups-something : (d : Description) (i : EniNo) (dir : Dir) (h : Header) (conns : List Connection) (groups : List (List ℕ))
    → IsSomething (passing_groups d Answer i dir h conns groups).by
passing_groups-something d i dir h conns [] = λ e. cc
passing_groups-something d i dir h conns (g ∷ gs) = label_passing-something d i dir h conns

-- a step that asks no groups stops the packet, for a reason of the interface
abbrev StopsUnasked : EniNo → Step → Type 0
StopsUnasked i step = step.by ≡ Nothing → (s : Stop) × (IsStopInto i s × (step.next ≡ stop s))

in_passing-stops : (d : Description) (appliances : Appliances) (i : EniNo) (m : Moment) (by : Option By) (conns : List Connection) → IsSomething by
    → StopsUnasked i (in_passing d appliances i m (record { by = by; conns = conns }))
in_passing-stops d appliances i m None conns something = λ _. (GroupsIn i, (inr (inr refl), refl))
in_passing-stops d appliances i m (Some by) conns something = λ e. absurd (something (ap Some e))

step_into-stops : (d : Description) (appliances : Appliances) (i : EniNo) (m : Moment) → StopsUnasked i (step_into d appliances Answer i m)
step_into-stops d appliances i m =
    let e = interface_at d i in
    let passing = passing_of d Answer i Inward m.header m.conns in
    cond_both e.idle _ _ (λ (s : Step). StopsUnasked i s) (λ _ _. (Detached i, (inl refl, refl)))
    (λ _. cond_both (e.checked && not (has_address e m.header.dst)) _ _ (λ (s : Step). StopsUnasked i s) (λ _ _. (DestCheck i, (inr (inl refl), refl)))
    (λ _. in_passing-stops d appliances i m passing.by passing.conns (passing_groups-something d i Inward m.header m.conns e.groups)))

-- ---- the opens of tracked connections

-- the place and header of an outward connection
record IsOutward (p : Place) (h : Header) (c : Connection) : Type 0 where
  pub place : p ≡ OutOf c.eni
  pub header : h ≡ c.header

own_connection-outward : (p : Place) (h : Header) (c : Connection) → own_connection p h ≡ Some c → c.dir ≡ Outward → IsOutward p h c
own_connection-outward p h c own out =
    let made = own_connection-made p h c own in
    record { place = made.place ∙ ap (place_by c.eni) out; header = made.header }

hop-is : (hop : Hop) (p : Place) (h : Header) (b : By) → hop.place ≡ p → hop.header ≡ h → hop.by ≡ b → hop ≡ record { place = p; header = h; by = b }
hop-is hop p h b x y z =
    let make : Place → Header → By → Hop = λ p h b. record { place = p; header = h; by = b } in
    three make hop.place p hop.header h hop.by b x y z

opened-outward : (earlier : List (Event × Walk)) (i : EniNo) (c : Connection) → IsOpened earlier c → c.eni ≡ i → c.dir ≡ Outward
    → PassedOutward earlier i c.header
opened-outward earlier i c opened here out =
    let passed = opened.passed in
    let hop = passed.hop in
    let own = own_connection-outward hop.place hop.header c passed.own out in
    let place = own.place ∙ ap OutOf here in
    record {
      event = opened.event;
      walk = opened.walk;
      is_earlier = opened.is_earlier;
      opens = passed.opens;
      rule = passed.rule;
      passed = subst (λ (k : Hop). Contains opened.walk.hops k) (hop-is hop (OutOf i) c.header (Rule passed.rule) place own.header passed.by) passed.came;
    }

-- the open whose reply is tracked
tracked-opened : (earlier : List (Event × Walk)) (conns : List Connection) (i : EniNo) (h : Header) → ((c : Connection) → Contains conns c → IsOpened earlier c)
    → is_tracked conns i Inward h ≡ true → (k : Header) × ((reply_of k ≡ Some h) × PassedOutward earlier i k)
tracked-opened earlier conns i h opened tracked =
    let found = list_any-member (λ c. (c.eni.0 == i.0) && (same_dir c.dir Outward && is_header h (reply_of c.header))) conns tracked in
    let c = found.0 in
    let parts = and_parts (c.eni.0 == i.0) (same_dir c.dir Outward && is_header h (reply_of c.header)) found.2 in
    let rest = and_parts (same_dir c.dir Outward) (is_header h (reply_of c.header)) parts.1 in
    let reply = is_header-some h (reply_of c.header) rest.1 in (
      c.header,
      (
        (reply.1).0 ∙ ap Some (same_header-true reply.0 h (reply.1).1),
        opened-outward earlier i c (opened c found.1) (EniNo-same c.eni i parts.0) (same_dir-true c.dir Outward rest.0),
      ),
    )

-- ---- answers that are let in

let_in : (d : Description) (earlier : List (Event × Walk)) (i : EniNo) (w : Walk) (hop : Hop) (by : By) (conns : List Connection)
    → (by ≡ Nothing → IsStoppedInto i w hop) → LetsPass d Answer conns (record { eni = i; dir = Inward; header = hop.header }) by
    → ((c : Connection) → Contains conns c → IsOpened earlier c) → IsLetIn d earlier i w hop by
let_in d earlier i w hop Nothing conns stops passes opened = stops refl
let_in d earlier i w hop NoGroups conns stops passes opened = passes
let_in d earlier i w hop (Rule r) conns stops passes opened = passes.0
let_in d earlier i w hop Tracked conns stops passes opened = tracked-opened earlier conns i hop.header opened passes.1

-- the stop of a moment into an interface that asks no groups
into-stops : (d : Description) (appliances : Appliances) (m : Moment) (i : EniNo) → m.place ≡ Into i → StopsUnasked i (step_of d appliances Answer m)
into-stops d appliances m i here = subst (λ (p : Place). StopsUnasked i (step_at d appliances Answer p m)) (sym here) (step_into-stops d appliances i m)

into-passes : (d : Description) (appliances : Appliances) (m : Moment) (i : EniNo) → m.place ≡ Into i
    → let step = step_of d appliances Answer m in LetsPass d Answer m.conns (record { eni = i; dir = Inward; header = m.header }) step.by
into-passes d appliances m i here =
    let step = step_of d appliances Answer m in
    subst (λ (p : Place). AsksGroups d Answer m.conns (own_connection p m.header) step.by) here (packets_pass_by_groups d appliances Answer m)

hop-let_in : (d : Description) (appliances : Appliances) (earlier : List (Event × Walk)) (m : Moment) (w : Walk) (hop : Hop) (i : EniNo)
    → ((c : Connection) → Contains m.conns c → IsOpened earlier c) → IsHopAt d appliances m w.hops w.outcome hop → hop.place ≡ Into i
    → IsLetIn d earlier i w hop hop.by
hop-let_in d appliances earlier m w hop i opened at here =
    let x = at.moment in
    let step = step_of d appliances Answer x in
    let there : x.place ≡ Into i = sym (ap (λ (k : Hop). k.place) at.is) ∙ here in
    let header : hop.header ≡ x.header = ap (λ (k : Hop). k.header) at.is in
    let by : hop.by ≡ step.by = ap (λ (k : Hop). k.by) at.is in
    let asked = subst (λ (conns : List Connection). LetsPass d Answer conns (record { eni = i; dir = Inward; header = x.header }) step.by) at.conns
    (into-passes d appliances x i there) in
    let asks = subst (λ (h : Header). LetsPass d Answer m.conns (record { eni = i; dir = Inward; header = h }) step.by) (sym header) asked in
    let stops : step.by ≡ Nothing → IsStoppedInto i w hop =
    λ none. let s = into-stops d appliances x i there none in
    let told = at.stops s.0 (s.1).1 in record { last = told.1; reason = s.0; own = (s.1).0; outcome = told.0 } in
    subst (λ (b : By). IsLetIn d earlier i w hop b) (sym by) (let_in d earlier i w hop step.by m.conns stops asks opened)

pub answers_are_let_in : (d : Description) (appliances : Appliances) (events : List Event) → AnswersAreLetIn d appliances events
answers_are_let_in d appliances events earlier e w hop i comes answers has here =
    let walked = comes-walked d appliances events earlier e w comes in
    let m = moment_of e walked.conns walked.nats in
    hop-let_in d appliances earlier m w hop i walked.made.opened (hop-at d appliances m w hop (Answer-walk d appliances e.label m w answers walked.is) has) here

-- ---- answers at NAT gateways

nat_in-next : (d : Description) (appliances : Appliances) (m : Moment) (n : NatNo) (nats : List Translation) (h : Header) → m.place ≡ NatIn n
    → m.nats ≡ nats → m.header ≡ h
    → let step = step_of d appliances Answer m in step.next ≡ from_inward d n (inward nats n h)
nat_in-next d appliances m n nats h here same header =
    subst (λ (g : Header). let step = step_of d appliances Answer m in step.next ≡ from_inward d n (inward nats n g)) header
    (subst (λ (ts : List Translation). let step = step_of d appliances Answer m in step.next ≡ from_inward d n (inward ts n m.header)) same
    (subst (λ (p : Place). let step = step_at d appliances Answer p m in step.next ≡ from_inward d n (inward m.nats n m.header)) (sym here) refl))

sent-out : (earlier : List (Event × Walk)) (nats : List Translation) (n : NatNo) (h on : Header)
    → ((t : Translation) → Contains nats t → IsTranslated earlier t) → inward nats n h ≡ Some on → SentOut earlier n h on
sent-out earlier nats n h on translated e =
    let found = inward_answers_opens nats n h on e in
    let t = found.0 in
    let is = translated t found.1 in
    record {
      event = is.event;
      walk = is.walk;
      is_earlier = is.is_earlier;
      opens = is.opens;
      sent = is.sent;
      came = is.came;
      there = is.there ∙ ap NatOut found.2;
      translation = t;
      kept = is.kept;
      gateway = found.2;
      before = is.before;
      answered = found.3;
      returned = found.4;
    }

-- the hop after one where an answer was given back
goes_on-as : (d : Description) (appliances : Appliances) (m : Moment) (n : NatNo) (hop next : Hop) (on : Header) → IsBefore d appliances m hop next
    → hop.place ≡ NatIn n → inward m.nats n hop.header ≡ Some on
    → next.header ≡ on
goes_on-as d appliances m n hop next on is here e =
    let x = is.moment in
    let there = sym (ap (λ (k : Hop). k.place) is.is) ∙ here in
    let leads = nat_in-next d appliances x n m.nats hop.header there is.nats (sym (ap (λ (k : Hop). k.header) is.is)) in
    go-header next.place _ next.header on (sym is.goes ∙ leads ∙ ap (from_inward d n) e)

abbrev IsToOpen : Description → List (Event × Walk) → Walk → Hop → NatNo → Type 0
IsToOpen d earlier w hop n = (w.outcome ≡ Stopped (NatUnsolicited n)) ⊎ ((on : Header) × (SentOut earlier n hop.header on × GoesOnAs w.hops hop on))

hop-to_open : (d : Description) (appliances : Appliances) (earlier : List (Event × Walk)) (m : Moment) (w : Walk) (hop : Hop) (n : NatNo)
    (found : Option Header)
    → ((t : Translation) → Contains m.nats t → IsTranslated earlier t) → IsWalk d appliances Answer m w → IsHopAt d appliances m w.hops w.outcome hop
    → hop.place ≡ NatIn n → inward m.nats n hop.header ≡ found
    → IsToOpen d earlier w hop n
hop-to_open d appliances earlier m w hop n None translated walk at here e =
    let there = sym (ap (λ (k : Hop). k.place) at.is) ∙ here in
    let leads = nat_in-next d appliances at.moment n m.nats hop.header there at.nats (sym (ap (λ (k : Hop). k.header) at.is)) in
    let told = at.stops (NatUnsolicited n) (leads ∙ ap (from_inward d n) e) in inl told.0
hop-to_open d appliances earlier m w hop n (Some on) translated walk at here e =
    inr (
      on,
      (
        sent-out earlier m.nats n hop.header on translated e,
        λ before after next is. goes_on-as d appliances m n hop next on (hop-before d appliances m w before after hop next walk is) here e,
      ),
    )

pub answers_are_to_opens : (d : Description) (appliances : Appliances) (events : List Event) → AnswersAreToOpens d appliances events
answers_are_to_opens d appliances events earlier e w hop n comes answers has here =
    let walked = comes-walked d appliances events earlier e w comes in
    let m = moment_of e walked.conns walked.nats in
    let walk = Answer-walk d appliances e.label m w answers walked.is in
    hop-to_open d appliances earlier m w hop n (inward m.nats n hop.header) walked.made.translated walk (hop-at d appliances m w hop walk has) here refl
