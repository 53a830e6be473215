-- What the network remembers passed by rules.
use Rattle.std.proofs.Common.{Contains, List, None, Option, Some, [], ap, inl, inr, map, refl, subst, sym, zip, ◌++◌, ◌∷◌, ◌≡◌}
use Rattle.std.specs.List.{list_any}
use Rattle.vpc_base.proofs.Lemmas.{Contains-none, Contains-push_cases, cond_both}
use Rattle.replay_laws.specs.Interleaved.{Comes}
use Rattle.replay_laws.proofs.Moments.{cons-tail, cons-head, nil≢middle}
use Rattle.vpc_base.specs.declared.headers.Label.TheVariants.{Answer, Opening}
use Rattle.vpc_laws.specs.Terms.{AsksGroups, Follows, hop_of, last_moment, own_connection, remembered}
use Rattle.vpc_laws.specs.Types.{By, Description, Event, Hop, Label, RuleRef}
use Rattle.vpc_laws.proofs.Lemmas.{packets_pass_by_groups, rules_are_remembered, walks_are_of_steps}
use Rattle.vpc_model.specs.Terms.{Appliances, Connection, Moment, Translation, Walk, added, first_rule, go, interface_at, moment_of, same_connection, step_of, walk_of, walks_after}
use Rattle.vpc_model.specs.declared.outcomes.By.TheVariants.{NoGroups, Nothing, Rule, Tracked}

-- a rule of the interface's groups let the connection's first packet pass
abbrev pub IsByRule : Description → Connection → Type 0
IsByRule d c = (r : RuleRef) × (first_rule d (interface_at d c.eni) c.dir c.header ≡ Some r)

abbrev pub AreByRules : Description → List Connection → Type 0
AreByRules d conns = (c : Connection) → Contains conns c → IsByRule d c

-- ---- one step

added-by_rules : (d : Description) (conns : List Connection) (c : Connection) → AreByRules d conns → IsByRule d c → AreByRules d (added conns c)
added-by_rules d conns c before own =
    cond_both (list_any (same_connection c) conns) conns (conns ++ c ∷ []) (AreByRules d) (λ _. before)
    (λ _. λ k has. elim (Contains-push_cases conns c k has) [ inl old ↦ before k old | inr same ↦ subst (IsByRule d) same own ])

remembered-by_rules : (d : Description) (label : Label) (by : By) (own : Option Connection) (conns : List Connection) → AsksGroups d label conns own by → AreByRules d conns
    → AreByRules d (remembered label by own conns)
remembered-by_rules d Answer by own conns asks before = before
remembered-by_rules d Opening Nothing own conns asks before = before
remembered-by_rules d Opening NoGroups own conns asks before = before
remembered-by_rules d Opening Tracked own conns asks before = before
remembered-by_rules d Opening (Rule r) None conns asks before = before
remembered-by_rules d Opening (Rule r) (Some c) conns asks before = added-by_rules d conns c before (r, asks.0)

step-by_rules : (d : Description) (appliances : Appliances) (label : Label) (m : Moment) → AreByRules d m.conns → let s = step_of d appliances label m in AreByRules d s.conns
step-by_rules d appliances label m before =
    let s = step_of d appliances label m in
    let own = own_connection m.place m.header in
    subst (AreByRules d) (sym (rules_are_remembered d appliances label m))
    (remembered-by_rules d label s.by own m.conns (packets_pass_by_groups d appliances label m) before)

-- ---- walks

last-by_rules : (d : Description) (appliances : Appliances) (label : Label) (m : Moment) (rest : List Moment) → AreByRules d m.conns → Follows d appliances label m rest
    → AreByRules d (last_moment m rest).conns
last-by_rules d appliances label m [] before follows = before
last-by_rules d appliances label m (n ∷ rest) before (next, follows) =
    last-by_rules d appliances label n rest (subst (AreByRules d) (sym next.conns) (step-by_rules d appliances label m before)) follows

walk-by_rules : (d : Description) (appliances : Appliances) (label : Label) (m : Moment) → AreByRules d m.conns → let w = walk_of d appliances label m in AreByRules d w.conns
walk-by_rules d appliances label m before =
    let is = walks_are_of_steps d appliances label m in
    subst (AreByRules d) (sym is.conns) (step-by_rules d appliances label (last_moment m is.rest) (last-by_rules d appliances label m is.rest before is.follows))

-- ---- events

-- the walk of an event, and what was remembered before it
pub record IsWalked (d : Description) (appliances : Appliances) (e : Event) (w : Walk) : Type 0 where
  pub conns : List Connection
  pub nats : List Translation
  pub by_rules : AreByRules d conns
  pub is : w ≡ walk_of d appliances e.label (moment_of e conns nats)

after-walked : (d : Description) (appliances : Appliances) (conns : List Connection) (nats : List Translation) (events : List Event) (earlier later : List (Event × Walk)) (e : Event) (w : Walk)
    → AreByRules d conns → zip events (walks_after d appliances conns nats events) ≡ earlier ++ (e, w) ∷ later → IsWalked d appliances e w
after-walked d appliances conns nats [] earlier later e w before order = absurd (nil≢middle earlier (e, w) later order)
after-walked d appliances conns nats (f ∷ events) [] later e w before order =
    let v = walk_of d appliances f.label (moment_of f conns nats) in
    let same : ◌≡◌ {A = Event × Walk} (f, v) (e, w) = cons-head (f, v) (e, w) (zip events (walks_after d appliances v.conns v.nats events)) later order in
    record {
      conns = conns;
      nats = nats;
      by_rules = before;
      is = subst (λ (g : Event). w ≡ walk_of d appliances g.label (moment_of g conns nats)) (ap (λ (pair : Event × Walk). pair.0) same) (sym (ap (λ (pair : Event × Walk). pair.1) same));
    }
after-walked d appliances conns nats (f ∷ events) (x ∷ earlier) later e w before order =
    let m = moment_of f conns nats in
    let v = walk_of d appliances f.label m in
    let tail = cons-tail (f, v) x (zip events (walks_after d appliances v.conns v.nats events)) (earlier ++ (e, w) ∷ later) order in
    after-walked d appliances v.conns v.nats events earlier later e w (walk-by_rules d appliances f.label m before) tail

pub comes-walked : (d : Description) (appliances : Appliances) (events : List Event) (earlier : List (Event × Walk)) (e : Event) (w : Walk)
    → Comes d appliances events earlier e w → IsWalked d appliances e w
comes-walked d appliances events earlier e w comes =
    after-walked d appliances [] [] events earlier comes.later e w (λ c none. absurd (Contains-none c none)) comes.in_order

-- ---- hops

-- the moment of a hop, and the moments behind it
pub record IsAt (d : Description) (appliances : Appliances) (label : Label) (last : Moment) (hop : Hop) (after : List Hop) : Type 0 where
  pub moment : Moment
  pub is : hop_of d appliances label moment ≡ hop
  pub by_rules : AreByRules d moment.conns
  pub rest : List Moment
  pub follows : Follows d appliances label moment rest
  pub hops : map (hop_of d appliances label) rest ≡ after
  pub ends : last_moment moment rest ≡ last

pub hop-at : (d : Description) (appliances : Appliances) (label : Label) (m : Moment) (rest : List Moment) (before after : List Hop) (hop : Hop) → AreByRules d m.conns
    → Follows d appliances label m rest → map (hop_of d appliances label) (m ∷ rest) ≡ before ++ hop ∷ after → IsAt d appliances label (last_moment m rest) hop after
hop-at d appliances label m rest [] after hop rules follows e =
    let hops = map (hop_of d appliances label) rest in
    record {
      moment = m;
      is = cons-head (hop_of d appliances label m) hop hops after e;
      by_rules = rules;
      rest = rest;
      follows = follows;
      hops = cons-tail (hop_of d appliances label m) hop hops after e;
      ends = refl;
    }
hop-at d appliances label m [] (x ∷ before) after hop rules follows e =
    absurd (nil≢middle before hop after (cons-tail (hop_of d appliances label m) x [] (before ++ hop ∷ after) e))
hop-at d appliances label m (n ∷ rest) (x ∷ before) after hop rules (next, follows) e =
    hop-at d appliances label n rest before after hop (subst (AreByRules d) (sym next.conns) (step-by_rules d appliances label m rules)) follows
    (cons-tail (hop_of d appliances label m) x (map (hop_of d appliances label) (n ∷ rest)) (before ++ hop ∷ after) e)

-- the moment after one, where there is a hop after its own
pub record IsNextAt (d : Description) (appliances : Appliances) (label : Label) (last m : Moment) (hop : Hop) (after : List Hop) : Type 0 where
  pub at : IsAt d appliances label last hop after
  pub goes : let s = step_of d appliances label m in s.next ≡ go (at.moment).place (at.moment).header

pub next-at : (d : Description) (appliances : Appliances) (label : Label) (last : Moment) (hop next : Hop) (after : List Hop) (at : IsAt d appliances label last hop (next ∷ after))
    → IsNextAt d appliances label last at.moment next after
next-at d appliances label last hop next after at = by at.moment at.rest at.by_rules at.follows at.hops at.ends
  where
    by : (m : Moment) (rest : List Moment) → AreByRules d m.conns → Follows d appliances label m rest → map (hop_of d appliances label) rest ≡ next ∷ after
        → last_moment m rest ≡ last → IsNextAt d appliances label last m next after
    by m [] rules follows hops ends = absurd (nil≢middle [] next after hops)
    by m (n ∷ rest) rules (goes, follows) hops ends =
        let names = map (hop_of d appliances label) rest in
        record {
          at = record {
            moment = n;
            is = cons-head (hop_of d appliances label n) next names after hops;
            by_rules = subst (AreByRules d) (sym goes.conns) (step-by_rules d appliances label m rules);
            rest = rest;
            follows = follows;
            hops = cons-tail (hop_of d appliances label n) next names after hops;
            ends = ends;
          };
          goes = goes.goes;
        }

-- a hop with none behind it is the last
pub last-at : (d : Description) (appliances : Appliances) (label : Label) (last : Moment) (hop : Hop) (at : IsAt d appliances label last hop []) → hop_of d appliances label last ≡ hop
last-at d appliances label last hop at = by at.moment at.rest at.is at.hops at.ends
  where
    by : (m : Moment) (rest : List Moment) → hop_of d appliances label m ≡ hop → map (hop_of d appliances label) rest ≡ [] → last_moment m rest ≡ last → hop_of d appliances label last ≡ hop
    by m [] is hops ends = subst (λ (n : Moment). hop_of d appliances label n ≡ hop) ends is
    by m (n ∷ rest) is hops ends = absurd (nil≢middle [] (hop_of d appliances label n) (map (hop_of d appliances label) rest) (sym hops))
