-- Requests that have come to an interface.
use Rattle.std.proofs.Common.{Bool, List, None, Option, Some, [], ap, arith, cond, false, is_some, not, refl, subst, sym, true, ℕ, ◌&&◌, ◌++◌, ◌-◌, ◌∙◌, ◌∷◌, ◌≡◌}
use Rattle.std.proofs.lemmas.Bool.{false≢true}
use Rattle.vpc_base.specs.declared.headers.Dir.TheVariants as dirs
use Rattle.vpc_base.specs.declared.headers.Label.TheVariants as labels
use Rattle.header_boxes.specs.Boxes.{holds}
use Rattle.appliances.proofs.Forwarding.{taken_in-none}
use Rattle.appliances.specs.Passing.{number_of}
use Rattle.box_steps.specs.Terms.{is_passed, moment_at}
use Rattle.box_steps.specs.declared.moment.BoxMoment.{BoxMoment}
use Rattle.vpc_laws.proofs.Walking.{hop_at, walk_on-goes_on}
use Rattle.vpc_laws.specs.Types.{By, Description, End, EniNo, Header, Hop, Place, RuleRef, Stop}
use Rattle.vpc_model.specs.Terms.{Appliances, Connection, Moment, Next, Step, arrive, first_rule, has_address, interface_at, open_passing, passing_groups, passing_of, plain, request_walk, step_at, step_of, stop, taken_in, walk_on}
use Rattle.vpc_model.specs.declared.places.End.TheVariants as ends
use Rattle.vpc_model.specs.declared.places.Place.TheVariants as places
use Rattle.vpc_model.specs.declared.stops.Stop.TheVariants as stops
use Rattle.box_walk.proofs.OneRest.{is_visited-at}
use Rattle.box_walk.specs.Terms.{HaveCome, lets_in}

-- ---- the step into the interface

-- whether groups let an open pass depends on no connection
passed_by_rule : (conns other : List Connection) (c e : Connection) (rule : Option RuleRef) → is_passed (open_passing conns c rule) ≡ is_passed (open_passing other e rule)
passed_by_rule conns other c e None = refl
passed_by_rule conns other c e (Some r) = refl

passes-alone : (d : Description) (i : EniNo) (h : Header) (conns : List Connection) (groups : List (List ℕ))
    → is_passed (passing_groups d labels.Opening i dirs.Inward h conns groups) ≡ is_passed (passing_groups d labels.Opening i dirs.Inward h [] groups)
passes-alone d i h conns [] = refl
passes-alone d i h conns (g ∷ gs) =
    let c : Connection = record { eni = i; dir = dirs.Inward; header = h } in
    passed_by_rule conns [] c c (first_rule d (interface_at d i) dirs.Inward h)

-- what comes next, by what the interface asks in turn
abbrev into_by : Moment → Next → Stop → Stop → Stop → Bool → Bool → Option By → List Connection → Step
into_by m next a b c idle refused by conns =
    cond idle (plain m (stop a)) (cond refused (plain m (stop b)) (elim by [ None ↦ plain m (stop c) | Some y ↦ record { next = next; by = y; conns = conns; nats = m.nats } ]))

let_in-next : (m : Moment) (next : Next) (a b c : Stop) (idle refused : Bool) (by : Option By) (conns : List Connection) → (not idle && (not refused && is_some by)) ≡ true
    → (into_by m next a b c idle refused by conns).next ≡ next
let_in-next m next a b c true refused by conns e = absurd (false≢true e)
let_in-next m next a b c false true by conns e = absurd (false≢true e)
let_in-next m next a b c false false None conns e = absurd (false≢true e)
let_in-next m next a b c false false (Some y) conns e = refl

kept_out-next : (m : Moment) (next : Next) (a b c : Stop) (idle refused : Bool) (by : Option By) (conns : List Connection) → (not idle && (not refused && is_some by)) ≡ false
    → (x : Stop) × ((into_by m next a b c idle refused by conns).next ≡ stop x)
kept_out-next m next a b c true refused by conns e = (a, refl)
kept_out-next m next a b c false true by conns e = (b, refl)
kept_out-next m next a b c false false None conns e = (c, refl)
kept_out-next m next a b c false false (Some y) conns e = absurd (false≢true (sym e))

-- as the interface lets the packet of a moment in
lets-moment : (d : Description) (i : EniNo) (m : Moment)
    → (let row = interface_at d i in let p = passing_of d labels.Opening i dirs.Inward m.header m.conns in (not row.idle && (not (row.checked && not (has_address row m.header.dst)) && is_some p.by))) ≡ lets_in d i m.header
lets-moment d i m =
    let row = interface_at d i in
    ap (λ (b : Bool). not row.idle && (not (row.checked && not (has_address row m.header.dst)) && b)) (passes-alone d i m.header m.conns row.groups)

pub into-arrives : (d : Description) (a : Appliances) (i : EniNo) (m : Moment) → m.place ≡ places.Into i → None ≡ number_of a i → lets_in d i m.header ≡ true
    → (step_of d a labels.Opening m).next ≡ arrive (ends.Interface i)
into-arrives d a i m at none lets =
    let row = interface_at d i in
    let p = passing_of d labels.Opening i dirs.Inward m.header m.conns in
    subst (λ (place : Place). (step_at d a labels.Opening place m).next ≡ arrive (ends.Interface i)) (sym at)
    (let_in-next m (taken_in d a i m.header) (stops.Detached i) (stops.DestCheck i) (stops.GroupsIn i) row.idle (row.checked && not (has_address row m.header.dst)) p.by p.conns (lets-moment d i m ∙ lets)
    ∙ sym (taken_in-none d a i m.header none))

pub into-stops : (d : Description) (a : Appliances) (i : EniNo) (m : Moment) → m.place ≡ places.Into i → lets_in d i m.header ≡ false
    → (x : Stop) × ((step_of d a labels.Opening m).next ≡ stop x)
into-stops d a i m at lets =
    let row = interface_at d i in
    let p = passing_of d labels.Opening i dirs.Inward m.header m.conns in
    subst (λ (place : Place). (x : Stop) × ((step_at d a labels.Opening place m).next ≡ stop x)) (sym at)
    (kept_out-next m (taken_in d a i m.header) (stops.Detached i) (stops.DestCheck i) (stops.GroupsIn i) row.idle (row.checked && not (has_address row m.header.dst)) p.by p.conns (lets-moment d i m ∙ lets))

-- ---- the walk that comes there

pub walk_comes : (d : Description) (a : Appliances) (start : End) (h : Header) (before : BoxMoment) (c : HaveCome d a start before) → holds h before.header.part ≡ true
    → (hops : List Hop) × (request_walk d a start h ≡ (let m = moment_at h before in let s = step_of d a labels.Opening m in walk_on d a labels.Opening (c.left - 1) (hops ++ hop_at d a labels.Opening m ∷ []) m.header s.next s.conns s.nats))
walk_comes d a start h before c held =
    let on = c.walk h held in
    let m = moment_at h before in
    let some = c.some in
    (on.0, on.1.1 ∙ walk_on-goes_on d a labels.Opening c.left (c.left - 1) on.0 m.header m (omega (arith, some)) (is_visited-at on.0 c.passed m.place false on.1.0 c.fresh))
