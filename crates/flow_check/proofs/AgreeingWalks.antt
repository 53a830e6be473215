-- Borders of the walk of a packet.
use Rattle.std.proofs.Common.{◌≡◌, ◌++◌, ◌∙◌, ◌∷◌, ◌||◌, Bool, List, None, Option, Some, ap, cond, false, is_some, not, refl, subst, sym, true}
use Rattle.vpc_base.proofs.Lemmas.{cond-true, not-true}
use Rattle.replay_laws.specs.Interleaved.{Comes}
use Rattle.vpc_base.specs.declared.headers.Dir.TheVariants as dirs
use Rattle.vpc_laws.proofs.Lemmas.{header_stays, steps_lead_on, walks_are_of_steps}
use Rattle.vpc_laws.specs.Types.{By, Description, Dir, EniNo, Event, Header, Hop, Label, Place, Stop}
use Rattle.vpc_laws.specs.Terms.{GoesOn, IsWalk, LeadsOn, SendsSame, is_rewriting, last_moment}
use Rattle.vpc_model.specs.Terms.{Appliances, IsAccepted, Moment, Walk, entering, far_address, go, interface_at, moment_of, passes, step_at, step_of, subnet_of}
use Rattle.vpc_model.specs.declared.outcomes.By.TheVariants as bys
use Rattle.vpc_model.specs.declared.places.Came.TheVariants as from
use Rattle.vpc_model.specs.declared.places.Place.TheVariants as places
use Rattle.flow_check.specs.Terms.{AcceptedLinesAgree, Passes, PassesIn, PassesOut, accepted_by, acl_stop, border_stop, connection_stop, groups_pass, groups_stop, has_border, has_ports, is_inside, is_neighbour, is_router_of, judged, met_first, other_way_passes, refused_by, rejected_by}
use Rattle.flow_check.specs.declared.records.Action.TheVariants as actions
use Rattle.flow_check.specs.declared.sorts.Sort.TheVariants as sorts
use Rattle.flow_check.proofs.Earned.{AreByRules, IsAt, comes-walked, hop-at, next-at}
use Rattle.flow_check.proofs.Borders.{crossed-enters, crossed-leaves}
use Rattle.flow_check.proofs.AgreeingSteps.{Connects, line-judged, passing-connects, step_into-went, step_out-went}

-- ---- borders

-- the ACL is evaluated only where there is a border
border-none : (b : Bool) (o : Option Stop) → (not b ≡ true → o ≡ None) → cond b None o ≡ None
border-none true o passes = refl
border-none false o passes = passes refl

-- ---- verdicts

pub accept-agrees : (dir : Dir) (border groups : Option Stop) → border ≡ None → groups ≡ None → accepted_by (met_first dir border groups) ≡ sorts.Agrees
accept-agrees dir border groups one two =
    ap (λ (o : Option Stop). accepted_by (met_first dir o groups)) one ∙ ap (λ (o : Option Stop). accepted_by (met_first dir None o)) two ∙ by dir
  where
    by : (dir : Dir) → accepted_by (met_first dir None None) ≡ sorts.Agrees
    by dirs.Inward = refl
    by dirs.Outward = refl

pub connection-none : (d : Description) (i : EniNo) (dir : Dir) (h : Header) → Connects d i dir h → connection_stop d i dir h ≡ None
connection-none d i dir h connects = cond-true (is_some (groups_pass d i dir h) || other_way_passes d i dir h) None (Some (groups_stop i dir)) connects

-- an accepted line agrees where the groups connect, and the ACL lets pass what crosses the border
accepted-judged : (d : Description) (i : EniNo) (dir : Dir) (h : Header) → Connects d i dir h → (has_border d i dir h ≡ true → acl_stop d i dir h ≡ None) → judged d i dir h actions.Accept ≡ sorts.Agrees
accepted-judged d i dir h connects passes =
    let inside = is_neighbour d (interface_at d i) (far_address dir h) in
    accept-agrees dir (border_stop d i dir h inside) (connection_stop d i dir h) (border-none inside (acl_stop d i dir h) passes) (connection-none d i dir h connects)

pub rejected-none : (border : Option Stop) (by : Option By) → by ≡ None → rejected_by border by ≡ sorts.Agrees
rejected-none (Some s) by none = refl
rejected-none None by none = ap refused_by none

pub rejected-some : (border : Option Stop) (s : Stop) (by : Option By) → border ≡ Some s → rejected_by border by ≡ sorts.Agrees
rejected-some border s by some = ap (λ (o : Option Stop). rejected_by o by) some

-- ---- the walk of a packet

-- the moments of a walk whose connections passed by rules
pub record IsWalkOf (d : Description) (appliances : Appliances) (label : Label) (w : Walk) : Type 0 where
  pub start : Moment
  pub by_rules : AreByRules d start.conns
  pub is : IsWalk d appliances label start w

pub walk-of : (d : Description) (appliances : Appliances) (events : List Event) (earlier : List (Event × Walk)) (e : Event) (w : Walk) → Comes d appliances events earlier e w
    → IsWalkOf d appliances e.label w
walk-of d appliances events earlier e w comes =
    let walked = comes-walked d appliances events earlier e w comes in
    let m = moment_of e walked.conns walked.nats in
    record { start = m; by_rules = walked.by_rules; is = subst (λ (v : Walk). IsWalk d appliances e.label m v) (sym walked.is) (walks_are_of_steps d appliances e.label m) }

pub at-hop : (d : Description) (appliances : Appliances) (label : Label) (w : Walk) (walk : IsWalkOf d appliances label w) (before after : List Hop) (hop : Hop) → w.hops ≡ before ++ hop ∷ after
    → IsAt d appliances label (last_moment walk.start (walk.is).rest) hop after
at-hop d appliances label w walk before after hop hops =
    let is = walk.is in
    hop-at d appliances label walk.start is.rest before after hop walk.by_rules is.follows (sym is.hops ∙ hops)

passes-out : (d : Description) (appliances : Appliances) (label : Label) (w : Walk) (i : EniNo) (h : Header) → IsAccepted d → IsWalkOf d appliances label w → has_ports h.proto ≡ true
    → PassesOut d w i h (has_border d i dirs.Outward h) → judged d i dirs.Outward h actions.Accept ≡ sorts.Agrees
passes-out d appliances label w i h accepted walk ports passes =
    let last = last_moment walk.start (walk.is).rest in
    let out = at-hop d appliances label w walk passes.before (passes.router ∷ passes.next ∷ passes.after) passes.out passes.hops in
    let router = next-at d appliances label last passes.out passes.router (passes.next ∷ passes.after) out in
    let next = next-at d appliances label last passes.router passes.next passes.after router.at in
    let m = out.moment in
    let r = (router.at).moment in
    let n = (next.at).moment in
    let place : m.place ≡ places.OutOf i = ap (λ (x : Hop). x.place) out.is ∙ passes.place in
    let header : m.header ≡ h = ap (λ (x : Hop). x.header) out.is ∙ passes.header in
    let went = step_out-went d label i m r.place r.header (subst (λ (p : Place). let s = step_at d appliances label p m in s.next ≡ go r.place r.header) place router.goes) in
    let same : r.header ≡ h = sym went.header ∙ header in
    let connects = subst (Connects d i dirs.Outward) header (passing-connects d label i dirs.Outward m.header m.conns went.by out.by_rules (subst (λ (x : Header). has_ports x.proto ≡ true) (sym header) ports) went.passed) in
    let at_router : Place = places.Router (subnet_of d i) (from.Host i) in
    let leads : GoesOn d r.header r.place n.place = subst (LeadsOn d r.place r.header) next.goes (steps_lead_on d appliances label r) in
    let leaves : GoesOn d r.header at_router n.place = subst (λ (p : Place). GoesOn d r.header p n.place) (sym went.place) leads in
    let beyond : GoesOn d h at_router passes.next.place =
    subst (λ (x : Header). GoesOn d x at_router passes.next.place) same (subst (GoesOn d r.header at_router) (ap (λ (x : Hop). x.place) (next.at).is) leaves) in
    accepted-judged d i dirs.Outward h connects
    (λ border. crossed-leaves d (subnet_of d i) (from.Host i) h passes.next.place accepted beyond (not-true (is_inside d (subnet_of d i) passes.next.place) (passes.border ∙ border)))

passes-in : (d : Description) (appliances : Appliances) (label : Label) (w : Walk) (i : EniNo) (h : Header) → IsAccepted d → IsWalkOf d appliances label w → has_ports h.proto ≡ true
    → PassesIn d w i h (has_border d i dirs.Inward h) → judged d i dirs.Inward h actions.Accept ≡ sorts.Agrees
passes-in d appliances label w i h accepted walk ports passes =
    let end = last_moment walk.start (walk.is).rest in
    let prior = at-hop d appliances label w walk passes.before (passes.into ∷ passes.after) passes.last passes.hops in
    let into = next-at d appliances label end passes.last passes.into passes.after prior in
    let r = prior.moment in
    let m = (into.at).moment in
    let place : m.place ≡ places.Into i = ap (λ (x : Hop). x.place) (into.at).is ∙ passes.place in
    let header : m.header ≡ h = ap (λ (x : Hop). x.header) (into.at).is ∙ passes.header in
    let some : (let s = step_of d appliances label m in s.by ≡ bys.Nothing) → ⊥ = λ none. passes.by (sym (ap (λ (x : Hop). x.by) (into.at).is) ∙ none) in
    let went = step_into-went d appliances label i m (subst (λ (p : Place). (let s = step_at d appliances label p m in s.by ≡ bys.Nothing) → ⊥) place some) in
    let connects = subst (Connects d i dirs.Inward) header (passing-connects d label i dirs.Inward m.header m.conns went.by (into.at).by_rules (subst (λ (x : Header). has_ports x.proto ≡ true) (sym header) ports) went.passed) in
    let leads : GoesOn d r.header r.place m.place = subst (LeadsOn d r.place r.header) into.goes (steps_lead_on d appliances label r) in
    let beyond = subst (GoesOn d r.header r.place) place leads in
    let stays : is_rewriting r.place ≡ false → m.header ≡ r.header = λ keeps. subst (SendsSame r.header) into.goes (header_stays d appliances label r keeps) in
    let from_last : r.place ≡ passes.last.place = ap (λ (x : Hop). x.place) prior.is in
    accepted-judged d i dirs.Inward h connects
    (λ border. subst (λ (x : Header). entering d (subnet_of d i) x ≡ None) header
    (crossed-enters d i r.header m.header r.place beyond
    (subst (λ (p : Place). is_router_of (subnet_of d i) p ≡ false) (sym from_last) (not-true (is_router_of (subnet_of d i) passes.last.place) (passes.border ∙ border))) stays))

passes-agree : (d : Description) (appliances : Appliances) (label : Label) (w : Walk) (i : EniNo) (dir : Dir) (h : Header) → IsAccepted d → IsWalkOf d appliances label w → has_ports h.proto ≡ true
    → Passes d w i dir h (has_border d i dir h) → judged d i dir h actions.Accept ≡ sorts.Agrees
passes-agree d appliances label w i dirs.Inward h accepted walk ports passes = passes-in d appliances label w i h accepted walk ports passes
passes-agree d appliances label w i dirs.Outward h accepted walk ports passes = passes-out d appliances label w i h accepted walk ports passes

pub accepted_lines_agree : AcceptedLinesAgree
accepted_lines_agree d appliances events earlier e w i dir h accepted comes is passes =
    line-judged d i dir h actions.Accept accepted is
    ∙ passes-agree d appliances e.label w i dir h accepted (walk-of d appliances events earlier e w comes) is.ports passes
