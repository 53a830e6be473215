-- Lines that tell of walks.
use Rattle.std.proofs.Common.{◌≡◌, ◌++◌, ◌∙◌, ◌∷◌, ◌↔◌, ◌||◌, [], Bool, List, None, Option, Some, ap, cond, false, inl, inr, is_some, refl, subst, sym, true, ℕ}
use Rattle.vpc_base.proofs.Lemmas.{both_ways, cond-false, false≢true, none-some, not-true, or_cases, or_left, or_right}
use Rattle.vpc_base.specs.declared.headers.Dir.TheVariants as dirs
use Rattle.vpc_laws.specs.Types.{By, Description, Dir, EniNo, Header, Hop, Label, Outcome, Place, Stop}
use Rattle.vpc_laws.proofs.Lemmas.{or_else-first, or_else-later, steps_lead_on}
use Rattle.vpc_laws.specs.Terms.{EndsSo, LeadsOn, Refuses, hop_of, is_of_step, last_moment, refuser_of}
use Rattle.vpc_model.specs.Terms.{Appliances, IsAccepted, Moment, Next, Walk, acl_at, acl_of, acl_verdict, arrive, far_address, go, interface_at, step_at, step_of, stop, subnet_of}
use Rattle.vpc_model.specs.declared.outcomes.Outcome.TheVariants as outcomes
use Rattle.vpc_model.specs.declared.stops.Stop.TheVariants as stops
use Rattle.flow_check.specs.Terms.{AcceptMeans, IsStopped, RejectMeans, RejectedLinesAgree, accepted_by, acl_row_stop, acl_stop, border_stop, connection_stop, door, groups_pass, groups_stop, is_neighbour, judged, met_first, other_way_passes, rejected_by}
use Rattle.flow_check.specs.Walked as walked
use Rattle.flow_check.specs.declared.records.Action.TheVariants as actions
use Rattle.flow_check.specs.declared.sorts.Sort.TheVariants as sorts
use Rattle.flow_check.proofs.Earned.{last-at}
use Rattle.flow_check.proofs.AgreeingSteps.{door-refused, line-judged}
use Rattle.flow_check.proofs.AgreeingWalks.{IsWalkOf, accept-agrees, at-hop, connection-none, rejected-none, rejected-some, walk-of}

-- ---- stopped walks

-- a walk that its last step stops
ends-stop : (hops : List Hop) (h : Header) (next : Next) (outcome : Outcome) (s : Stop) → EndsSo hops h next outcome → outcome ≡ outcomes.Stopped s → is_of_step s ≡ true → next ≡ stop s
ends-stop hops h (arrive end) outcome s is stopped own = let other : outcomes.Arrived end h ≡ outcomes.Stopped s = sym is ∙ stopped in absurd (cc)
ends-stop hops h (stop r) outcome s is stopped own = let same : outcomes.Stopped r ≡ outcomes.Stopped s = sym is ∙ stopped in let one : r ≡ s = cc in ap stop one
ends-stop hops h (go p k) outcome s (inl (there, is)) stopped own =
    let same : outcomes.Stopped (stops.Loop p) ≡ outcomes.Stopped s = sym is ∙ stopped in
    let one : stops.Loop p ≡ s = cc in
    absurd (both_ways (is_of_step s) (ap is_of_step (sym one)) own)
ends-stop hops h (go p k) outcome s (inr (new, (long, is))) stopped own =
    let same : outcomes.Stopped (stops.TooFar p) ≡ outcomes.Stopped s = sym is ∙ stopped in
    let one : stops.TooFar p ≡ s = cc in
    absurd (both_ways (is_of_step s) (ap is_of_step (sym one)) own)

-- the last moment of a walk that is stopped so
record IsLast (d : Description) (appliances : Appliances) (label : Label) (last : Hop) (s : Stop) : Type 0 where
  pub moment : Moment
  pub is : hop_of d appliances label moment ≡ last
  pub stops_so : let step = step_of d appliances label moment in step.next ≡ stop s

last-stopped : (d : Description) (appliances : Appliances) (label : Label) (w : Walk) (before : List Hop) (last : Hop) (s : Stop) → IsWalkOf d appliances label w → w.hops ≡ before ++ last ∷ []
    → w.outcome ≡ outcomes.Stopped s → is_of_step s ≡ true → IsLast d appliances label last s
last-stopped d appliances label w before last s walk hops stopped own =
    let is = walk.is in
    let end = last_moment walk.start is.rest in
    let step = step_of d appliances label end in
    record {
      moment = end;
      is = last-at d appliances label end last (at-hop d appliances label w walk before [] last hops);
      stops_so = ends-stop w.hops end.header step.next w.outcome s is.ends stopped own;
    }

groups_stop-own : (i : EniNo) (dir : Dir) → is_of_step (groups_stop i dir) ≡ true
groups_stop-own i dirs.Inward = refl
groups_stop-own i dirs.Outward = refl

acl_row_stop-own : (d : Description) (i : EniNo) (dir : Dir) (number : ℕ) → is_of_step (acl_row_stop d i dir number) ≡ true
acl_row_stop-own d i dirs.Inward number = refl
acl_row_stop-own d i dirs.Outward number = refl

-- a header that the ACL refuses
record IsRefusedBy (o : Option Stop) : Type 0 where
  pub by : Stop
  pub is : o ≡ Some by

refusal-stops : (d : Description) (i : EniNo) (dir : Dir) (h : Header) (number : ℕ) → Refuses d h (refuser_of (acl_row_stop d i dir number)) → IsRefusedBy (acl_stop d i dir h)
refusal-stops d i dirs.Inward h number refusal =
    let a = acl_of d (subnet_of d i) in
    let acl = acl_at d a in
    let verdict = acl_verdict acl.rows dirs.Inward h in
    record { by = stops.AclIn a verdict.1; is = cond-false verdict.0 None (Some (stops.AclIn a verdict.1)) refusal }
refusal-stops d i dirs.Outward h number refusal =
    let a = acl_of d (subnet_of d i) in
    let acl = acl_at d a in
    let verdict = acl_verdict acl.rows dirs.Outward h in
    record { by = stops.AclOut a verdict.1; is = cond-false verdict.0 None (Some (stops.AclOut a verdict.1)) refusal }

stops-agree : (d : Description) (appliances : Appliances) (label : Label) (w : Walk) (i : EniNo) (dir : Dir) (h : Header) → IsAccepted d → IsWalkOf d appliances label w
    → IsStopped d w i dir h → judged d i dir h actions.Reject ≡ sorts.Agrees
stops-agree d appliances label w i dir h accepted walk (walked.by_groups before last hops place header stopped) =
    let inside = is_neighbour d (interface_at d i) (far_address dir h) in
    let end = last-stopped d appliances label w before last (groups_stop i dir) walk hops stopped (groups_stop-own i dir) in
    let m = end.moment in
    let here : m.place ≡ door i dir = ap (λ (x : Hop). x.place) end.is ∙ place in
    let same : m.header ≡ h = ap (λ (x : Hop). x.header) end.is ∙ header in
    let none = door-refused d appliances label i dir m (subst (λ (p : Place). let s = step_at d appliances label p m in s.next ≡ stop (groups_stop i dir)) here end.stops_so) in
    rejected-none (border_stop d i dir h inside) (groups_pass d i dir h) (subst (λ (x : Header). groups_pass d i dir x ≡ None) same none)
stops-agree d appliances label w i dir h accepted walk (walked.by_acl before last number hops header stopped border) =
    let inside = is_neighbour d (interface_at d i) (far_address dir h) in
    let s = acl_row_stop d i dir number in
    let end = last-stopped d appliances label w before last s walk hops stopped (acl_row_stop-own d i dir number) in
    let m = end.moment in
    let same : m.header ≡ h = ap (λ (x : Hop). x.header) end.is ∙ header in
    let leads = subst (LeadsOn d m.place m.header) end.stops_so (steps_lead_on d appliances label m) in
    let refused = refusal-stops d i dir h number (subst (λ (x : Header). Refuses d x (refuser_of s)) same leads.1) in
    rejected-some (border_stop d i dir h inside) refused.by (groups_pass d i dir h) (cond-false inside None (acl_stop d i dir h) (not-true inside border) ∙ refused.is)

pub rejected_lines_agree : RejectedLinesAgree
rejected_lines_agree d appliances events earlier e w i dir h accepted comes is stopped =
    line-judged d i dir h actions.Reject accepted is
    ∙ stops-agree d appliances e.label w i dir h accepted (walk-of d appliances events earlier e w comes) stopped

-- ---- what agreeing means

accepted-none : (o : Option Stop) → accepted_by o ≡ sorts.Agrees → o ≡ None
accepted-none None agrees = refl
accepted-none (Some s) agrees = absurd (cc)

met_first-none : (dir : Dir) (border groups : Option Stop) → met_first dir border groups ≡ None → (border ≡ None) × (groups ≡ None)
met_first-none dirs.Inward border groups none = (or_else-first border groups none, or_else-later border groups none)
met_first-none dirs.Outward border groups none = (or_else-later groups border none, or_else-first groups border none)

connection-passes : (b : Bool) (s : Stop) → cond b None (Some s) ≡ None → b ≡ true
connection-passes true s none = refl
connection-passes false s none = absurd (none-some s (sym none))

pub accept_means : AcceptMeans
accept_means d i dir h inside =
    let border = border_stop d i dir h inside in
    let groups = connection_stop d i dir h in
    let pass = is_some (groups_pass d i dir h) in
    let other = other_way_passes d i dir h in (
      λ agrees.
          let none = met_first-none dir border groups (accepted-none (met_first dir border groups) agrees) in
          (none.0, or_cases pass other (connection-passes (pass || other) (groups_stop i dir) none.1)),
      λ both.
          accept-agrees dir border groups both.0 (connection-none d i dir h (elim both.1 [ inl own ↦ or_left pass other own | inr reply ↦ or_right pass other reply ])),
    )

reject-means : (border : Option Stop) (by : Option By) → (rejected_by border by ≡ sorts.Agrees) ↔ ¬ ((border ≡ None) × (is_some by ≡ true))
reject-means (Some s) by = (λ _ both. none-some s (sym both.0), λ _. refl)
reject-means None None = (λ _ both. false≢true both.1, λ _. refl)
reject-means None (Some by) = (λ agrees _. cc, λ not_both. absurd (not_both (refl, refl)))

pub reject_means : RejectMeans
reject_means d i dir h inside = reject-means (border_stop d i dir h inside) (groups_pass d i dir h)
