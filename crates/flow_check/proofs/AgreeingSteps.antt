-- Lines that tell of steps at interfaces.
use Rattle.std.proofs.Common.{◌≡◌, ◌==◌, ◌∙◌, ◌∷◌, ◌&&◌, ◌||◌, [], List, None, Option, Some, ap, bytes_eq, cond, false, is_some, not, option_map, refl, subst, sym, true, ℕ}
use Rattle.vpc_base.proofs.Lemmas.{and_parts, both_ways, bytes_self, cond-false, cond-true, cond_both, eqb-true, false_from_ne_true, list_any-member, member-list_any, none-some, not_from_true, or_from, or_left, or_right, row-member, same_Some}
use Rattle.vpc_base.specs.Terms.{echo_reply, exchanged, opposite, reply_of, same_dir}
use Rattle.vpc_base.specs.declared.headers.Dir.TheVariants as dirs
use Rattle.vpc_base.specs.declared.headers.Label.TheVariants as labels
use Rattle.vpc_laws.proofs.Lemmas.{EniNo-same, accepted_numbers_are_own, is_header-some, same_dir-true, same_header-true}
use Rattle.vpc_laws.specs.Types.{Box5, By, Description, Dir, EniNo, Header, Interface, Label, Place, RuleRef, Stop}
use Rattle.vpc_model.specs.Terms.{Appliances, Connection, IsAccepted, Moment, Next, Passing, Step, answer_passing, arrive, boxes_at, eni_no, first_rule, forwarded, go, has_address, has_interface, in_passing, interface_at, is_gateway, is_header, is_tracked, label_passing, no_interface, open_passing, out_passing, passes, passing_groups, passing_of, step_at, step_into, step_out, stop, subnet_of}
use Rattle.vpc_model.specs.declared.outcomes.By.TheVariants as bys
use Rattle.vpc_model.specs.declared.places.Came.TheVariants as from
use Rattle.vpc_model.specs.declared.places.End.TheVariants as ends
use Rattle.vpc_model.specs.declared.places.Place.TheVariants as places
use Rattle.vpc_model.specs.declared.stops.Stop.TheVariants as stops
use Rattle.vpc_model.proofs.Nexts.{go-header, go≢stop, stop-same}
use Rattle.flow_check.specs.Terms.{Action, IsJudged, by_groups, direction_of, door, flow_at, groups_pass, groups_stop, has_ports, judged, other_way_passes, pass_reply, sort_at, sort_at_interface, sort_towards}
use Rattle.flow_check.specs.declared.sorts.Sort.TheVariants as sorts
use Rattle.flow_check.proofs.Earned.{AreByRules}

-- ---- the line

-- a line that is judged is judged by the rules in its direction
pub line-judged : (d : Description) (i : EniNo) (dir : Dir) (h : Header) (action : Action) → IsAccepted d → IsJudged d i dir h → sort_at_interface d i h action ≡ judged d i dir h action
line-judged d i dir h action accepted is =
    let e = interface_at d i in
    let f = flow_at d i h action in
    let has : has_interface d e.id ≡ true =
    member-list_any (λ (o : Interface). bytes_eq o.id e.id) d.interfaces e (row-member d.interfaces i.0 no_interface is.described) (bytes_self e.id) in
    let numbers = accepted_numbers_are_own d accepted in
    let judges : (is_gateway e.kind || not (has_ports h.proto)) ≡ false = or_from (is_gateway e.kind) (not (has_ports h.proto)) is.host (not_from_true (has_ports h.proto) is.ports) in
    cond-true (has_interface d e.id) (sort_at d (eni_no d e.id) f) sorts.Unknown has
    ∙ ap (λ (j : EniNo). sort_at d j f) (numbers.interface i is.described)
    ∙ cond-false (is_gateway e.kind || not (has_ports h.proto)) sorts.Skipped (sort_towards d i h action (direction_of e h.src h.dst)) judges
    ∙ ap (sort_towards d i h action) is.own

-- ---- groups

-- TCP and UDP are answered by exchanging addresses and ports
reply-exchanged : (h : Header) → has_ports h.proto ≡ true → reply_of h ≡ Some (exchanged h)
reply-exchanged h ports =
    cond-false (h.proto == 1) _ (Some (exchanged h)) (no-icmp h.proto ports)
  where
    no-icmp : (proto : ℕ) → has_ports proto ≡ true → (proto == 1) ≡ false
    no-icmp proto ports = false_from_ne_true (proto == 1) (λ one. both_ways (has_ports proto) (ap has_ports (eqb-true proto 1 one)) ports)

-- a reply has the protocol of what it answers
reply-proto : (k h : Header) → reply_of k ≡ Some h → k.proto ≡ h.proto
reply-proto k h is =
    cond_both (k.proto == 1) _ (Some (exchanged k)) (λ (o : Option Header). o ≡ Some h → k.proto ≡ h.proto)
    (λ _. cond_both (k.q == 2048) (Some (echo_reply k)) None (λ (o : Option Header). o ≡ Some h → k.proto ≡ h.proto)
    (λ _ e. ap (λ (x : Header). x.proto) (same_Some (echo_reply k) h e)) (λ _ e. absurd (none-some h e)))
    (λ _ e. ap (λ (x : Header). x.proto) (same_Some (exchanged k) h e)) is

-- what answers a header is answered by it
replied : (k h : Header) → has_ports h.proto ≡ true → reply_of k ≡ Some h → reply_of h ≡ Some k
replied k h ports is =
    let same = reply-proto k h is in
    let own = subst (λ n. has_ports n ≡ true) (sym same) ports in
    let one : exchanged k ≡ h = same_Some (exchanged k) h (sym (reply-exchanged k own) ∙ is) in
    subst (λ (x : Header). reply_of x ≡ Some k) one (reply-exchanged (exchanged k) own)

-- where a rule lets a packet pass, the groups do
by_groups-rule : (groups : List (List ℕ)) (o : Option RuleRef) (r : RuleRef) → o ≡ Some r → is_some (by_groups groups o) ≡ true
by_groups-rule [] o r is = refl
by_groups-rule (g ∷ gs) o r is = ap (λ (x : Option RuleRef). is_some (option_map (λ y. bys.Rule y) x)) is

rule-passes : (d : Description) (i : EniNo) (dir : Dir) (h : Header) (r : RuleRef) → first_rule d (interface_at d i) dir h ≡ Some r → is_some (groups_pass d i dir h) ≡ true
rule-passes d i dir h r is = let e = interface_at d i in by_groups-rule e.groups (first_rule d e dir h) r is

-- a packet that is tracked answers a connection that came the other way
tracked-passes : (d : Description) (conns : List Connection) (i : EniNo) (dir : Dir) (h : Header) → AreByRules d conns → has_ports h.proto ≡ true → is_tracked conns i dir h ≡ true
    → other_way_passes d i dir h ≡ true
tracked-passes d conns i dir h rules ports tracked =
    let found = list_any-member (λ (c : Connection). (c.eni.0 == i.0) && (same_dir c.dir (opposite dir) && is_header h (reply_of c.header))) conns tracked in
    let c = found.0 in
    let parts = and_parts (c.eni.0 == i.0) (same_dir c.dir (opposite dir) && is_header h (reply_of c.header)) found.2 in
    let rest = and_parts (same_dir c.dir (opposite dir)) (is_header h (reply_of c.header)) parts.1 in
    let reply = is_header-some h (reply_of c.header) rest.1 in
    let answers : reply_of c.header ≡ Some h = (reply.1).0 ∙ ap (λ (k : Header). Some k) (same_header-true reply.0 h (reply.1).1) in
    let rule = rules c found.1 in
    let here = EniNo-same c.eni i parts.0 in
    let way = same_dir-true c.dir (opposite dir) rest.0 in
    let at : first_rule d (interface_at d i) (opposite dir) c.header ≡ Some rule.0 =
    subst (λ (x : Dir). first_rule d (interface_at d i) x c.header ≡ Some rule.0) way (subst (λ (j : EniNo). first_rule d (interface_at d j) c.dir c.header ≡ Some rule.0) here rule.1) in
    ap (pass_reply d i (opposite dir)) (replied c.header h ports answers) ∙ rule-passes d i (opposite dir) c.header rule.0 at

-- what lets a packet of a walk pass the groups lets the line's packet pass, or its connection's first packet the other way
abbrev pub Connects : Description → EniNo → Dir → Header → Type 0
Connects d i dir h = (is_some (groups_pass d i dir h) || other_way_passes d i dir h) ≡ true

open-connects : (d : Description) (i : EniNo) (dir : Dir) (h : Header) (conns : List Connection) (c : Connection) (o : Option RuleRef) (by : By)
    → first_rule d (interface_at d i) dir h ≡ o → (open_passing conns c o).by ≡ Some by → Connects d i dir h
open-connects d i dir h conns c None by is passed = absurd (none-some by passed)
open-connects d i dir h conns c (Some r) by is passed = or_left (is_some (groups_pass d i dir h)) (other_way_passes d i dir h) (rule-passes d i dir h r is)

answer-connects : (d : Description) (i : EniNo) (dir : Dir) (h : Header) (conns : List Connection) (o : Option RuleRef) (by : By)
    → first_rule d (interface_at d i) dir h ≡ o → (answer_passing conns o).by ≡ Some by → Connects d i dir h
answer-connects d i dir h conns None by is passed = absurd (none-some by passed)
answer-connects d i dir h conns (Some r) by is passed = or_left (is_some (groups_pass d i dir h)) (other_way_passes d i dir h) (rule-passes d i dir h r is)

label-connects : (d : Description) (label : Label) (i : EniNo) (dir : Dir) (h : Header) (conns : List Connection) (by : By) → AreByRules d conns → has_ports h.proto ≡ true
    → (label_passing d label i dir h conns).by ≡ Some by → Connects d i dir h
label-connects d labels.Opening i dir h conns by rules ports passed =
    open-connects d i dir h conns (record { eni = i; dir = dir; header = h }) (first_rule d (interface_at d i) dir h) by refl passed
label-connects d labels.Answer i dir h conns by rules ports passed =
    let rule = first_rule d (interface_at d i) dir h in
    let tracked : Passing = record { by = Some bys.Tracked; conns = conns } in
    cond_both (is_tracked conns i dir h) tracked (answer_passing conns rule) (λ (p : Passing). p.by ≡ Some by → Connects d i dir h)
    (λ known _. or_right (is_some (groups_pass d i dir h)) (other_way_passes d i dir h) (tracked-passes d conns i dir h rules ports known))
    (λ _ by_rule. answer-connects d i dir h conns rule by refl by_rule) passed

none-connects : (groups : List (List ℕ)) (o : Option RuleRef) → groups ≡ [] → is_some (by_groups groups o) ≡ true
none-connects groups o is = ap (λ (gs : List (List ℕ)). is_some (by_groups gs o)) is

groups-connect : (d : Description) (label : Label) (i : EniNo) (dir : Dir) (h : Header) (conns : List Connection) (groups : List (List ℕ)) (by : By) → AreByRules d conns
    → has_ports h.proto ≡ true → (let e = interface_at d i in e.groups ≡ groups) → (passing_groups d label i dir h conns groups).by ≡ Some by → Connects d i dir h
groups-connect d label i dir h conns [] by rules ports is passed =
    let e = interface_at d i in
    or_left (is_some (groups_pass d i dir h)) (other_way_passes d i dir h) (none-connects e.groups (first_rule d e dir h) is)
groups-connect d label i dir h conns (g ∷ gs) by rules ports is passed = label-connects d label i dir h conns by rules ports passed

pub passing-connects : (d : Description) (label : Label) (i : EniNo) (dir : Dir) (h : Header) (conns : List Connection) (by : By) → AreByRules d conns → has_ports h.proto ≡ true
    → (passing_of d label i dir h conns).by ≡ Some by → Connects d i dir h
passing-connects d label i dir h conns by rules ports passed = let e = interface_at d i in groups-connect d label i dir h conns e.groups by rules ports refl passed

-- ---- steps at interfaces

-- out of an interface: on to the router of its subnet
pub record WentOut (d : Description) (label : Label) (i : EniNo) (m : Moment) (p : Place) (k : Header) : Type 0 where
  pub by : By
  pub passed : (passing_of d label i dirs.Outward m.header m.conns).by ≡ Some by
  pub place : places.Router (subnet_of d i) (from.Host i) ≡ p
  pub header : m.header ≡ k

go-place : (p q : Place) (h k : Header) → go p h ≡ go q k → p ≡ q
go-place p q h k e = cc

out_passing-went : (d : Description) (label : Label) (i : EniNo) (m : Moment) (p : Place) (k : Header) (by : Option By) (conns : List Connection)
    → (passing_of d label i dirs.Outward m.header m.conns).by ≡ by → (out_passing d i m (record { by = by; conns = conns })).next ≡ go p k → WentOut d label i m p k
out_passing-went d label i m p k None conns is goes = absurd (go≢stop p k (stops.GroupsOut i) (sym goes))
out_passing-went d label i m p k (Some by) conns is goes =
    let s = places.Router (subnet_of d i) (from.Host i) in
    record { by = by; passed = is; place = go-place s p m.header k goes; header = go-header s p m.header k goes }

pub step_out-went : (d : Description) (label : Label) (i : EniNo) (m : Moment) (p : Place) (k : Header) → (step_out d label i m).next ≡ go p k → WentOut d label i m p k
step_out-went d label i m p k goes =
    let e = interface_at d i in
    let passing = passing_of d label i dirs.Outward m.header m.conns in
    cond_both e.idle _ _ (λ (s : Step). s.next ≡ go p k → WentOut d label i m p k) (λ _ stopped. absurd (go≢stop p k (stops.Detached i) (sym stopped)))
    (λ _. cond_both (e.checked && not (has_address e m.header.src)) _ _ (λ (s : Step). s.next ≡ go p k → WentOut d label i m p k) (λ _ stopped. absurd (go≢stop p k (stops.SourceCheck i) (sym stopped)))
    (λ _. out_passing-went d label i m p k passing.by passing.conns refl)) goes

-- into an interface: past its groups
pub record WentIn (d : Description) (label : Label) (i : EniNo) (m : Moment) : Type 0 where
  pub by : By
  pub passed : (passing_of d label i dirs.Inward m.header m.conns).by ≡ Some by

in_passing-went : (d : Description) (appliances : Appliances) (label : Label) (i : EniNo) (m : Moment) (by : Option By) (conns : List Connection)
    → (passing_of d label i dirs.Inward m.header m.conns).by ≡ by → ((in_passing d appliances i m (record { by = by; conns = conns })).by ≡ bys.Nothing → ⊥) → WentIn d label i m
in_passing-went d appliances label i m None conns is some = absurd (some refl)
in_passing-went d appliances label i m (Some by) conns is some = record { by = by; passed = is }

pub step_into-went : (d : Description) (appliances : Appliances) (label : Label) (i : EniNo) (m : Moment) → ((step_into d appliances label i m).by ≡ bys.Nothing → ⊥) → WentIn d label i m
step_into-went d appliances label i m some =
    let e = interface_at d i in
    let passing = passing_of d label i dirs.Inward m.header m.conns in
    cond_both e.idle _ _ (λ (s : Step). (s.by ≡ bys.Nothing → ⊥) → WentIn d label i m) (λ _ none. absurd (none refl))
    (λ _. cond_both (e.checked && not (has_address e m.header.dst)) _ _ (λ (s : Step). (s.by ≡ bys.Nothing → ⊥) → WentIn d label i m) (λ _ none. absurd (none refl))
    (λ _. in_passing-went d appliances label i m passing.by passing.conns refl)) some

-- ---- stops at interfaces

-- groups without a rule let nothing pass
by_groups-none : (groups : List (List ℕ)) (g : List ℕ) (gs : List (List ℕ)) (o : Option RuleRef) → groups ≡ g ∷ gs → o ≡ None → by_groups groups o ≡ None
by_groups-none groups g gs o some none = ap (λ (x : List (List ℕ)). by_groups x o) some ∙ ap (λ (x : Option RuleRef). by_groups (g ∷ gs) x) none

open-refused : (conns : List Connection) (c : Connection) (o : Option RuleRef) → (open_passing conns c o).by ≡ None → o ≡ None
open-refused conns c None refused = refl
open-refused conns c (Some r) refused = absurd (none-some (bys.Rule r) (sym refused))

answer-refused : (conns : List Connection) (o : Option RuleRef) → (answer_passing conns o).by ≡ None → o ≡ None
answer-refused conns None refused = refl
answer-refused conns (Some r) refused = absurd (none-some (bys.Rule r) (sym refused))

label-refused : (d : Description) (label : Label) (i : EniNo) (dir : Dir) (h : Header) (conns : List Connection) → (label_passing d label i dir h conns).by ≡ None
    → first_rule d (interface_at d i) dir h ≡ None
label-refused d labels.Opening i dir h conns refused = open-refused conns (record { eni = i; dir = dir; header = h }) (first_rule d (interface_at d i) dir h) refused
label-refused d labels.Answer i dir h conns refused =
    let rule = first_rule d (interface_at d i) dir h in
    let tracked : Passing = record { by = Some bys.Tracked; conns = conns } in
    cond_both (is_tracked conns i dir h) tracked (answer_passing conns rule) (λ (p : Passing). p.by ≡ None → rule ≡ None)
    (λ _ none. absurd (none-some bys.Tracked (sym none))) (λ _ none. answer-refused conns rule none) refused

groups-refuse : (d : Description) (label : Label) (i : EniNo) (dir : Dir) (h : Header) (conns : List Connection) (groups : List (List ℕ))
    → (let e = interface_at d i in e.groups ≡ groups) → (passing_groups d label i dir h conns groups).by ≡ None → groups_pass d i dir h ≡ None
groups-refuse d label i dir h conns [] is refused = absurd (none-some bys.NoGroups (sym refused))
groups-refuse d label i dir h conns (g ∷ gs) is refused =
    let e = interface_at d i in by_groups-none e.groups g gs (first_rule d e dir h) is (label-refused d label i dir h conns refused)

passing-refused : (d : Description) (label : Label) (i : EniNo) (dir : Dir) (h : Header) (conns : List Connection) → (passing_of d label i dir h conns).by ≡ None → groups_pass d i dir h ≡ None
passing-refused d label i dir h conns refused = let e = interface_at d i in groups-refuse d label i dir h conns e.groups refl refused

out_passing-refused : (d : Description) (i : EniNo) (m : Moment) (by : Option By) (conns : List Connection) → (out_passing d i m (record { by = by; conns = conns })).next ≡ stop (stops.GroupsOut i) → by ≡ None
out_passing-refused d i m None conns stopped = refl
out_passing-refused d i m (Some by) conns stopped = absurd (go≢stop (places.Router (subnet_of d i) (from.Host i)) m.header (stops.GroupsOut i) stopped)

step_out-refused : (d : Description) (label : Label) (i : EniNo) (m : Moment) → (step_out d label i m).next ≡ stop (stops.GroupsOut i) → groups_pass d i dirs.Outward m.header ≡ None
step_out-refused d label i m stopped =
    let e = interface_at d i in
    let passing = passing_of d label i dirs.Outward m.header m.conns in
    let end : Stop = stops.GroupsOut i in
    cond_both e.idle _ _ (λ (s : Step). s.next ≡ stop end → groups_pass d i dirs.Outward m.header ≡ None)
    (λ _ other. let same : stops.Detached i ≡ end = stop-same (stops.Detached i) end other in absurd (cc))
    (λ _. cond_both (e.checked && not (has_address e m.header.src)) _ _ (λ (s : Step). s.next ≡ stop end → groups_pass d i dirs.Outward m.header ≡ None)
    (λ _ other. let same : stops.SourceCheck i ≡ end = stop-same (stops.SourceCheck i) end other in absurd (cc))
    (λ _ refused. passing-refused d label i dirs.Outward m.header m.conns (out_passing-refused d i m passing.by passing.conns refused))) stopped

taken-refused : (d : Description) (i : EniNo) (h : Header) (o : Option (List Box5)) → (elim o [
  | None ↦ arrive (ends.Interface i)
  | Some boxes ↦ cond (has_address (interface_at d i) h.dst) (arrive (ends.Interface i)) (forwarded i h boxes)
]) ≡ stop (stops.GroupsIn i) → ⊥
taken-refused d i h None refused = cc
taken-refused d i h (Some boxes) refused =
    let end : Stop = stops.GroupsIn i in
    cond_both (has_address (interface_at d i) h.dst) (arrive (ends.Interface i)) (forwarded i h boxes) (λ (x : Next). x ≡ stop end → ⊥) (λ _ e. cc)
    (λ _. cond_both (passes boxes h) (go (places.OutOf i) h) (stop (stops.ApplianceDrop i)) (λ (x : Next). x ≡ stop end → ⊥) (λ _ e. go≢stop (places.OutOf i) h end e)
    (λ _ e. let same : stops.ApplianceDrop i ≡ end = stop-same (stops.ApplianceDrop i) end e in cc)) refused

in_passing-refused : (d : Description) (appliances : Appliances) (i : EniNo) (m : Moment) (by : Option By) (conns : List Connection)
    → (in_passing d appliances i m (record { by = by; conns = conns })).next ≡ stop (stops.GroupsIn i) → by ≡ None
in_passing-refused d appliances i m None conns stopped = refl
in_passing-refused d appliances i m (Some by) conns stopped = absurd (taken-refused d i m.header (boxes_at appliances i) stopped)

step_into-refused : (d : Description) (appliances : Appliances) (label : Label) (i : EniNo) (m : Moment) → (step_into d appliances label i m).next ≡ stop (stops.GroupsIn i)
    → groups_pass d i dirs.Inward m.header ≡ None
step_into-refused d appliances label i m stopped =
    let e = interface_at d i in
    let passing = passing_of d label i dirs.Inward m.header m.conns in
    let end : Stop = stops.GroupsIn i in
    cond_both e.idle _ _ (λ (s : Step). s.next ≡ stop end → groups_pass d i dirs.Inward m.header ≡ None)
    (λ _ other. let same : stops.Detached i ≡ end = stop-same (stops.Detached i) end other in absurd (cc))
    (λ _. cond_both (e.checked && not (has_address e m.header.dst)) _ _ (λ (s : Step). s.next ≡ stop end → groups_pass d i dirs.Inward m.header ≡ None)
    (λ _ other. let same : stops.DestCheck i ≡ end = stop-same (stops.DestCheck i) end other in absurd (cc))
    (λ _ refused. passing-refused d label i dirs.Inward m.header m.conns (in_passing-refused d appliances i m passing.by passing.conns refused))) stopped

pub door-refused : (d : Description) (appliances : Appliances) (label : Label) (i : EniNo) (dir : Dir) (m : Moment) → (step_at d appliances label (door i dir) m).next ≡ stop (groups_stop i dir)
    → groups_pass d i dir m.header ≡ None
door-refused d appliances label i dirs.Inward m stopped = step_into-refused d appliances label i m stopped
door-refused d appliances label i dirs.Outward m stopped = step_out-refused d label i m stopped
