-- What differs can be told.
use Rattle.std.proofs.Common.{All, Bool, IfSome, List, None, Ok, Option, Some, [], filter_map, is_some, not, option_map, refl, subst, true, ℕ, ◌||◌, ◌∷◌, ◌≡◌}
use Rattle.std.specs.List.{AllByRecursion, cons_option}
use Rattle.vpc_base.proofs.Lemmas.{All-from_recursion, cond_both}
use Rattle.vpc_base.specs.declared.headers.Dir.TheVariants as dirs
use Rattle.vpc_laws.proofs.Lemmas.{IfFound, accepted_numbers_are_in_range, first_rule-found, ids_are_found}
use Rattle.vpc_laws.specs.Types.{By, Description, Dir, EniNo, Header, RuleRef, Stop}
use Rattle.vpc_model.specs.Terms.{IsAccepted, acl_at, acl_of, acl_verdict, eni_no, far_address, first_rule, has_interface, has_rule, has_text, interface_at, is_acl, is_eni, is_gateway, is_rule, or_else, subnet_of}
use Rattle.vpc_model.specs.declared.outcomes.By.TheVariants as bys
use Rattle.vpc_model.specs.declared.stops.Stop.TheVariants as stops
use Rattle.flow_check.specs.Terms.{Action, Flow, FlowLine, FlowList, Ports, Record, Sort, accepted_by, acl_stop, bad_line, border_stop, by_groups, connection_stop, differing, direction_of, flows_of, groups_pass, groups_stop, has_ports, header_of, is_neighbour, is_told, judged_at, met_first, numbered_lines, other_way_passes, record_of, refused_by, rejected_by, sort_at, sort_between, sort_of, sort_towards, sorted_lines, told_of, told_unless}
use Rattle.flow_check.specs.declared.records.Action.TheVariants as actions
use Rattle.flow_check.specs.declared.records.Record.TheVariants as records
use Rattle.flow_check.specs.declared.sorts.Sort.TheVariants as sorts

-- a stop that has a text, a rule that is there
abbrev HasText : Description → Option Stop → Type 0
HasText d o = IfSome o (λ s. has_text d s ≡ true)

abbrev HasRule : Description → Option By → Type 0
HasRule d o = IfSome o (λ by. has_rule d by ≡ true)

-- if a line differs, how it does can be told
abbrev CanBeTold : Description → Sort → Type 0
CanBeTold d sorts.NoData = Unit {0}
CanBeTold d sorts.SkipData = Unit {0}
CanBeTold d sorts.Unknown = Unit {0}
CanBeTold d sorts.Skipped = Unit {0}
CanBeTold d sorts.Agrees = Unit {0}
CanBeTold d (sorts.Differs kind) = is_told d kind ≡ true

-- ---- stops

acl-text : (d : Description) (i : EniNo) (dir : Dir) (h : Header) → IsAccepted d → is_eni d i ≡ true → HasText d (acl_stop d i dir h)
acl-text d i dir h accepted lies =
    let s = subnet_of d i in
    let range = accepted_numbers_are_in_range d accepted in
    let there : is_acl d (acl_of d s) ≡ true = range.acl_of_subnet s (range.subnet_of_interface i lies) in
    by dir there
  where
    by : (dir : Dir) → is_acl d (acl_of d (subnet_of d i)) ≡ true → HasText d (acl_stop d i dir h)
    by dirs.Inward there =
        let a = acl_at d (acl_of d (subnet_of d i)) in
        let verdict = acl_verdict a.rows dirs.Inward h in
        cond_both verdict.0 None (Some (stops.AclIn (acl_of d (subnet_of d i)) verdict.1)) (HasText d) (λ _. tt) (λ _. there)
    by dirs.Outward there =
        let a = acl_at d (acl_of d (subnet_of d i)) in
        let verdict = acl_verdict a.rows dirs.Outward h in
        cond_both verdict.0 None (Some (stops.AclOut (acl_of d (subnet_of d i)) verdict.1)) (HasText d) (λ _. tt) (λ _. there)

border-text : (d : Description) (i : EniNo) (dir : Dir) (h : Header) (inside : Bool) → IsAccepted d → is_eni d i ≡ true → HasText d (border_stop d i dir h inside)
border-text d i dir h inside accepted lies = cond_both inside None (acl_stop d i dir h) (HasText d) (λ _. tt) (λ _. acl-text d i dir h accepted lies)

groups-text : (d : Description) (i : EniNo) (dir : Dir) → is_eni d i ≡ true → has_text d (groups_stop i dir) ≡ true
groups-text d i dirs.Inward lies = lies
groups-text d i dirs.Outward lies = lies

connection-text : (d : Description) (i : EniNo) (dir : Dir) (h : Header) → is_eni d i ≡ true → HasText d (connection_stop d i dir h)
connection-text d i dir h lies =
    cond_both (is_some (groups_pass d i dir h) || other_way_passes d i dir h) None (Some (groups_stop i dir)) (HasText d) (λ _. tt) (λ _. groups-text d i dir lies)

or_else-text : (d : Description) (first later : Option Stop) → HasText d first → HasText d later → HasText d (or_else first later)
or_else-text d None later one two = two
or_else-text d (Some s) later one two = one

first-text : (d : Description) (dir : Dir) (border groups : Option Stop) → HasText d border → HasText d groups → HasText d (met_first dir border groups)
first-text d dirs.Inward border groups one two = or_else-text d border groups one two
first-text d dirs.Outward border groups one two = or_else-text d groups border two one

accepted-told : (d : Description) (o : Option Stop) → HasText d o → CanBeTold d (accepted_by o)
accepted-told d None text = tt
accepted-told d (Some s) text = text

-- ---- rules

rule-told : (d : Description) (o : Option RuleRef) → IfFound (is_rule d) o → HasRule d (option_map (λ r. bys.Rule r) o)
rule-told d None found = tt
rule-told d (Some r) found = found

by-told : (d : Description) (groups : List (List ℕ)) (o : Option RuleRef) → IfFound (is_rule d) o → HasRule d (by_groups groups o)
by-told d [] o found = refl
by-told d (g ∷ gs) o found = rule-told d o found

pass-told : (d : Description) (i : EniNo) (dir : Dir) (h : Header) → HasRule d (groups_pass d i dir h)
pass-told d i dir h = let e = interface_at d i in by-told d e.groups (first_rule d e dir h) (first_rule-found d e dir h e.groups)

refused-told : (d : Description) (o : Option By) → HasRule d o → CanBeTold d (refused_by o)
refused-told d None rule = tt
refused-told d (Some by) rule = rule

rejected-told : (d : Description) (border : Option Stop) (by : Option By) → HasRule d by → CanBeTold d (rejected_by border by)
rejected-told d (Some s) by rule = tt
rejected-told d None by rule = refused-told d by rule

-- ---- lines

judged-told : (d : Description) (i : EniNo) (dir : Dir) (h : Header) (action : Action) (inside : Bool) → IsAccepted d → is_eni d i ≡ true → CanBeTold d (judged_at d i dir h action inside)
judged-told d i dir h actions.Accept inside accepted lies =
    let border = border_stop d i dir h inside in
    let groups = connection_stop d i dir h in
    accepted-told d (met_first dir border groups) (first-text d dir border groups (border-text d i dir h inside accepted lies) (connection-text d i dir h lies))
judged-told d i dir h actions.Reject inside accepted lies = rejected-told d (border_stop d i dir h inside) (groups_pass d i dir h) (pass-told d i dir h)

towards-told : (d : Description) (i : EniNo) (h : Header) (action : Action) (o : Option Dir) → IsAccepted d → is_eni d i ≡ true → CanBeTold d (sort_towards d i h action o)
towards-told d i h action None accepted lies = tt
towards-told d i h action (Some dir) accepted lies = judged-told d i dir h action (is_neighbour d (interface_at d i) (far_address dir h)) accepted lies

between-told : (d : Description) (i : EniNo) (ports : Ports) (action : Action) (src dst : Option ℕ) → IsAccepted d → is_eni d i ≡ true → CanBeTold d (sort_between d i ports action src dst)
between-told d i ports action None dst accepted lies = tt
between-told d i ports action (Some src) None accepted lies = tt
between-told d i ports action (Some src) (Some dst) accepted lies =
    towards-told d i (header_of ports src dst) action (direction_of (interface_at d i) src dst) accepted lies

at-told : (d : Description) (i : EniNo) (f : Flow) → IsAccepted d → is_eni d i ≡ true → CanBeTold d (sort_at d i f)
at-told d i f accepted lies =
    let e = interface_at d i in
    cond_both (is_gateway e.kind || not (has_ports f.ports.proto)) sorts.Skipped (sort_between d i f.ports f.action f.src f.dst) (CanBeTold d)
    (λ _. tt) (λ _. between-told d i f.ports f.action f.src f.dst accepted lies)

sort-told : (d : Description) (r : Record) → IsAccepted d → CanBeTold d (sort_of d r)
sort-told d records.NoData accepted = tt
sort-told d records.SkipData accepted = tt
sort-told d (records.Seen f) accepted =
    cond_both (has_interface d f.eni) (sort_at d (eni_no d f.eni) f) sorts.Unknown (CanBeTold d)
    (λ has. at-told d (eni_no d f.eni) f accepted ((ids_are_found d).interface f.eni has).0) (λ _. tt)

-- ---- logs

abbrev AreTold : Description → List FlowLine → Type 0
AreTold d lines = AllByRecursion (λ (l : FlowLine). is_told d l.kind ≡ true) lines

more-told : (d : Description) (n : ℕ) (s : Sort) (lines : List FlowLine) → CanBeTold d s → AreTold d lines → AreTold d (cons_option (differing (n, s)) lines)
more-told d n sorts.NoData lines can told = told
more-told d n sorts.SkipData lines can told = told
more-told d n sorts.Unknown lines can told = told
more-told d n sorts.Skipped lines can told = told
more-told d n sorts.Agrees lines can told = told
more-told d n (sorts.Differs kind) lines can told = (can, told)

lines-told : (d : Description) (lines : List (ℕ × List ℕ)) → IsAccepted d → AreTold d (filter_map differing (sorted_lines d lines))
lines-told d [] accepted = tt
lines-told d (l ∷ lines) accepted = by (record_of l.1) (lines-told d lines accepted)
  where
    by : (o : Option Record) → AreTold d (filter_map differing (sorted_lines d lines)) → AreTold d (filter_map differing (cons_option (option_map (λ r. (l.0, sort_of d r)) o) (sorted_lines d lines)))
    by None told = told
    by (Some r) told = more-told d l.0 (sort_of d r) (filter_map differing (sorted_lines d lines)) (sort-told d r accepted) told

unless-told : (d : Description) (bad : Option ℕ) (lines : List (ℕ × Sort)) (a : FlowList) → AreTold d (filter_map differing lines) → told_unless bad lines ≡ Ok a → AreTold d a.differing
unless-told d (Some number) lines a told is = absurd (cc)
unless-told d None lines a told is = let same : told_of lines ≡ a = cc in subst (λ (b : FlowList). AreTold d b.differing) same told

-- the lines of a log that differ can be told
pub flows-told : (d : Description) (text : List ℕ) (a : FlowList) → IsAccepted d → flows_of d text ≡ Ok a → All (λ (l : FlowLine). is_told d l.kind ≡ true) a.differing
flows-told d text a accepted is =
    let lines = numbered_lines text in
    All-from_recursion (λ (l : FlowLine). is_told d l.kind ≡ true) a.differing (unless-told d (bad_line lines) (sorted_lines d lines) a (lines-told d lines accepted) is)
