-- What is known of the decisions that are told.
use Rattle.std.specs.Prelude.{◌≡◌, ◌≢◌, ◌⊎◌, ◌∷◌, [], if◌then◌else◌, Bool, List, None, Option, Some, filter, is_some, slice_index_or, true, ℕ}
use Rattle.vpc_base.specs.declared.headers.Dir.TheVariants as dirs
use Rattle.vpc_laws.specs.Types.{AclNo, Description, Dir, Header, Hop, Label, Outcome, Stop, TableNo, TgwTableNo}
use Rattle.vpc_laws.specs.Walk.{hop_of}
use Rattle.vpc_model.specs.declared.stops.Stop.TheVariants as stops
use Rattle.vpc_model.specs.Appliances.{Appliances}
use Rattle.vpc_model.specs.Lookup.{table_at, tgw_table_at}
use Rattle.vpc_model.specs.Step.{step_of}
use Rattle.vpc_model.specs.Step.Router.{no_route}
use Rattle.vpc_model.specs.Step.Transit.{no_tgw_route}
use Rattle.vpc_model.specs.Step.Words.{Moment, Next, arrive, go, stop}
use Rattle.block_report.specs.Walks.{walk_text}
use Rattle.walk_reasons.specs.Decisions.{Decision, acl, becomes, decided, group, route, transit}
use Rattle.walk_reasons.specs.Reasons.{is_of_trace, reason_lines, rewritten, text_of}

-- ---- the lines of `trace`

-- without the decisions it is what `trace` prints
abbrev pub KeepsTrace : Type 0
KeepsTrace =
    (d : Description) (sent : Header) (hops : List Hop) (outcome : Outcome)
    → text_of d (filter is_of_trace (reason_lines d sent hops outcome)) ≡ walk_text d hops outcome

-- ---- what stops a packet

-- the stop that an ACL's verdict makes, if it refuses
abbrev pub refusal : AclNo → Dir → Bool × ℕ → Option Stop
refusal a dirs.Outward verdict = if verdict.0 then None else Some (stops.AclOut a verdict.1)
refusal a dirs.Inward verdict = if verdict.0 then None else Some (stops.AclIn a verdict.1)

-- the stop that a route makes, if its target is gone
abbrev pub gone : Description → TableNo → ℕ → Option Stop
gone d t k =
    let table = table_at d t in
    let r = slice_index_or table.routes k no_route in
    if r.blackhole then Some (stops.Blackhole t k) else None

abbrev pub gone_transit : Description → TgwTableNo → ℕ → Option Stop
gone_transit d t k =
    let table = tgw_table_at d t in
    let r = slice_index_or table.routes k no_tgw_route in
    if r.blackhole then Some (stops.TgwBlackhole t k) else None

-- the stop that a decision makes, if it makes one
abbrev pub stop_by : Description → Decision → Option Stop
stop_by d (group r) = None
stop_by d (route t k) = gone d t k
stop_by d (transit t k) = gone_transit d t k
stop_by d (acl a dir verdict) = refusal a dir verdict
stop_by d (becomes h) = None

-- the stops that decisions make: by ACLs and by routes whose target is gone
abbrev pub decided_stop : Stop → Option Stop
decided_stop (stops.AclOut a n) = Some (stops.AclOut a n)
decided_stop (stops.AclIn a n) = Some (stops.AclIn a n)
decided_stop (stops.Blackhole t k) = Some (stops.Blackhole t k)
decided_stop (stops.TgwBlackhole t k) = Some (stops.TgwBlackhole t k)
decided_stop _ = None

-- that of what comes next
abbrev pub stopped_by : Next → Option Stop
stopped_by (go p k) = None
stopped_by (arrive end) = None
stopped_by (stop s) = decided_stop s

-- each decision lets the packet go on, or it is the last one and makes the stop
abbrev pub Explain : Description → Option Stop → List Decision → Type 0
Explain d stopped [] = stopped ≡ None
Explain d stopped (x ∷ rest) = ((stop_by d x ≡ None) × Explain d stopped rest) ⊎ ((is_some stopped ≡ true) × ((stop_by d x ≡ stopped) × (rest ≡ [])))

-- what is told at a place explains the step there: where an ACL refuses the packet, or its route's target is gone, the last decision
-- is that one, and all others let it go on
abbrev pub DecisionsExplain : Type 0
DecisionsExplain =
    (d : Description) (appliances : Appliances) (label : Label) (m : Moment)
    → let s = step_of d appliances label m in Explain d (stopped_by s.next) (decided d (hop_of d appliances label m))

-- ---- what its header becomes

-- a rewriting is told exactly where another header comes to a place than to the one before
abbrev pub RewritingsAreTold : Type 0
RewritingsAreTold =
    (before h : Header) → ((before ≡ h) × (rewritten before h ≡ [])) ⊎ ((before ≢ h) × (rewritten before h ≡ becomes h ∷ []))
