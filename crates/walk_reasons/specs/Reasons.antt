-- How a walk is told with what decided at each of its places: after each hop's line one for each decision there, and then the header
-- that comes to the next place, if it is another one.
use Rattle.std.specs.Prelude.{◌+◌, ◌++◌, ◌∷◌, [], if◌then◌else◌, Bool, List, None, Option, Some, codes, decimal, false, flat_map, map, slice_index_or, true, ℕ}
use Rattle.prefix_text.specs.Block.{block_text}
use Rattle.vpc_laws.specs.Types.{AclNo, Description, Dir, Header, Hop, Outcome, RuleRef, TableNo, TgwTableNo}
use Rattle.vpc_model.specs.Connections.{same_header}
use Rattle.vpc_model.specs.Lookup.{acl_at, group_at, table_at, tgw_table_at}
use Rattle.vpc_model.specs.Step.Router.{no_route}
use Rattle.vpc_model.specs.Step.Transit.{no_tgw_route}
use Rattle.vpc_model.specs.Told.{reach_text, target_id}
use Rattle.block_report.specs.Hops.{dir_text, hop_line, rule_name}
use Rattle.block_report.specs.Walks.{outcome_line}
use Rattle.block_report.specs.Words.{header_line, line_end, word}
use Rattle.walk_reasons.specs.Decisions.{Decision, acl, becomes, decided, group, route, transit}

-- ---- the line of a decision

-- a group or an ACL by its id, and a direction
abbrev pub place_words : List ℕ → List ℕ → Dir → List ℕ
place_words kind id dir = kind ++ word id ++ word (dir_text dir)

-- group GROUP out|in RULE
abbrev pub group_line : Description → RuleRef → List ℕ
group_line d r = let g = group_at d r.group in place_words (codes "group") g.id r.dir ++ word (rule_name d r) ++ line_end

-- a table's id, what its route reaches, and where it leads
abbrev pub route_words : List ℕ → List ℕ → List ℕ → List ℕ
route_words table reach target = codes "route" ++ word table ++ word reach ++ word target ++ line_end

-- route TABLE BLOCK|PREFIX-LIST TARGET
abbrev pub route_line : Description → TableNo → ℕ → List ℕ
route_line d t k =
    let table = table_at d t in
    let r = slice_index_or table.routes k no_route in
    route_words table.id (reach_text r.reach) (target_id r.target)

-- the attachment of a route, or a dash
abbrev pub attachment_text : Option (List ℕ) → List ℕ
attachment_text None = codes "-"
attachment_text (Some id) = id

-- route TABLE BLOCK ATTACHMENT|-
abbrev pub transit_line : Description → TgwTableNo → ℕ → List ℕ
transit_line d t k =
    let table = tgw_table_at d t in
    let r = slice_index_or table.routes k no_tgw_route in
    route_words table.id (block_text r.block) (attachment_text r.attachment)

-- what an ACL's rule says
abbrev pub says : Bool → List ℕ
says allow = if allow then codes "allow" else codes "deny"

-- acl ACL out|in NUMBER allow|deny
abbrev pub acl_words : List ℕ → Dir → Bool × ℕ → List ℕ
acl_words id dir verdict = place_words (codes "acl") id dir ++ word (decimal verdict.1) ++ word (says verdict.0) ++ line_end

abbrev pub acl_line : Description → AclNo → Dir → Bool × ℕ → List ℕ
acl_line d a dir verdict = let row = acl_at d a in acl_words row.id dir verdict

-- becomes HEADER
abbrev pub becomes_line : Header → List ℕ
becomes_line h = header_line (codes "becomes") h

abbrev pub decision_line : Description → Decision → List ℕ
decision_line d (group r) = group_line d r
decision_line d (route t k) = route_line d t k
decision_line d (transit t k) = transit_line d t k
decision_line d (acl a dir verdict) = acl_line d a dir verdict
decision_line d (becomes h) = becomes_line h

-- the lines of decisions
abbrev pub decision_lines : Description → List Decision → List ℕ
decision_lines d decisions = flat_map (decision_line d) decisions

-- ---- the lines of a walk

-- the header that comes to a place, where it is another than the one before
abbrev pub rewritten : Header → Header → List Decision
rewritten before h = if same_header before h then [] else becomes h ∷ []

-- a hop with its number, a decision, or how the walk ends
pub data Line : Type 0 where
  of_hop : ℕ → Hop → Line
  of_decision : Decision → Line
  of_end : Outcome → Line

-- the lines of a hop: what the header has become, the hop, and what decides there
abbrev pub lines_of_hop : Description → ℕ → Header → Hop → List Line
lines_of_hop d n before hop = map of_decision (rewritten before hop.header) ++ (of_hop n hop ∷ map of_decision (decided d hop))

-- the lines of a walk whose hops are numbered from n on, after a place with this header
abbrev pub lines_from : Description → ℕ → Header → List Hop → Outcome → List Line
lines_from d n before [] outcome = of_end outcome ∷ []
lines_from d n before (hop ∷ rest) outcome = lines_of_hop d n before hop ++ lines_from d (n + 1) hop.header rest outcome

-- the lines of the walk of a packet that is sent with this header
abbrev pub reason_lines : Description → Header → List Hop → Outcome → List Line
reason_lines d sent hops outcome = lines_from d 1 sent hops outcome

-- a line as it is printed
abbrev pub line_text : Description → Line → List ℕ
line_text d (of_hop n hop) = hop_line d n hop
line_text d (of_decision decision) = decision_line d decision
line_text d (of_end outcome) = outcome_line d outcome

-- lines as they are printed
abbrev pub text_of : Description → List Line → List ℕ
text_of d lines = flat_map (line_text d) lines

-- a walk with what decided
abbrev pub reasons_text : Description → Header → List Hop → Outcome → List ℕ
reasons_text d sent hops outcome = text_of d (reason_lines d sent hops outcome)

-- the lines that `trace` has too
abbrev pub is_of_trace : Line → Bool
is_of_trace (of_hop n hop) = true
is_of_trace (of_decision decision) = false
is_of_trace (of_end outcome) = true
