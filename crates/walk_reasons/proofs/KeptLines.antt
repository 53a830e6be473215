-- The lines of a walk, put together from parts; and those that `trace` has too.
use Rattle.std.proofs.Common.{◌≡◌, ◌++◌, ◌+◌, ◌∙◌, ◌∷◌, [], List, ap, append-nil, append_assoc, filter, map, refl, sym, ℕ}
use Rattle.std.proofs.lemmas.Grind.{flat_map-append}
use Rattle.std.proofs.lemmas.List.Elements.{filter-append}
use Rattle.block_report.specs.Hops.{hop_line, hop_lines_from}
use Rattle.block_report.specs.Walks.{outcome_line, walk_text}
use Rattle.vpc_laws.specs.Types.{Description, Header, Hop, Outcome}
use Rattle.walk_reasons.specs.Decisions.{Decision, decided}
use Rattle.walk_reasons.specs.Parts.{hop_text, hops_text}
use Rattle.walk_reasons.specs.Reasons.{Line, decision_line, decision_lines, is_of_trace, line_text, lines_from, lines_of_hop, of_decision, of_hop, reason_lines, reasons_text, rewritten, text_of}

-- ---- parts

decisions-text : (d : Description) (xs : List Decision) → text_of d (map of_decision xs) ≡ decision_lines d xs
decisions-text d [] = refl
decisions-text d (x ∷ xs) = ap (λ (t : List ℕ). decision_line d x ++ t) (decisions-text d xs)

lines_of_hop-text : (d : Description) (n : ℕ) (before : Header) (hop : Hop) → text_of d (lines_of_hop d n before hop) ≡ hop_text d n before hop
lines_of_hop-text d n before hop =
    let became = rewritten before hop.header in
    let reasons = decided d hop in
    flat_map-append (line_text d) (map of_decision became) (of_hop n hop ∷ map of_decision reasons)
    ∙ (ap (λ (t : List ℕ). t ++ (hop_line d n hop ++ text_of d (map of_decision reasons))) (decisions-text d became)
    ∙ (ap (λ (t : List ℕ). decision_lines d became ++ (hop_line d n hop ++ t)) (decisions-text d reasons)
    ∙ sym (append_assoc (decision_lines d became) (hop_line d n hop) (decision_lines d reasons))))

lines_from-text : (d : Description) (n : ℕ) (before : Header) (hops : List Hop) (outcome : Outcome)
    → text_of d (lines_from d n before hops outcome) ≡ hops_text d n before hops ++ outcome_line d outcome
lines_from-text d n before [] outcome = append-nil (outcome_line d outcome)
lines_from-text d n before (hop ∷ rest) outcome =
    flat_map-append (line_text d) (lines_of_hop d n before hop) (lines_from d (n + 1) hop.header rest outcome)
    ∙ (ap (λ (t : List ℕ). t ++ text_of d (lines_from d (n + 1) hop.header rest outcome)) (lines_of_hop-text d n before hop)
    ∙ (ap (λ (t : List ℕ). hop_text d n before hop ++ t) (lines_from-text d (n + 1) hop.header rest outcome)
    ∙ sym (append_assoc (hop_text d n before hop) (hops_text d (n + 1) hop.header rest) (outcome_line d outcome))))

pub reasons_text-parts : (d : Description) (sent : Header) (hops : List Hop) (outcome : Outcome) → hops_text d 1 sent hops ++ outcome_line d outcome ≡ reasons_text d sent hops outcome
reasons_text-parts d sent hops outcome = sym (lines_from-text d 1 sent hops outcome)

-- ---- the lines of `trace`

decisions-dropped : (xs : List Decision) → filter is_of_trace (map of_decision xs) ≡ []
decisions-dropped [] = refl
decisions-dropped (x ∷ xs) = decisions-dropped xs

hop-kept : (d : Description) (n : ℕ) (before : Header) (hop : Hop) → filter is_of_trace (lines_of_hop d n before hop) ≡ of_hop n hop ∷ []
hop-kept d n before hop =
    filter-append is_of_trace (map of_decision (rewritten before hop.header)) (of_hop n hop ∷ map of_decision (decided d hop))
    ∙ (ap (λ (l : List Line). l ++ filter is_of_trace (of_hop n hop ∷ map of_decision (decided d hop))) (decisions-dropped (rewritten before hop.header))
    ∙ ap (λ (l : List Line). of_hop n hop ∷ l) (decisions-dropped (decided d hop)))

lines-kept : (d : Description) (n : ℕ) (before : Header) (hops : List Hop) (outcome : Outcome)
    → text_of d (filter is_of_trace (lines_from d n before hops outcome)) ≡ hop_lines_from d n hops ++ outcome_line d outcome
lines-kept d n before [] outcome = append-nil (outcome_line d outcome)
lines-kept d n before (hop ∷ rest) outcome =
    let more = filter is_of_trace (lines_from d (n + 1) hop.header rest outcome) in
    ap (text_of d)
    (filter-append is_of_trace (lines_of_hop d n before hop) (lines_from d (n + 1) hop.header rest outcome) ∙ ap (λ (l : List Line). l ++ more) (hop-kept d n before hop))
    ∙ (ap (λ (t : List ℕ). hop_line d n hop ++ t) (lines-kept d (n + 1) hop.header rest outcome)
    ∙ sym (append_assoc (hop_line d n hop) (hop_lines_from d (n + 1) rest) (outcome_line d outcome)))

pub trace_is_kept : (d : Description) (sent : Header) (hops : List Hop) (outcome : Outcome) → text_of d (filter is_of_trace (reason_lines d sent hops outcome)) ≡ walk_text d hops outcome
trace_is_kept d sent hops outcome = lines-kept d 1 sent hops outcome
