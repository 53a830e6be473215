-- What `ask` answers is decided by its query, and tells of no device.
use Rattle.std.proofs.Common.{◌≡◌, ◌<◌, ◌≤◌, ◌∷◌, ◌||◌, ℕ, Bool, true, false, suc, List, [], Option, Some, None, Err, Ok, refl, sym, ap, subst, ◌∙◌, arith}
use Rattle.std.specs.List.{All}
use Rattle.vpc_base.specs.Cuts.{CutLists}
use Rattle.vpc_laws.specs.Types.{Box5, Description, Header, Row, StopText}
use Rattle.header_boxes.specs.Boxes.{holds}
use Rattle.header_boxes.specs.Cells.{cells_of}
use Rattle.header_boxes.specs.Rows.{HasWord, is_covered}
use Rattle.cut_points.proofs.Increasing.{same_list}
use Rattle.ordered_cover.specs.Trees.{leaves_of}
use Rattle.query_words.specs.Query.{query_of}
use Rattle.query_words.specs.declared.queries.Query.{Query}
use Rattle.vpc_model.specs.Report.{IsCellCount, ending_of}
use Rattle.command_job.specs.Status.{IsOfDevice}
use Rattle.command_job.specs.declared.status.Status.{Status}
use Rattle.command_job.specs.declared.status.Status.TheVariants as ends
use Rattle.command_job.proofs.Devices.{more_is_none, no_device, no_is_none, query_is_none, yes_is_none}
use Rattle.network_reach.specs.Asked.{IsAnswerTo, IsAskDecided, IsAsked, IsDecided, IsReachable, IsReported, IsReportedAsTree, IsReportedInPart}
use Rattle.network_reach.specs.Asked as asks
use Rattle.network_reach.specs.Reached.{meaning_in}

-- ---- a box has one number of cells

cells_are : (d : Description) (whole : Box5) (m n : ℕ) → IsCellCount d whole m → IsCellCount d whole n → m ≡ n
cells_are d whole m n a b =
    let proto = same_list a.cuts.proto b.cuts.proto a.ascending.proto b.ascending.proto
    (λ c h. b.all.proto c (a.no_others.proto c h)) (λ c h. a.all.proto c (b.no_others.proto c h)) in
    let addr = same_list a.cuts.addr b.cuts.addr a.ascending.addr b.ascending.addr
    (λ c h. b.all.addr c (a.no_others.addr c h)) (λ c h. a.all.addr c (b.no_others.addr c h)) in
    let p = same_list a.cuts.p b.cuts.p a.ascending.p b.ascending.p
    (λ c h. b.all.p c (a.no_others.p c h)) (λ c h. a.all.p c (b.no_others.p c h)) in
    let q = same_list a.cuts.q b.cuts.q a.ascending.q b.ascending.q
    (λ c h. b.all.q c (a.no_others.q c h)) (λ c h. a.all.q c (b.no_others.q c h)) in
    a.count ∙ (same_cells a.cuts b.cuts proto addr p q ∙ sym b.count)
  where
    same_cells : (x y : CutLists) → x.proto ≡ y.proto → x.addr ≡ y.addr → x.p ≡ y.p → x.q ≡ y.q → cells_of x whole ≡ cells_of y whole
    same_cells x y proto addr p q =
        ap (λ (l : List ℕ). cells_of (record { proto = l; addr = x.addr; p = x.p; q = x.q }) whole) proto
        ∙ (ap (λ (l : List ℕ). cells_of (record { proto = y.proto; addr = l; p = x.p; q = x.q }) whole) addr
        ∙ (ap (λ (l : List ℕ). cells_of (record { proto = y.proto; addr = y.addr; p = l; q = x.q }) whole) p
        ∙ ap (λ (l : List ℕ). cells_of (record { proto = y.proto; addr = y.addr; p = y.p; q = l }) whole) q))

-- ---- a report holds no header that gets through

no_word : (o : Option StopText) (w : StopText) → o ≡ Some w → o ≡ None → ⊥
no_word o w told none = let same : None ≡ Some w = sym none ∙ told in cc

by_first : (meaning : Header → Option StopText) (row : Row StopText) (rows : List (Row StopText)) (h : Header) (b : Bool) → holds h row.part ≡ b → HasWord meaning row
    → is_covered (row ∷ rows) h ≡ true → meaning h ≡ None → (is_covered rows h ≡ true → ⊥) → ⊥
by_first meaning row rows h true inside word covered through rest = no_word (meaning h) row.word (word h inside) through
by_first meaning row rows h false outside word covered through rest = rest (ap (λ (c : Bool). c || is_covered rows h) (sym outside) ∙ covered)

not_through : (meaning : Header → Option StopText) (rows : List (Row StopText)) (h : Header) → All (HasWord meaning) rows → is_covered rows h ≡ true → meaning h ≡ None → ⊥
not_through meaning [] h words covered through = cc
not_through meaning (row ∷ rows) h words covered through =
    by_first meaning row rows h (holds h row.part) refl (words 0 row (omega arith)) covered through
    (λ in_rest. not_through meaning rows h (λ k e below. words (suc k) e (omega arith)) in_rest through)

-- ---- `ask` decides its query

yes_decides : (d : Description) (query : Query) (text : List ℕ) → IsReachable d query text → IsDecided d query ends.Yes
yes_decides d query text x = record { yes = λ some. refl; no = λ few. absurd (few.none x.header x.first.inside x.first.through) }

no_decides : (d : Description) (query : Query) (text : List ℕ) → IsReported d query text → IsDecided d query ends.No
no_decides d query text x = record {
  yes = λ some. absurd (not_through (meaning_in d query) x.rows some.header x.report.report.are_true.word (x.report.report.holds_all some.header some.inside) (ap (ending_of d) some.through));
  no = λ few. refl;
}

tree_decides : (d : Description) (query : Query) (text : List ℕ) → IsReportedAsTree d query text → IsDecided d query ends.No
tree_decides d query text x = record {
  yes = λ some. absurd (not_through (meaning_in d query) (leaves_of x.nodes query.sides) some.header x.tree.report.are_true.word (x.tree.report.holds_all some.header some.inside) (ap (ending_of d) some.through));
  no = λ few. refl;
}

more_decides : (d : Description) (query : Query) (text : List ℕ) → IsReportedInPart d query text → IsDecided d query ends.More
more_decides d query text x = record {
  yes = λ some. absurd (x.report.none some.header some.inside (ap (ending_of d) some.through));
  no = λ few. absurd (too_few query.max x.cells few.cells x.report.many few.few (cells_are d query.sides few.cells x.cells few.cells_are x.report.cells_are));
}
  where
    too_few : (max cells few : ℕ) → max < cells → few ≤ max → few ≡ cells → ⊥
    too_few max cells few many at_most same = omega arith

same_query : (d : Description) (words : List (List ℕ)) (x y : Query) → query_of d words ≡ Ok x → query_of d words ≡ Ok y → x ≡ y
same_query d words x y a b = let same : Ok x ≡ Ok y = sym a ∙ b in cc

answer_decides : (d : Description) (query : Query) (status : Status) (text : List ℕ) → IsAnswerTo d query status text → IsDecided d query status
answer_decides d query status text (asks.through status_is answer) = subst (IsDecided d query) (sym status_is) (yes_decides d query text answer)
answer_decides d query status text (asks.blocked status_is answer) = subst (IsDecided d query) (sym status_is) (no_decides d query text answer)
answer_decides d query status text (asks.treed status_is answer) = subst (IsDecided d query) (sym status_is) (tree_decides d query text answer)
answer_decides d query status text (asks.more status_is answer) = subst (IsDecided d query) (sym status_is) (more_decides d query text answer)

pub ask_is_decided : (d : Description) (words : List (List ℕ)) (status : Status) (text : List ℕ) → IsAsked d words status text → IsAskDecided d words status
ask_is_decided d words status text (asks.refused refusal is status_is text_is) query meant = let same : Err refusal ≡ Ok query = sym is ∙ meant in cc
ask_is_decided d words status text (asks.answered x is answer) query meant =
    answer_decides d query status text (subst (λ (q : Query). IsAnswerTo d q status text) (same_query d words x query is meant) answer)

-- ---- no device

answer_to_is_none : (d : Description) (query : Query) (status : Status) (text : List ℕ) → IsAnswerTo d query status text → IsOfDevice status → ⊥
answer_to_is_none d query status text (asks.through status_is answer) h = no_device status ends.Yes status_is yes_is_none h
answer_to_is_none d query status text (asks.blocked status_is answer) h = no_device status ends.No status_is no_is_none h
answer_to_is_none d query status text (asks.treed status_is answer) h = no_device status ends.No status_is no_is_none h
answer_to_is_none d query status text (asks.more status_is answer) h = no_device status ends.More status_is more_is_none h

pub ask_is_none : (d : Description) (words : List (List ℕ)) (status : Status) (text : List ℕ) → IsAsked d words status text → IsOfDevice status → ⊥
ask_is_none d words status text (asks.refused refusal is status_is text_is) h = no_device status ends.Query status_is query_is_none h
ask_is_none d words status text (asks.answered query is answer) h = answer_to_is_none d query status text answer h
