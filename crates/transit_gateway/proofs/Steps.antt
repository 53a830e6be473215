-- Loops that add the row of one more route, or the pieces of one more table.
use Rattle.std.proofs.Common.{◌≡◌, ℕ, ◌<◌, ◌≤◌, ◌+◌, ◌⊎◌, List, [], ◌∷◌, ◌++◌, ap, append_assoc, arith, drop, get_or, inl, inr, length, subst, sym, ◌∙◌}
use Rattle.std.proofs.lemmas.Bool.{cases_lt}
use Rattle.std.proofs.lemmas.List.{append-nil, drop_all, drop_more, get_or_append_left, get_or_default, get_or_push, length_push}
use Rattle.piece_table.specs.Pieces.{PieceLists}
use Rattle.block_pieces.specs.declared.rows.BlockRow.{BlockRow}
use Rattle.vpc_laws.specs.Types.{TgwRoute, TgwTable}
use Rattle.transit_gateway.specs.Index.{AreRouteTables}
use Rattle.transit_gateway.specs.Rows.{IsRouteTable, row_of, rows_of}

pub rows_of-step : (routes : List TgwRoute) (i : ℕ) (r : TgwRoute) (old new whole : List BlockRow) → i < length routes → r ≡ get_or routes i r → old ++ rows_of i (drop i routes) ≡ whole → new ≡ old ++ row_of i r ∷ [] → new ++ rows_of (i + 1) (drop (i + 1) routes) ≡ whole
rows_of-step routes i r old new whole within is so_far added =
    let rest = rows_of (i + 1) (drop (i + 1) routes) in
    ap (λ l. l ++ rest) added
    ∙ (append_assoc old (row_of i r ∷ []) rest
    ∙ (ap (λ l. old ++ l) (ap (λ x. row_of i x ∷ rest) is ∙ ap (rows_of i) (sym (drop_more routes i r within))) ∙ so_far))

pub rows_of-end : (routes : List TgwRoute) (i : ℕ) (rows whole : List BlockRow) → length routes ≤ i → rows ++ rows_of i (drop i routes) ≡ whole → rows ≡ whole
rows_of-end routes i rows whole past so_far = sym (append-nil rows) ∙ (ap (λ l. rows ++ rows_of i l) (sym (drop_all i routes past)) ∙ so_far)

-- the pieces of the first tables
pub record AreFirst (tables : List TgwTable) (i : ℕ) (pieces : List PieceLists) : Type 0 where
  pub all : length pieces ≡ i
  pub each : (k : ℕ) (t : TgwTable) (p : PieceLists) → k < i → IsRouteTable (get_or tables k t).routes (get_or pieces k p)

pub first-more : (tables : List TgwTable) (i : ℕ) (t : TgwTable) (p : PieceLists) (old new : List PieceLists) → i < length tables → t ≡ get_or tables i t → AreFirst tables i old → IsRouteTable t.routes p → new ≡ old ++ p ∷ [] → AreFirst tables (i + 1) new
first-more tables i t p old new within is first one added =
    record {
      all = ap length added ∙ (length_push old p ∙ ap (λ n. n + 1) first.all);
      each = λ k u q lt. subst (λ l. IsRouteTable (get_or tables k u).routes (get_or l k q)) (sym added) (at k u q (cases_lt k i) lt);
    }
  where
    at : (k : ℕ) (u : TgwTable) (q : PieceLists) → (k < i) ⊎ (i ≤ k) → k < i + 1 → IsRouteTable (get_or tables k u).routes (get_or (old ++ p ∷ []) k q)
    at k u q (inl before) lt = subst (IsRouteTable (get_or tables k u).routes) (sym (get_or_append_left old (p ∷ []) q k (omega (arith, first.all)))) (first.each k u q before)
    at k u q (inr here) lt =
        let same : k ≡ i = omega arith in
        let last : get_or (old ++ p ∷ []) k q ≡ p = get_or_push old p q k (first.all ∙ sym same) in
        let table : t ≡ get_or tables k u = is ∙ (get_or_default tables i t u within ∙ ap (λ n. get_or tables n u) (sym same)) in
        subst (IsRouteTable (get_or tables k u).routes) (sym last) (subst (λ (x : TgwTable). IsRouteTable x.routes p) table one)

pub first-all : (tables : List TgwTable) (i : ℕ) (pieces : List PieceLists) → length tables ≤ i → i ≤ length tables → AreFirst tables i pieces → AreRouteTables tables pieces
first-all tables i pieces past upto first = record { all = omega (arith, first.all); each = λ k t p within. first.each k t p (omega arith) }
