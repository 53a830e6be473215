-- The boxes of a start have one p and one q, so none of its rows could be one with the next.
use Rattle.std.proofs.Common.{◌≡◌, ◌∷◌, [], All, List, map, refl, ℕ}
use Rattle.std.proofs.lemmas.List.Elements.{All-append, All-map, All-nil}
use Rattle.box_gather.proofs.Parted.{joined_in_any}
use Rattle.header_boxes.specs.declared.boxes.Box5.{Box5}
use Rattle.listing_text.specs.Sides.{sides_between}
use Rattle.query_words.specs.declared.reaches.ReachPairs.{ReachPairs}
use Rattle.changed_ends.specs.Asked.{boxes_at, boxes_between, sources_of}
use Rattle.change_report.specs.Told.{RowsAreJoined}

alike : (pairs : ReachPairs) (targets sources : List (ℕ × ℕ)) → All (λ (b : Box5). (b.p ≡ pairs.p) × (b.q ≡ pairs.q)) (boxes_between pairs targets sources)
alike pairs targets [] = All-nil (λ (b : Box5). (b.p ≡ pairs.p) × (b.q ≡ pairs.q))
alike pairs targets (src ∷ sources) =
    All-append (λ (b : Box5). (b.p ≡ pairs.p) × (b.q ≡ pairs.q)) (map (sides_between pairs src) targets) (boxes_between pairs targets sources)
    (All-map (λ (b : Box5). (b.p ≡ pairs.p) × (b.q ≡ pairs.q)) (sides_between pairs src) targets (λ k d lt. (refl, refl)))
    (alike pairs targets sources)

pub rows_are_joined : RowsAreJoined
rows_are_joined c targets start rows are =
    joined_in_any c.query.pairs.p c.query.pairs.q (boxes_at c targets start) (alike c.query.pairs targets (sources_of c.before c.after c.query.pairs.src start)) are
