-- The boxes of a start have one p and one q, so none of its rows could be one with the next.
use Rattle.std.proofs.Common.{◌≡◌, All, List, None, Option, Some, refl, ℕ}
use Rattle.std.proofs.lemmas.List.Elements.{All-map, All-nil}
use Rattle.box_gather.proofs.Parted.{joined_in_any}
use Rattle.header_boxes.specs.declared.boxes.Box5.{Box5}
use Rattle.listing_text.specs.Sides.{sides_between}
use Rattle.query_words.specs.declared.reaches.ReachPairs.{ReachPairs}
use Rattle.end_reach.specs.Asked.{boxes_at, boxes_by, sources_of}
use Rattle.end_reach.specs.Told.{RowsAreJoined}

alike : (pairs : ReachPairs) (targets : List (ℕ × ℕ)) (source : Option (ℕ × ℕ)) → All (λ (b : Box5). (b.p ≡ pairs.p) × (b.q ≡ pairs.q)) (boxes_by pairs targets source)
alike pairs targets None = All-nil (λ (b : Box5). (b.p ≡ pairs.p) × (b.q ≡ pairs.q))
alike pairs targets (Some src) = All-map (λ (b : Box5). (b.p ≡ pairs.p) × (b.q ≡ pairs.q)) (sides_between pairs src) targets (λ k d lt. (refl, refl))

pub rows_are_joined : RowsAreJoined
rows_are_joined d query targets start rows are =
    joined_in_any query.pairs.p query.pairs.q (boxes_at d query targets start) (alike query.pairs targets (sources_of d query.pairs.src start)) are
