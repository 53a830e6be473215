use Rattle.std.proofs.lemmas.List.Sorted.{searched}
use Rattle.header_boxes.proofs.Pieces.{non_decreasing, is_ok_if_found}
use Rattle.header_boxes.proofs.division.is_cut.Goals as goal

pub returns : goal.returns
returns c =
    let cuts = c.args.cuts.now in
    let up = non_decreasing cuts c.requires in
    let found = searched cuts c.args.x c.binary_search.result c.binary_search.ensures.position (λ i j le at. up i j 0 le at) in
    rw c.is_ok.ensures.value (is_ok_if_found cuts c.args.x c.binary_search.result found)
