use Rattle.std.proofs.Common.{refl}
use Rattle.std.proofs.lemmas.List.Elements.{All-head}
use Rattle.std.proofs.lemmas.List.Sorted.{All-permutation}
use Rattle.vpc_base.specs.Cuts.{CutLists}
use Rattle.header_boxes.specs.Boxes.{IsValid, low_of}
use Rattle.header_boxes.specs.Cells.{IsAligned}
use Rattle.header_boxes.specs.declared.boxes.Box5.{Box5}
use Rattle.header_boxes.proofs.CellNumbers.{aligned_to_more}
use Rattle.ordered_cover.specs.Beside.{beside}
use Rattle.ordered_cover.proofs.LeftBeside.{rest_beside}
use Rattle.ordered_cover.proofs.search.ask.Goals as goal

pub probe-word-requires : goal.probe-word-requires
probe-word-requires g c = All-head IsValid _ _ (All-permutation IsValid _ _ c.in-Some.ensures.taken c.requires)

pub returns-clause-asked : goal.returns-clause-asked
returns-clause-asked g c =
    let whole : Box5 = c.in-Some.whole in
    let part : Box5 = c.probe-word.result.0 in
    let cuts : CutLists = g.P.Probe.cuts c.args.p.now in
    let within = c.probe-word.ensures.within in
    let aligned : IsAligned cuts part whole = aligned_to_more _ cuts part whole (g.met.P.Probe.near_among c.args.p.now (low_of whole)) c.probe-word.ensures.aligned in
    record {
      whole = whole;
      others = c.take_first.new.self;
      pieces = beside whole part;
      taken = c.in-Some.ensures.taken;
      least = c.in-Some.ensures.least;
      within = within;
      low = c.probe-word.ensures.low;
      aligned = aligned;
      means = c.probe-word.ensures.means;
      pieces_are = refl;
      rest = rest_beside cuts whole part within c.probe-word.ensures.low aligned;
      left = rw (c.as_slice.ensures.value, c.beside.ensures) at c.in_ok-extend.ensures;
    }
