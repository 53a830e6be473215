use Rattle.std.proofs.Common.{◌++◌, ◌∷◌, [], ap, arith, refl, sum_by, sym, ◌∙◌}
use Rattle.std.proofs.lemmas.Bool.{false≢true}
use Rattle.header_boxes.specs.Boxes.{volume_of}
use Rattle.ordered_cover.specs.Beside.{beside}
use Rattle.ordered_cover.proofs.Growth.{begun_as, begun_at_start, begun_beside, begun_by_last, found_within, some_begins, tree_at_end}
use Rattle.ordered_cover.specs.declared.trees.Node.TheVariants.{Leaf}
use Rattle.ordered_cover.proofs.LeftBeside.{volume-beside}
use Rattle.ordered_cover.proofs.Lists.{none_at_all}
use Rattle.ordered_cover.proofs.trees.tree_of.Goals as goal

pub told-init : goal.told-init
told-init g c =
    begun_as c.new-nodes.ensures.items (c.in_ok-push.ensures.items ∙ ap (λ v. v ++ c.args.sides ∷ []) c.new-boxes.ensures.items) (begun_at_start c.requires)

pub row_at-row-requires-clause-ascending : goal.row_at-row-requires-clause-ascending
row_at-row-requires-clause-ascending g c = c.requires.ascending

pub row_at-row-requires-clause-some : goal.row_at-row-requires-clause-some
row_at-row-requires-clause-some g c = some_begins (begun_by_last c.pop.new.self.items c.in-Some.ensures.items c.told.invariant)

pub told-smaller : goal.told-smaller
told-smaller g c =
    let popped = c.pop.new.self.items in
    let at = begun_by_last popped c.in-Some.ensures.items c.told.invariant in
    let found = found_within at c.row_at-row.result c.row_at-row.ensures in
    let less = volume-beside popped c.in-Some.b c.row_at-row.result.part found.0 found.1 in
    let old = ap (sum_by volume_of) c.in-Some.ensures.items in
    let new = ap (sum_by volume_of) (c.in_ok-extend_from_slice.ensures.items ∙ ap (λ v. popped ++ v) (c.as_slice.ensures.value ∙ c.beside.ensures)) in
    omega (arith, less, old, new)

pub told-preserved : goal.told-preserved
told-preserved g c =
    let popped = c.pop.new.self.items in
    let row = c.row_at-row.result in
    let at = begun_by_last popped c.in-Some.ensures.items c.told.invariant in
    begun_beside popped row c.row_at-row.ensures
    (c.in_ok-push-2.ensures.items ∙ ap (λ v. v ++ Leaf row.word ∷ []) c.in_ok-put_cuts.ensures)
    (c.in_ok-extend_from_slice.ensures.items ∙ ap (λ v. popped ++ v) (c.as_slice.ensures.value ∙ c.beside.ensures))
    at

pub returns : goal.returns
returns g c = tree_at_end (begun_as refl (sym (none_at_all c.told.boxes.items c.told.boxes.len c.told.boxes.ok.0 (λ lt. false≢true (c.in_default.ensures.variant.1 lt)))) c.told.invariant)
