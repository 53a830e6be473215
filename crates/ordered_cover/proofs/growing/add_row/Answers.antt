use Rattle.std.proofs.Common.{◌≡◌, ◌++◌, ◌∷◌, [], ap, ◌∙◌}
use Rattle.ordered_cover.specs.Growing.{apart, joined}
use Rattle.ordered_cover.specs.Joined.{GoesOn}
use Rattle.ordered_cover.specs.Kept.{IsOneWithLast}
use Rattle.ordered_cover.proofs.Lists.{without_last}
use Rattle.ordered_cover.proofs.growing.add_row.Goals as goal

pub returns-in_ok-push-in-Some : goal.returns-in_ok-push-in-Some
returns-in_ok-push-in-Some g c =
    let rows = c.args.rows.now.items in
    let one : IsOneWithLast GoesOn rows c.args.row c.in-Some.wider = rw c.as_slice.ensures.value at c.in-Some.ensures.some in
    let same : c.pop.new.self.items ≡ one.before = c.pop.ensures.rest ∙ without_last rows one.before c.args.rows.now.len one.last c.args.rows.now.ok.0 one.ended in
    joined c.in-Some.wider one (c.in_ok-push-in-Some.ensures.items ∙ ap (λ v. v ++ c.in-Some.wider ∷ []) same)

pub returns-in_ok-push-in-None : goal.returns-in_ok-push-in-None
returns-in_ok-push-in-None g c = apart (rw c.as_slice.ensures.value at c.in-None.ensures.none) c.in_ok-push-in-None.ensures.items
