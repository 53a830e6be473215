use Rattle.std.proofs.Common.{subst}
use Rattle.box_images.specs.Answers.{Answers}
use Rattle.box_images.specs.Images.{header_at}
use Rattle.cut_laws.specs.Dividing.{DivideFirsts}
use Rattle.piece_table.specs.Pieces.{PieceLists, told_at}
use Rattle.route_tables.proofs.index.RouteIndex.choose_on.Goals as goal

pub returns-clause-answer : goal.returns-clause-answer
returns-clause-answer g c =
    let i = c.args.i.now in
    subst (λ (p : PieceLists). Answers (DivideFirsts p.firsts) (λ h. told_at p (header_at i h).dst) i.part c.piece_on.result) c.self.view_is c.piece_on.ensures.answer
