use Rattle.std.proofs.Common.{ℕ, subst}
use Rattle.box_images.specs.declared.fields.Side.TheVariants.{Q}
use Rattle.cut_laws.specs.Dividing.{Divide}
use Rattle.image_tests.proofs.Answering.{side_answers}
use Rattle.image_tests.proofs.EdgeCuts.{range_edges}
use Rattle.image_tests.proofs.rules.range_on.Goals as goal
use Rattle.image_tests.specs.Tests.{TellsSide, cuts_of_range}

pub returns : goal.returns
returns c =
    let i = c.args.i.now in
    let from = c.args.from in
    let to = c.args.to in
    let x = c.side_on.result in
    let told = subst (λ (k : ℕ). TellsSide i Q k c.from-2.result x) c.from.ensures c.side_on.ensures in
    let told = subst (λ (k : ℕ). TellsSide i Q from k x) c.from-2.ensures told in
    side_answers (Divide (cuts_of_range from to)) i Q from to x c.requires.valid (range_edges i from to c.requires.walk) told
