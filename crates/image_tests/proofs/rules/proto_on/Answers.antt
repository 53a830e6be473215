use Rattle.std.proofs.Common.{◌==◌, ℕ, Option, Some, subst, sym}
use Rattle.box_images.specs.Answers.{Answers}
use Rattle.box_images.specs.Images.{header_at}
use Rattle.box_images.specs.declared.fields.Side.TheVariants.{Proto}
use Rattle.cut_laws.specs.Dividing.{Divide}
use Rattle.vpc_model.specs.Filter.{is_between, matches_proto}
use Rattle.image_tests.proofs.Answering.{answers_same, between_itself, side_answers}
use Rattle.image_tests.proofs.EdgeCuts.{proto_edges}
use Rattle.image_tests.proofs.rules.proto_on.Goals as goal
use Rattle.image_tests.specs.Tests.{TellsSide, cuts_of_proto}

pub returns-in-Some : goal.returns-in-Some
returns-in-Some c =
    let i = c.args.i.now in
    let n = c.in-Some.n in
    let x = c.side_on.result in
    let told = subst (λ (k : ℕ). TellsSide i Proto k c.from-in-Some.result x) c.from.ensures c.side_on.ensures in
    let told = subst (λ (k : ℕ). TellsSide i Proto n k x) c.from-in-Some.ensures told in
    subst (λ (proto : Option ℕ). Answers (Divide (cuts_of_proto proto)) (λ h. matches_proto proto (header_at i h).proto) i.part x) (sym c.in-Some.is)
    (answers_same (Divide (cuts_of_proto (Some n))) (λ h. is_between n n (header_at i h).proto) (λ h. n == (header_at i h).proto) i.part x
    (λ h. between_itself n (header_at i h).proto)
    (side_answers (Divide (cuts_of_proto (Some n))) i Proto n n x c.requires.valid (proto_edges i n c.requires.walk) told))
