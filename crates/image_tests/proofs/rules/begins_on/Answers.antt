use Rattle.std.proofs.Common.{◌≡◌, ◌≤◌, ◌∙◌, ℕ, arith, refl, subst}
use Rattle.std.proofs.lemmas.Bool.Decides.{nat_tests}
use Rattle.vpc_base.specs.Cuts.{CutLists}
use Rattle.header_boxes.proofs.BoxLaws.{within_holds}
use Rattle.box_images.proofs.LawLemmas.{value_fits}
use Rattle.std.specs.Prelude.{nat_le}
use Rattle.box_images.specs.Bodies.{IsCut}
use Rattle.box_images.specs.Images.{header_at}
use Rattle.box_images.specs.declared.fields.Field.{Field}
use Rattle.box_images.specs.declared.fields.Field.TheVariants.{Fixed, Of}
use Rattle.box_images.specs.declared.fields.Side.TheVariants.{Q}
use Rattle.cut_laws.specs.Dividing.{Divide}
use Rattle.vpc_model.specs.Cuts.{edges}
use Rattle.vpc_model.specs.Filter.{is_between}
use Rattle.image_tests.proofs.Answering.{side_answers}
use Rattle.image_tests.proofs.EdgeCuts.{first_edge}
use Rattle.image_tests.proofs.Fields.{port_is_cut, q_field}
use Rattle.image_tests.proofs.rules.begins_on.Goals as goal
use Rattle.image_tests.specs.Tests.{TellsSide, cuts_of_range}

-- no port comes after the greatest one
past_all : (cuts : CutLists) (f : Field) → IsCut cuts 65535 f 65536
past_all cuts (Fixed n) = tt
past_all cuts (Of s add) = λ x e some le. absurd (omega arith)

same : (from q : ℕ) → q ≤ 65535 → is_between from 65535 q ≡ nat_le from q
same from q fits = grind (arith, nat_tests)

pub returns : goal.returns
returns c = λ to.
    let i = c.args.i.now in
    let from = c.args.from in
    let x = c.side_on.result in
    let enough = Divide (cuts_of_range from to) in
    let told = subst (λ (k : ℕ). TellsSide i Q k 65535 x) c.from.ensures c.side_on.ensures in
    let between = side_answers enough i Q from 65535 x c.requires.valid
    (λ cuts divide. (port_is_cut cuts (cuts_of_range from to) (edges from to) i.q from (q_field i c.requires.walk) refl refl (first_edge from to) divide, past_all cuts i.q)) told in
    record {
      told = λ h t. between.told h t
          ∙ same from (header_at i h).q (value_fits i h c.requires.valid (within_holds x.body i.part h between.body.within t) Q);
      body = between.body;
      aligned = between.aligned;
    }
