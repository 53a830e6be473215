-- What rules of groups allow, for all headers of an image.
use Rattle.std.proofs.Common.{Bool, Option, ap, is_some, true, ◌<◌, ◌^◌, ◌∙◌, ◌≡◌}
use Rattle.vpc_base.specs.Header.{IsHeader}
use Rattle.vpc_base.specs.declared.headers.Dir.TheVariants as dirs
use Rattle.header_boxes.proofs.Lemmas.{aligned_to_more, holds_whole}
use Rattle.box_images.proofs.LawLemmas.{images_fit}
use Rattle.box_images.specs.Terms.{Answers, IsValidImage, header_at}
use Rattle.image_tests.specs.Types.{Image, Part}
use Rattle.security_groups.specs.Terms.{DivideAt, GroupLists, HasRuleCuts, HasRulesOf, allowed}
use Rattle.vpc_laws.specs.Types.{Description, Dir, EniNo, Header, RuleRef}
use Rattle.vpc_model.specs.Terms.{cuts_at, far_address, first_rule, interface_at, is_eni}
use Rattle.vpc_model.specs.declared.places.Place.TheVariants as places
use Rattle.box_steps.specs.Cuts.{AtPlace}

far-fits : (dir : Dir) (h : Header) → IsHeader h → far_address dir h < 2 ^ 32
far-fits dirs.Inward h fits = fits.src
far-fits dirs.Outward h fits = fits.dst

-- as the index tells it
pub answers_of_rules : (d : Description) (i : EniNo) (dir : Dir) (index : GroupLists) (image : Image) (x : Part Bool) → is_eni d i ≡ true → HasRulesOf d index → HasRuleCuts d index → IsValidImage image
    → Answers (DivideAt index i dir) (λ h. is_some (allowed index i dir (header_at image h))) image.part x
    → Answers (AtPlace d (places.OutOf i)) (λ h. is_some (first_rule d (interface_at d i) dir (header_at image h))) image.part x
answers_of_rules d i dir index image x lies rules cut valid k = record {
  told = λ h held. let fits = images_fit image h valid (holds_whole h x.body image.part k.body.within held) in
      k.told h held ∙ ap (λ (o : Option RuleRef). is_some o) (rules.rules i dir (header_at image h) lies (far-fits dir (header_at image h) fits));
  body = k.body;
  aligned = λ cuts at. aligned_to_more (cuts_at d (places.OutOf i)) cuts x.body image.part at (k.aligned (cuts_at d (places.OutOf i)) (cut i dir lies));
}
