-- The chosen routes of all headers of an image.
use Rattle.std.proofs.Common.{◌∙◌, ℕ, Option}
use Rattle.header_boxes.proofs.Held.{holds_whole}
use Rattle.piece_table.specs.Pieces.{PieceLists, told_at}
use Rattle.box_images.proofs.LawLemmas.{images_fit}
use Rattle.box_images.specs.Answers.{Answers}
use Rattle.box_images.specs.Images.{IsValidImage, header_at}
use Rattle.box_images.specs.declared.images.Image.{Image}
use Rattle.box_images.specs.declared.images.Part.{Part}
use Rattle.cut_laws.specs.Dividing.{Divide, DivideFirsts}
use Rattle.image_tests.proofs.PieceLemmas.{firsts_divide}
use Rattle.vpc_laws.specs.Types.{Description, TgwTableNo}
use Rattle.vpc_model.specs.Cuts.{cuts_of_tgw_table}
use Rattle.vpc_model.specs.Lookup.{tgw_table_at}
use Rattle.vpc_model.specs.Transit.{chosen_tgw_route}
use Rattle.transit_gateway.specs.Index.{routes_of}
use Rattle.transit_gateway.specs.Rows.{IsRouteTable}

pub answers_by_route_table : (d : Description) (t : TgwTableNo) (p : PieceLists) (i : Image) (x : Part (Option ℕ)) → IsRouteTable (routes_of d t) p
    → IsValidImage i → Answers (DivideFirsts p.firsts) (λ h. told_at p (header_at i h).dst) i.part x
    → Answers (Divide (cuts_of_tgw_table (tgw_table_at d t))) (λ h. chosen_tgw_route (routes_of d t) (header_at i h).dst) i.part x
answers_by_route_table d t p i x is valid k = record {
  told = λ h held. let fits = images_fit i h valid (holds_whole h x.body i.part k.body.within held) in
      k.told h held ∙ is.chosen (header_at i h).dst fits.dst;
  body = k.body;
  aligned = λ cuts divide. k.aligned cuts (firsts_divide p.firsts (cuts_of_tgw_table (tgw_table_at d t)) cuts is.firsts divide);
}
