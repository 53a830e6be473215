-- Which routes tables choose for all headers of a body.
use Rattle.std.proofs.Common.{◌≡◌, ◌∙◌, Option, Some, subst, ℕ}
use Rattle.vpc_base.specs.Cuts.{CutLists}
use Rattle.header_boxes.proofs.Held.{holds_whole}
use Rattle.box_images.proofs.LawLemmas.{images_fit}
use Rattle.box_images.specs.Terms.{Answers, IsValidImage, header_at}
use Rattle.image_tests.specs.Types.{Image, Part}
use Rattle.cut_laws.proofs.Lemmas.{among_through, places_have_their_cuts}
use Rattle.cut_laws.specs.Dividing.{Divide, DivideFirsts}
use Rattle.fabric.specs.Indexes.{IsRouteIndex}
use Rattle.image_tests.proofs.Lemmas.{answers_more, firsts_divide, firsts_on_sides}
use Rattle.piece_table.specs.Pieces.{PieceLists, told_at}
use Rattle.transit_gateway.specs.Index.{routes_of}
use Rattle.vpc_laws.specs.Types.{AttNo, Came, Description, EnterBy, FarKind, FarNo, Place, SubnetNo, TableNo, TgwTableNo, VpcNo}
use Rattle.vpc_model.specs.Cuts.{cuts_at_table, cuts_from_far}
use Rattle.vpc_model.specs.Far.{table_of_attachment_id}
use Rattle.vpc_model.specs.Firewalls.{entrance_table}
use Rattle.vpc_model.specs.Lookup.{far_at}
use Rattle.vpc_model.specs.Terms.{asked_at, chosen_route, chosen_tgw_route, cuts_at, cuts_at_tgw_table, cuts_of_table, cuts_of_tgw_table, on_sides, table_at, table_of, table_of_attachment, tgw_table_at}
use Rattle.vpc_model.specs.declared.places.Place.TheVariants as places
use Rattle.box_steps.specs.Cuts.{AtPlace}
use Rattle.box_steps.specs.Outside.{IsAttachment}

-- the rows that the place asks divide enough
asked-divide : (d : Description) (p : Place) (cuts : CutLists) → AtPlace d p cuts → Divide (asked_at d p) cuts
asked-divide d p cuts at = among_through (on_sides (asked_at d p)) (cuts_at d p) cuts (places_have_their_cuts d p).asked at

-- the route that a table chooses, by its pieces, at a place that asks its routes
answers_of_routes : (d : Description) (place : Place) (t : TableNo) (p : PieceLists) (i : Image) (x : Part (Option ℕ)) → ((cuts : CutLists) → AtPlace d place cuts → Divide (cuts_of_table d (table_at d t)) cuts)
    → IsRouteIndex d (table_at d t) p → IsValidImage i → Answers (DivideFirsts p.firsts) (λ h. told_at p (header_at i h).dst) i.part x
    → Answers (AtPlace d place) (λ h. chosen_route d (table_at d t).routes (header_at i h).dst) i.part x
answers_of_routes d place t p i x divide is valid k = record {
  told = λ h held. let fits = images_fit i h valid (holds_whole h x.body i.part k.body.within held) in
      k.told h held ∙ is.chosen (header_at i h).dst fits.dst;
  body = k.body;
  aligned = λ cuts at. k.aligned cuts (firsts_divide p.firsts (cuts_of_table d (table_at d t)) cuts
      (firsts_on_sides p (cuts_of_table d (table_at d t)) is.pieces is.firsts) (divide cuts at));
}

-- the table of a subnet
pub answers_of_table : (d : Description) (s : SubnetNo) (came : Came) (p : PieceLists) (i : Image) (x : Part (Option ℕ)) → IsRouteIndex d (table_at d (table_of d s)) p
    → IsValidImage i → Answers (DivideFirsts p.firsts) (λ h. told_at p (header_at i h).dst) i.part x
    → Answers (AtPlace d (places.Router s came)) (λ h. chosen_route d (table_at d (table_of d s)).routes (header_at i h).dst) i.part x
answers_of_table d s came p i x = answers_of_routes d (places.Router s came) (table_of d s) p i x (asked-divide d (places.Router s came))

-- the table of the gateway by which packets enter a VPC
pub answers_of_entrance : (d : Description) (v : VpcNo) (by : EnterBy) (t : TableNo) (p : PieceLists) (i : Image) (x : Part (Option ℕ)) → entrance_table d v by ≡ Some t
    → IsRouteIndex d (table_at d t) p → IsValidImage i → Answers (DivideFirsts p.firsts) (λ h. told_at p (header_at i h).dst) i.part x
    → Answers (AtPlace d (places.Enter v by)) (λ h. chosen_route d (table_at d t).routes (header_at i h).dst) i.part x
answers_of_entrance d v by t p i x own =
    answers_of_routes d (places.Enter v by) t p i x
    (λ cuts at. subst (λ (o : Option TableNo). Divide (cuts_at_table d o) cuts) own (asked-divide d (places.Enter v by) cuts at))

-- the route that a transit gateway's table chooses, at a place that asks its routes
answers_of_tgw_routes : (d : Description) (place : Place) (t : TgwTableNo) (i : Image) (x : Part (Option ℕ)) → ((cuts : CutLists) → AtPlace d place cuts → Divide (cuts_at_tgw_table d (Some t)) cuts)
    → Answers (Divide (cuts_of_tgw_table (tgw_table_at d t))) (λ h. chosen_tgw_route (routes_of d t) (header_at i h).dst) i.part x
    → Answers (AtPlace d place) (λ h. chosen_tgw_route (routes_of d t) (header_at i h).dst) i.part x
answers_of_tgw_routes d place t i x divide k =
    answers_more (Divide (cuts_of_tgw_table (tgw_table_at d t))) (AtPlace d place) (λ h. chosen_tgw_route (routes_of d t) (header_at i h).dst) i.part x divide k

-- the table of an attachment
pub answers_of_tgw_table : (d : Description) (a : AttNo) (entered : SubnetNo) (t : TgwTableNo) (i : Image) (x : Part (Option ℕ)) → table_of_attachment d a ≡ Some t
    → Answers (Divide (cuts_of_tgw_table (tgw_table_at d t))) (λ h. chosen_tgw_route (routes_of d t) (header_at i h).dst) i.part x
    → Answers (AtPlace d (places.Tgw a entered)) (λ h. chosen_tgw_route (routes_of d t) (header_at i h).dst) i.part x
answers_of_tgw_table d a entered t i x own =
    answers_of_tgw_routes d (places.Tgw a entered) t i x
    (λ cuts at. subst (λ (o : Option TgwTableNo). Divide (cuts_at_tgw_table d o) cuts) own (asked-divide d (places.Tgw a entered) cuts at))

-- the table of the attachment that leads to a network that isn't described
pub answers_of_far_table : (d : Description) (k : FarNo) (t : TgwTableNo) (i : Image) (x : Part (Option ℕ)) → IsAttachment (far_at d k).kind → table_of_attachment_id d (far_at d k).id ≡ Some t
    → Answers (Divide (cuts_of_tgw_table (tgw_table_at d t))) (λ h. chosen_tgw_route (routes_of d t) (header_at i h).dst) i.part x
    → Answers (AtPlace d (places.FarIn k)) (λ h. chosen_tgw_route (routes_of d t) (header_at i h).dst) i.part x
answers_of_far_table d k t i x (vpc, is) own =
    answers_of_tgw_routes d (places.FarIn k) t i x
    (λ cuts at.
    subst (λ (o : Option TgwTableNo). Divide (cuts_at_tgw_table d o) cuts) own
    (subst (λ (kind : FarKind). Divide (cuts_from_far d (record { id = (far_at d k).id; kind = kind })) cuts) is (asked-divide d (places.FarIn k) cuts at)))
