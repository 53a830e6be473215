-- What firewalls behind endpoints answer for all headers of a body.
use Rattle.std.proofs.Common.{◌≡◌, ◌&&◌, [], Bool, List, None, Option, Some, bytes_eq, refl, ℕ}
use Rattle.vpc_base.proofs.Members.{find-member}
use Rattle.vpc_base.specs.Cuts.{no_cuts}
use Rattle.box_images.specs.Answers.{Answers}
use Rattle.box_images.specs.Images.{header_at}
use Rattle.box_images.specs.declared.images.Image.{Image}
use Rattle.box_images.specs.declared.images.Part.{Part}
use Rattle.cut_laws.proofs.Among.{among_through, none_among, on_sides_among}
use Rattle.cut_laws.proofs.Rows.{appliances_are_standing}
use Rattle.cut_laws.specs.Dividing.{Divide}
use Rattle.image_tests.proofs.Answering.{answers_more}
use Rattle.vpc_laws.specs.Types.{Appliance, Description, FirewallNo}
use Rattle.vpc_model.specs.Appliances.{boxes_of_kind, passes}
use Rattle.vpc_model.specs.Cuts.{all_cuts, cuts_of_box, on_sides, standing_cuts, unbounded_standing}
use Rattle.vpc_model.specs.Firewalls.{appliance_behind, boxes_behind, is_behind_endpoint}
use Rattle.vpc_model.specs.Lookup.{firewall_at}
use Rattle.box_steps.specs.Cuts.{Standing}

-- the boxes behind an endpoint cut by standing cuts
boxes-standing : (d : Description) (e : FirewallNo) → Divide (all_cuts cuts_of_box (boxes_behind d e)) (standing_cuts d)
boxes-standing d e = of (appliance_behind d id) refl
  where
    id : List ℕ
    id = let row = firewall_at d e in row.id

    of : (o : Option Appliance) → appliance_behind d id ≡ o → Divide (all_cuts cuts_of_box (elim o [ None ↦ [] | Some a ↦ boxes_of_kind a.kind ])) (standing_cuts d)
    of None is = on_sides_among no_cuts (unbounded_standing d) (none_among (unbounded_standing d))
    of (Some a) is = appliances_are_standing d a (find-member (λ x. is_behind_endpoint x.at && bytes_eq x.id id) d.appliances a is).1

-- whether the firewall sends packets on
pub answers_behind : (d : Description) (e : FirewallNo) (i : Image) (x : Part Bool) → Answers (Divide (all_cuts cuts_of_box (boxes_behind d e))) (λ h. passes (boxes_behind d e) (header_at i h)) i.part x
    → Answers (Standing d) (λ h. passes (boxes_behind d e) (header_at i h)) i.part x
answers_behind d e i x k =
    answers_more (Divide (all_cuts cuts_of_box (boxes_behind d e))) (Standing d) (λ h. passes (boxes_behind d e) (header_at i h)) i.part x
    (λ cuts standing. among_through (on_sides (all_cuts cuts_of_box (boxes_behind d e))) (standing_cuts d) cuts (boxes-standing d e) standing) k
