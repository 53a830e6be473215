-- The boxes of a description's appliances are boxes of its rows.
use Rattle.std.proofs.Common.{◌≡◌, None, Option, Some, filter, refl, subst, sym, List}
use Rattle.std.specs.List.{slice_get}
use Rattle.std.specs.Prelude.{option_map}
use Rattle.std.proofs.lemmas.Option.{get_or_from_slice_get, slice_get-map, slice_get_within}
use Rattle.vpc_base.specs.Cuts.{no_cuts}
use Rattle.vpc_base.proofs.Members.{filter-member}
use Rattle.header_boxes.specs.declared.boxes.Box5.{Box5}
use Rattle.vpc_laws.specs.Types.{Appliance, EniNo}
use Rattle.vpc_model.specs.Appliances.{boxes_of_kind, is_at_interface}
use Rattle.vpc_model.specs.Cuts.{all_cuts, cuts_of_box, standing_cuts, unbounded_standing}
use Rattle.vpc_model.specs.Lookup.{eni_no}
use Rattle.cut_laws.proofs.Among.{none_among, on_sides_among}
use Rattle.cut_laws.proofs.Rows.{appliances_are_standing}
use Rattle.cut_laws.specs.Dividing.{Divide}
use Rattle.appliances.specs.Passing.{BoxesAreStanding, boxes_of}

pub boxes_are_standing : BoxesAreStanding
boxes_are_standing d k =
    subst (λ (row : Option (EniNo × List Box5)). Divide (all_cuts cuts_of_box (boxes_of row)) (standing_cuts d)) (sym (slice_get-map passing forwarding k))
    (of (slice_get forwarding k) refl)
  where
    forwarding : List Appliance
    forwarding = filter (λ (a : Appliance). is_at_interface a.at) d.appliances

    passing : Appliance → EniNo × List Box5
    passing a = (eni_no d a.id, boxes_of_kind a.kind)

    of : (o : Option Appliance) → slice_get forwarding k ≡ o → Divide (all_cuts cuts_of_box (boxes_of (option_map passing o))) (standing_cuts d)
    of None e = on_sides_among no_cuts (unbounded_standing d) (none_among (unbounded_standing d))
    of (Some a) e =
        let listed = filter-member (λ (x : Appliance). is_at_interface x.at) d.appliances a (k, slice_get_within forwarding k a e, get_or_from_slice_get forwarding k a a e) in
        appliances_are_standing d a listed.1
