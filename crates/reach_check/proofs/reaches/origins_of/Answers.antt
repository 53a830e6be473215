use Rattle.std.proofs.Common.{[], All, arith, subst, sym}
use Rattle.std.proofs.lemmas.Grind.{common_steps}
use Rattle.std.proofs.lemmas.List.Elements.{All-append, All-cons, All-nil}
use Rattle.header_boxes.specs.Boxes.{IsValid}
use Rattle.listing_reader.specs.declared.origins.Origin.{Origin}
use Rattle.reach_check.proofs.reaches.origins_of.Goals as goal

abbrev HasValidBoxes : Origin → Type 0
HasValidBoxes o = All IsValid o.boxes

pub loop-start-preserved : goal.loop-start-preserved
loop-start-preserved c = record {
  value = grind (arith, common_steps);
  valid =
      subst (All HasValidBoxes) (sym c.in_ok-push.ensures.items)
      (All-append HasValidBoxes _ _ c.loop-start.invariant.valid (All-cons HasValidBoxes _ [] c.in_ok-origin.ensures.valid (All-nil HasValidBoxes)));
}
