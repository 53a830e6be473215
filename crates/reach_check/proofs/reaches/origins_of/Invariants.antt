use Rattle.std.proofs.Common.{◌≡◌, map, take}
use Rattle.std.specs.Prelude.{All}
use Rattle.header_boxes.specs.Boxes.{IsValid}
use Rattle.reach_check.specs.Questions.{origin_of}
use Rattle.reach_check.proofs.reaches.origins_of.Given as goal

abbrev pub invariant-loop-start : goal.invariant-loop-start
invariant-loop-start l = record {
  value : l.origins.items ≡ map (origin_of l.n l.query l.targets) (take l.start-index l.starts);
  valid : All (λ o. All IsValid o.boxes) l.origins.items;
}
