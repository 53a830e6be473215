use Rattle.std.proofs.Common.{◌≤◌, arith}
use Rattle.box_images.proofs.ImageLemmas.{valid_with_src}
use Rattle.box_images.proofs.images.Image.set_src.Goals as goal

pub returns-clause-valid : goal.returns-clause-valid
returns-clause-valid c = let le : c.args.a ≤ 4294967295 = omega arith in valid_with_src c.args.self.now c.args.a le c.requires
