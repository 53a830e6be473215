use Rattle.std.proofs.Common.{arith}
use Rattle.box_images.specs.declared.fields.Side.TheVariants.{Proto, Src, Dst, P, Q}
use Rattle.box_images.proofs.LawLemmas.{images_fit, value_fits}
use Rattle.box_images.proofs.images.Image.value.Goals as goal

pub value-requires : goal.value-requires
value-requires c = let fits = value_fits c.args.self.now c.args.h.now c.requires.valid c.requires.inside Proto in omega arith

pub overflow_cast-result : goal.overflow_cast-result
overflow_cast-result c = let fits = value_fits c.args.self.now c.args.h.now c.requires.valid c.requires.inside Proto in omega arith

pub value-requires-2 : goal.value-requires-2
value-requires-2 c = let fits = value_fits c.args.self.now c.args.h.now c.requires.valid c.requires.inside Src in omega arith

pub value-requires-3 : goal.value-requires-3
value-requires-3 c = let fits = value_fits c.args.self.now c.args.h.now c.requires.valid c.requires.inside Dst in omega arith

pub value-requires-4 : goal.value-requires-4
value-requires-4 c = let fits = value_fits c.args.self.now c.args.h.now c.requires.valid c.requires.inside P in omega arith

pub overflow_cast-result-2 : goal.overflow_cast-result-2
overflow_cast-result-2 c = let fits = value_fits c.args.self.now c.args.h.now c.requires.valid c.requires.inside P in omega arith

pub value-requires-5 : goal.value-requires-5
value-requires-5 c = let fits = value_fits c.args.self.now c.args.h.now c.requires.valid c.requires.inside Q in omega arith

pub overflow_cast-result-3 : goal.overflow_cast-result-3
overflow_cast-result-3 c = let fits = value_fits c.args.self.now c.args.h.now c.requires.valid c.requires.inside Q in omega arith

pub returns-clause-fits : goal.returns-clause-fits
returns-clause-fits c = let fits = images_fit c.args.self.now c.args.h.now c.requires.valid c.requires.inside in grind arith
