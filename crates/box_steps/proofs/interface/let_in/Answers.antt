use Rattle.std.proofs.Common.{refl}
use Rattle.header_boxes.proofs.Held.{within_itself}
use Rattle.vpc_model.specs.Appliances.{appliances_of}
use Rattle.vpc_model.specs.declared.places.End.TheVariants as ends
use Rattle.box_steps.proofs.LetInSteps.{lets_in}
use Rattle.box_steps.proofs.interface.let_in.Goals as goal

pub narrow-requires-clause-within : goal.narrow-requires-clause-within
narrow-requires-clause-within c = within_itself c.args.m.now.header.part c.requires.moment.valid.part

pub returns : goal.returns
returns c =
    lets_in c.args.f.now (appliances_of c.args.f.now) c.args.i c.args.m.now c.narrow.new.self c.pass.new.m _ (ends.Interface c.args.i) c.pass.result
    c.requires.place c.requires.moment c.requires.room refl refl c.narrow.ensures c.pass.ensures
