use Rattle.std.proofs.Common.{subst}
use Rattle.box_walk.proofs.TellingReplies.{reply_arrives}
use Rattle.box_walk.specs.Asking.{homes_by}
use Rattle.box_walk.specs.Walks.{IsWalkOn}
use Rattle.box_walk.specs.declared.walks.Ending.{Ending}
use Rattle.vpc_base.specs.declared.headers.Label.TheVariants as labels
use Rattle.vpc_model.specs.Appliances.{appliances_of}
use Rattle.vpc_model.specs.Lookup.{addresses_in}
use Rattle.box_walk.proofs.verdict.word_of_answer.Goals as goal

pub returns-in-Arrived : goal.returns-in-Arrived
returns-in-Arrived g c =
    reply_arrives c.args.f.now (appliances_of c.args.f.now) (homes_by c.args.links.now c.args.start) c.in-Arrived.end c.args.m.now c.walk_on.new.m c.word_of_return.new.m c.word_of_return.result
    (subst (λ (e : Ending). IsWalkOn c.args.f.now (appliances_of c.args.f.now) labels.Answer c.args.m.now c.walk_on.new.m e) c.in-Arrived.is c.walk_on.ensures)
    (c.word_of_return.ensures (addresses_in c.args.f.now) c.walk_on.ensures.moment.kind)
