use Rattle.std.proofs.Common.{get_or}
use Rattle.std.proofs.lemmas.Option.{slice_get-get_or}
use Rattle.vpc_model.specs.declared.places.End.TheVariants as ends
use Rattle.reach_check.proofs.Starts.{asked_in-below, id_of-start}
use Rattle.reach_check.proofs.reaches.question.ReachQuestionQuestion.id.Goals as goal

pub origin_at-requires : goal.origin_at-requires
origin_at-requires g c =
    let q = c.args.self.now in
    let below = asked_in-below q.fabric.now q.links.now q.goal q.origins.now q.starts.now c.args.start c.requires.start in below.0

pub returns : goal.returns
returns g c =
    let q = c.args.self.now in
    let k = c.args.start in
    let below = asked_in-below q.fabric.now q.links.now q.goal q.origins.now q.starts.now k c.requires.start in
    id_of-start q.fabric.now q.links.now q.goal q.origins.now q.starts.now k c.origin_at.result.now (get_or q.starts.now k ends.Internet) c.origin_at.ensures.stands
    (slice_get-get_or q.starts.now k ends.Internet below.1) c.as_slice.result.now c.as_slice.ensures
