use Rattle.std.proofs.Common.{◌∙◌, ap}
use Rattle.box_images.proofs.Reducing.{walk_within}
use Rattle.box_images.specs.Fields.{value_of}
use Rattle.security_groups.proofs.RunsOn.{any-allows, begin-after, few-begun, ports-above}
use Rattle.security_groups.proofs.port_tables.PortTable.any_allows_on.Goals as goal

pub before_next-requires-clause-within : goal.before_next-requires-clause-within
before_next-requires-clause-within c =
    few-begun c.args.self.now c.as_slice.result.now c.begun-begun.result.rules.now c.value-q.result.q (c.as_slice.ensures.value ∙ c.self.view_is) c.begun-begun.ensures.rules

pub before_next-requires-clause-later : goal.before_next-requires-clause-later
before_next-requires-clause-later c =
    begin-after c.args.self.now c.as_slice.result.now c.begun-begun.result.rules.now c.value-q.result.q _ (c.as_slice.ensures.value ∙ c.self.view_is)
    (ap (λ h. h.q) c.value-q.ensures.value ∙ ap (value_of c.args.i.now.q) c.low.ensures.value) c.begun-begun.ensures.rules

pub within-rest-requires-clause-within : goal.within-rest-requires-clause-within
within-rest-requires-clause-within c = c.before_next.ensures.inside.within

pub any_in_runs_on-requires-clause-walk : goal.any_in_runs_on-requires-clause-walk
any_in_runs_on-requires-clause-walk c = walk_within c.args.i.now c.within-rest.result c.requires.walk c.within-rest.ensures.kind

pub any_in_runs_on-requires-clause-above : goal.any_in_runs_on-requires-clause-above
any_in_runs_on-requires-clause-above c =
    let i = c.args.i.now in
    ports-above i c.within-rest.result c.before_next.result c.value-q.result.q
    (ap (λ h. h.q) c.value-q.ensures.value ∙ ap (value_of i.q) c.low.ensures.value)
    c.before_next.ensures.inside.within c.within-rest.ensures.image

pub returns : goal.returns
returns c =
    let lists = c.args.lists.now in
    let members = c.args.members.now in
    let dir = c.args.dir in
    any-allows lists members dir c.args.self.now c.as_slice.result.now c.begun-begun.result.rules.now c.value-q.result.q c.args.i.now c.within-rest.result c.before_next.result
    c.any_in_runs_on.result (c.as_slice.ensures.value ∙ c.self.view_is) c.begun-begun.ensures.rules c.before_next.ensures c.within-rest.ensures.image c.any_in_runs_on.ensures
