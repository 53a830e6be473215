use Rattle.vpc_base.proofs.Results.{if_ok}
use Rattle.changed_ends.proofs.StartLemmas.{starts_are_ends}
use Rattle.changed_ends.proofs.starts.starts_of.Goals as goal

pub returns-in-None-clause-described : goal.returns-in-None-clause-described
returns-in-None-clause-described c =
    if_ok _ _ c.all_starts.result (λ v. starts_are_ends c.args.before.now c.args.after.now c.args.src c.args.goal v.items) c.all_starts.ensures
