use Rattle.std.proofs.Common.{◌∙◌, Option, ap, arith, sym}
use Rattle.vpc_laws.proofs.Accepting.{accepted_is_faultless}
use Rattle.vpc_laws.proofs.Hosting.{hosts_are_assigned_or_delegated}
use Rattle.vpc_laws.specs.Hosts.{delegated_host}
use Rattle.vpc_model.specs.Choice.{or_else}
use Rattle.vpc_model.specs.declared.numbers.EniNo.{EniNo}
use Rattle.reference_check.proofs.hosts.Hosts.host_of.Goals as goal

pub assigned-requires-clause-differ : goal.assigned-requires-clause-differ
assigned-requires-clause-differ c = (accepted_is_faultless c.args.d.now c.requires.accepted).ids

pub delegated-requires-clause-differ : goal.delegated-requires-clause-differ
delegated-requires-clause-differ c = (accepted_is_faultless c.args.d.now c.requires.accepted).ids

pub returns-in-Some : goal.returns-in-Some
returns-in-Some c =
    let d = c.args.d.now in
    ap (λ (o : Option EniNo). or_else o (delegated_host d c.args.v c.args.address)) (sym c.in-Some.is ∙ c.assigned.ensures)
    ∙ sym (hosts_are_assigned_or_delegated d c.args.v c.args.address c.requires.accepted)

pub returns-in-None : goal.returns-in-None
returns-in-None c =
    let d = c.args.d.now in
    sym (c.delegated.ensures.alike c.args.address (omega arith) c.delegated.ensures.from)
    ∙ ap (λ (o : Option EniNo). or_else o (delegated_host d c.args.v c.args.address)) (sym c.in-None.is ∙ c.assigned.ensures)
    ∙ sym (hosts_are_assigned_or_delegated d c.args.v c.args.address c.requires.accepted)
