use Rattle.std.proofs.Common.{◌∙◌, ap, subst, sym}
use Rattle.vpc_laws.specs.Types.{Description}
use Rattle.vpc_model.specs.Accepted.{IsAccepted}
use Rattle.vpc_model.specs.Lookup.{host_of}
use Rattle.flow_check.specs.Owners.{is_near, is_own}
use Rattle.flow_check.proofs.Owners.{found-lies, near-is, own-is}
use Rattle.flow_check.proofs.sorts.owner.Goals as goal

pub returns-clause-own : goal.returns-clause-own
returns-clause-own c =
    let accepted = subst IsAccepted c.network-n.ensures c.description.ensures.accepted in
    let found = c.host.ensures ∙ ap (λ (d : Description). host_of d c.args.v c.args.address) c.network-n.ensures in
    own-is c.args.f.now c.args.v c.args.i c.args.address accepted c.requires.interface c.requires.vpc ∙ ap (is_own c.args.i) (sym found)

pub returns-clause-near : goal.returns-clause-near
returns-clause-near c =
    let accepted = subst IsAccepted c.network-n.ensures c.description.ensures.accepted in
    let found = c.host.ensures ∙ ap (λ (d : Description). host_of d c.args.v c.args.address) c.network-n.ensures in
    near-is c.args.f.now c.args.v c.args.i c.args.address accepted c.requires.interface c.requires.vpc ∙ ap (is_near c.args.f.now c.args.i) (sym found)

pub returns-clause-described : goal.returns-clause-described
returns-clause-described c =
    let found = c.host.ensures ∙ ap (λ (d : Description). host_of d c.args.v c.args.address) c.network-n.ensures in
    found-lies c.args.f.now c.args.v c.args.address c.host.result found
