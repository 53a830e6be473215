use Rattle.std.proofs.Common.{◌∙◌, ap, length, sym}
use Rattle.std.proofs.lemmas.List.{nil_from_length}
use Rattle.vpc_model.specs.declared.rows.Description.{Description}
use Rattle.security_groups.proofs.SetLemmas.{all-at-home}
use Rattle.security_groups.proofs.sets.place_all.Goals as goal

pub returns-then-as_slice-eq0-clause-sets : goal.returns-then-as_slice-eq0-clause-sets
returns-then-as_slice-eq0-clause-sets c =
    let d = c.args.n.now in
    let all = c.as_slice.ensures ∙ ap (λ (x : Description). x.scope.vpcs) c.description.ensures.value in
    all-at-home d c.args.vpcs.now.ids c.args.further.now c.args.interfaces.now.items (nil_from_length d.scope.vpcs (ap length (sym all) ∙ c.if-as_slice-eq0.true)) c.requires.groups
