use Rattle.std.proofs.Common.{◌≤◌, arith}
use Rattle.std.proofs.lemmas.Bool.Decides.{nat_tests}
use Rattle.security_groups.proofs.Stretching.{names-none}
use Rattle.security_groups.proofs.on_images.could_name.Goals as goal

pub returns : goal.returns
returns c = λ e.
    let reaches : c.greatest.result ≤ c.named_from-named.result.0 = grind (arith, nat_tests) in
    names-none c.args.lists.now c.args.members.now c.args.dir c.args.rule.now c.args.i.now c.far_side-side.result c.low_on.result c.greatest.result c.named_from-named.result
    c.far_side-side.ensures.far c.low_on.ensures c.greatest.ensures c.if-named.false reaches c.named_from-named.ensures
