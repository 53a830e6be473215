use Rattle.std.proofs.Common.{◌++◌, ◌∙◌, List, Option, ap, length, replicate, ℕ}
use Rattle.reference_check.specs.Hosts.{owners_from}
use Rattle.reference_check.proofs.Owners.{owners-next}
use Rattle.reference_check.proofs.hosts.owners_of.Goals as goal

pub loop-n-preserved : goal.loop-n-preserved
loop-n-preserved c =
    let added = c.in_ok-add_owner.ensures ∙ ap (λ (xs : List (ℕ × Option ℕ)). c.loop-n.owners.items ++ replicate (length xs) c.loop-n.n) c.as_slice.ensures in
    owners-next c.loop-n.owners.items c.add_owner.new.owners.items (owners_from 0 c.args.interfaces.now) c.args.interfaces.now c.loop-n.n c.index-interfaces-n.result c.loop-n-test.true c.index-interfaces-n.is added c.loop-n.invariant
