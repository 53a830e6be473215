use Rattle.std.proofs.Common.{◌∙◌, sym}
use Rattle.std.specs.Prelude.{option_map}
use Rattle.diff_check.proofs.Agreeing.{change_agreed-part, tellable-part}
use Rattle.diff_check.proofs.starts.StartChangesTelling.agrees_on.Goals as goal

pub agreed-requires : goal.agreed-requires
agreed-requires g c =
    let l = c.args.self.now in
    let told = c.probe-change.ensures in
    tellable-part l.walks.before.sent l.walks.after.sent l.network_before.now l.network_after.now l.same_before l.same_after c.probe-change.result.0 c.probe-change.result.1 told.means
    c.args.sides.now told.within l.tellable

pub returns-clause-means : goal.returns-clause-means
returns-clause-means g c =
    let l = c.args.self.now in
    λ h held.
    change_agreed-part l.walks.before.sent l.walks.after.sent l.network_before.now l.network_after.now l.same_before l.same_after c.probe-change.result.0 c.probe-change.result.1
    c.probe-change.ensures.means l.id.now (option_map (λ w. w.now) c.args.wanted) h held
    ∙ sym c.agreed.ensures
