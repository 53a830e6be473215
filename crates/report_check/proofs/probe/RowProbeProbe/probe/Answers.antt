use Rattle.std.proofs.Common.{◌≡◌, ◌∙◌, subst, sym, true}
use Rattle.header_boxes.specs.Boxes.{holds, low_of}
use Rattle.header_boxes.specs.Cells.{IsAligned}
use Rattle.box_walk.specs.Asking.{IsAsking, asked_by, homes_by, word_of}
use Rattle.vpc_laws.specs.Types.{Description, Header}
use Rattle.vpc_model.specs.Appliances.{appliances_of}
use Rattle.vpc_model.specs.Near.{near_cuts}
use Rattle.report_check.proofs.Told.{agreement_of-part, part-text}
use Rattle.report_check.proofs.probe.RowProbeProbe.probe.Goals as goal

pub agreed-requires : goal.agreed-requires
agreed-requires g c =
    let p = c.args.self.now in
    let homes = homes_by p.walks.now.links.now p.walks.now.start in
    let goal = p.walks.now.goal in
    let part = c.probe-word.result.0 in
    let word = c.probe-word.result.1 in
    part-text p.network.now homes goal part c.args.sides.now word p.accepted
    (subst (λ (d : Description). IsAsking (asked_by d homes goal)) p.same p.walks.now.known) c.probe-word.ensures.within
    (subst (λ (d : Description). (h : Header) → holds h part ≡ true → word_of (asked_by d homes goal) h ≡ word) p.same c.probe-word.ensures.means)

pub returns-clause-aligned : goal.returns-clause-aligned
returns-clause-aligned g c =
    let p = c.args.self.now in
    let homes = homes_by p.walks.now.links.now p.walks.now.start in
    let goal = p.walks.now.goal in
    subst (λ (d : Description). IsAligned (near_cuts d (appliances_of d) homes.start goal (low_of c.args.sides.now)) c.probe-word.result.0 c.args.sides.now) p.same c.probe-word.ensures.aligned

pub returns-clause-means : goal.returns-clause-means
returns-clause-means g c =
    let p = c.args.self.now in
    let homes = homes_by p.walks.now.links.now p.walks.now.start in
    let goal = p.walks.now.goal in
    let part = c.probe-word.result.0 in
    let word = c.probe-word.result.1 in
    let means = subst (λ (d : Description). (h : Header) → holds h part ≡ true → word_of (asked_by d homes goal) h ≡ word) p.same c.probe-word.ensures.means in
    λ h held. agreement_of-part p.network.now homes goal p.text.now part word means h held ∙ sym c.agreed.ensures
