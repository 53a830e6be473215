use Rattle.std.proofs.Common.{◌+◌, ◌∙◌, ◌∷◌, Option, ap, drop, refl, subst}
use Rattle.header_boxes.specs.Rows.{IsFirst}
use Rattle.ordered_cover.specs.declared.trees.Node.{Node}
use Rattle.report_reader.specs.Reports.{rows_of}
use Rattle.vpc_laws.specs.Types.{Header, Row, StopText}
use Rattle.vpc_model.specs.Appliances.{Appliances}
use Rattle.vpc_model.specs.Verdict.{alone, verdict_of}
use Rattle.report_check.proofs.TrueRows.{first_in, has_word_if_none, least_untrue_is}
use Rattle.report_check.proofs.Walked.{IsWalked, leaf_is_valid, next_leaf, walked_cut, walked_leaf, walked_to}
use Rattle.report_check.specs.Agreement.{agreement_of}
use Rattle.report_check.proofs.leaves.first_untrue_leaf.Goals as goal
use Rattle.report_check.proofs.leaves.first_untrue_leaf.Goals.{in-Cut+in_ok-cut-in-Cut, in-Leaf+in_ok-header-in-Leaf+in_default+in_ok-leave-in-Leaf}

pub first_other-requires-clause-part : goal.first_other-requires-clause-part
first_other-requires-clause-part g c =
    let d = c.args.f.now in
    let r = c.args.report.now in
    let nodes = c.args.nodes.now in
    let i = c.loop-node.node-index in
    let number = c.loop-node.number in
    let boxes = c.loop-node.boxes in
    let part = c.first_box-part.result in
    let word = c.in-Leaf.word in
    let rest = drop (i + 1) nodes in
    let walked = subst (λ (node : Node StopText). IsWalked d r (node ∷ rest) boxes number) c.in-Leaf.is
    (walked_to nodes i c.node-item.result boxes number c.loop-node-test.true c.node-item.is c.loop-node.invariant) in
    leaf_is_valid nodes number (record { part = part; word = word }) c.requires.tree c.requires.report.valid c.requires.rows
    (next_leaf word rest boxes number part walked c.first_box-part.ensures)

pub returns-in-Some : goal.returns-in-Some
returns-in-Some g c =
    let d = c.args.f.now in
    let r = c.args.report.now in
    let nodes = c.args.nodes.now in
    let i = c.loop-node.node-index in
    let number = c.loop-node.number in
    let boxes = c.loop-node.boxes in
    let part = c.first_box-part.result in
    let word = c.in-Leaf.word in
    let rest = drop (i + 1) nodes in
    let row : Row StopText = record { part = part; word = word } in
    let h = c.in-Some.header in
    let walked = subst (λ (node : Node StopText). IsWalked d r (node ∷ rest) boxes number) c.in-Leaf.is
    (walked_to nodes i c.node-item.result boxes number c.loop-node-test.true c.node-item.is c.loop-node.invariant) in
    let next = next_leaf word rest boxes number part walked c.first_box-part.ensures in
    let found = first_in c.network.result.now d _ _ row c.in_ok-header-in-Leaf.field-0 c.network.ensures (c.look_ahead.ensures ∙ c.of-walks.ensures) c.in_ok-header-in-Leaf.ensures in
    least_untrue_is d r (rows_of r) number (number + 1) row h c.round-verdict.result refl refl next.below next.stands next.before
    (c.round-verdict.ensures ∙ ap (λ (a : Appliances). verdict_of d a r.start r.goal h) c.requires.appliances)
    (subst (λ (o : Option Header). IsFirst (agreement_of d (alone r.start) r.goal word) part o) c.in-Some.is found)

pub loop-node-preserved : goal.loop-node-preserved
loop-node-preserved g c =
    let d = c.args.f.now in
    let r = c.args.report.now in
    let nodes = c.args.nodes.now in
    let i = c.loop-node.node-index in
    let number = c.loop-node.number in
    let boxes = c.loop-node.boxes in
    let rest = drop (i + 1) nodes in
    let walked = walked_to nodes i c.node-item.result boxes number c.loop-node-test.true c.node-item.is c.loop-node.invariant in
    elim c.match-node.branch [
      | in-Cut+in_ok-cut-in-Cut w ↦ rw (w.boxes-is, w.number-is)
          (walked_cut w.in-Cut.side w.in-Cut.at rest boxes w.cut.new.self number
          (subst (λ (node : Node StopText). IsWalked d r (node ∷ rest) boxes number) w.in-Cut.is walked) w.in_ok-cut-in-Cut.ensures)
      | in-Leaf+in_ok-header-in-Leaf+in_default+in_ok-leave-in-Leaf w ↦ rw (w.boxes-is, w.number-is) (
          let part = w.first_box-part.result in
          let word = w.in-Leaf.word in
          let row : Row StopText = record { part = part; word = word } in
          let found = first_in w.network.result.now d _ _ row w.in_ok-header-in-Leaf.field-0 w.network.ensures (c.look_ahead.ensures ∙ c.of-walks.ensures) w.in_ok-header-in-Leaf.ensures in
          walked_leaf word rest boxes w.leave.new.self number part
          (subst (λ (node : Node StopText). IsWalked d r (node ∷ rest) boxes number) w.in-Leaf.is walked) w.first_box-part.ensures w.in_ok-leave-in-Leaf.ensures
          (has_word_if_none d r row (subst (λ (o : Option Header). IsFirst (agreement_of d (alone r.start) r.goal word) part o) w.in_default.is found)))
    ]
