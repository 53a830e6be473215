-- What the search answers is an answer to the query.
use Rattle.std.proofs.Common.{◌∙◌, subst}
use Rattle.header_boxes.specs.Rows.{IsFirstThrough}
use Rattle.box_walk.specs.Asking.{Asking, asked, asked_by, homes_by, word_of}
use Rattle.ordered_cover.specs.Cover.{IsMore}
use Rattle.ordered_cover.specs.Grown.{IsGrown, IsGrownTree}
use Rattle.ordered_cover.specs.Joined.{GoesOn}
use Rattle.vpc_laws.specs.Types.{Box5, Description}
use Rattle.vpc_model.specs.Accepted.{IsAccepted}
use Rattle.vpc_model.specs.Cuts.{cuts_of}
use Rattle.vpc_model.specs.Report.{IsCellCount}
use Rattle.network_reach.proofs.Reports.{more_is, none_unstopped, of_a_tree, tree_is}
use Rattle.network_reach.proofs.reach.blocked_by_tree.Goals as goal

pub unreachable-requires : goal.unreachable-requires
unreachable-requires g c =
    let p = c.args.round.now in
    let first = subst (IsGrown (word_of (asked_by p.fabric.now (homes_by p.links.now p.start) p.goal)) (cuts_of p.fabric.now) c.args.query.now.sides c.args.query.now.max) c.in-Found.is c.in_ok-grow.ensures in
    let found = subst (λ (a : Asking). IsFirstThrough (word_of a) c.args.query.now.sides c.in-Found.field-0) c.requires.round first in
    none_unstopped c.args.f.now c.args.query.now c.requires.none c.in-Found.field-0 found.inside found.through

pub returns-in-Blocked : goal.returns-in-Blocked
returns-in-Blocked g c =
    let p = c.args.round.now in
    let blocked = subst (IsGrown (word_of (asked_by p.fabric.now (homes_by p.links.now p.start) p.goal)) (cuts_of p.fabric.now) c.args.query.now.sides c.args.query.now.max) c.in-Blocked.is c.in_ok-grow.ensures in
    tree_is c.args.f.now c.args.query.now c.in-Blocked.nodes (subst IsAccepted c.network.ensures c.description-d.ensures.accepted) c.requires.query c.requires.many
    (subst (λ (a : Asking). IsGrownTree (word_of a) (cuts_of a.network) c.args.query.now.sides c.args.query.now.max c.in-Blocked.nodes.items) c.requires.round blocked)

pub returns-in_ok-cells-in-More : goal.returns-in_ok-cells-in-More
returns-in_ok-cells-in-More g c =
    let p = c.args.round.now in
    let more = subst (IsGrown (word_of (asked_by p.fabric.now (homes_by p.links.now p.start) p.goal)) (cuts_of p.fabric.now) c.args.query.now.sides c.args.query.now.max) c.in-More.is c.in_ok-grow.ensures in
    more_is c.args.f.now c.args.query.now c.in-More.rows c.in-More.next _ (subst IsAccepted c.network.ensures c.description-d.ensures.accepted) c.requires.query
    (subst (λ (d : Description). IsCellCount d c.args.query.now.sides c.in_ok-cells-in-More.cells) (c.description-d.ensures.value ∙ c.network.ensures) c.in_ok-cells-in-More.ensures)
    (of_a_tree c.args.query.now
    (λ (On : Box5 → Box5 → Type 0). IsMore On (word_of (asked c.args.f.now c.args.query.now.start c.args.query.now.goal)) (cuts_of c.args.f.now) c.args.query.now.sides c.args.query.now.max c.in-More.rows.items c.in-More.next)
    c.requires.many
    (subst (λ (a : Asking). IsMore GoesOn (word_of a) (cuts_of a.network) c.args.query.now.sides c.args.query.now.max c.in-More.rows.items c.in-More.next) c.requires.round more))
    (none_unstopped c.args.f.now c.args.query.now c.requires.none)
