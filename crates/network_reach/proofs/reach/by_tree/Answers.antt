-- What the search answers is an answer to the query.
use Rattle.std.proofs.Common.{subst}
use Rattle.box_walk.specs.Asking.{Asking, asked, asked_by, homes_by, word_of}
use Rattle.ordered_cover.specs.Cover.{IsMore}
use Rattle.ordered_cover.specs.Grown.{IsGrown, IsGrownTree}
use Rattle.ordered_cover.specs.Joined.{GoesOn}
use Rattle.vpc_laws.specs.Types.{Box5}
use Rattle.vpc_model.specs.Accepted.{IsAccepted}
use Rattle.vpc_model.specs.Cuts.{cuts_of}
use Rattle.network_reach.proofs.Reports.{of_a_tree, through_is, tree_is}
use Rattle.network_reach.proofs.reach.by_tree.Goals as goal

pub returns-in-Found : goal.returns-in-Found
returns-in-Found g c =
    let p = c.args.round.now in
    let found = subst (IsGrown (word_of (asked_by p.fabric.now (homes_by p.links.now p.start) p.goal)) (cuts_of p.fabric.now) c.args.query.now.sides c.args.query.now.max) c.in-Found.is c.in_ok-h.ensures in
    through_is c.args.f.now c.args.query.now (asked_by p.fabric.now (homes_by p.links.now p.start) p.goal) c.in-Found.h c.requires.round found

pub returns-in-Blocked : goal.returns-in-Blocked
returns-in-Blocked g c =
    let p = c.args.round.now in
    let blocked = subst (IsGrown (word_of (asked_by p.fabric.now (homes_by p.links.now p.start) p.goal)) (cuts_of p.fabric.now) c.args.query.now.sides c.args.query.now.max) c.in-Blocked.is c.in_ok-h.ensures in
    tree_is c.args.f.now c.args.query.now c.in-Blocked.nodes (subst IsAccepted c.network.ensures c.description.ensures.accepted) c.requires.query c.requires.many
    (subst (λ (a : Asking). IsGrownTree (word_of a) (cuts_of a.network) c.args.query.now.sides c.args.query.now.max c.in-Blocked.nodes.items) c.requires.round blocked)

pub beyond-requires-clause-more : goal.beyond-requires-clause-more
beyond-requires-clause-more g c =
    let p = c.args.round.now in
    let more = subst (IsGrown (word_of (asked_by p.fabric.now (homes_by p.links.now p.start) p.goal)) (cuts_of p.fabric.now) c.args.query.now.sides c.args.query.now.max) c.in-More.is c.in_ok-h.ensures in
    of_a_tree c.args.query.now
    (λ (On : Box5 → Box5 → Type 0). IsMore On (word_of (asked c.args.f.now c.args.query.now.start c.args.query.now.goal)) (cuts_of c.args.f.now) c.args.query.now.sides c.args.query.now.max c.in-More.rows.items c.in-More.next)
    c.requires.many
    (subst (λ (a : Asking). IsMore GoesOn (word_of a) (cuts_of a.network) c.args.query.now.sides c.args.query.now.max c.in-More.rows.items c.in-More.next) c.requires.round more)
