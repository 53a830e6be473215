use Rattle.std.proofs.Common.{◌∙◌, subst, sym}
use Rattle.vpc_laws.specs.Types.{Description}
use Rattle.journey_changes.proofs.AlikeLemmas.{one_is_reached}
use Rattle.journey_changes.specs.Alike.{LetInAlike}
use Rattle.journey_changes.proofs.joined.ChangeProbe.arrive_alike.Goals as goal

pub returns-in-None : goal.returns-in-None
returns-in-None g c lets =
    let p = c.args.self.now in
    let e = c.args.one.now.end in
    let i = c.args.other.now.end in
    let alike = subst (λ (d : Description). LetInAlike d e p.after.sent.network i) c.fabric.ensures
    (subst (λ (d : Description). LetInAlike c.fabric.result.now e d i) c.fabric-in-None.ensures (c.let_in_alike.ensures lets)) in
    one_is_reached p.before.sent p.after.sent c.args.sides.now c.args.one.now c.args.other.now c.within-narrowed.result c.requires.back c.requires.also c.requires.one c.requires.other
    c.within-narrowed.ensures.image (c.same_image.ensures c.if-not-same_image.false) (sym c.change_by.ensures ∙ c.in-None.is) alike
