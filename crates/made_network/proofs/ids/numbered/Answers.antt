use Rattle.std.proofs.Common.{◌≡◌, ◌∙◌, subst, sym, true}
use Rattle.vpc_model.specs.Id.{is_id}
use Rattle.made_network.proofs.Numbers.{numbered-is_id}
use Rattle.made_network.proofs.ids.numbered.Goals as goal

pub id_of-requires : goal.id_of-requires
id_of-requires c =
    subst (λ text. is_id text ≡ true) (sym (c.as_bytes.ensures.value ∙ c.in_ok-text.ensures.ok)) (numbered-is_id c.args.kind.now c.args.number c.requires.visible c.requires.short c.ranges.number.fits)
