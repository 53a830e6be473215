use Rattle.std.proofs.Common.{◌∙◌, ap, arith}
use Rattle.security_groups.proofs.AlikeLemmas.{same_keys}
use Rattle.security_groups.specs.Members.{MemberSets}
use Rattle.security_groups.proofs.alike.has_same_keys.Goals as goal

pub returns : goal.returns
returns c same a fits =
    let keys = λ (m : MemberSets). m.keys in
    same_keys c.args.one.now c.args.other.now c.args.group c.args.twin c.keys.result.now c.keys-others.result.now c.key_of.result c.key_of-2.result a
    (c.keys.ensures ∙ ap keys c.members-2.ensures) (c.keys-others.ensures ∙ ap keys c.members.ensures) c.key_of.ensures c.key_of-2.ensures (c.is_same_above.ensures same a (omega arith))
