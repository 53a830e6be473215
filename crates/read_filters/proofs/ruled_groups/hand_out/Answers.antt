use Rattle.std.proofs.Common.{◌≡◌, ◌+◌, ◌<◌, ◌≤◌, length, map, sym, arith}
use Rattle.std.proofs.lemmas.List.{length-map}
use Rattle.read_filters.proofs.ShareLemmas.{handed-after, handed-set}
use Rattle.read_filters.proofs.ruled_groups.hand_out.Goals as goal

pub returns-in_ok-push : goal.returns-in_ok-push
returns-in_ok-push c =
    let at : c.args.rule.number ≡ 0 + c.args.rule.number = omega arith in
    let within : c.args.rule.number < length c.args.shares.now.items = omega arith in
    handed-set (λ s. s.items) 0 c.args.rule c.args.shares.now.items c.args.rule.number c.index_mut.result.now c.push.new.self at within c.index_mut.ensures.value c.in_ok-push.ensures.items

pub returns-else-number-len : goal.returns-else-number-len
returns-else-number-len c =
    let past : 0 + length (map (λ s. s.items) c.args.shares.now.items) ≤ c.args.rule.number = simp length-map (omega arith) in
    sym (handed-after 0 c.args.rule (map (λ s. s.items) c.args.shares.now.items) past)
