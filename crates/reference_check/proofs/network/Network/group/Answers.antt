use Rattle.std.proofs.Common.{◌≡◌, ◌∙◌, ap, bytes_eq, option_map, position, rules, sym, ℕ}
use Rattle.vpc_model.specs.declared.numbers.GroupNo.{GroupNo}
use Rattle.vpc_model.specs.declared.rows.Group.{Group}
use Rattle.reference_check.proofs.network.Network.group.Goals as goal

pub returns-in-Some : goal.returns-in-Some
returns-in-Some c =
    let same : c.as_slice-rows.result.now ≡ c.args.self.now.groups = search rules in
    let numbered : ℕ → GroupNo = λ n. record { 0 = n } in
    ap (option_map numbered)
    (sym c.in-Some.is ∙ c.number_of.ensures.first ∙ ap (position (λ (x : Group). bytes_eq x.id c.args.id.now)) same)

pub returns-in-None : goal.returns-in-None
returns-in-None c =
    let same : c.as_slice-rows.result.now ≡ c.args.self.now.groups = search rules in
    let numbered : ℕ → GroupNo = λ n. record { 0 = n } in
    ap (option_map numbered)
    (sym c.in-None.is ∙ c.number_of.ensures.first ∙ ap (position (λ (x : Group). bytes_eq x.id c.args.id.now)) same)
