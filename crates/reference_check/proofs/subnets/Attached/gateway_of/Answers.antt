use Rattle.std.proofs.Common.{◌<◌, ◌∙◌, ap, arith, get_or, length, option_map, sym, ℕ}
use Rattle.vpc_model.specs.Lookup.{is_listed, no_vpc}
use Rattle.vpc_model.specs.declared.numbers.IgwNo.{IgwNo}
use Rattle.vpc_model.specs.declared.rows.InternetGateway.{InternetGateway}
use Rattle.vpc_model.specs.declared.rows.Vpc.{Vpc}
use Rattle.reference_check.specs.Claims.{first_of}
use Rattle.reference_check.proofs.Firsts.{first-of-row}
use Rattle.reference_check.proofs.Maps.{found_number}
use Rattle.reference_check.proofs.subnets.Attached.gateway_of.Goals as goal

pub overflow_cast-result : goal.overflow_cast-result
overflow_cast-result c =
    let row = get_or c.args.d.now.vpcs c.args.v.0 no_vpc in
    let first = ap first_of c.index.ensures ∙ first-of-row (λ v (g : InternetGateway). is_listed v g.vpcs) (λ (v : Vpc). v.id) c.args.d.now.vpcs c.args.d.now.igws c.args.v.0 c.index.result.now no_vpc c.args.self.now.gateways.items c.requires.attached.gateways c.requires.within in
    let found = found_number (λ (g : InternetGateway). is_listed row.id g.vpcs) c.args.d.now.igws c.in-Some.gateway (sym first ∙ sym c.first.ensures ∙ c.in-Some.is) in
    let within : c.in-Some.gateway < length c.args.d.now.igws = found.within in
    omega arith

pub returns-in-Some : goal.returns-in-Some
returns-in-Some c =
    let first = ap first_of c.index.ensures ∙ first-of-row (λ v (g : InternetGateway). is_listed v g.vpcs) (λ (v : Vpc). v.id) c.args.d.now.vpcs c.args.d.now.igws c.args.v.0 c.index.result.now no_vpc c.args.self.now.gateways.items c.requires.attached.gateways c.requires.within in
    let numbered : ℕ → IgwNo = λ n. record { 0 = n } in
    ap (option_map numbered) (sym c.in-Some.is ∙ c.first.ensures ∙ first)

pub returns-in-None : goal.returns-in-None
returns-in-None c =
    let first = ap first_of c.index.ensures ∙ first-of-row (λ v (g : InternetGateway). is_listed v g.vpcs) (λ (v : Vpc). v.id) c.args.d.now.vpcs c.args.d.now.igws c.args.v.0 c.index.result.now no_vpc c.args.self.now.gateways.items c.requires.attached.gateways c.requires.within in
    let numbered : ℕ → IgwNo = λ n. record { 0 = n } in
    ap (option_map numbered) (sym c.in-None.is ∙ c.first.ensures ∙ first)
