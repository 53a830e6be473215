use Rattle.std.proofs.Common.{◌<◌, ◌∙◌, ap, arith, get_or, length, sym, ℕ}
use Rattle.vpc_model.specs.Lookup.{is_listed, no_subnet}
use Rattle.vpc_model.specs.declared.numbers.AclNo.{AclNo}
use Rattle.vpc_model.specs.declared.rows.Acl.{Acl}
use Rattle.vpc_model.specs.declared.rows.Subnet.{Subnet}
use Rattle.reference_check.specs.Claims.{first_of}
use Rattle.reference_check.proofs.Firsts.{first-of-row, missing-length}
use Rattle.reference_check.proofs.Maps.{found_number}
use Rattle.reference_check.proofs.subnets.Attached.acl_of.Goals as goal

pub overflow_cast-result : goal.overflow_cast-result
overflow_cast-result c =
    let row = get_or c.args.d.now.subnets c.args.s.0 no_subnet in
    let first = ap first_of c.index.ensures ∙ first-of-row (λ s (a : Acl). is_listed s a.subnets) (λ (s : Subnet). s.id) c.args.d.now.subnets c.args.d.now.acls c.args.s.0 c.index.result.now no_subnet c.args.self.now.acls.items c.requires.attached.acls c.requires.within in
    let found = found_number (λ (a : Acl). is_listed row.id a.subnets) c.args.d.now.acls c.in-Some.acl (sym first ∙ sym c.first.ensures ∙ c.in-Some.is) in
    let within : c.in-Some.acl < length c.args.d.now.acls = found.within in
    omega arith

pub returns-in-Some : goal.returns-in-Some
returns-in-Some c =
    let row = get_or c.args.d.now.subnets c.args.s.0 no_subnet in
    let first = ap first_of c.index.ensures ∙ first-of-row (λ s (a : Acl). is_listed s a.subnets) (λ (s : Subnet). s.id) c.args.d.now.subnets c.args.d.now.acls c.args.s.0 c.index.result.now no_subnet c.args.self.now.acls.items c.requires.attached.acls c.requires.within in
    let found = found_number (λ (a : Acl). is_listed row.id a.subnets) c.args.d.now.acls c.in-Some.acl (sym first ∙ sym c.first.ensures ∙ c.in-Some.is) in
    let numbered : ℕ → AclNo = λ n. record { 0 = n } in
    ap numbered (sym found.number)

pub returns-in-None : goal.returns-in-None
returns-in-None c =
    let row = get_or c.args.d.now.subnets c.args.s.0 no_subnet in
    let first = ap first_of c.index.ensures ∙ first-of-row (λ s (a : Acl). is_listed s a.subnets) (λ (s : Subnet). s.id) c.args.d.now.subnets c.args.d.now.acls c.args.s.0 c.index.result.now no_subnet c.args.self.now.acls.items c.requires.attached.acls c.requires.within in
    let numbered : ℕ → AclNo = λ n. record { 0 = n } in
    ap (λ acls. numbered (length acls)) c.as_slice.ensures
    ∙ ap numbered (sym (missing-length (λ (a : Acl). is_listed row.id a.subnets) c.args.d.now.acls (sym first ∙ sym c.first.ensures ∙ c.in-None.is)))
