use Rattle.std.proofs.Common.{sym, ◌∙◌}
use Rattle.vpc_model.specs.Accepted.{holds_twice}
use Rattle.vpc_model.specs.Lookup.{is_listed}
use Rattle.vpc_model.specs.declared.refusals.Refusal.TheVariants as refusals
use Rattle.vpc_model.specs.declared.rows.Acl.{Acl}
use Rattle.vpc_model.specs.declared.rows.Subnet.{Subnet}
use Rattle.reference_check.proofs.Firsts.{causes-first, causes-none, twice-position}
use Rattle.reference_check.proofs.subnets.Attached.two_acls.Goals as goal

pub returns-in-None : goal.returns-in-None
returns-in-None c =
    let number = twice-position (λ s (x : Acl). is_listed s x.subnets) (λ (t : Subnet). t.id) c.args.d.now.subnets c.args.d.now.acls c.as_slice.result.now (c.as_slice.ensures.value ∙ c.requires.acls) in
    causes-none (λ (t : Subnet). holds_twice (λ (x : Acl). is_listed t.id x.subnets) c.args.d.now.acls) (λ t. refusals.TwoAcls t.id) c.args.d.now.subnets (sym number ∙ sym c.first_twice.ensures.number ∙ c.in-None.is)

pub returns-in_ok-copied-in-Some : goal.returns-in_ok-copied-in-Some
returns-in_ok-copied-in-Some c =
    let number = twice-position (λ s (x : Acl). is_listed s x.subnets) (λ (t : Subnet). t.id) c.args.d.now.subnets c.args.d.now.acls c.as_slice.result.now (c.as_slice.ensures.value ∙ c.requires.acls) in
    causes-first (λ (t : Subnet). holds_twice (λ (x : Acl). is_listed t.id x.subnets) c.args.d.now.acls) refusals.TwoAcls (λ t. t.id) c.args.d.now.subnets c.as_slice-in-Some.result.now c.in-Some.k _ c.in_ok-copied-in-Some.field-0 (sym number ∙ sym c.first_twice.ensures.number ∙ c.in-Some.is) c.as_slice-in-Some.ensures c.in_ok-copied-in-Some.ensures
