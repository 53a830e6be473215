use Rattle.std.proofs.Common.{sym, ◌∙◌}
use Rattle.vpc_model.specs.Accepted.{holds_twice, is_main_of}
use Rattle.vpc_model.specs.declared.refusals.Refusal.TheVariants as refusals
use Rattle.vpc_model.specs.declared.rows.Vpc.{Vpc}
use Rattle.reference_check.proofs.Firsts.{causes-first, causes-none, twice-position}
use Rattle.reference_check.proofs.subnets.Attached.two_mains.Goals as goal

pub returns-in-None : goal.returns-in-None
returns-in-None c =
    let number = twice-position (is_main_of) (λ (t : Vpc). t.id) c.args.d.now.vpcs c.args.d.now.tables c.as_slice.result.now (c.as_slice.ensures.value ∙ c.requires.mains) in
    causes-none (λ (t : Vpc). holds_twice (is_main_of t.id) c.args.d.now.tables) (λ t. refusals.TwoTables t.id) c.args.d.now.vpcs (sym number ∙ sym c.first_twice.ensures.number ∙ c.in-None.is)

pub returns-in_ok-copied-in-Some : goal.returns-in_ok-copied-in-Some
returns-in_ok-copied-in-Some c =
    let number = twice-position (is_main_of) (λ (t : Vpc). t.id) c.args.d.now.vpcs c.args.d.now.tables c.as_slice.result.now (c.as_slice.ensures.value ∙ c.requires.mains) in
    causes-first (λ (t : Vpc). holds_twice (is_main_of t.id) c.args.d.now.tables) refusals.TwoTables (λ t. t.id) c.args.d.now.vpcs c.as_slice-in-Some.result.now c.in-Some.k _ c.in_ok-copied-in-Some.field-0 (sym number ∙ sym c.first_twice.ensures.number ∙ c.in-Some.is) c.as_slice-in-Some.ensures c.in_ok-copied-in-Some.ensures
