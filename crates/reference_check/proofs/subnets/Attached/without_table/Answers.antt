use Rattle.std.proofs.Common.{ap, is_none, not, position, sym, ◌||◌, ◌∙◌}
use Rattle.std.specs.List.{list_any}
use Rattle.vpc_base.proofs.Positions.{position_map}
use Rattle.vpc_model.specs.Accepted.{is_main_of, is_table_of}
use Rattle.vpc_model.specs.declared.refusals.Refusal.TheVariants as refusals
use Rattle.vpc_model.specs.declared.rows.RouteTable.{RouteTable}
use Rattle.vpc_model.specs.declared.rows.Subnet.{Subnet}
use Rattle.reference_check.specs.Attached.{chosen_table}
use Rattle.reference_check.proofs.Firsts.{causes-first, causes-none, none-or_else}
use Rattle.reference_check.proofs.subnets.Attached.without_table.Goals as goal

pub returns-in-None : goal.returns-in-None
returns-in-None c =
    let number = ap (position is_none) (c.as_slice.ensures.value ∙ c.requires.chosen) ∙ position_map (chosen_table c.args.d.now) is_none (λ (t : Subnet). not (list_any (λ (x : RouteTable). is_table_of t.id x || is_main_of t.vpc x) c.args.d.now.tables)) (λ t. none-or_else (is_table_of t.id) (is_main_of t.vpc) c.args.d.now.tables) c.args.d.now.subnets in
    causes-none (λ (t : Subnet). not (list_any (λ (x : RouteTable). is_table_of t.id x || is_main_of t.vpc x) c.args.d.now.tables)) (λ t. refusals.NoRouteTable t.id) c.args.d.now.subnets (sym number ∙ sym c.first_missing.ensures.number ∙ c.in-None.is)

pub returns-in_ok-copied-in-Some : goal.returns-in_ok-copied-in-Some
returns-in_ok-copied-in-Some c =
    let number = ap (position is_none) (c.as_slice.ensures.value ∙ c.requires.chosen) ∙ position_map (chosen_table c.args.d.now) is_none (λ (t : Subnet). not (list_any (λ (x : RouteTable). is_table_of t.id x || is_main_of t.vpc x) c.args.d.now.tables)) (λ t. none-or_else (is_table_of t.id) (is_main_of t.vpc) c.args.d.now.tables) c.args.d.now.subnets in
    causes-first (λ (t : Subnet). not (list_any (λ (x : RouteTable). is_table_of t.id x || is_main_of t.vpc x) c.args.d.now.tables)) refusals.NoRouteTable (λ t. t.id) c.args.d.now.subnets c.as_slice-in-Some.result.now c.in-Some.k _ c.in_ok-copied-in-Some.field-0 (sym number ∙ sym c.first_missing.ensures.number ∙ c.in-Some.is) c.as_slice-in-Some.ensures c.in_ok-copied-in-Some.ensures
