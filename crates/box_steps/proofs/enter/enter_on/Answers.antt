use Rattle.std.proofs.Common.{◌≡◌, ◌∙◌, None, Option, Some, subst, sym}
use Rattle.box_images.specs.Terms.{Answers, header_at}
use Rattle.vpc_laws.specs.Types.{TableNo}
use Rattle.vpc_model.specs.Firewalls.{entrance_table}
use Rattle.vpc_model.specs.Step.Enter.{enter_by_table, enter_host}
use Rattle.vpc_model.specs.Terms.{host_of}
use Rattle.vpc_model.specs.declared.places.Place.TheVariants as places
use Rattle.box_steps.proofs.Turning.{standing_answers}
use Rattle.box_steps.proofs.enter.enter_on.Goals as goal
use Rattle.box_steps.specs.Terms.{AtPlace, onward_of}

pub enter_by_table_on-requires-clause-own : goal.enter_by_table_on-requires-clause-own
enter_by_table_on-requires-clause-own c = sym c.entrance_table.ensures.number ∙ c.in-Some.is

pub returns-in-Some : goal.returns-in-Some
returns-in-Some c =
    let d = c.args.f.now in
    let v = c.args.v in
    let i = c.args.i.now in
    let own : entrance_table d v c.args.by ≡ Some c.in-Some.t = sym c.entrance_table.ensures.number ∙ c.in-Some.is in
    subst (λ (o : Option TableNo). Answers (AtPlace d (places.Enter v c.args.by)) (λ h. onward_of (enter_by_table d v (header_at i h) o)) i.part c.enter_by_table_on.result) (sym own)
    c.enter_by_table_on.ensures

pub returns-in-None : goal.returns-in-None
returns-in-None c =
    let d = c.args.f.now in
    let v = c.args.v in
    let i = c.args.i.now in
    let p = places.Enter v c.args.by in
    let none : entrance_table d v c.args.by ≡ None = sym c.entrance_table.ensures.number ∙ c.in-None.is in
    subst (λ (o : Option TableNo). Answers (AtPlace d p) (λ h. onward_of (enter_by_table d v (header_at i h) o)) i.part c.enter_host_on.result) (sym none)
    (standing_answers d p (λ h. let k = header_at i h in onward_of (enter_host d v k (host_of d v k.dst))) i.part c.enter_host_on.result c.enter_host_on.ensures)
