use Rattle.std.proofs.Common.{◌∙◌, List, ap, arith, sym}
use Rattle.packet_emulator.proofs.Walking.{leads-on, walk_on-next}
use Rattle.packet_emulator.specs.Comes.{comes}
use Rattle.vpc_laws.specs.Types.{Hop}
use Rattle.vpc_model.specs.Walk.{Walk, is_visited}
use Rattle.packet_emulator.proofs.walks.+walk_on.Goals as goal

pub walk_on-requires : goal.walk_on-requires
walk_on-requires g t c κs within =
    let decreases = c.decreases in
    let some = c.if-left-eq0.false in
    let step = c.step-after.ensures in
    let required = c.requires in
    let pushed = c.push.ensures in
    let leads = leads-on c.args.f.now c.network-n.result.now c.args.deciders.now.appliances c.args.label c.in-Go.header c.in-Go.place (comes c.args.next) (comes c.step-after.result.0) _ _ c.network-n.ensures c.description.ensures.accepted required.next (ap comes c.in-Go.is) step.next in
    let conns = required.conns in let nats = required.nats in let hops = required.hops in
    let spare_conns = step.spare_conns in let spare_nats = step.spare_nats in let len = pushed.len in
    (omega arith, (within.0, (within.1, (leads, (omega arith, (omega arith, omega arith))))))

pub returns-else-left-eq0-clause-outcome : goal.returns-else-left-eq0-clause-outcome
returns-else-left-eq0-clause-outcome g t c =
    let step = c.step-after.ensures in
    c.walk_on.ensures.outcome
    ∙ ap (λ (w : Walk). w.outcome)
    (walk_on-next c.args.f.now c.args.deciders.now.appliances c.args.label c.args.left c.args.hops.now.items c.push.new.self.items c.args.h c.in-Go.header c.in-Go.place (comes c.args.next) (comes c.step-after.result.0) _ _ _ _ c.step-after.result.1
    c.if-left-eq0.false (ap (λ (xs : List Hop). is_visited xs c.in-Go.place) (sym c.as_slice.ensures.value) ∙ (sym c.is_visited.ensures ∙ c.if-is_visited.false)) (ap comes c.in-Go.is) step.next step.by step.conns step.nats c.push.ensures.items)

pub returns-else-left-eq0-clause-hops : goal.returns-else-left-eq0-clause-hops
returns-else-left-eq0-clause-hops g t c =
    let step = c.step-after.ensures in
    c.walk_on.ensures.hops
    ∙ ap (λ (w : Walk). w.hops)
    (walk_on-next c.args.f.now c.args.deciders.now.appliances c.args.label c.args.left c.args.hops.now.items c.push.new.self.items c.args.h c.in-Go.header c.in-Go.place (comes c.args.next) (comes c.step-after.result.0) _ _ _ _ c.step-after.result.1
    c.if-left-eq0.false (ap (λ (xs : List Hop). is_visited xs c.in-Go.place) (sym c.as_slice.ensures.value) ∙ (sym c.is_visited.ensures ∙ c.if-is_visited.false)) (ap comes c.in-Go.is) step.next step.by step.conns step.nats c.push.ensures.items)

pub returns-else-left-eq0-clause-conns : goal.returns-else-left-eq0-clause-conns
returns-else-left-eq0-clause-conns g t c =
    let step = c.step-after.ensures in
    c.walk_on.ensures.conns
    ∙ ap (λ (w : Walk). w.conns)
    (walk_on-next c.args.f.now c.args.deciders.now.appliances c.args.label c.args.left c.args.hops.now.items c.push.new.self.items c.args.h c.in-Go.header c.in-Go.place (comes c.args.next) (comes c.step-after.result.0) _ _ _ _ c.step-after.result.1
    c.if-left-eq0.false (ap (λ (xs : List Hop). is_visited xs c.in-Go.place) (sym c.as_slice.ensures.value) ∙ (sym c.is_visited.ensures ∙ c.if-is_visited.false)) (ap comes c.in-Go.is) step.next step.by step.conns step.nats c.push.ensures.items)

pub returns-else-left-eq0-clause-nats : goal.returns-else-left-eq0-clause-nats
returns-else-left-eq0-clause-nats g t c =
    let step = c.step-after.ensures in
    c.walk_on.ensures.nats
    ∙ ap (λ (w : Walk). w.nats)
    (walk_on-next c.args.f.now c.args.deciders.now.appliances c.args.label c.args.left c.args.hops.now.items c.push.new.self.items c.args.h c.in-Go.header c.in-Go.place (comes c.args.next) (comes c.step-after.result.0) _ _ _ _ c.step-after.result.1
    c.if-left-eq0.false (ap (λ (xs : List Hop). is_visited xs c.in-Go.place) (sym c.as_slice.ensures.value) ∙ (sym c.is_visited.ensures ∙ c.if-is_visited.false)) (ap comes c.in-Go.is) step.next step.by step.conns step.nats c.push.ensures.items)
