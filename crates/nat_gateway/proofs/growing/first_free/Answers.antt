use Rattle.std.proofs.Common.{◌∙◌, arith, rules}
use Rattle.nat_gateway.proofs.Additions.{beside-free, beside-next, beside-nothing}
use Rattle.nat_gateway.proofs.growing.first_free.Goals as goal

pub returns-then-free-end-clause-answer : goal.returns-then-free-end-clause-answer
returns-then-free-end-clause-answer c = beside-nothing c.args.ports.now c.loop-port.ports c.args.later.now c.args.nat c.args.h.now c.flow-flow.result c.loop-port.port c.free_from-free.result c.args.end _ c.flow-flow.ensures c.loop-port.invariant.same c.free_from-free.ensures.taken c.loop-port.invariant.from (omega arith) c.loop-port.invariant.rest

pub returns-then-not-is_taken-clause-answer : goal.returns-then-not-is_taken-clause-answer
returns-then-not-is_taken-clause-answer c = beside-free c.args.ports.now c.loop-port.ports c.args.later.now c.args.nat c.args.h.now c.flow-flow.result c.loop-port.port c.free_from-free.result c.args.end _ c.is_taken.result c.flow-flow.ensures c.loop-port.invariant.same c.free_from-free.ensures.taken c.free_from-free.ensures.from (omega arith) (c.free_from-free.ensures.free (omega arith)) c.is_taken.ensures (search rules) c.loop-port.invariant.rest

pub loop-port-preserved : goal.loop-port-preserved
loop-port-preserved c = record {
  from = omega arith;
  same = λ flow port. c.free_from-free.ensures.same flow port ∙ c.loop-port.invariant.same flow port;
  rest = beside-next c.args.ports.now c.loop-port.ports c.args.later.now c.args.nat c.args.h.now c.flow-flow.result c.loop-port.port c.free_from-free.result c.args.end _ c.is_taken.result c.flow-flow.ensures c.loop-port.invariant.same c.free_from-free.ensures.taken c.free_from-free.ensures.from (omega arith) (c.free_from-free.ensures.free (omega arith)) c.is_taken.ensures (search rules) c.loop-port.invariant.rest;
}
