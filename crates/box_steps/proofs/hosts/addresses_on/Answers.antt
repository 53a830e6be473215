use Rattle.std.proofs.Common.{None, arith, get_or, true}
use Rattle.std.proofs.lemmas.List.{get_or_default}
use Rattle.vpc_base.proofs.Members.{row_has}
use Rattle.image_tests.proofs.Trying.{any_passes, none_passes_yet, one_passes, trying_first, trying_last, trying_next}
use Rattle.box_steps.proofs.OwnAnswers.{own_of_rest, own_test}
use Rattle.box_steps.proofs.hosts.addresses_on.Goals as goal
use Rattle.box_steps.specs.Hosts.{DivideOwn}

pub loop-own-init : goal.loop-own-init
loop-own-init c =
    trying_first (DivideOwn c.args.addresses.now) (any_passes (own_test c.args.side c.args.i.now)) c.args.addresses.now c.args.i.now c.requires.valid c.requires.walk

pub loop-own-preserved : goal.loop-own-preserved
loop-own-preserved c =
    let addresses = c.args.addresses.now in
    let i = c.args.i.now in
    let test = own_test c.args.side i in
    let k = c.loop-own.own-index in
    let rest = c.loop-own.rest in
    let row = get_or addresses k (0, None) in
    let is = get_or_default addresses k (0, None) row (omega arith) in
    let x = c.address_on-has.result in
    let has = row_has addresses k row (omega arith) is in
    trying_next (DivideOwn addresses) (any_passes test addresses) (any_passes test) test (none_passes_yet test) addresses i k rest row x
    c.within-rest.result (omega arith) is c.if-has.false c.within-rest.ensures.image c.within-rest.ensures.valid c.within-rest.ensures.kind
    c.loop-own.invariant (own_of_rest addresses c.args.side i rest row x has c.loop-own.invariant.image c.address_on-has.ensures)

pub returns-then-has : goal.returns-then-has
returns-then-has c =
    let addresses = c.args.addresses.now in
    let i = c.args.i.now in
    let test = own_test c.args.side i in
    let k = c.loop-own.own-index in
    let rest = c.loop-own.rest in
    let row = get_or addresses k (0, None) in
    let is = get_or_default addresses k (0, None) row (omega arith) in
    let x = c.address_on-has.result in
    let has = row_has addresses k row (omega arith) is in
    trying_last (DivideOwn addresses) (any_passes test addresses) (any_passes test) test addresses i k rest row x true
    (one_passes test row) (omega arith) is c.if-has.true
    c.loop-own.invariant (own_of_rest addresses c.args.side i rest row x has c.loop-own.invariant.image c.address_on-has.ensures)
