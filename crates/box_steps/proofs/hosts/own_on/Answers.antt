use Rattle.box_steps.proofs.HostAnswers.{own_assigned, own_in_blocks}
use Rattle.box_steps.proofs.hosts.own_on.Goals as goal

pub returns-then-assigned : goal.returns-then-assigned
returns-then-assigned c =
    own_assigned c.args.f.now c.args.e c.interface_at-row.result.now c.as_slice.result.now c.args.dir c.own_side-side.result c.args.i.now c.addresses_on-assigned.result
    c.requires.eni c.interface_at-row.ensures c.as_slice.ensures c.own_side-side.ensures.own c.if-assigned.true c.addresses_on-assigned.ensures

pub returns : goal.returns
returns c =
    own_in_blocks c.args.f.now c.args.e c.interface_at-row.result.now c.as_slice.result.now c.as_slice-2.result.now c.args.dir c.own_side-side.result c.args.i.now c.within.result
    c.addresses_on-assigned.result c.blocks_on.result c.requires.eni c.interface_at-row.ensures c.as_slice.ensures c.as_slice-2.ensures c.own_side-side.ensures.own c.requires.valid
    c.if-assigned.false c.within.ensures.image c.addresses_on-assigned.ensures c.blocks_on.ensures
