use Rattle.std.proofs.Common.{◌∙◌, ap}
use Rattle.vpc_model.specs.Accepted.{duplicates_in}
use Rattle.reference_check.proofs.Described.{subnets-differ, vpcs-differ}
use Rattle.reference_check.proofs.subnets.Attached.of.Goals as goal

pub main_tables-requires-clause-differ : goal.main_tables-requires-clause-differ
main_tables-requires-clause-differ c = ap duplicates_in c.requires.numbered.vpcs ∙ vpcs-differ c.args.d.now c.requires.differ

pub claims_of-requires-clause-differ : goal.claims_of-requires-clause-differ
claims_of-requires-clause-differ c = ap duplicates_in c.requires.numbered.subnets ∙ subnets-differ c.args.d.now c.requires.differ

pub claims_of-requires-2-clause-differ : goal.claims_of-requires-2-clause-differ
claims_of-requires-2-clause-differ c = ap duplicates_in c.requires.numbered.subnets ∙ subnets-differ c.args.d.now c.requires.differ

pub claims_of-requires-3-clause-differ : goal.claims_of-requires-3-clause-differ
claims_of-requires-3-clause-differ c = ap duplicates_in c.requires.numbered.vpcs ∙ vpcs-differ c.args.d.now c.requires.differ

pub choose_tables-requires-clause-tables : goal.choose_tables-requires-clause-tables
choose_tables-requires-clause-tables c = c.as_slice-3.ensures.value ∙ rw (c.requires.numbered.subnets, c.as_slice-rows.ensures) at c.in_ok-tables.ensures

pub returns : goal.returns
returns c = record {
  mains = rw (c.requires.numbered.vpcs, c.as_slice-rows.ensures) at c.in_ok-mains.ensures;
  tables = rw (c.requires.numbered.subnets, c.as_slice-rows.ensures) at c.in_ok-tables.ensures;
  acls = rw (c.requires.numbered.subnets, c.as_slice.ensures) at c.in_ok-acls.ensures;
  gateways = rw (c.requires.numbered.vpcs, c.as_slice-2.ensures) at c.in_ok-gateways.ensures;
  chosen = c.in_ok-chosen.ensures;
}
