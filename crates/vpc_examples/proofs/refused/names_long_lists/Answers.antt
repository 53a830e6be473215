use Rattle.std.proofs.Common.{refl}
use Rattle.vpc_examples.proofs.refused.names_long_lists.Goals as goal

pub returns : goal.returns
returns c = record {
  vpcs = λ xs long. rw long refl;
  subnets = λ xs long. rw long refl;
  interfaces = λ xs long. rw long refl;
  tables = λ xs long. rw long refl;
  lists = λ xs long. rw long refl;
  acls = λ xs long. rw long refl;
  groups = λ xs long. rw long refl;
  igws = λ xs long. rw long refl;
  nats = λ xs long. rw long refl;
  peerings = λ xs long. rw long refl;
  attachments = λ xs long. rw long refl;
  associations = λ xs long. rw long refl;
  tgw_tables = λ xs long. rw long refl;
  appliances = λ xs long. rw long refl;
  firewalls = λ xs long. rw long refl;
}
