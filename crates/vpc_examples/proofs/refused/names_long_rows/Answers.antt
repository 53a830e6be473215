use Rattle.std.proofs.Common.{refl}
use Rattle.vpc_examples.proofs.refused.names_long_rows.Goals as goal

pub returns : goal.returns
returns c = record {
  blocks = λ xs long. rw long refl;
  addresses = λ xs long. rw long refl;
  delegated = λ xs long. rw long refl;
  member_of = λ xs long. rw long refl;
  table_subnets = λ xs long. rw long refl;
  table_gateways = λ xs long. rw long refl;
  routes = λ xs long. rw long refl;
  entries = λ xs long. rw long refl;
  acl_subnets = λ xs long. rw long refl;
  acl_rows = λ xs long. rw long refl;
  inward = λ xs long. rw long refl;
  outward = λ xs long. rw long refl;
  rule_blocks = λ xs long. rw long refl;
  rule_lists = λ xs long. rw long refl;
  rule_groups = λ xs long. rw long refl;
  gateway_vpcs = λ xs long. rw long refl;
  attached = λ xs long. rw long refl;
  tgw_routes = λ xs long. rw long refl;
  requester = λ xs long. rw long refl;
  accepter = λ xs long. rw long refl;
}
