-- Accepted descriptions with what finds their rows.
use Rattle.std.specs.Prelude.{◌<◌, ◌^◌, length}
use Rattle.vpc_model.specs.declared.rows.Description.{Description}
use Rattle.vpc_model.specs.Accepted.{IsAccepted}
use Rattle.reference_check.specs.Attached.{AreAttached}
use Rattle.reference_check.specs.Hosts.{AreHosts}
use Rattle.reference_check.specs.declared.hosts.Hosts.{Hosts}
use Rattle.reference_check.specs.declared.subnets.Attached.{Attached}

-- numbers of 32 bits count the rows of each list whose rows have numbers
pub record AreCounted (d : Description) : Type 0 where
  pub vpcs : length d.vpcs < 2 ^ 32
  pub subnets : length d.subnets < 2 ^ 32
  pub interfaces : length d.interfaces < 2 ^ 32
  pub tables : length d.tables < 2 ^ 32
  pub acls : length d.acls < 2 ^ 32
  pub groups : length d.groups < 2 ^ 32
  pub igws : length d.igws < 2 ^ 32
  pub nats : length d.nats < 2 ^ 32
  pub peerings : length d.peerings < 2 ^ 32
  pub attachments : length d.attachments < 2 ^ 32
  pub tgw_tables : length d.tgw_tables < 2 ^ 32
  pub fars : length d.fars < 2 ^ 32
  pub firewalls : length d.firewalls < 2 ^ 32

-- a description that is accepted, its addresses, and what is attached to its subnets and VPCs
pub record IsNetwork (d : Description) (h : Hosts) (a : Attached) : Type 0 where
  pub accepted : IsAccepted d
  pub counted : AreCounted d
  pub hosts : AreHosts d h
  pub attached : AreAttached d a
