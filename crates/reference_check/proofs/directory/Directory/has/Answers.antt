use Rattle.std.proofs.Common.{◌∙◌}
use Rattle.vpc_model.specs.declared.rows.Group.{Group}
use Rattle.vpc_model.specs.declared.rows.Interface.{Interface}
use Rattle.vpc_model.specs.declared.rows.InternetGateway.{InternetGateway}
use Rattle.vpc_model.specs.declared.rows.PrefixList.{PrefixList}
use Rattle.vpc_model.specs.declared.rows.Subnet.{Subnet}
use Rattle.vpc_model.specs.declared.rows.Vpc.{Vpc}
use Rattle.reference_check.proofs.Maps.{listed_row}
use Rattle.reference_check.proofs.directory.Directory.has.Goals as goal

pub returns-in-Vpc : goal.returns-in-Vpc
returns-in-Vpc c =
    rw (← c.self.view_is, c.in-Vpc.is)
    ((rw c.bytes-id.ensures.value at c.has.ensures) ∙ listed_row (λ (x : Vpc). x.id) c.args.id.now _ _ c.self.invariant.numbered.networks.vpcs)

pub returns-in-Subnet : goal.returns-in-Subnet
returns-in-Subnet c =
    rw (← c.self.view_is, c.in-Subnet.is)
    ((rw c.bytes-id.ensures.value at c.has-in-Subnet.ensures) ∙ listed_row (λ (x : Subnet). x.id) c.args.id.now _ _ c.self.invariant.numbered.networks.subnets)

pub returns-in-Interface : goal.returns-in-Interface
returns-in-Interface c =
    rw (← c.self.view_is, c.in-Interface.is)
    ((rw c.bytes-id.ensures.value at c.has-in-Interface.ensures) ∙ listed_row (λ (x : Interface). x.id) c.args.id.now _ _ c.self.invariant.numbered.networks.interfaces)

pub returns-in-Group : goal.returns-in-Group
returns-in-Group c =
    rw (← c.self.view_is, c.in-Group.is)
    ((rw c.bytes-id.ensures.value at c.has-in-Group.ensures) ∙ listed_row (λ (x : Group). x.id) c.args.id.now _ _ c.self.invariant.numbered.filters.groups)

pub returns-in-List : goal.returns-in-List
returns-in-List c =
    rw (← c.self.view_is, c.in-List.is)
    ((rw c.bytes-id.ensures.value at c.has-in-List.ensures) ∙ listed_row (λ (x : PrefixList). x.id) c.args.id.now _ _ c.self.invariant.numbered.networks.lists)

pub returns-in-InternetGateway : goal.returns-in-InternetGateway
returns-in-InternetGateway c =
    rw (← c.self.view_is, c.in-InternetGateway.is)
    ((rw c.bytes-id.ensures.value at c.has-in-InternetGateway.ensures) ∙ listed_row (λ (x : InternetGateway). x.id) c.args.id.now _ _ c.self.invariant.numbered.gateways.igws)
