use Rattle.std.proofs.Common.{◌∙◌, ◌==◌, ap}
use Rattle.std.specs.List.{list_any}
use Rattle.security_groups.specs.Naming.{HasOwn}
use Rattle.security_groups.proofs.IdPlaces.{zip-weaker}
use Rattle.security_groups.proofs.VpcKeys.{pairs-are}
use Rattle.security_groups.proofs.vpcs.GroupVpcs.of.Goals as goal

pub returns : goal.returns
returns c =
    let d = c.args.n.now in
    let ids = c.number_further.new.ids in
    let few = c.are_few.ensures c.if-not-are_few.false in
    record {
      few = few;
      own = zip-weaker (HasOwn c.own_vpcs.new.ids) (HasOwn ids) (λ g v has. c.in_ok-number_further.ensures.kept g.vpc v has) d.groups c.in_ok-own.own.items c.in_ok-own.ensures;
      further = c.in_ok-number_further.ensures.further;
      pairs = λ g k within small.
          c.of-pairs.ensures _ ∙ ap (list_any (λ n. n == _)) c.in_ok-further_keys.ensures ∙ pairs-are d ids g k c.description.ensures.accepted few within small;
    }
