-- What the tables tell of coming in and leaving is what the description says.
use Rattle.std.proofs.Common.{◌≡◌, ◌∙◌, ◌&&◌, [], ℕ, Bool, List, None, Option, Some, ap, bytes_eq, cond, false, get_or, length, map, option_map, position, refl, true}
use Rattle.vpc_base.proofs.Lemmas.{and_parts, get_or-map, length-map, ltb-true, position-at, row-member, same_bytes}
use Rattle.vpc_laws.specs.Types.{AttNo, Attachment, Description, SubnetNo}
use Rattle.vpc_laws.proofs.Lemmas.{accepted_has_all_named}
use Rattle.vpc_model.specs.Terms.{IsAccepted, attachment_at, attachment_for, first_subnet, has_vpc, is_attachment, is_subnet, leave_subnet, or_else, subnet_at, subnet_in_zone, vpc_no, zone_subnet}
use Rattle.transit_gateway.specs.Terms.{AreRouteTables, HasGatewaysOf, HasZonesOf, IsTransitOf, Site, TransitLists, attachment_in, enter_by, enter_zone, entered, entered_in, first_of, inner_subnets, leaving, site_of, table_behind, table_of_row, zone_subnet_in}
use Rattle.vpc_model.specs.Lookup.{no_attachment}
use Rattle.transit_gateway.proofs.InZones.{site-is}
use Rattle.vpc_model.specs.Lookup.{no_subnet}

-- ---- coming in

numbered-some : (o : Option ℕ) (a : AttNo) → option_map (λ k. record { 0 = k }) o ≡ Some a → o ≡ Some a.0
numbered-some None a e = absurd cc
numbered-some (Some k) a e = let same : record { 0 = k } ≡ a = cc in ap (λ (x : AttNo). Some x.0) same

-- the VPC of an attachment that is found is the subnet's
found-vpc : (d : Description) (gateway : List ℕ) (s : SubnetNo) (a : AttNo) → attachment_for d gateway s ≡ Some a → (is_attachment d a ≡ true) × ((attachment_at d a).vpc ≡ (subnet_at d s).vpc)
found-vpc d gateway s a found =
    let row = subnet_at d s in
    let att = attachment_at d a in
    let test : (Attachment → Bool) = λ x. bytes_eq x.gateway gateway && bytes_eq x.vpc row.vpc in
    let at = position-at test d.attachments a.0 no_attachment (numbered-some (position test d.attachments) a found) in
    (at.0, same_bytes att.vpc row.vpc (and_parts (bytes_eq att.gateway gateway) (bytes_eq att.vpc row.vpc) at.1).1)

vpc-of_subnet : (d : Description) (s : SubnetNo) → IsAccepted d → is_subnet d s ≡ true → has_vpc d (subnet_at d s).vpc ≡ true
vpc-of_subnet d s accepted lies = (accepted_has_all_named d accepted).vpc_of_subnet (subnet_at d s) (row-member d.subnets s.0 no_subnet lies)

-- two look-ups that tell the same of the attachment let a packet in alike
enter_by-same : (o : Option AttNo) (f g : AttNo → Option SubnetNo) → ((a : AttNo) → o ≡ Some a → f a ≡ g a) → enter_by o f ≡ enter_by o g
enter_by-same None f g same = refl
enter_by-same (Some a) f g same = ap (enter_zone a) (same a refl)

pub entered_in-is : (d : Description) (x : TransitLists) (gateway : List ℕ) (s : SubnetNo) → IsAccepted d → HasGatewaysOf d x.gateways x.attachments → HasZonesOf d x.sites x.subnets x.firsts → is_subnet d s ≡ true → entered_in x gateway s ≡ entered d gateway s
entered_in-is d x gateway s accepted gateways zones lies =
    let row = subnet_at d s in
    let has = vpc-of_subnet d s accepted lies in
    let attachment : attachment_in x.gateways x.attachments gateway (vpc_no d row.vpc) ≡ attachment_for d gateway s = gateways gateway row.vpc has in
    ap (λ (site : Site). enter_by (attachment_in x.gateways x.attachments gateway site.vpc) (λ a. zone_subnet_in x.sites x.subnets a s)) (site-is d x.sites s zones.site lies)
    ∙ ap (λ o. enter_by o (λ a. zone_subnet_in x.sites x.subnets a s)) attachment
    ∙ enter_by-same (attachment_for d gateway s) (λ a. zone_subnet_in x.sites x.subnets a s) (λ a. zone_subnet d a s)
    (λ a found.
    let of = found-vpc d gateway s a found in
    let att = attachment_at d a in
    zones.zone a s of.0 lies ∙ ap (λ b. subnet_in_zone d row.zone (cond b att.subnets [])) (ap (has_vpc d) of.1 ∙ has))

-- ---- leaving

leave-inner : (d : Description) (zone : List ℕ) (ids : List (List ℕ)) (b : Bool) → or_else (subnet_in_zone d zone (cond b ids [])) (first_subnet d (cond b ids [])) ≡ cond b (or_else (subnet_in_zone d zone ids) (first_subnet d ids)) None
leave-inner d zone ids true = refl
leave-inner d zone ids false = refl

pub leaving-is : (d : Description) (x : TransitLists) (a : AttNo) (s : SubnetNo) → HasZonesOf d x.sites x.subnets x.firsts → is_attachment d a ≡ true → is_subnet d s ≡ true → leaving x.sites x.subnets x.firsts a s ≡ leave_subnet d a s
leaving-is d x a s zones has_a has_s =
    let row = subnet_at d s in
    let att = attachment_at d a in
    let first : get_or x.firsts a.0 None ≡ first_of d att = ap (λ l. get_or l a.0 None) zones.first ∙ get_or-map (first_of d) d.attachments a.0 no_attachment None (ltb-true a.0 (length d.attachments) has_a) in
    ap (λ o. or_else o (get_or x.firsts a.0 None)) (zones.zone a s has_a has_s)
    ∙ ap (or_else (subnet_in_zone d row.zone (inner_subnets d att))) first
    ∙ leave-inner d row.zone att.subnets (has_vpc d att.vpc)

-- ---- all of it

pub is_transit_of : (d : Description) (x : TransitLists) → IsAccepted d → HasGatewaysOf d x.gateways x.attachments → HasZonesOf d x.sites x.subnets x.firsts → x.tables ≡ map (table_of_row d) d.attachments → x.behind ≡ map (table_behind d) d.fars
    → AreRouteTables d.tgw_tables x.routes → IsTransitOf d x
is_transit_of d x accepted gateways zones tables behind routes = record {
  subnets = ap length zones.site ∙ length-map d.subnets (site_of d);
  enter = λ gateway s lies. entered_in-is d x gateway s accepted gateways zones lies;
  leave = λ a s has_a has_s. leaving-is d x a s zones has_a has_s;
  firsts = ap length zones.first ∙ length-map d.attachments (first_of d);
  tables = tables;
  behind = behind;
  routes = routes;
}
