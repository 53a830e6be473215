-- What stands beside networks that aren't described.
use Rattle.std.proofs.Common.{◌≡◌, IfSome, List, None, Option, Some, ap, arith, bytes_eq, false, is_some, length, subst, sym, true, ℕ}
use Rattle.std.proofs.lemmas.List.{get_or_past}
use Rattle.vpc_base.proofs.Positions.{position-nowhere}
use Rattle.vpc_laws.proofs.Numbering.{ids_are_found}
use Rattle.vpc_model.specs.Far.{vpc_of_pair}
use Rattle.vpc_model.specs.Lookup.{has_peering, has_vpc, no_peering, peer_no, peering_at, vpc_no}
use Rattle.vpc_model.specs.Sound.{is_vpc}
use Rattle.vpc_model.specs.declared.numbers.VpcNo.{VpcNo}
use Rattle.vpc_model.specs.declared.rows.Description.{Description}
use Rattle.vpc_model.specs.declared.rows.Peering.{Peering}
use Rattle.reference_check.specs.Outside.{vpc_of_peering}
use Rattle.reference_check.proofs.Firsts.{missing-length}

-- a VPC that an id finds has a number in range
pub vpc-lies : (d : Description) (id : List ℕ) (found : Option VpcNo) → is_some found ≡ has_vpc d id → IfSome found (λ v. v ≡ vpc_no d id) → IfSome found (λ v. is_vpc d v ≡ true)
vpc-lies d id None some own = tt
vpc-lies d id (Some v) some own = subst (λ (k : VpcNo). is_vpc d k ≡ true) (sym own) ((ids_are_found d).vpc id (sym some)).0

-- where a peering isn't described, no VPC is beside it
pub no-vpc_of_peering : (d : Description) (id : List ℕ) → has_peering d id ≡ false → None ≡ vpc_of_peering d id
no-vpc_of_peering d id none =
    let own = λ (row : Peering). bytes_eq row.id id in
    let past : length d.peerings ≡ (peer_no d id).0 = sym (missing-length own d.peerings (position-nowhere own d.peerings none)) in
    let row : peering_at d (peer_no d id) ≡ no_peering = get_or_past d.peerings (peer_no d id).0 no_peering (omega arith) in
    ap (λ (x : Peering). vpc_of_pair d x.pair) (sym row)
