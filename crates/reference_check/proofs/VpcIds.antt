-- VPCs by their ids and numbers.
use Rattle.std.proofs.Common.{◌≡◌, ◌∙◌, ◌==◌, ℕ, Contains, List, ap, bytes_eq, get_or, inl, inr, sym, true}
use Rattle.std.proofs.lemmas.Bool.{both_ways, cases_Bool, eq-eqb, ne_eqb}
use Rattle.vpc_base.proofs.Bytes.{bytes_self, same_bytes}
use Rattle.vpc_base.proofs.Members.{row-member}
use Rattle.vpc_model.specs.declared.numbers.VpcNo.{VpcNo}
use Rattle.vpc_model.specs.declared.rows.Description.{Description}
use Rattle.vpc_model.specs.declared.rows.Interface.{Interface}
use Rattle.vpc_model.specs.Accepted.{IsAccepted}
use Rattle.vpc_model.specs.Lookup.{has_vpc, no_subnet, no_vpc, subnet_at, subnet_no, vpc_at, vpc_no, vpc_of_interface}
use Rattle.vpc_model.specs.Sound.{is_vpc}
use Rattle.vpc_laws.proofs.Accepting.{accepted_has_all_named}
use Rattle.vpc_laws.proofs.Numbering.{accepted_numbers_are_own, ids_are_found}

-- a described id is that of a VPC exactly where its number is the VPC's
pub ids_agree : (d : Description) (v : VpcNo) (id : List ℕ) → IsAccepted d → is_vpc d v ≡ true → has_vpc d id ≡ true → bytes_eq id (vpc_at d v).id ≡ ((vpc_no d id).0 == v.0)
ids_agree d v id accepted lies has =
    let own : vpc_no d (vpc_at d v).id ≡ v = (accepted_numbers_are_own d accepted).vpc v lies in
    elim (cases_Bool (bytes_eq id (vpc_at d v).id)) [
      | inl same ↦
          let is = same_bytes id (vpc_at d v).id same in
          same ∙ sym (eq-eqb (vpc_no d id).0 v.0 (ap (λ (i : List ℕ). (vpc_no d i).0) is ∙ ap (λ (n : VpcNo). n.0) own))
      | inr other ↦
          other
          ∙ sym
          (ne_eqb (vpc_no d id).0 v.0
          (λ numbers.
          let found : (vpc_at d (vpc_no d id)).id ≡ id = ((ids_are_found d).vpc id has).1 in
          let is : id ≡ (vpc_at d v).id = sym found ∙ ap (λ (n : ℕ). (get_or d.vpcs n no_vpc).id) numbers in
          both_ways (bytes_eq id (vpc_at d v).id) other (sym (ap (bytes_eq id) is) ∙ bytes_self id)))
    ]

-- the VPC of an interface is described
pub vpc_described : (d : Description) (e : Interface) → IsAccepted d → Contains d.interfaces e → has_vpc d (vpc_of_interface d e) ≡ true
vpc_described d e accepted member =
    let named = accepted_has_all_named d accepted in
    let has = named.subnet_of_interface e member in
    let found = (ids_are_found d).subnet e.subnet has in
    named.vpc_of_subnet (subnet_at d (subnet_no d e.subnet)) (row-member d.subnets (subnet_no d e.subnet).0 no_subnet found.0)
