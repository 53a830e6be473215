-- Rows of an accepted network.
use Rattle.std.proofs.Common.{◌≡◌, ◌∙◌, ◌<◌, ◌^◌, [], Bool, Contains, List, ap, arith, false, length, refl, subst, sym, true}
use Rattle.std.specs.List.{list_any, position_or_len}
use Rattle.std.proofs.lemmas.Bool.{ltb-false, ltb-true}
use Rattle.std.proofs.lemmas.List.Elements.{Contains-get_or}
use Rattle.vpc_base.proofs.Positions.{list_any-position, position-le}
use Rattle.vpc_laws.proofs.Accepting.{accepted_has_all_named}
use Rattle.vpc_laws.proofs.Numbering.{accepted_numbers_are_in_range, ids_are_found}
use Rattle.vpc_laws.specs.Accepted.{IsShort}
use Rattle.vpc_laws.specs.Types.{AclNo, Description, NatLife, NatNo, SubnetNo, TableNo}
use Rattle.vpc_model.specs.Accepted.{IsAccepted}
use Rattle.vpc_model.specs.Lookup.{acl_of, nat_at, no_nat, subnet_no, table_of}
use Rattle.vpc_model.specs.Sound.{is_acl, is_live, is_nat, is_subnet, is_table}
use Rattle.vpc_model.specs.Step.Nat.{own_subnet}
use Rattle.vpc_model.specs.declared.rows.NatLife.TheVariants as lives

-- the ACL of a subnet is described
pub acl-lies : (d n : Description) (s : SubnetNo) (a : AclNo) → n ≡ d → IsAccepted n → is_subnet d s ≡ true → a ≡ acl_of n s → is_acl d a ≡ true
acl-lies d n s a same accepted lies is =
    subst (λ (x : AclNo). is_acl d x ≡ true) (sym (is ∙ ap (λ (x : Description). acl_of x s) same))
    ((accepted_numbers_are_in_range d (subst IsAccepted same accepted)).acl_of_subnet s lies)

-- the subnet of a live NAT gateway is described
pub nat_subnet-lies : (d n : Description) (k : NatNo) (s : SubnetNo) → n ≡ d → IsAccepted n → is_nat d k ≡ true → (let row = nat_at d k in is_live row.life ≡ true)
    → (let row = nat_at d k in s ≡ subnet_no d (own_subnet row.life)) → is_subnet d s ≡ true
nat_subnet-lies d n k s same accepted lies live is = subst (λ (x : SubnetNo). is_subnet d x ≡ true) (sym is) (by (nat_at d k).life refl live)
  where
    by : (life : NatLife) → (nat_at d k).life ≡ life → is_live life ≡ true → is_subnet d (subnet_no d (own_subnet life)) ≡ true
    by lives.Gone own live = absurd cc
    by lives.Unmodelled own live = absurd cc
    by (lives.Live subnet eni address) own live =
        let listed : Contains d.nats (nat_at d k) = Contains-get_or d.nats k.0 no_nat (ltb-true k.0 (length d.nats) lies) in
        let named = (accepted_has_all_named d (subst IsAccepted same accepted)).place_of_nat (nat_at d k) subnet eni address listed own in
        ((ids_are_found d).subnet subnet named.0).0

-- the table of a subnet is described
pub table-lies : (d n : Description) (s : SubnetNo) (t : TableNo) → n ≡ d → IsAccepted n → is_subnet d s ≡ true → t ≡ table_of n s → is_table d t ≡ true
table-lies d n s t same accepted lies is =
    subst (λ (x : TableNo). is_table d x ≡ true) (sym (is ∙ ap (λ (x : Description). table_of x s) same))
    ((accepted_numbers_are_in_range d (subst IsAccepted same accepted)).table_of_subnet s lies)

-- where no row has an id, its number is how many rows there are
pub number-past : {X : Type 0} (p : X → Bool) (rows own : List X) → rows ≡ own → list_any p own ≡ false → length rows ≡ position_or_len p own
number-past p rows own same none =
    let all = ap length same in
    let past = ltb-false (position_or_len p own) (length own) (sym (list_any-position p own) ∙ none) in
    let upto = position-le p own in
    omega arith

-- a short list is counted in 32 bits
pub few-rows : {X : Type 0} (rows own : List X) → rows ≡ own → IsShort own → length rows < 2 ^ 32
few-rows rows own same short = let all = ap length same in omega arith
