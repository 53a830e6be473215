-- NAT gateways by their interfaces (EC2 API, DescribeNatGateways).
use Rattle.std.specs.Prelude.{◌∷◌, ◌++◌, ◌+◌, ◌≡◌, [], List, ℕ, true}
use Rattle.number_tables.specs.Entries.{value_at}
use Rattle.number_tables.specs.declared.tables.Entry.{Entry}
use Rattle.vpc_laws.specs.Types.{Description, EniNo, NatGateway, NatNo}
use Rattle.vpc_model.specs.Lookup.{eni_no}
use Rattle.vpc_model.specs.Sound.{is_eni}
use Rattle.vpc_model.specs.Step.Crossing.{nat_of}
use Rattle.vpc_model.specs.declared.rows.NatLife.{NatLife}
use Rattle.vpc_model.specs.declared.rows.NatLife.TheVariants as lives

-- a gateway by the number of its interface, if it is live
abbrev pub life_entry : Description → ℕ → NatLife → List (Entry NatNo)
life_entry d k lives.Gone = []
life_entry d k lives.Unmodelled = []
life_entry d k (lives.Live subnet eni address) = let i = eni_no d eni in record { key = i.0; value = record { 0 = k } } ∷ []

abbrev pub nat_entry : Description → ℕ → NatGateway → List (Entry NatNo)
nat_entry d k n = life_entry d k n.life

-- the gateways that are numbered from a number on
abbrev pub nat_entries : Description → ℕ → List NatGateway → List (Entry NatNo)
nat_entries d k [] = []
nat_entries d k (n ∷ rest) = nat_entry d k n ++ nat_entries d (k + 1) rest

-- what stands at an interface is its NAT gateway
abbrev pub AreNats : Description → List (Entry NatNo) → Type 0
AreNats d table = (i : EniNo) → is_eni d i ≡ true → value_at i.0 table ≡ nat_of d i
