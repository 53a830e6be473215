-- Pairs of interfaces, and the query about one.
use Rattle.std.specs.Prelude.{◌&&◌, ◌≡◌, Bool, is_some, true, unwrap_or, ℕ}
use Rattle.query_words.specs.declared.queries.Query.{Query}
use Rattle.vpc_laws.specs.Types.{Box5, Description, EniNo}
use Rattle.vpc_model.specs.Lookup.{interface_at}
use Rattle.vpc_model.specs.Sound.{is_eni}
use Rattle.vpc_model.specs.declared.places.End.TheVariants as ends

-- ---- primary private addresses (EC2 API, DescribeNetworkInterfaces: PrivateIpAddress)

-- the interface has one
abbrev pub has_primary : Description → EniNo → Bool
has_primary d i = let e = interface_at d i in is_some e.primary

-- both have one
abbrev pub have_addresses : Description → EniNo × EniNo → Bool
have_addresses d pair = has_primary d pair.0 && has_primary d pair.1

-- the one that it has
abbrev pub address_of : Description → EniNo → ℕ
address_of d i = let e = interface_at d i in unwrap_or e.primary 0

-- a described interface that has one
pub record IsAddressed (d : Description) (i : EniNo) : Type 0 where
  pub described : is_eni d i ≡ true
  pub primary : has_primary d i ≡ true

-- ---- queries

-- all TCP headers from one address to another, from any port to these
abbrev pub requests_between : ℕ → ℕ → ℕ × ℕ → Box5
requests_between src dst ports = record { proto = (6, 6); src = (src, src); dst = (dst, dst); p = (0, 65535); q = ports }

-- the query about a pair: all TCP requests from the primary address of the one to that of the other, from any port to these
abbrev pub query_between : Description → EniNo × EniNo → ℕ × ℕ → Query
query_between d pair ports = record {
  start = ends.Interface pair.0;
  goal = ends.Interface pair.1;
  sides = requests_between (address_of d pair.0) (address_of d pair.1) ports;
  max = 20000;
}
