-- The sides of a query: what its pairs give, and what is meant where they are left out.
use Rattle.std.specs.Prelude.{Err, None, Ok, Option, Result, Some, ℕ}
use Rattle.vpc_laws.specs.Types.{Box5, Description, End, Interface}
use Rattle.vpc_model.specs.declared.places.End.TheVariants as ends
use Rattle.vpc_model.specs.Lookup.{interface_at}
use Rattle.query_words.specs.declared.ends.Ends.{Ends}
use Rattle.query_words.specs.declared.pairs.Pairs.{Pairs}
use Rattle.query_words.specs.declared.refusal.QueryRefusal.{QueryRefusal}
use Rattle.query_words.specs.declared.refusal.QueryRefusal.TheVariants as refusals
use Rattle.query_words.specs.Refusal.{◌>>=◌}

-- every address
abbrev pub all_addresses : ℕ × ℕ
all_addresses = (0, 4294967295)

-- the primary private address of an interface, alone
abbrev pub primary_side : Interface → Option ℕ → Result (ℕ × ℕ) QueryRefusal
primary_side e (Some a) = Ok (a, a)
primary_side e None = Err (refusals.NoAddress e.id)

-- the addresses that are meant at an end
abbrev pub own_side : Description → End → Result (ℕ × ℕ) QueryRefusal
own_side d (ends.Interface i) = let e = interface_at d i in primary_side e e.primary
own_side d ends.Internet = Ok all_addresses
own_side d (ends.Far k) = Ok all_addresses

-- the sources: by default those of the start
abbrev pub src_of : Description → End → Option (ℕ × ℕ) → Result (ℕ × ℕ) QueryRefusal
src_of d start (Some side) = Ok side
src_of d start None = own_side d start

-- the destinations that are meant by default: an interface that is asked for from the internet is reached by no private address, and
-- one that is asked for from another network by any of its own
abbrev pub own_goal : Description → End → End → Result (ℕ × ℕ) QueryRefusal
own_goal d (ends.Interface i) goal = own_side d goal
own_goal d ends.Internet goal = Ok all_addresses
own_goal d (ends.Far k) goal = Ok all_addresses

-- the destinations: by default those of the goal
abbrev pub dst_of : Description → Ends → Option (ℕ × ℕ) → Result (ℕ × ℕ) QueryRefusal
dst_of d e (Some side) = Ok side
dst_of d e None = own_goal d e.start e.goal

-- the sides, or the first interface that has no primary address where one is meant
abbrev pub sides_of : Description → Ends → Pairs → Result Box5 QueryRefusal
sides_of d e pairs = do
  src ← src_of d e.start pairs.src
  dst ← dst_of d e pairs.dst
  Ok (record { proto = (pairs.proto, pairs.proto); src = src; dst = dst; p = pairs.p; q = pairs.q })
