-- The words for where packets start and arrive.
use Rattle.std.specs.Prelude.{◌≡◌, ◌≢◌, if◌then◌else◌, Bool, Err, List, None, Ok, Option, Result, Some, bytes_eq, codes, false, true, ℕ}
use Rattle.vpc_laws.specs.Types.{Description, End, EniNo, FarKind, FarNo}
use Rattle.vpc_model.specs.Far.{far_of_id, is_far_end}
use Rattle.vpc_model.specs.declared.rows.FarKind.TheVariants as kinds
use Rattle.vpc_model.specs.declared.places.End.TheVariants as ends
use Rattle.vpc_model.specs.Lookup.{eni_no, far_at, has_interface, interface_at}
use Rattle.vpc_model.specs.Sound.{is_end}
use Rattle.vpc_model.specs.Step.Crossing.{is_gateway}
use Rattle.query_words.specs.declared.ends.Ends.{Ends}
use Rattle.query_words.specs.declared.refusal.QueryRefusal.{QueryRefusal}
use Rattle.query_words.specs.declared.refusal.QueryRefusal.TheVariants as refusals
use Rattle.query_words.specs.Refusal.{◌>>=◌}
use Rattle.query_words.specs.Words.{expect_word, word_at}

-- an interface as an end, where it belongs to no gateway
abbrev pub end_at : Description → EniNo → Result End QueryRefusal
end_at d i =
    let e = interface_at d i in
    if is_gateway e.kind then Err (refusals.NotAnEnd e.id) else Ok (ends.Interface i)

-- a network that isn't described as an end, where a described VPC isn't at the other side
abbrev pub far_end_at : Description → FarNo → Result End QueryRefusal
far_end_at d k = let far = far_at d k in if is_far_end d far then Ok (ends.Far k) else Err (refusals.NotAnEnd far.id)

-- an end that a row is, as one
abbrev pub some_end : Result End QueryRefusal → Result (Option End) QueryRefusal
some_end end = end >>= (λ e. Ok (Some e))

-- the network to which what has an id leads
abbrev pub far_named : Description → Option FarNo → Result (Option End) QueryRefusal
far_named d None = Ok None
far_named d (Some k) = some_end (far_end_at d k)

-- the end with an id, an interface before a network; none where no row has it
abbrev pub end_with : Description → List ℕ → Result (Option End) QueryRefusal
end_with d id = if has_interface d id then some_end (end_at d (eni_no d id)) else far_named d (far_of_id d id)

-- an end that there is, or the number of the word that names none
abbrev pub known : ℕ → Option End → Result End QueryRefusal
known n None = Err (refusals.UnknownId n)
known n (Some end) = Ok end

-- the end with an id, which the word with this number is
abbrev pub known_end : Description → List ℕ → ℕ → Result End QueryRefusal
known_end d id n = end_with d id >>= known n

-- the end that the word with this number names; `internet` always means the internet
abbrev pub end_of : Description → List (List ℕ) → ℕ → Result End QueryRefusal
end_of d words n =
    let word = word_at words n in
    if bytes_eq word (codes "internet") then Ok ends.Internet else known_end d word n

-- what leads to a service of AWS
abbrev pub is_endpoint : FarKind → Bool
is_endpoint (kinds.PrivateGateway vpc) = false
is_endpoint (kinds.Attachment vpc) = false
is_endpoint (kinds.Peering requester accepter) = false
is_endpoint (kinds.Endpoint vpc) = true

-- a service, which opens no connections
abbrev pub is_service : Description → End → Bool
is_service d (ends.Interface i) = false
is_service d ends.Internet = false
is_service d (ends.Far k) = let far = far_at d k in is_endpoint far.kind

-- a start of requests, or the number of the word that names a service
abbrev pub opens : Description → ℕ → End → Result End QueryRefusal
opens d n end = if is_service d end then Err (refusals.NotAStart n) else Ok end

-- the start of requests that the word with this number names
abbrev pub start_of : Description → List (List ℕ) → ℕ → Result End QueryRefusal
start_of d words n = end_of d words n >>= opens d n

-- the two ends of a query, which aren't both the internet
abbrev pub not_both : End → End → Result Ends QueryRefusal
not_both ends.Internet ends.Internet = Err refusals.BothInternet
not_both start goal = Ok (record { start = start; goal = goal })

-- both ends are described, and not both the internet
pub record AreDescribed (d : Description) (from to : End) : Type 0 where
  pub start : is_end d from ≡ true
  pub goal : is_end d to ≡ true
  pub apart : from ≡ ends.Internet → to ≢ ends.Internet

-- `from END to END`
abbrev pub ends_of : Description → List (List ℕ) → Result Ends QueryRefusal
ends_of d words = do
  from ← expect_word (codes "from") words 3
  start ← start_of d words 4
  to ← expect_word (codes "to") words 5
  goal ← end_of d words 6
  not_both start goal
