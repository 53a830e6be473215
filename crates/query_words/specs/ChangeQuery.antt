-- The words of `diff BEFORE AFTER` and pairs, which are those of `reach`. Ends are named by ids, each in two networks.
use Rattle.std.specs.Prelude.{◌≡◌, ◌||◌, if◌then◌else◌, Bool, Err, IfSome, List, None, Ok, Option, Result, Some, bytes_eq, codes, false, is_some, option_and_then, true, ℕ}
use Rattle.vpc_laws.specs.Types.{Description, End}
use Rattle.vpc_model.specs.Lookup.{interface_at}
use Rattle.vpc_model.specs.Sound.{is_end}
use Rattle.vpc_model.specs.declared.places.End.TheVariants as ends
use Rattle.query_words.specs.Ends.{end_with, is_service}
use Rattle.query_words.specs.Pairs.{pair_or}
use Rattle.query_words.specs.ReachQuery.{apart, reach_pairs_of}
use Rattle.query_words.specs.Refusal.{◌>>=◌}
use Rattle.query_words.specs.Words.{word_at}
use Rattle.query_words.specs.declared.changes.ChangeQuery.{ChangeQuery}
use Rattle.query_words.specs.declared.changes.ChangedEnd.{ChangedEnd}
use Rattle.query_words.specs.declared.refusal.QueryRefusal.{QueryRefusal}
use Rattle.query_words.specs.declared.refusal.QueryRefusal.TheVariants as refusals

-- ---- ends

-- the internet, which each network has
abbrev pub internet_in_both : ChangedEnd
internet_in_both = record { before = Some ends.Internet; after = Some ends.Internet }

-- an end that one of the networks has
abbrev pub in_either : ChangedEnd → ℕ → Result ChangedEnd QueryRefusal
in_either e n = if is_some e.before || is_some e.after then Ok e else Err (refusals.UnknownId n)

-- the end with an id as it stands in each; what is no end in one of them is refused
abbrev pub named_end : Description → Description → List ℕ → ℕ → Result ChangedEnd QueryRefusal
named_end before after id n = do
  b ← end_with before id
  a ← end_with after id
  in_either (record { before = b; after = a }) n

-- END: the word with this number names an end of one network or of both
abbrev pub changed_end_of : Description → Description → List (List ℕ) → ℕ → Result ChangedEnd QueryRefusal
changed_end_of before after words n =
    let id = word_at words n in
    if bytes_eq id (codes "internet") then Ok internet_in_both
    else named_end before after id n

abbrev pub given_changed_end : Description → Description → List (List ℕ) → ℕ → Result (Option ChangedEnd) QueryRefusal
given_changed_end before after words n = changed_end_of before after words n >>= (λ e. Ok (Some e))

-- a service where it is described
abbrev pub is_service_in : Description → Option End → Bool
is_service_in d None = false
is_service_in d (Some end) = is_service d end

-- a start of requests, or the number of the word that names a service of one of the networks
abbrev pub changed_opens : Description → Description → ℕ → ChangedEnd → Result ChangedEnd QueryRefusal
changed_opens before after n e =
    if is_service_in before e.before || is_service_in after e.after then Err (refusals.NotAStart n) else Ok e

-- END, from which requests are sent
abbrev pub changed_start_of : Description → Description → List (List ℕ) → ℕ → Result ChangedEnd QueryRefusal
changed_start_of before after words n = changed_end_of before after words n >>= changed_opens before after n

abbrev pub given_changed_start : Description → Description → List (List ℕ) → ℕ → Result (Option ChangedEnd) QueryRefusal
given_changed_start before after words n = changed_start_of before after words n >>= (λ e. Ok (Some e))

-- as it stands in the first network
abbrev pub before_of : Option ChangedEnd → Option End
before_of end = option_and_then (λ e. e.before) end

-- ---- sources

-- the primary address of an end, where the network has it and it has one
abbrev pub primary_in : Description → Option End → Option ℕ
primary_in d None = None
primary_in d (Some ends.Internet) = None
primary_in d (Some (ends.Far k)) = None
primary_in d (Some (ends.Interface i)) = let e = interface_at d i in e.primary

-- an interface is refused by its id; other ends need no address
abbrev pub without_address : Description → Description → Option End → Option End → Result (Unit {0}) QueryRefusal
without_address before after (Some ends.Internet) a = Ok tt
without_address before after (Some (ends.Far k)) a = Ok tt
without_address before after (Some (ends.Interface i)) a = let e = interface_at before i in Err (refusals.NoAddress e.id)
without_address before after None None = Ok tt
without_address before after None (Some ends.Internet) = Ok tt
without_address before after None (Some (ends.Far k)) = Ok tt
without_address before after None (Some (ends.Interface i)) = let e = interface_at after i in Err (refusals.NoAddress e.id)

-- a start has a primary address in one of the networks
abbrev pub has_source : Description → Description → ChangedEnd → Bool
has_source before after start = is_some (primary_in before start.before) || is_some (primary_in after start.after)

-- a start that is given has a source: that which is given, or one of its own
abbrev pub change_sourced : Description → Description → Option ChangedEnd → Option (ℕ × ℕ) → Result (Unit {0}) QueryRefusal
change_sourced before after None src = Ok tt
change_sourced before after (Some start) (Some side) = Ok tt
change_sourced before after (Some start) None =
    if has_source before after start then Ok tt else without_address before after start.before start.after

-- ---- the query

-- the query, or the first word that can't be taken; that an address is missing is told last
abbrev pub change_query_of : Description → Description → List (List ℕ) → Result ChangeQuery QueryRefusal
change_query_of before after words = do
  from ← pair_or None (codes "from") (given_changed_start before after) words 4
  to ← pair_or None (codes "to") (given_changed_end before after) words from.next
  both ← apart (before_of from.value) (before_of to.value)
  pairs ← reach_pairs_of words to.next
  source ← change_sourced before after from.value pairs.src
  Ok (record { start = from.value; goal = to.value; pairs = pairs })

-- an end that one of the networks has, described where it is
pub record IsChangedEnd (before after : Description) (end : ChangedEnd) : Type 0 where
  pub before_is : IfSome end.before (λ e. is_end before e ≡ true)
  pub after_is : IfSome end.after (λ e. is_end after e ≡ true)
  pub some : is_some end.before || is_some end.after ≡ true

-- the ends that are given are such ends
pub record AreChangedEnds (before after : Description) (query : ChangeQuery) : Type 0 where
  pub start : IfSome query.start (IsChangedEnd before after)
  pub goal : IfSome query.goal (IsChangedEnd before after)
