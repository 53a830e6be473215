-- What networks that aren't described change between other ends.
use Rattle.std.specs.Prelude.{◌≡◌, ◌⊎◌, [], Bool, List, None, Some, false, true, ℕ}
use Rattle.vpc_laws.specs.Types.{Description, End, FarNo, Foreign, Header, Phase, Verdict}
use Rattle.vpc_model.specs.Far.{far_end_of_id, far_of_id}
use Rattle.vpc_model.specs.Firewalls.{firewall_of_id}
use Rattle.vpc_model.specs.Lookup.{attachment_of_id}
use Rattle.vpc_model.specs.Terms.{Appliances, verdict_of}
use Rattle.vpc_model.specs.declared.outcomes.Verdict.TheVariants as verdicts
use Rattle.vpc_model.specs.declared.places.End.TheVariants as ends
use Rattle.vpc_model.specs.declared.stops.Stop.TheVariants as stops

-- the description without what leads to networks of which it tells nothing else
abbrev pub without_networks : Description → Description
without_networks d = record d { fars = [] }

-- nothing else has the id of what leads to such a network: no firewall endpoint, and no attachment of a VPC
pub record TellsOnce (d : Description) : Type 0 where
  pub firewalls : (id : List ℕ) (k : FarNo) → far_of_id d id ≡ Some k → firewall_of_id d id ≡ None
  pub attachments : (id : List ℕ) (k : FarNo) → far_end_of_id d id ≡ Some k → attachment_of_id d id ≡ None

-- another end: an interface, or the internet
abbrev pub is_other_end : End → Bool
is_other_end (ends.Interface i) = true
is_other_end ends.Internet = true
is_other_end (ends.Far k) = false

-- it isn't known what becomes of a request or of its reply
pub record IsUnknown (v : Verdict) : Type 0 where
  pub phase : Phase
  pub foreign : Foreign
  pub stops_there : v ≡ verdicts.Stopped phase (stops.Unmodelled foreign)

-- without such networks a verdict between other ends is the same, or isn't known
abbrev pub DiffersWhereUnknown : Type 0
DiffersWhereUnknown =
    (d : Description) (appliances : Appliances) (start goal : End) (h : Header) → TellsOnce d → is_other_end start ≡ true → is_other_end goal ≡ true
    → let v = verdict_of (without_networks d) appliances start goal h in IsUnknown v ⊎ (verdict_of d appliances start goal h ≡ v)
