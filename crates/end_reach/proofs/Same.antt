-- Starts of one question are one list.
use Rattle.std.proofs.Common.{◌≡◌, ◌∙◌, List, None, Option, Some, ap₂, sym, ℕ}
use Rattle.described_hosts.specs.Hosts.{AreHostsById, hosts_of, id_of}
use Rattle.described_hosts.specs.Outside.{far_id}
use Rattle.listing_text.proofs.Same.{same_by_id}
use Rattle.listing_text.specs.Outside.{AreSourcesById}
use Rattle.listing_text.specs.Outside as listed
use Rattle.end_reach.specs.Asked.{AreStarts, starts_among}
use Rattle.vpc_laws.specs.Types.{Description, End, EniNo, FarNo}

same_hosts : (d : Description) (xs ys : List EniNo) → AreHostsById d xs → AreHostsById d ys → xs ≡ ys
same_hosts d xs ys a b = same_by_id (id_of d) (hosts_of d) xs ys a.all b.all a.ascending b.ascending

same_sources : (d : Description) (xs ys : List FarNo) → AreSourcesById d xs → AreSourcesById d ys → xs ≡ ys
same_sources d xs ys a b = same_by_id (far_id d) (listed.sources_of d) xs ys a.all b.all a.ascending b.ascending

pub same_starts : (d : Description) (src : Option (ℕ × ℕ)) (start goal : Option End) (xs ys : List End) → AreStarts d src start goal xs → AreStarts d src start goal ys → xs ≡ ys
same_starts d src (Some start) goal xs ys a b = a ∙ sym b
same_starts d src None goal xs ys a b =
    a.are ∙ (ap₂ (starts_among d src goal) (same_hosts d a.hosts b.hosts a.by_id b.by_id) (same_sources d a.outside b.outside a.outside_by_id b.outside_by_id) ∙ sym b.are)
