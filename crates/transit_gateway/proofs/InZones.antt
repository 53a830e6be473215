-- The first subnet of an attachment in a zone, found in the tables.
use Rattle.std.proofs.Common.{All, Bool, Contains, List, None, Option, Some, [], ap, arith, bytes_eq, cond, false, find, get_or, length, map, option_map, refl, subst, suc, sym, true, zero, ℕ, ◌&&◌, ◌+◌, ◌<◌, ◌==◌, ◌^◌, ◌∙◌, ◌∷◌, ◌≡◌}
use Rattle.std.specs.List.{list_any}
use Rattle.vpc_base.proofs.Lemmas.{Contains-get_or, Contains-here, Contains-later, Contains-none, and_parts, eq-eqb, get_or-map, ltb-true, position-le, row-member}
use Rattle.number_tables.specs.Entries.{value_at}
use Rattle.number_tables.specs.declared.tables.Entry.{Entry}
use Rattle.vpc_laws.specs.Types.{Attachment, Description, Subnet, SubnetNo}
use Rattle.vpc_laws.proofs.Lemmas.{accepted_has_all_named, accepted_has_short_lists, ids_are_found}
use Rattle.vpc_model.specs.Terms.{IsAccepted, attachment_at, has_subnet, has_vpc, is_in_zone, is_subnet, or_else, subnet_at, subnet_in_zone, subnet_no}
use Rattle.vpc_model.proofs.Choice.{or_else-none}
use Rattle.number_tables.specs.Keys.{key_of}
use Rattle.transit_gateway.specs.Terms.{HasZonesOf, Site, first_of, inner_subnets, site_at, site_of, zone_entries, zone_entry, zone_no}
use Rattle.vpc_model.specs.Lookup.{no_attachment}
use Rattle.number_tables.proofs.KeyLemmas.{key_of-other, key_of-same}
use Rattle.transit_gateway.proofs.KeyLemmas.{list_any-own, number-same, value_at-append}
use Rattle.vpc_model.specs.Lookup.{no_subnet}

zone-below : (d : Description) (zone : List ℕ) → IsAccepted d → zone_no d zone < 2 ^ 32
zone-below d zone accepted =
    let most = position-le (λ (s : Subnet). bytes_eq s.zone zone) d.subnets in
    let short = (accepted_has_short_lists d accepted).subnets in
    omega arith

-- the zone of a described subnet is one
pub zone-there : (d : Description) (s : SubnetNo) → is_subnet d s ≡ true → list_any (λ x. bytes_eq x.zone (subnet_at d s).zone) d.subnets ≡ true
zone-there d s lies = list_any-own (λ (x : Subnet). x.zone) d.subnets (subnet_at d s) (row-member d.subnets s.0 no_subnet lies)

-- ---- the subnets of one attachment

-- the key of a subnet is the one that is asked for only where its zone is
zone_entry-same : (d : Description) (k : ℕ) (id zone : List ℕ) → IsAccepted d → has_subnet d id ≡ true → list_any (λ s. bytes_eq s.zone zone) d.subnets ≡ true → ((zone_entry d k id).key == key_of k (zone_no d zone)) ≡ is_in_zone d zone id
zone_entry-same d k id zone accepted has there =
    let row = subnet_at d (subnet_no d id) in
    let own = zone-there d (subnet_no d id) ((ids_are_found d).subnet id has).0 in
    key_of-same k k (zone_no d row.zone) (zone_no d zone) (zone-below d row.zone accepted) (zone-below d zone accepted)
    ∙ ap (λ b. b && (zone_no d row.zone == zone_no d zone)) (eq-eqb k k refl)
    ∙ number-same (λ (s : Subnet). s.zone) d.subnets no_subnet row.zone zone own there

own-zones : (d : Description) (k : ℕ) (zone : List ℕ) → IsAccepted d → list_any (λ s. bytes_eq s.zone zone) d.subnets ≡ true → (ids : List (List ℕ)) → ((id : List ℕ) → Contains ids id → has_subnet d id ≡ true)
    → value_at (key_of k (zone_no d zone)) (map (zone_entry d k) ids) ≡ subnet_in_zone d zone ids
own-zones d k zone accepted there [] all = refl
own-zones d k zone accepted there (id ∷ ids) all =
    let wanted = key_of k (zone_no d zone) in
    ap (λ b. option_map (λ (x : Entry SubnetNo). x.value) (cond b (Some (zone_entry d k id)) (find (λ x. x.key == wanted) (map (zone_entry d k) ids)))) (zone_entry-same d k id zone accepted (all id (Contains-here id ids)) there)
    ∙ by (is_in_zone d zone id) (own-zones d k zone accepted there ids (λ i h. all i (Contains-later id ids i h)))
  where
    by : (b : Bool) → value_at (key_of k (zone_no d zone)) (map (zone_entry d k) ids) ≡ subnet_in_zone d zone ids
        → option_map (λ (x : Entry SubnetNo). x.value) (cond b (Some (zone_entry d k id)) (find (λ x. x.key == key_of k (zone_no d zone)) (map (zone_entry d k) ids))) ≡ option_map (subnet_no d) (cond b (Some id) (find (is_in_zone d zone) ids))
    by true h = refl
    by false h = h

other-zones : (d : Description) (k m z : ℕ) → IsAccepted d → (k ≡ m → ⊥) → z < 2 ^ 32 → (ids : List (List ℕ)) → value_at (key_of m z) (map (zone_entry d k) ids) ≡ None
other-zones d k m z accepted other fits [] = refl
other-zones d k m z accepted other fits (id ∷ ids) =
    let row = subnet_at d (subnet_no d id) in
    ap (λ b. option_map (λ (x : Entry SubnetNo). x.value) (cond b (Some (zone_entry d k id)) (find (λ x. x.key == key_of m z) (map (zone_entry d k) ids)))) (key_of-other k m (zone_no d row.zone) z other (zone-below d row.zone accepted) fits)
    ∙ other-zones d k m z accepted other fits ids

-- ---- those of all attachments

later-zones : (d : Description) (k m z : ℕ) → IsAccepted d → m < k → z < 2 ^ 32 → (rows : List Attachment) → value_at (key_of m z) (zone_entries d k rows) ≡ None
later-zones d k m z accepted before fits [] = refl
later-zones d k m z accepted before fits (a ∷ rows) =
    value_at-append (key_of m z) (map (zone_entry d k) (inner_subnets d a)) (zone_entries d (k + 1) rows)
    ∙ ap (λ o. or_else o (value_at (key_of m z) (zone_entries d (k + 1) rows))) (other-zones d k m z accepted (λ e. absurd (omega arith)) fits (inner_subnets d a))
    ∙ later-zones d (k + 1) m z accepted (omega arith) fits rows

zone_entries-at : (d : Description) (z : ℕ) → IsAccepted d → z < 2 ^ 32 → (k j n : ℕ) (rows : List Attachment) → n ≡ k + j → j < length rows
    → value_at (key_of n z) (zone_entries d k rows) ≡ value_at (key_of n z) (map (zone_entry d n) (inner_subnets d (get_or rows j no_attachment)))
zone_entries-at d z accepted fits k j n [] is within = absurd (omega arith)
zone_entries-at d z accepted fits k zero n (a ∷ rows) is within =
    let same : k ≡ n = omega arith in
    value_at-append (key_of n z) (map (zone_entry d k) (inner_subnets d a)) (zone_entries d (k + 1) rows)
    ∙ ap (or_else (value_at (key_of n z) (map (zone_entry d k) (inner_subnets d a)))) (later-zones d (k + 1) n z accepted (omega arith) fits rows)
    ∙ or_else-none (value_at (key_of n z) (map (zone_entry d k) (inner_subnets d a)))
    ∙ ap (λ m. value_at (key_of n z) (map (zone_entry d m) (inner_subnets d a))) same
zone_entries-at d z accepted fits k (suc j) n (a ∷ rows) is within =
    value_at-append (key_of n z) (map (zone_entry d k) (inner_subnets d a)) (zone_entries d (k + 1) rows)
    ∙ ap (λ o. or_else o (value_at (key_of n z) (zone_entries d (k + 1) rows))) (other-zones d k n z accepted (λ e. absurd (omega arith)) fits (inner_subnets d a))
    ∙ zone_entries-at d z accepted fits (k + 1) j n rows (omega arith) (omega arith)

-- ---- all of it

-- the subnets of an attachment are described where its VPC is
pub inner-described : (d : Description) (a : Attachment) → IsAccepted d → Contains d.attachments a → (id : List ℕ) → Contains (inner_subnets d a) id → has_subnet d id ≡ true
inner-described d a accepted listed id = by (has_vpc d a.vpc) refl
  where
    by : (b : Bool) → has_vpc d a.vpc ≡ b → Contains (cond b a.subnets []) id → has_subnet d id ≡ true
    by true inner member = let of = (accepted_has_all_named d accepted).subnet_of_attachment a id listed inner member in (and_parts (has_subnet d id) _ of).0
    by false outer member = absurd (Contains-none id member)

-- so all that it names are
pub all-described : (d : Description) (a : Attachment) (bytes : List ℕ) (ids : List (List ℕ)) → IsAccepted d → Contains d.attachments a → bytes ≡ a.vpc → has_vpc d bytes ≡ true → ids ≡ a.subnets → All (λ id. has_subnet d id ≡ true) ids
all-described d a bytes ids accepted listed same has is =
    subst (All (λ id. has_subnet d id ≡ true)) (sym is)
    (λ k id within.
    let one = get_or a.subnets k id in
    let of = (accepted_has_all_named d accepted).subnet_of_attachment a one listed (ap (has_vpc d) (sym same) ∙ has) (Contains-get_or a.subnets k id within) in
    (and_parts (has_subnet d one) _ of).0)

-- the site at a subnet's number
pub site-is : (d : Description) (sites : List Site) (s : SubnetNo) → sites ≡ map (site_of d) d.subnets → is_subnet d s ≡ true → site_at sites s ≡ site_of d (subnet_at d s)
site-is d sites s is lies =
    ap (λ l. site_at l s) is ∙ get_or-map (site_of d) d.subnets s.0 no_subnet (record { vpc = record { 0 = 0 }; zone = 0 }) (ltb-true s.0 (length d.subnets) lies)

pub has_zones_of : (d : Description) (sites : List Site) (subnets : List (Entry SubnetNo)) (firsts : List (Option SubnetNo)) → IsAccepted d → sites ≡ map (site_of d) d.subnets → ((k : ℕ) → value_at k subnets ≡ value_at k (zone_entries d 0 d.attachments))
    → firsts ≡ map (first_of d) d.attachments → HasZonesOf d sites subnets firsts
has_zones_of d sites subnets firsts accepted are_sites values are_firsts = record {
  site = are_sites;
  zone = λ a s has_a has_s.
      let row = subnet_at d s in
      let att = attachment_at d a in
      let z = zone_no d row.zone in
      let listed = row-member d.attachments a.0 no_attachment has_a in
      ap (λ (site : Site). value_at (key_of a.0 site.zone) subnets) (site-is d sites s are_sites has_s)
      ∙ values (key_of a.0 z)
      ∙ zone_entries-at d z accepted (zone-below d row.zone accepted) 0 a.0 a.0 d.attachments (omega arith) (ltb-true a.0 (length d.attachments) has_a)
      ∙ own-zones d a.0 row.zone accepted (zone-there d s has_s) (inner_subnets d att) (inner-described d att accepted listed);
  first = are_firsts;
}
