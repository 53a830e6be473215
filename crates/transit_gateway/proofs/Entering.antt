-- The first attachment of a gateway to a VPC, found in the tables.
use Rattle.std.proofs.Common.{Bool, Contains, Err, List, None, Ok, Option, Result, Some, [], ap, arith, bytes_eq, cond, false, find, if◌then◌else◌, inl, inr, length, option_and_then, option_map, position, refl, subst, sym, true, ℕ, ◌&&◌, ◌++◌, ◌+◌, ◌<◌, ◌==◌, ◌^◌, ◌∙◌, ◌∷◌, ◌≡◌}
use Rattle.std.specs.List.{list_any, position_from}
use Rattle.vpc_base.proofs.Lemmas.{Contains-get_or, Contains-here, Contains-later, and_parts, both_ways, cases_Bool, false_from_ne_true, list_any-member, ltb-true, member-list_any, position-le, position-nowhere, position-there, position_from-zero, same_bytes}
use Rattle.number_tables.specs.Entries.{value_at}
use Rattle.number_tables.specs.declared.tables.Entry.{Entry}
use Rattle.vpc_laws.specs.Types.{AttNo, Attachment, Description, SubnetNo, Vpc}
use Rattle.vpc_laws.proofs.Lemmas.{IfFound, accepted_has_all_named, accepted_has_short_lists, attachment-found, is_inner, known-accepted, zone-found}
use Rattle.vpc_model.specs.Terms.{IsAccepted, attachment_at, attachment_for, has_vpc, is_attachment, is_subnet, subnet_at, vpc_no, zone_subnet}
use Rattle.transit_gateway.specs.Terms.{AreGateways, EnterStop, HasGatewaysOf, attachment_entries, enter_by, enter_zone, entered, gateway_no}
use Rattle.number_tables.specs.Keys.{key_of}
use Rattle.number_tables.proofs.KeyLemmas.{key_of-same}
use Rattle.transit_gateway.proofs.KeyLemmas.{list_any-own, number-same}
use Rattle.vpc_model.specs.Lookup.{no_attachment, no_subnet, no_vpc}

-- the number of an attachment
abbrev numbered : ℕ → AttNo
numbered k = record { 0 = k }

-- one more attachment
entry-step : (wanted k key : ℕ) (has test : Bool) (rest : List (Entry AttNo)) (o : Option ℕ) → (has ≡ true → (key == wanted) ≡ test) → (has ≡ false → test ≡ false) → value_at wanted rest ≡ option_map numbered o
    → value_at wanted ((if has then record { key = key; value = numbered k } ∷ [] else []) ++ rest) ≡ option_map numbered (cond test (Some k) o)
entry-step wanted k key true test rest o same none told =
    let e : Entry AttNo = record { key = key; value = numbered k } in
    ap (λ b. option_map (λ (x : Entry AttNo). x.value) (cond b (Some e) (find (λ x. x.key == wanted) rest))) (same refl) ∙ by test
  where
    by : (b : Bool) → option_map (λ (x : Entry AttNo). x.value) (cond b (Some (record { key = key; value = numbered k })) (find (λ x. x.key == wanted) rest)) ≡ option_map numbered (cond b (Some k) o)
    by true = refl
    by false = told
entry-step wanted k key false test rest o same none told = told ∙ ap (λ b. option_map numbered (cond b (Some k) o)) (sym (none refl))

vpc-below : (d : Description) (id : List ℕ) → IsAccepted d → (vpc_no d id).0 < 2 ^ 32
vpc-below d id accepted =
    let most = position-le (λ (v : Vpc). bytes_eq v.id id) d.vpcs in
    let short = (accepted_has_short_lists d accepted).vpcs in
    omega arith

-- the key of an attachment is the one that is asked for only where its gateway and its VPC are
entry-same : (d : Description) (a : Attachment) (gateway vpc : List ℕ) → IsAccepted d → Contains d.attachments a → has_vpc d a.vpc ≡ true → has_vpc d vpc ≡ true → list_any (λ x. bytes_eq x.gateway gateway) d.attachments ≡ true
    → (key_of (gateway_no d a.gateway) (vpc_no d a.vpc).0 == key_of (gateway_no d gateway) (vpc_no d vpc).0) ≡ (bytes_eq a.gateway gateway && bytes_eq a.vpc vpc)
entry-same d a gateway vpc accepted listed inner has there =
    let own = list_any-own (λ (x : Attachment). x.gateway) d.attachments a listed in
    key_of-same (gateway_no d a.gateway) (gateway_no d gateway) (vpc_no d a.vpc).0 (vpc_no d vpc).0 (vpc-below d a.vpc accepted) (vpc-below d vpc accepted)
    ∙ ap (λ b. b && ((vpc_no d a.vpc).0 == (vpc_no d vpc).0)) (number-same (λ (x : Attachment). x.gateway) d.attachments no_attachment a.gateway gateway own there)
    ∙ ap (λ b. bytes_eq a.gateway gateway && b) (number-same (λ (v : Vpc). v.id) d.vpcs no_vpc a.vpc vpc inner has)

-- no described VPC is an undescribed one
outer-other : (d : Description) (a : Attachment) (gateway vpc : List ℕ) → has_vpc d vpc ≡ true → has_vpc d a.vpc ≡ false → (bytes_eq a.gateway gateway && bytes_eq a.vpc vpc) ≡ false
outer-other d a gateway vpc has outer =
    false_from_ne_true (bytes_eq a.gateway gateway && bytes_eq a.vpc vpc)
    (λ both.
    let same = same_bytes a.vpc vpc (and_parts (bytes_eq a.gateway gateway) (bytes_eq a.vpc vpc) both).1 in
    both_ways (has_vpc d a.vpc) outer (ap (has_vpc d) same ∙ has))

attachment_entries-found : (d : Description) (gateway vpc : List ℕ) → IsAccepted d → has_vpc d vpc ≡ true → list_any (λ x. bytes_eq x.gateway gateway) d.attachments ≡ true → (k : ℕ) (rows : List Attachment) → ((a : Attachment) → Contains rows a → Contains d.attachments a)
    → value_at (key_of (gateway_no d gateway) (vpc_no d vpc).0) (attachment_entries d k rows) ≡ option_map numbered (position_from (λ a. bytes_eq a.gateway gateway && bytes_eq a.vpc vpc) k rows)
attachment_entries-found d gateway vpc accepted has there k [] within = refl
attachment_entries-found d gateway vpc accepted has there k (a ∷ rows) within =
    entry-step (key_of (gateway_no d gateway) (vpc_no d vpc).0) k (key_of (gateway_no d a.gateway) (vpc_no d a.vpc).0) (has_vpc d a.vpc) (bytes_eq a.gateway gateway && bytes_eq a.vpc vpc) (attachment_entries d (k + 1) rows)
    (position_from (λ x. bytes_eq x.gateway gateway && bytes_eq x.vpc vpc) (k + 1) rows)
    (λ inner. entry-same d a gateway vpc accepted (within a (Contains-here a rows)) inner has there)
    (λ outer. outer-other d a gateway vpc has outer)
    (attachment_entries-found d gateway vpc accepted has there (k + 1) rows (λ x h. within x (Contains-later a rows x h)))

-- a gateway without attachments has none to a VPC
none-to : (gateway vpc : List ℕ) (rows : List Attachment) → list_any (λ a. bytes_eq a.gateway gateway) rows ≡ false → position (λ a. bytes_eq a.gateway gateway && bytes_eq a.vpc vpc) rows ≡ None
none-to gateway vpc rows nowhere =
    position-nowhere (λ a. bytes_eq a.gateway gateway && bytes_eq a.vpc vpc) rows
    (false_from_ne_true (list_any (λ a. bytes_eq a.gateway gateway && bytes_eq a.vpc vpc) rows)
    (λ some.
    let found = list_any-member (λ (a : Attachment). bytes_eq a.gateway gateway && bytes_eq a.vpc vpc) rows some in
    let a : Attachment = found.0 in
    let mine = (and_parts (bytes_eq a.gateway gateway) (bytes_eq a.vpc vpc) found.2).0 in
    both_ways (list_any (λ a. bytes_eq a.gateway gateway) rows) nowhere (member-list_any (λ (x : Attachment). bytes_eq x.gateway gateway) rows a found.1 mine)))

pub has_gateways_of : (d : Description) (gateways : List (List ℕ × ℕ)) (attachments : List (Entry AttNo)) → IsAccepted d → AreGateways d gateways → ((k : ℕ) → value_at k attachments ≡ value_at k (attachment_entries d 0 d.attachments)) → HasGatewaysOf d gateways attachments
has_gateways_of d gateways attachments accepted numbers values = λ gateway vpc has.
    let test : (Attachment → Bool) = λ a. bytes_eq a.gateway gateway && bytes_eq a.vpc vpc in
    let told : (Option ℕ → Option AttNo) = option_and_then (λ g. value_at (key_of g (vpc_no d vpc).0) attachments) in
    elim (cases_Bool (list_any (λ a. bytes_eq a.gateway gateway) d.attachments)) [
      | inl there ↦
          ap told (numbers gateway ∙ position-there (λ (a : Attachment). bytes_eq a.gateway gateway) d.attachments there)
          ∙ values (key_of (gateway_no d gateway) (vpc_no d vpc).0)
          ∙ attachment_entries-found d gateway vpc accepted has there 0 d.attachments (λ a h. h)
          ∙ ap (option_map numbered) (sym (position_from-zero test d.attachments))
      | inr nowhere ↦
          ap told (numbers gateway ∙ position-nowhere (λ (a : Attachment). bytes_eq a.gateway gateway) d.attachments nowhere)
          ∙ sym (ap (option_map numbered) (none-to gateway vpc d.attachments nowhere))
    ]

-- ---- the subnet that a packet comes into

-- where a packet comes in, it is into a described subnet
abbrev InSubnet : Description → Result (AttNo × SubnetNo) EnterStop → Type 0
InSubnet d (Ok x) = is_subnet d x.1 ≡ true
InSubnet d (Err e) = Unit {0}

zone-in : (d : Description) (a : AttNo) (z : Option SubnetNo) → IfFound (is_subnet d) z → InSubnet d (enter_zone a z)
zone-in d a None k = tt
zone-in d a (Some u) k = k

attachment-in : (d : Description) (s : SubnetNo) (o : Option AttNo) → IsAccepted d → IfFound (is_inner d) o → InSubnet d (enter_by o (λ a. zone_subnet d a s))
attachment-in d s None accepted k = tt
attachment-in d s (Some a) accepted k =
    let parts = and_parts (is_attachment d a) (has_vpc d (attachment_at d a).vpc) k in
    zone-in d a (zone_subnet d a s) (zone-found d (known-accepted d accepted) a s parts.0 parts.1)

pub zone-lies : (d : Description) (gateway : List ℕ) (s : SubnetNo) (a : AttNo) (t : SubnetNo) → IsAccepted d → is_subnet d s ≡ true → entered d gateway s ≡ Ok (a, t) → is_subnet d t ≡ true
zone-lies d gateway s a t accepted lies is =
    let there = (accepted_has_all_named d accepted).vpc_of_subnet (subnet_at d s) (Contains-get_or d.subnets s.0 no_subnet (ltb-true s.0 (length d.subnets) lies)) in
    subst (InSubnet d) is (attachment-in d s (attachment_for d gateway s) accepted (attachment-found d gateway s there))
