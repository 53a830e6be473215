-- Rows by their numbers, and what stands in an index at them.
use Rattle.std.proofs.Common.{All, Bool, Contains, List, None, Option, Some, ap, arith, bytes_eq, cond, false, find, get_or, length, nat_lt, option_and_then, position, refl, slice_get, subst, sym, true, ℕ, ◌<◌, ◌^◌, ◌∙◌, ◌≡◌}
use Rattle.std.specs.List.{position_or_len}
use Rattle.vpc_base.proofs.Lemmas.{Contains-get_or, find_at, length-map, ltb-false, ltb-true, row-member, slice_get_past}
use Rattle.number_tables.specs.declared.tables.Entry.{Entry}
use Rattle.piece_table.specs.Pieces.{PieceLists}
use Rattle.vpc_laws.proofs.Lemmas.{accepted_has_short_lists, ids_are_found}
use Rattle.vpc_laws.specs.Types.{Association, AttNo, Attachment, Description, FarNo, Subnet, SubnetNo, TgwTableNo}
use Rattle.vpc_model.specs.Terms.{IsAccepted, has_subnet, is_attachment, is_subnet, is_tgw_table, subnet_at, subnet_no, tgw_table_of_id}
use Rattle.reference_check.specs.FirstNumbers.{number_in}
use Rattle.transit_gateway.specs.Terms.{AreAssociated, HasAttachment, HasFar, HasSubnet, HasTable, IsRouteTable, IsTransitOf, TransitLists, routes_of, table_behind, table_of_row, zone_entry, zone_no}
use Rattle.number_tables.specs.Keys.{key_of}
use Rattle.vpc_model.specs.Far.{table_of_attachment_id}
use Rattle.vpc_model.specs.Sound.{is_far}
use Rattle.vpc_model.specs.Lookup.{no_subnet, no_tgw_table}

-- ---- lists that numbers of 32 bits count

pub short-attachments : (d e : Description) (rows : List Attachment) → IsAccepted d → e ≡ d → rows ≡ e.attachments → length rows < 2 ^ 32
short-attachments d e rows accepted whole is =
    let short = (accepted_has_short_lists d accepted).attachments in
    let all = ap length (is ∙ ap (λ (x : Description). x.attachments) whole) in
    omega arith

pub short-tables : (d : Description) → IsAccepted d → All (λ t. length t.routes < 2 ^ 32) d.tgw_tables
short-tables d accepted k t within =
    let lists = accepted_has_short_lists d accepted in
    let short = lists.routes_of_tgw_table (get_or d.tgw_tables k t) (Contains-get_or d.tgw_tables k t within) in
    omega arith

-- ---- rows

-- the row of a described subnet
pub row-listed : (d : Description) (id : List ℕ) (row : Subnet) → has_subnet d id ≡ true → row ≡ subnet_at d (subnet_no d id) → Contains d.subnets row
row-listed d id row has is = subst (Contains d.subnets) (sym is) (row-member d.subnets (subnet_no d id).0 no_subnet ((ids_are_found d).subnet id has).0)

-- the entry of a subnet, by its parts
pub entry-is : (d : Description) (k : ℕ) (id : List ℕ) (s : SubnetNo) (row : Subnet) (zone key : ℕ) → s ≡ subnet_no d id → row ≡ subnet_at d (subnet_no d id) → zone ≡ zone_no d row.zone → key ≡ key_of k zone
    → ◌≡◌ {A = Entry SubnetNo} (record { key = key; value = s }) (zone_entry d k id)
entry-is d k id s row zone key number is located keyed =
    ap (λ (n : ℕ). record { key = n; value = s }) (keyed ∙ ap (key_of k) (located ∙ ap (λ (x : Subnet). zone_no d x.zone) is))
    ∙ ap (λ (x : SubnetNo). record { key = key_of k (zone_no d (subnet_at d (subnet_no d id)).zone); value = x }) number

-- the row with the number of the first that passes
pub row-position : {X : Type 0} (p : X → Bool) (xs : List X) → option_and_then (slice_get xs) (position p xs) ≡ find p xs
row-position p xs = by (nat_lt (position_or_len p xs) (length xs)) refl
  where
    by : (b : Bool) → nat_lt (position_or_len p xs) (length xs) ≡ b → option_and_then (slice_get xs) (cond b (Some (position_or_len p xs)) None) ≡ find p xs
    by true e = sym (find_at p xs)
    by false e = sym (find_at p xs ∙ slice_get_past xs (position_or_len p xs) (ltb-false (position_or_len p xs) (length xs) e))

-- the table that the association with an attachment's number names
pub row-table : (d e : Description) (attachment : List ℕ) (rows : List Association) (numbers : List (List ℕ × ℕ)) (id : List ℕ) (number : Option ℕ) → e ≡ d → rows ≡ e.associations → id ≡ attachment → number ≡ number_in numbers id
    → AreAssociated d numbers → option_and_then (λ x. tgw_table_of_id d x.table) (option_and_then (slice_get rows) number) ≡ table_of_attachment_id d attachment
row-table d e attachment rows numbers id number whole is named told are =
    let table : (Option Association → Option TgwTableNo) = option_and_then (λ x. tgw_table_of_id d x.table) in
    ap (λ l. table (option_and_then (slice_get l) number)) (is ∙ ap (λ (x : Description). x.associations) whole)
    ∙ ap (λ o. table (option_and_then (slice_get d.associations) o)) (told ∙ ap (number_in numbers) named ∙ are attachment)
    ∙ ap table (row-position (λ (x : Association). bytes_eq x.attachment attachment) d.associations)

-- ---- what stands in the index

-- the pieces at a table's number are the table's
pub pieces-at : (d : Description) (x : TransitLists) (t : TgwTableNo) (p : PieceLists) → IsTransitOf d x → HasTable x t → p ≡ get_or x.routes t.0 p → IsRouteTable (routes_of d t) p
pieces-at d x t p of within is = subst (IsRouteTable (routes_of d t)) (sym is) (of.routes.each t.0 no_tgw_table p (omega (arith, of.routes.all)))

-- ---- for callers: what is described the index has

pub subnet-has : (d : Description) (x : TransitLists) (s : SubnetNo) → IsTransitOf d x → is_subnet d s ≡ true → HasSubnet x s
subnet-has d x s of lies = let within = ltb-true s.0 (length d.subnets) lies in omega (arith, of.subnets)

pub attachment-has : (d : Description) (x : TransitLists) (a : AttNo) → IsTransitOf d x → is_attachment d a ≡ true → HasAttachment x a
attachment-has d x a of lies =
    let within = ltb-true a.0 (length d.attachments) lies in
    let count = ap length of.tables ∙ length-map d.attachments (table_of_row d) in (
      omega arith,
      omega (arith, of.firsts),
    )

pub far-has : (d : Description) (x : TransitLists) (k : FarNo) → IsTransitOf d x → is_far d k ≡ true → HasFar x k
far-has d x k of lies =
    let within = ltb-true k.0 (length d.fars) lies in
    let count = ap length of.behind ∙ length-map d.fars (table_behind d) in
    omega arith

pub table-has : (d : Description) (x : TransitLists) (t : TgwTableNo) → IsTransitOf d x → is_tgw_table d t ≡ true → HasTable x t
table-has d x t of lies = let within = ltb-true t.0 (length d.tgw_tables) lies in omega (arith, of.routes.all)
