-- The indexes of tables and ACLs by their numbers.
use Rattle.std.proofs.Common.{◌≡◌, ◌++◌, ◌+◌, ◌<◌, ◌^◌, ◌∷◌, [], ℕ, List, ap, arith, false, get_or, length, subst, sym, take, true}
use Rattle.std.specs.List.{AllZip}
use Rattle.std.proofs.lemmas.Bool.{ltb-true}
use Rattle.std.proofs.lemmas.List.{get_or_default}
use Rattle.vpc_base.proofs.Zips.{length-zip, zip_at, zip_more}
use Rattle.network_acls.specs.Tried.{TriedRows}
use Rattle.piece_table.specs.Pieces.{PieceLists}
use Rattle.vpc_laws.proofs.Lengths.{accepted_has_short_lists}
use Rattle.vpc_laws.specs.Types.{Acl, AclNo, Description, RouteTable, TableNo}
use Rattle.vpc_model.specs.Accepted.{IsAccepted}
use Rattle.vpc_model.specs.Lookup.{acl_at, no_acl, no_table, table_at}
use Rattle.vpc_model.specs.Sound.{is_acl, is_table}
use Rattle.fabric.specs.Indexes.{IsAclIndex, IsRouteIndex}

-- an accepted description has few tables and ACLs
pub few-tables : (d : Description) (tables : List RouteTable) (k : ℕ) → IsAccepted d → tables ≡ d.tables → k < length tables → k < 2 ^ 32
few-tables d tables k accepted same within =
    let lists = accepted_has_short_lists d accepted in
    let short = lists.tables in
    let e = ap length same in
    omega arith

pub few-acls : (d : Description) (acls : List Acl) (k : ℕ) → IsAccepted d → acls ≡ d.acls → k < length acls → k < 2 ^ 32
few-acls d acls k accepted same within =
    let lists = accepted_has_short_lists d accepted in
    let short = lists.acls in
    let e = ap length same in
    omega arith

-- one more table
pub zip-tables : (d : Description) (k : ℕ) (xs : List PieceLists) (x : PieceLists) → k < length d.tables
    → AllZip (IsRouteIndex d) (take k d.tables) xs → IsRouteIndex d (table_at d (record { 0 = k })) x → AllZip (IsRouteIndex d) (take (k + 1) d.tables) (xs ++ x ∷ [])
zip-tables d k xs x within zip is =
    let row = table_at d (record { 0 = k }) in
    zip_more (IsRouteIndex d) d.tables xs k row x within (get_or_default d.tables k no_table row within) zip is

-- one more ACL
pub zip-acls : (d : Description) (k : ℕ) (xs : List TriedRows) (x : TriedRows) → k < length d.acls
    → AllZip IsAclIndex (take k d.acls) xs → IsAclIndex (acl_at d (record { 0 = k })) x → AllZip IsAclIndex (take (k + 1) d.acls) (xs ++ x ∷ [])
zip-acls d k xs x within zip is =
    let row = acl_at d (record { 0 = k }) in
    zip_more IsAclIndex d.acls xs k row x within (get_or_default d.acls k no_acl row within) zip is

-- the index at a table's number is the table's
pub index-table : (d : Description) (t : TableNo) (xs : List PieceLists) (x : PieceLists) → AllZip (IsRouteIndex d) d.tables xs → is_table d t ≡ true
    → x ≡ get_or xs t.0 x → IsRouteIndex d (table_at d t) x
index-table d t xs x zip within is =
    subst (IsRouteIndex d (table_at d t)) (sym is)
    (zip_at (IsRouteIndex d) d.tables xs t.0 no_table x zip (ltb-true t.0 (length d.tables) within))

-- the index at an ACL's number is the ACL's
pub index-acl : (d : Description) (a : AclNo) (xs : List TriedRows) (x : TriedRows) → AllZip IsAclIndex d.acls xs → is_acl d a ≡ true
    → x ≡ get_or xs a.0 x → IsAclIndex (acl_at d a) x
index-acl d a xs x zip within is =
    subst (IsAclIndex (acl_at d a)) (sym is)
    (zip_at IsAclIndex d.acls xs a.0 no_acl x zip (ltb-true a.0 (length d.acls) within))

-- a number in range of the described rows is one of the indexes
pub number-within : {A B : Type 0} (R : A → B → Type 0) (xs : List A) (ys : List B) (k : ℕ) → AllZip R xs ys → k < length xs → k < length ys
number-within R xs ys k zip within = let e = length-zip R xs ys zip in omega arith
