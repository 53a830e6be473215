-- Interfaces by their VPCs and the private addresses that are assigned to them.
use Rattle.std.proofs.Common.{◌≡◌, ◌∙◌, ◌++◌, ◌+◌, ◌<◌, ◌==◌, ◌&&◌, ◌||◌, ◌∷◌, ◌^◌, [], ℕ, All, Bool, List, Option, Some, ap, append_assoc, arith, cond, drop, false, find, get_or, length, map, option_map, refl, sym, take, true}
use Rattle.std.specs.List.{AllByRecursion, list_any, position_from}
use Rattle.std.proofs.lemmas.Iterator.Adapters.{position_from-zero}
use Rattle.std.proofs.lemmas.Grind.{take_at_read}
use Rattle.std.proofs.lemmas.List.{drop_more, map-append}
use Rattle.std.proofs.lemmas.List.Elements.{recursion_from_All}
use Rattle.vpc_base.proofs.Members.{all_members}
use Rattle.reference_check.proofs.VpcIds.{ids_agree, vpc_described}
use Rattle.number_tables.proofs.KeyLemmas.{key_of-same}
use Rattle.number_tables.specs.Entries.{value_at}
use Rattle.number_tables.specs.Keys.{key_of}
use Rattle.number_tables.specs.declared.tables.Entry.{Entry}
use Rattle.vpc_laws.proofs.Lengths.{accepted_has_short_lists}
use Rattle.vpc_laws.specs.Types.{Description, EniNo, Interface, VpcNo}
use Rattle.vpc_model.specs.Accepted.{IsAccepted}
use Rattle.vpc_model.specs.Lookup.{is_assigned, is_in_vpc, vpc_no, vpc_of_interface}
use Rattle.fabric.specs.Hosts.{AreHosts, HasFit, host_entries, host_entry, hosts_from}

abbrev numbered : ℕ → EniNo
numbered k = record { 0 = k }

-- the entries of an interface tell of it where the VPC and one of the addresses are asked for
entries-tell : (w v : VpcNo) (i : EniNo) (a : ℕ) (xs : List (ℕ × Option ℕ)) (rest : List (Entry EniNo)) → a < 2 ^ 32 → AllByRecursion (λ (x : ℕ × Option ℕ). x.0 < 2 ^ 32) xs
    → value_at (key_of v.0 a) (map (host_entry w i) xs ++ rest) ≡ cond (list_any (λ x. x.0 == a) xs && (w.0 == v.0)) (Some i) (value_at (key_of v.0 a) rest)
entries-tell w v i a [] rest below fit = refl
entries-tell w v i a (x ∷ xs) rest below fit =
    ap (λ b. option_map (λ (e : Entry EniNo). e.value) (cond b (Some (host_entry w i x)) (find (λ e. e.key == key_of v.0 a) (map (host_entry w i) xs ++ rest)))) (key_of-same w.0 v.0 x.0 a fit.0 below)
    ∙ by (w.0 == v.0) (x.0 == a) (entries-tell w v i a xs rest below fit.1)
  where
    other : (b : Bool) → cond (b && false) (Some i) (value_at (key_of v.0 a) rest) ≡ value_at (key_of v.0 a) rest
    other true = refl
    other false = refl

    by : (g b : Bool)
        → value_at (key_of v.0 a) (map (host_entry w i) xs ++ rest) ≡ cond (list_any (λ x. x.0 == a) xs && g) (Some i) (value_at (key_of v.0 a) rest)
        → option_map (λ (e : Entry EniNo). e.value) (cond (g && b) (Some (host_entry w i x)) (find (λ e. e.key == key_of v.0 a) (map (host_entry w i) xs ++ rest)))
        ≡ cond ((b || list_any (λ x. x.0 == a) xs) && g) (Some i) (value_at (key_of v.0 a) rest)
    by true true told = refl
    by true false told = told
    by false true told = told ∙ other (list_any (λ x. x.0 == a) xs)
    by false false told = told

-- the interface is in the VPC exactly where its VPC's number is the one that is asked for
abbrev Agrees : Description → VpcNo → Interface → Type 0
Agrees d v e = is_in_vpc d v e ≡ ((vpc_no d (vpc_of_interface d e)).0 == v.0)

hosts_from-found : (d : Description) (v : VpcNo) (a : ℕ) → a < 2 ^ 32 → (k : ℕ) (rows : List Interface) → AllByRecursion (Agrees d v) rows → AllByRecursion HasFit rows
    → value_at (key_of v.0 a) (hosts_from d k rows) ≡ option_map numbered (position_from (λ e. is_assigned e a && is_in_vpc d v e) k rows)
hosts_from-found d v a below k [] agree fit = refl
hosts_from-found d v a below k (e ∷ rows) agree fit =
    entries-tell (vpc_no d (vpc_of_interface d e)) v (numbered k) a e.addresses (hosts_from d (k + 1) rows) below (recursion_from_All (λ (x : ℕ × Option ℕ). x.0 < 2 ^ 32) e.addresses fit.0)
    ∙ ap (λ b. cond (is_assigned e a && b) (Some (numbered k)) (value_at (key_of v.0 a) (hosts_from d (k + 1) rows))) (sym agree.0)
    ∙ by (is_assigned e a && is_in_vpc d v e) (hosts_from-found d v a below (k + 1) rows agree.1 fit.1)
  where
    by : (b : Bool)
        → value_at (key_of v.0 a) (hosts_from d (k + 1) rows) ≡ option_map numbered (position_from (λ e. is_assigned e a && is_in_vpc d v e) (k + 1) rows)
        → cond b (Some (numbered k)) (value_at (key_of v.0 a) (hosts_from d (k + 1) rows))
        ≡ option_map numbered (cond b (Some k) (position_from (λ e. is_assigned e a && is_in_vpc d v e) (k + 1) rows))
    by true told = refl
    by false told = told

-- the table tells the interface of each address
pub are_hosts : (d : Description) (table : List (Entry EniNo)) → IsAccepted d → All HasFit d.interfaces → ((k : ℕ) → value_at k table ≡ value_at k (hosts_from d 0 d.interfaces)) → AreHosts d table
are_hosts d table accepted fit values = λ v a lies below.
    values (key_of v.0 a)
    ∙ hosts_from-found d v a below 0 d.interfaces
    (all_members (Agrees d v) d.interfaces (λ e member. ids_agree d v (vpc_of_interface d e) accepted lies (vpc_described d e accepted member)))
    (recursion_from_All HasFit d.interfaces fit)
    ∙ ap (option_map numbered) (sym (position_from-zero (λ e. is_assigned e a && is_in_vpc d v e) d.interfaces))

-- an accepted description has few
pub few-interfaces : (d : Description) (interfaces : List Interface) (k : ℕ) → IsAccepted d → interfaces ≡ d.interfaces → k < length interfaces → k < 2 ^ 32
few-interfaces d interfaces k accepted same within =
    let lists = accepted_has_short_lists d accepted in
    let short = lists.interfaces in
    let e = ap length same in
    omega arith

-- ---- one more address, and one more interface

pub addresses_next : (v : VpcNo) (i : EniNo) (before now next : List (Entry EniNo)) (xs : List (ℕ × Option ℕ)) (k : ℕ) (x : ℕ × Option ℕ) (e : Entry EniNo) → k < length xs → x ≡ get_or xs k x
    → now ≡ before ++ map (host_entry v i) (take k xs) → next ≡ now ++ e ∷ [] → e ≡ host_entry v i x → next ≡ before ++ map (host_entry v i) (take (k + 1) xs)
addresses_next v i before now next xs k x e within read so_far added is =
    let f : ℕ × Option ℕ → Entry EniNo = host_entry v i in
    let taken : take (k + 1) xs ≡ take k xs ++ x ∷ [] = (take_at_read xs k x within).1 ∙ ap (λ (y : ℕ × Option ℕ). take k xs ++ y ∷ []) (sym read) in
    added
    ∙ ap (λ (es : List (Entry EniNo)). es ++ e ∷ []) so_far
    ∙ ap (λ (y : Entry EniNo). (before ++ map f (take k xs)) ++ y ∷ []) is
    ∙ append_assoc before (map f (take k xs)) (f x ∷ [])
    ∙ ap (λ (es : List (Entry EniNo)). before ++ es) (sym (ap (map f) taken ∙ map-append f (take k xs) (x ∷ [])))

pub interfaces_next : (d : Description) (now next : List (Entry EniNo)) (k : ℕ) (e : Interface) → k < length d.interfaces → e ≡ get_or d.interfaces k e
    → now ++ hosts_from d k (drop k d.interfaces) ≡ hosts_from d 0 d.interfaces → next ≡ now ++ host_entries d k e
    → next ++ hosts_from d (k + 1) (drop (k + 1) d.interfaces) ≡ hosts_from d 0 d.interfaces
interfaces_next d now next k e within read so_far added =
    let left : drop k d.interfaces ≡ e ∷ drop (k + 1) d.interfaces = drop_more d.interfaces k e within ∙ ap (λ (x : Interface). x ∷ drop (k + 1) d.interfaces) (sym read) in
    ap (λ (es : List (Entry EniNo)). es ++ hosts_from d (k + 1) (drop (k + 1) d.interfaces)) added
    ∙ append_assoc now (host_entries d k e) (hosts_from d (k + 1) (drop (k + 1) d.interfaces))
    ∙ sym (ap (λ (xs : List Interface). now ++ hosts_from d k xs) left)
    ∙ so_far
