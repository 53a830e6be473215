-- One more address, and one more interface.
use Rattle.std.proofs.Common.{◌≡◌, ◌∙◌, ◌++◌, ◌+◌, ◌<◌, ◌∷◌, [], ℕ, List, None, Option, Some, ap, append_assoc, get_or, length, map, refl, subst, sym, take}
use Rattle.std.specs.List.{filter_map, flat_map}
use Rattle.std.specs.Prelude.{option_to_list}
use Rattle.std.proofs.lemmas.List.{append-nil, get_or_default, map-append}
use Rattle.std.proofs.lemmas.List.Elements.{filter_map-append}
use Rattle.std.proofs.lemmas.Grind.{flat_map-append, take_at_read}
use Rattle.vpc_model.specs.declared.numbers.VpcNo.{VpcNo}
use Rattle.vpc_model.specs.declared.rows.Description.{Description}
use Rattle.vpc_model.specs.declared.rows.Interface.{Interface}
use Rattle.vpc_model.specs.Internet.{pair_of}
use Rattle.vpc_model.specs.Lookup.{vpc_no, vpc_of_interface}
use Rattle.edge_gateways.specs.declared.pairs.Pair.{Pair}
use Rattle.edge_gateways.specs.Pairs.{in_vpc, pair_in, pairs_with}

one-of : (o : Option (ℕ × ℕ)) (x : ℕ × Option ℕ) → pair_of x ≡ o → filter_map pair_of (x ∷ []) ≡ option_to_list (pair_of x)
one-of None x e = rw e refl
one-of (Some p) x e = rw e refl

pub pairs_more : (v : VpcNo) (before : List Pair) (xs : List (ℕ × Option ℕ)) (i : ℕ) (x : ℕ × Option ℕ) → i < length xs → x ≡ get_or xs i x
    → (before ++ map (in_vpc v) (filter_map pair_of (take i xs))) ++ pair_in v x ≡ before ++ map (in_vpc v) (filter_map pair_of (take (i + 1) xs))
pairs_more v before xs i x within is =
    let taken : take (i + 1) xs ≡ take i xs ++ x ∷ [] = (take_at_read xs i x within).1 ∙ ap (λ (y : ℕ × Option ℕ). take i xs ++ y ∷ []) (sym is) in
    let kept : filter_map pair_of (take (i + 1) xs) ≡ filter_map pair_of (take i xs) ++ option_to_list (pair_of x) =
    ap (filter_map pair_of) taken ∙ filter_map-append pair_of (take i xs) (x ∷ []) ∙ ap (λ (ys : List (ℕ × ℕ)). filter_map pair_of (take i xs) ++ ys) (one-of (pair_of x) x refl) in
    let mapped = ap (map (in_vpc v)) kept ∙ map-append (in_vpc v) (filter_map pair_of (take i xs)) (option_to_list (pair_of x)) in
    append_assoc before (map (in_vpc v) (filter_map pair_of (take i xs))) (pair_in v x) ∙ ap (λ (ys : List Pair). before ++ ys) (sym mapped)

-- with what was added so far
pub pairs_next : (v : VpcNo) (before now next : List Pair) (xs : List (ℕ × Option ℕ)) (i : ℕ) (d : ℕ × Option ℕ) → i < length xs → now ≡ before ++ map (in_vpc v) (filter_map pair_of (take i xs))
    → next ≡ now ++ pair_in v (get_or xs i d) → next ≡ before ++ map (in_vpc v) (filter_map pair_of (take (i + 1) xs))
pairs_next v before now next xs i d within is added =
    added ∙ ap (λ (ps : List Pair). ps ++ pair_in v (get_or xs i d)) is ∙ pairs_more v before xs i (get_or xs i d) within (get_or_default xs i d (get_or xs i d) within)

pub interfaces_next : (d whole : Description) (now next : List Pair) (rows : List Interface) (i : ℕ) (e : Interface) (w : VpcNo) (addresses : List (ℕ × Option ℕ)) → whole ≡ d → rows ≡ whole.interfaces → i < length rows → e ≡ get_or rows i e
    → now ≡ flat_map (pairs_with d) (take i d.interfaces) → w ≡ vpc_no d (vpc_of_interface d e) → addresses ≡ e.addresses → next ≡ now ++ map (in_vpc w) (filter_map pair_of addresses)
    → next ≡ flat_map (pairs_with d) (take (i + 1) d.interfaces)
interfaces_next d whole now next rows i e w addresses same is within read so_far number theirs added =
    let all : rows ≡ d.interfaces = is ∙ ap (λ (x : Description). x.interfaces) same in
    let inside : i < length d.interfaces = subst (λ (xs : List Interface). i < length xs) all within in
    let there : e ≡ get_or d.interfaces i e = read ∙ ap (λ (xs : List Interface). get_or xs i e) all in
    let taken : take (i + 1) d.interfaces ≡ take i d.interfaces ++ e ∷ [] = (take_at_read d.interfaces i e inside).1 ∙ ap (λ (x : Interface). take i d.interfaces ++ x ∷ []) (sym there) in
    let mine : map (in_vpc w) (filter_map pair_of addresses) ≡ pairs_with d e = ap (λ (x : VpcNo). map (in_vpc x) (filter_map pair_of addresses)) number ∙ ap (λ (xs : List (ℕ × Option ℕ)). map (in_vpc (vpc_no d (vpc_of_interface d e))) (filter_map pair_of xs)) theirs in
    added
    ∙ ap (λ (ps : List Pair). ps ++ map (in_vpc w) (filter_map pair_of addresses)) so_far
    ∙ ap (λ (ps : List Pair). flat_map (pairs_with d) (take i d.interfaces) ++ ps) (mine ∙ sym (append-nil (pairs_with d e)))
    ∙ sym (flat_map-append (pairs_with d) (take i d.interfaces) (e ∷ []))
    ∙ ap (flat_map (pairs_with d)) (sym taken)
