-- Which interfaces have the addresses of all headers of a body.
use Rattle.std.proofs.Common.{Bool, Contains, IfSome, List, None, Option, Some, [], ap, arith, false, flat_map, inl, inr, is_some, option_map, position, refl, subst, sym, true, ℕ, ◌&&◌, ◌<◌, ◌==◌, ◌^◌, ◌||◌, ◌∙◌, ◌∷◌, ◌≡◌}
use Rattle.std.specs.List.{list_any}
use Rattle.vpc_base.proofs.Lemmas.{All-from_recursion, Contains-flat_map, Contains-here, all_members, and_parts, eqb-true, list_any-member, position-at, row-member}
use Rattle.vpc_base.specs.Cuts.{CutLists, joined_cuts}
use Rattle.header_boxes.proofs.Held.{holds_whole}
use Rattle.header_boxes.specs.Boxes.{holds, low_of}
use Rattle.box_images.proofs.LawLemmas.{images_fit}
use Rattle.box_images.specs.Terms.{Answers, IsValidImage, header_at, number_of}
use Rattle.image_tests.specs.Tests.{IsAddressSide}
use Rattle.image_tests.specs.Types.{Entry, Image, Part, Side}
use Rattle.cut_laws.proofs.Lemmas.{addresses_are_standing, among_through, on_sides_among, right_among}
use Rattle.cut_laws.specs.Dividing.{CutOut}
use Rattle.fabric.specs.Hosts.{AreHosts}
use Rattle.image_tests.proofs.Answering.{answers_more, answers_same}
use Rattle.number_tables.specs.Entries.{value_at}
use Rattle.number_tables.specs.Keys.{key_of}
use Rattle.prefix_text.specs.Block.{Block, holds as holds_address}
use Rattle.vpc_laws.proofs.Hosting.{hosts_are_assigned_or_delegated}
use Rattle.vpc_laws.specs.Hosts.{assigned_host, delegated_host}
use Rattle.vpc_laws.specs.Types.{Box5, Description, Dir, EniNo, Header, Interface, VpcNo}
use Rattle.vpc_model.specs.Terms.{IsAccepted, address_cuts, addresses_in, both_addresses, cuts_of_blocks, fixed_cuts, has_address, host_of, interface_at, is_assigned, is_eni, is_in_vpc, is_vpc, no_interface, on_sides, or_else, standing_cuts}
use Rattle.box_steps.proofs.Delegated.{blocks-stand}
use Rattle.box_steps.proofs.Telling.{answers_kept, answers_then}
use Rattle.box_steps.proofs.ToldOfSome.{told_of_low}
use Rattle.box_steps.specs.Terms.{DivideAddress, DivideBlocks, DivideOwn, Standing, own_address}

-- the same answer in other words, for the headers of the part
pub answers_held : {T : Type 0} (enough : CutLists → Type 0) (f g : Header → T) (part : Box5) (x : Part T) → ((h : Header) → holds h part ≡ true → f h ≡ g h)
    → Answers enough f part x → Answers enough g part x
answers_held {T} enough f g part x same k = record { told = λ h held. k.told h held ∙ same h (holds_whole h x.body part k.body.within held); body = k.body; aligned = k.aligned }

-- ---- the addresses of a description

-- those of an interface
pub addresses_have : (d : Description) (e : Interface) (x : ℕ × Option ℕ) (a : ℕ) → Contains d.interfaces e → Contains e.addresses x → Contains (both_addresses x) a → Contains (addresses_in d) a
addresses_have d e x a listed has either =
    Contains-flat_map (λ (r : Interface). flat_map both_addresses r.addresses) d.interfaces e a listed (Contains-flat_map both_addresses e.addresses x a has either)

pub own_has : (x : ℕ × Option ℕ) → Contains (both_addresses x) x.0
own_has (a, None) = Contains-here a []
own_has (a, Some public) = Contains-here a (public ∷ [])

-- standing cuts divide before and after each
pub address_stands : (d : Description) (a : ℕ) → Contains (addresses_in d) a → DivideAddress a (standing_cuts d)
address_stands d a has =
    let few : CutLists = cuts_of_blocks (address_cuts a) in
    let many : CutLists = cuts_of_blocks (flat_map address_cuts (addresses_in d)) in
    let whole : CutLists = joined_cuts fixed_cuts many in
    among_through (on_sides few) (on_sides whole) (standing_cuts d)
    (on_sides_among few whole
    (among_through few many whole
    (record { proto = λ c k. k; addr = λ c k. Contains-flat_map address_cuts (addresses_in d) a c has k; p = λ c k. k; q = λ c k. k })
    (right_among fixed_cuts many)))
    (addresses_are_standing d)

-- ---- the interface that has an address

abbrev is_host : Description → VpcNo → ℕ → Interface → Bool
is_host d v a e = has_address e a && is_in_vpc d v e

abbrev assigned : Description → VpcNo → ℕ → Interface → Bool
assigned d v a e = is_assigned e a && is_in_vpc d v e

abbrev numbered : ℕ → EniNo
numbered k = record { 0 = k }

assigned-has : (d : Description) (v : VpcNo) (a : ℕ) (o : Option ℕ) → position (assigned d v a) d.interfaces ≡ o → is_some (option_map numbered o) ≡ true → Contains (addresses_in d) a
assigned-has d v a None is some = absurd cc
assigned-has d v a (Some k) is some =
    let at = position-at (assigned d v a) d.interfaces k no_interface is in
    let e : Interface = interface_at d (numbered k) in
    let parts = and_parts (is_assigned e a) (is_in_vpc d v e) at.1 in
    let own = list_any-member (λ (x : ℕ × Option ℕ). x.0 == a) e.addresses parts.0 in
    subst (Contains (addresses_in d)) (eqb-true own.0.0 a own.2)
    (addresses_have d e own.0 own.0.0 (row-member d.interfaces k no_interface at.0) own.1 (own_has own.0))

-- hosts are cut out by standing cuts
hosts_are_cut_out : (d : Description) (table : List (Entry EniNo)) (v : VpcNo) → AreHosts d table → is_vpc d v ≡ true → CutOut (λ a. is_some (value_at (key_of v.0 a) table)) (standing_cuts d)
hosts_are_cut_out d table v are lies a fits some =
    address_stands d a
    (assigned-has d v a (position (assigned d v a) d.interfaces) refl
    (subst (λ (o : Option EniNo). is_some o ≡ true) (are v a lies (omega arith)) some))

address-fits : (i : Image) (s : Side) (h : Header) → IsAddressSide s → IsValidImage i → holds h i.part ≡ true → number_of (header_at i h) s < 2 ^ 32
address-fits i s h (inl src) valid held = let fits = images_fit i h valid held in subst (λ (t : Side). number_of (header_at i h) t < 2 ^ 32) (sym src) fits.src
address-fits i s h (inr dst) valid held = let fits = images_fit i h valid held in subst (λ (t : Side). number_of (header_at i h) t < 2 ^ 32) (sym dst) fits.dst

-- to which an address is assigned
answers_of_assigned : (d : Description) (table : List (Entry EniNo)) (v : VpcNo) (s : Side) (i : Image) (x : Part (Option EniNo)) → AreHosts d table → is_vpc d v ≡ true → IsValidImage i → IsAddressSide s
    → Answers (CutOut (λ a. is_some (value_at (key_of v.0 a) table))) (λ h. value_at (key_of v.0 (number_of (header_at i h) s)) table) i.part x
    → Answers (Standing d) (λ h. assigned_host d v (number_of (header_at i h) s)) i.part x
answers_of_assigned d table v s i x are lies valid address k =
    answers_held (Standing d) (λ h. value_at (key_of v.0 (number_of (header_at i h) s)) table) (λ h. assigned_host d v (number_of (header_at i h) s)) i.part x
    (λ h held. are v (number_of (header_at i h) s) lies (address-fits i s h address valid held))
    (answers_more (CutOut (λ a. is_some (value_at (key_of v.0 a) table))) (Standing d) (λ h. value_at (key_of v.0 (number_of (header_at i h) s)) table) i.part x
    (λ cuts standing a fits some. among_through (on_sides (cuts_of_blocks (address_cuts a))) (standing_cuts d) cuts (hosts_are_cut_out d table v are lies a fits some) standing) k)

-- the network of a fabric is accepted
pub accepted-as : (n d : Description) → n ≡ d → IsAccepted n → IsAccepted d
accepted-as n d same accepted = subst IsAccepted same accepted

-- it is the host
pub answers_of_hosts : (d : Description) (table : List (Entry EniNo)) (v : VpcNo) (s : Side) (i : Image) (x : Part (Option EniNo)) (e : EniNo) → IsAccepted d → AreHosts d table → is_vpc d v ≡ true → IsValidImage i
    → IsAddressSide s → x.told ≡ Some e
    → Answers (CutOut (λ a. is_some (value_at (key_of v.0 a) table))) (λ h. value_at (key_of v.0 (number_of (header_at i h) s)) table) i.part x
    → Answers (Standing d) (λ h. host_of d v (number_of (header_at i h) s)) i.part x
answers_of_hosts d table v s i x e accepted are lies valid address some k =
    answers_kept (Standing d) (λ h. assigned_host d v (number_of (header_at i h) s)) (λ h. host_of d v (number_of (header_at i h) s)) i.part x
    (λ h is. let a = number_of (header_at i h) s in hosts_are_assigned_or_delegated d v a accepted ∙ ap (λ (o : Option EniNo). or_else o (delegated_host d v a)) (is ∙ some) ∙ sym some)
    (answers_of_assigned d table v s i x are lies valid address k)

-- or else the interface to which it is delegated, which was asked of what is left
pub answers_of_rest : (d : Description) (table : List (Entry EniNo)) (v : VpcNo) (s : Side) (i j : Image) (x y : Part (Option EniNo)) → IsAccepted d → AreHosts d table → is_vpc d v ≡ true → IsValidImage i
    → IsAddressSide s → x.told ≡ None → j ≡ record i { part = x.body }
    → Answers (CutOut (λ a. is_some (value_at (key_of v.0 a) table))) (λ h. value_at (key_of v.0 (number_of (header_at i h) s)) table) i.part x
    → Answers (Standing d) (λ h. delegated_host d v (number_of (header_at j h) s)) j.part y
    → Answers (Standing d) (λ h. host_of d v (number_of (header_at i h) s)) i.part y
answers_of_rest d table v s i j x y accepted are lies valid address none over k l =
    answers_then (Standing d) (λ h. assigned_host d v (number_of h s)) (λ h. host_of d v (number_of h s)) (λ h. delegated_host d v (number_of h s)) i j x y valid.part over
    (λ h is. let a = number_of (header_at i h) s in hosts_are_assigned_or_delegated d v a accepted ∙ ap (λ (o : Option EniNo). or_else o (delegated_host d v a)) (is ∙ none))
    (answers_of_assigned d table v s i x are lies valid address k) l

host-lies : (d : Description) (v : VpcNo) (a : ℕ) (o : Option ℕ) → position (is_host d v a) d.interfaces ≡ o → IfSome (option_map numbered o) (λ e. is_eni d e ≡ true)
host-lies d v a None is = tt
host-lies d v a (Some k) is = (position-at (is_host d v a) d.interfaces k no_interface is).0

-- the interface that was told is described
pub host_lies : (enough : CutLists → Type 0) (d : Description) (v : VpcNo) (i : Image) (x : Part (Option EniNo)) → Answers enough (λ h. host_of d v (header_at i h).dst) i.part x
    → IfSome x.told (λ e. is_eni d e ≡ true)
host_lies enough d v i x k =
    subst (λ (o : Option EniNo). IfSome o (λ e. is_eni d e ≡ true)) (sym (told_of_low enough (λ h. host_of d v (header_at i h).dst) i.part x k))
    (host-lies d v (header_at i (low_of x.body)).dst (position (is_host d v (header_at i (low_of x.body)).dst) d.interfaces) refl)

pub sender_lies : (enough : CutLists → Type 0) (d : Description) (v : VpcNo) (i : Image) (x : Part (Option EniNo)) → Answers enough (λ h. host_of d v (header_at i h).src) i.part x
    → IfSome x.told (λ e. is_eni d e ≡ true)
sender_lies enough d v i x k =
    subst (λ (o : Option EniNo). IfSome o (λ e. is_eni d e ≡ true)) (sym (told_of_low enough (λ h. host_of d v (header_at i h).src) i.part x k))
    (host-lies d v (header_at i (low_of x.body)).src (position (is_host d v (header_at i (low_of x.body)).src) d.interfaces) refl)

-- ---- the addresses of one interface

own-stands : (d : Description) (i : EniNo) → is_eni d i ≡ true → (cuts : CutLists) → Standing d cuts → DivideOwn (interface_at d i).addresses cuts
own-stands d i lies cuts standing =
    let e : Interface = interface_at d i in
    All-from_recursion (λ (x : ℕ × Option ℕ). DivideAddress x.0 cuts) e.addresses
    (all_members (λ (x : ℕ × Option ℕ). DivideAddress x.0 cuts) e.addresses
    (λ x has.
    among_through (on_sides (cuts_of_blocks (address_cuts x.0))) (standing_cuts d) cuts
    (address_stands d x.0 (addresses_have d e x x.0 (row-member d.interfaces i.0 no_interface lies) has (own_has x))) standing))

-- assigned ones
answers_of_own : (d : Description) (e : EniNo) (row : Interface) (addresses : List (ℕ × Option ℕ)) (dir : Dir) (s : Side) (i : Image) (x : Part Bool) → is_eni d e ≡ true
    → row ≡ interface_at d e → addresses ≡ row.addresses → ((h : Header) → number_of h s ≡ own_address dir h)
    → Answers (DivideOwn addresses) (λ h. list_any (λ y. y.0 == number_of (header_at i h) s) addresses) i.part x
    → Answers (Standing d) (λ h. is_assigned (interface_at d e) (own_address dir (header_at i h))) i.part x
answers_of_own d e row addresses dir s i x lies is own side k =
    let theirs : addresses ≡ (interface_at d e).addresses = own ∙ ap (λ (r : Interface). r.addresses) is in
    answers_same (Standing d) (λ h. list_any (λ y. y.0 == number_of (header_at i h) s) (interface_at d e).addresses) (λ h. is_assigned (interface_at d e) (own_address dir (header_at i h))) i.part x
    (λ h. ap (is_assigned (interface_at d e)) (side (header_at i h)))
    (answers_more (DivideOwn (interface_at d e).addresses) (Standing d) (λ h. list_any (λ y. y.0 == number_of (header_at i h) s) (interface_at d e).addresses) i.part x (own-stands d e lies)
    (subst (λ (ys : List (ℕ × Option ℕ)). Answers (DivideOwn ys) (λ h. list_any (λ y. y.0 == number_of (header_at i h) s) ys) i.part x) theirs k))

-- blocks
answers_of_blocks : (d : Description) (e : EniNo) (row : Interface) (blocks : List Block) (dir : Dir) (s : Side) (i : Image) (x : Part Bool) → is_eni d e ≡ true
    → row ≡ interface_at d e → blocks ≡ row.prefixes → ((h : Header) → number_of h s ≡ own_address dir h)
    → Answers (DivideBlocks blocks) (λ h. list_any (holds_address (number_of (header_at i h) s)) blocks) i.part x
    → Answers (Standing d) (λ h. list_any (holds_address (own_address dir (header_at i h))) (interface_at d e).prefixes) i.part x
answers_of_blocks d e row blocks dir s i x lies is own side k =
    let theirs : blocks ≡ (interface_at d e).prefixes = own ∙ ap (λ (r : Interface). r.prefixes) is in
    answers_same (Standing d) (λ h. list_any (holds_address (number_of (header_at i h) s)) (interface_at d e).prefixes)
    (λ h. list_any (holds_address (own_address dir (header_at i h))) (interface_at d e).prefixes) i.part x
    (λ h. ap (λ (a : ℕ). list_any (holds_address a) (interface_at d e).prefixes) (side (header_at i h)))
    (answers_more (DivideBlocks (interface_at d e).prefixes) (Standing d) (λ h. list_any (holds_address (number_of (header_at i h) s)) (interface_at d e).prefixes) i.part x (blocks-stand d e lies)
    (subst (λ (bs : List Block). Answers (DivideBlocks bs) (λ h. list_any (holds_address (number_of (header_at i h) s)) bs) i.part x) theirs k))

or-first : (p q told : Bool) → told ≡ true → p ≡ told → (p || q) ≡ told
or-first true q told is e = e
or-first false q told is e = absurd (let no : false ≡ true = e ∙ is in cc)

or-second : (p q told : Bool) → told ≡ false → p ≡ told → (p || q) ≡ q
or-second true q told is e = absurd (let no : true ≡ false = e ∙ is in cc)
or-second false q told is e = refl

-- an assigned address is one of its own
pub own_assigned : (d : Description) (e : EniNo) (row : Interface) (addresses : List (ℕ × Option ℕ)) (dir : Dir) (s : Side) (i : Image) (x : Part Bool) → is_eni d e ≡ true
    → row ≡ interface_at d e → addresses ≡ row.addresses → ((h : Header) → number_of h s ≡ own_address dir h) → x.told ≡ true
    → Answers (DivideOwn addresses) (λ h. list_any (λ y. y.0 == number_of (header_at i h) s) addresses) i.part x
    → Answers (Standing d) (λ h. has_address (interface_at d e) (own_address dir (header_at i h))) i.part x
own_assigned d e row addresses dir s i x lies is own side told k =
    let r = interface_at d e in
    answers_kept (Standing d) (λ h. is_assigned r (own_address dir (header_at i h))) (λ h. has_address r (own_address dir (header_at i h))) i.part x
    (λ h asked. let a = own_address dir (header_at i h) in or-first (is_assigned r a) (list_any (holds_address a) r.prefixes) x.told told asked)
    (answers_of_own d e row addresses dir s i x lies is own side k)

-- and so is one in a block, which was asked of what is left
pub own_in_blocks : (d : Description) (e : EniNo) (row : Interface) (addresses : List (ℕ × Option ℕ)) (blocks : List Block) (dir : Dir) (s : Side) (i j : Image) (x y : Part Bool) → is_eni d e ≡ true
    → row ≡ interface_at d e → addresses ≡ row.addresses → blocks ≡ row.prefixes → ((h : Header) → number_of h s ≡ own_address dir h) → IsValidImage i → x.told ≡ false
    → j ≡ record i { part = x.body }
    → Answers (DivideOwn addresses) (λ h. list_any (λ y. y.0 == number_of (header_at i h) s) addresses) i.part x
    → Answers (DivideBlocks blocks) (λ h. list_any (holds_address (number_of (header_at j h) s)) blocks) j.part y
    → Answers (Standing d) (λ h. has_address (interface_at d e) (own_address dir (header_at i h))) i.part y
own_in_blocks d e row addresses blocks dir s i j x y lies is own theirs side valid told over k l =
    let r = interface_at d e in
    let in_block : Header → Bool = λ h. list_any (holds_address (own_address dir h)) r.prefixes in
    answers_then (Standing d) (λ h. is_assigned r (own_address dir h)) (λ h. has_address r (own_address dir h)) in_block i j x y valid.part over
    (λ h asked. or-second (is_assigned r (own_address dir (header_at i h))) (in_block (header_at i h)) x.told told asked)
    (answers_of_own d e row addresses dir s i x lies is own side k) (answers_of_blocks d e row blocks dir s j y lies is theirs side l)
