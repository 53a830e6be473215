-- What packets leave behind that pass an interface.
use Rattle.std.proofs.Common.{All, Bool, List, None, Option, Some, [], ap, arith, cond, false, inl, inr, length, refl, subst, sym, true, ℕ, ◌&&◌, ◌++◌, ◌<◌, ◌==◌, ◌||◌, ◌∙◌, ◌∷◌, ◌≡◌, ◌≤◌, ◌⊎◌}
use Rattle.std.specs.List.{list_any}
use Rattle.vpc_base.proofs.Lemmas.{All-cons, All-nil, and-fails_early, append-nil, eqb-comm, list_any-append, or_from}
use Rattle.vpc_base.specs.Terms.{same_dir}
use Rattle.vpc_base.specs.declared.headers.Dir.TheVariants as dirs
use Rattle.vpc_base.specs.declared.headers.Label.TheVariants as labels
use Rattle.box_images.specs.Terms.{IsValidImage, header_at}
use Rattle.image_tests.specs.Types.{Image}
use Rattle.conn_tracking.specs.OnImages.{connection_at, connections_at}
use Rattle.conn_tracking.specs.declared.on_images.ImageEntry.{ImageEntry}
use Rattle.conn_tracking.proofs.Lookups.{same_dir-flip}
use Rattle.vpc_laws.specs.Types.{Box5, By, Description, Dir, EniNo, Header, Label, Place, RuleRef}
use Rattle.vpc_model.specs.Terms.{Connection, Passing, added, answer_passing, first_rule, interface_at, is_tracked, open_passing, passing_groups, same_connection, same_header, same_place}
use Rattle.box_steps.proofs.Narrowing.{conns-kept, kept_if_narrowed}
use Rattle.box_steps.specs.Terms.{BoxMoment, CanRemember, IsImageOf, IsNarrowed, IsOpenOver, entries_left, has_conn, is_passed, passed_at, remembers}

-- ---- what opens leave behind

or-second : (a b : Bool) → (a || b) ≡ false → b ≡ false
or-second true b h = absurd (let no : true ≡ false = h in cc)
or-second false b h = h

or-first : (a b : Bool) → (a || b) ≡ false → a ≡ false
or-first true b h = absurd (let no : true ≡ false = h in cc)
or-first false b h = refl

-- where no open has passed the interface in this direction, none of the connections is the new one
fresh-none : (c : Connection) (es : List ImageEntry) (h : Header) → has_conn es c.eni c.dir ≡ false → list_any (same_connection c) (connections_at h es) ≡ false
fresh-none c [] h fresh = refl
fresh-none c (e ∷ es) h fresh =
    let differs : ((c.eni.0 == e.eni.0) && same_dir c.dir e.dir) ≡ false
    = ap (λ (v : Bool). v && same_dir c.dir e.dir) (eqb-comm c.eni.0 e.eni.0)
    ∙ ap (λ (v : Bool). (e.eni.0 == c.eni.0) && v) (same_dir-flip c.dir e.dir)
    ∙ or-first ((e.eni.0 == c.eni.0) && same_dir e.dir c.dir) (has_conn es c.eni c.dir) fresh in
    or_from (same_connection c (connection_at h e)) (list_any (same_connection c) (connections_at h es))
    (and-fails_early (c.eni.0 == e.eni.0) (same_dir c.dir e.dir) (same_header c.header (header_at e.header h)) differs)
    (fresh-none c es h (or-second ((e.eni.0 == c.eni.0) && same_dir e.dir c.dir) (has_conn es c.eni c.dir) fresh))

added-new : (conns : List Connection) (c : Connection) → list_any (same_connection c) conns ≡ false → added conns c ≡ conns ++ c ∷ []
added-new conns c none = by (list_any (same_connection c) conns) none
  where
    by : (b : Bool) → b ≡ false → cond b conns (conns ++ c ∷ []) ≡ conns ++ c ∷ []
    by true e = absurd (cc)
    by false e = refl

open-leaves : (conns : List Connection) (c : Connection) (rule : Option RuleRef) → list_any (same_connection c) conns ≡ false → is_passed (open_passing conns c rule) ≡ true
    → let p = open_passing conns c rule in p.conns ≡ conns ++ c ∷ []
open-leaves conns c None none passed = absurd (let no : false ≡ true = passed in cc)
open-leaves conns c (Some r) none passed = added-new conns c none

answer-leaves : (conns : List Connection) (tracked : Bool) (by : Option By) (rule : Option RuleRef) → let p : Passing = cond tracked (record { by = by; conns = conns }) (answer_passing conns rule) in p.conns ≡ conns ++ []
answer-leaves conns true by rule = sym (append-nil conns)
answer-leaves conns false by None = sym (append-nil conns)
answer-leaves conns false by (Some r) = sym (append-nil conns)

-- the connections after a packet has passed are those before it and what it left
pub passing-leaves : (d : Description) (label : Label) (i : EniNo) (dir : Dir) (h : Header) (es : List ImageEntry) (image : Image) (groups : List (List ℕ)) → (label ≡ labels.Opening → has_conn es i dir ≡ false)
    → is_passed (passing_groups d label i dir (header_at image h) (connections_at h es) groups) ≡ true
    → let p = passing_groups d label i dir (header_at image h) (connections_at h es) groups in
    p.conns ≡ connections_at h es ++ connections_at h (entries_left label groups (record { eni = i; dir = dir; header = image }))
passing-leaves d labels.Opening i dir h es image [] fresh passed = sym (append-nil (connections_at h es))
passing-leaves d labels.Answer i dir h es image [] fresh passed = sym (append-nil (connections_at h es))
passing-leaves d labels.Opening i dir h es image (g ∷ gs) fresh passed =
    let c : Connection = record { eni = i; dir = dir; header = header_at image h } in
    open-leaves (connections_at h es) c (first_rule d (interface_at d i) dir (header_at image h)) (fresh-none c es h (fresh refl)) passed
passing-leaves d labels.Answer i dir h es image (g ∷ gs) fresh passed =
    answer-leaves (connections_at h es) (is_tracked (connections_at h es) i dir (header_at image h)) _ (first_rule d (interface_at d i) dir (header_at image h))

pub fresh_at : (label : Label) (m : BoxMoment) (i : EniNo) (dir : Dir) → m.place ≡ passed_at dir i → CanRemember label m → label ≡ labels.Opening → has_conn m.conns.items i dir ≡ false
fresh_at labels.Opening m i dir at room is = by dir (subst (λ (p : Place). remembers m p ≡ false) at room.fresh)
  where
    by : (dir : Dir) → remembers m (passed_at dir i) ≡ false → has_conn m.conns.items i dir ≡ false
    by dirs.Outward k = k
    by dirs.Inward k = k
fresh_at labels.Answer m i dir at room is = absurd (cc)

-- there is room also after the moment was narrowed
pub room_narrowed : (label : Label) (b : Box5) (old new : BoxMoment) → IsNarrowed b old new → CanRemember label old → label ≡ labels.Opening → length new.conns.items < 64
room_narrowed labels.Opening b old new n room is = let few = room.conns in let e = conns-kept b old new (kept_if_narrowed b old new n) in omega arith
room_narrowed labels.Answer b old new n room is = absurd (cc)

-- ---- the moment past the interface

-- what is left belongs to a moment of the walk
pub left-opens : (label : Label) (addresses : List ℕ) (groups : List (List ℕ)) (e : ImageEntry) (part : Box5) (i : Image) → e.header ≡ i → i.part ≡ part → IsValidImage i → IsImageOf label addresses i
    → All (λ x. IsOpenOver addresses part x.header) (entries_left label groups e)
left-opens labels.Answer addresses groups e part i is over valid k = All-nil (λ (x : ImageEntry). IsOpenOver addresses part x.header)
left-opens labels.Opening addresses [] e part i is over valid k = All-nil (λ (x : ImageEntry). IsOpenOver addresses part x.header)
left-opens labels.Opening addresses (g ∷ gs) e part i is over valid k =
    All-cons (λ (x : ImageEntry). IsOpenOver addresses part x.header) e []
    (subst (IsOpenOver addresses part) (sym is) (record { over = over; valid = valid; kind = k }))
    (All-nil (λ (x : ImageEntry). IsOpenOver addresses part x.header))

pub left-few : (label : Label) (groups : List (List ℕ)) (e : ImageEntry) → length (entries_left label groups e) ≤ 1
left-few labels.Answer groups e = omega arith
left-few labels.Opening [] e = omega arith
left-few labels.Opening (g ∷ gs) e = omega arith

same-place : (b : Bool) → ((b && true) || false) ≡ true → b ≡ true
same-place true h = refl
same-place false h = h

other-way : (b : Bool) → ((b && false) || false) ≡ true → ⊥
other-way true h = cc
other-way false h = cc

-- it is remembered at the interface alone
left-known : (label : Label) (groups : List (List ℕ)) (i j : EniNo) (dir there : Dir) (image : Image) → has_conn (entries_left label groups (record { eni = i; dir = dir; header = image })) j there ≡ true
    → same_place (passed_at dir i) (passed_at there j) ≡ true
left-known labels.Answer groups i j dir there image k = absurd (let no : false ≡ true = k in cc)
left-known labels.Opening [] i j dir there image k = absurd (let no : false ≡ true = k in cc)
left-known labels.Opening (g ∷ gs) i j dirs.Outward dirs.Outward image k = same-place (i.0 == j.0) k
left-known labels.Opening (g ∷ gs) i j dirs.Inward dirs.Inward image k = same-place (i.0 == j.0) k
left-known labels.Opening (g ∷ gs) i j dirs.Outward dirs.Inward image k = absurd (other-way (i.0 == j.0) k)
left-known labels.Opening (g ∷ gs) i j dirs.Inward dirs.Outward image k = absurd (other-way (i.0 == j.0) k)

-- in a list with one more
pub more-known : (label : Label) (groups : List (List ℕ)) (i j : EniNo) (dir there : Dir) (image : Image) (es all : List ImageEntry) → all ≡ es ++ entries_left label groups (record { eni = i; dir = dir; header = image })
    → has_conn all j there ≡ true → (has_conn es j there ≡ true) ⊎ (same_place (passed_at dir i) (passed_at there j) ≡ true)
more-known label groups i j dir there image es all is k =
    let left = entries_left label groups (record { eni = i; dir = dir; header = image }) in
    one_of (has_conn es j there) (has_conn left j there)
    (sym (list_any-append (λ (e : ImageEntry). (e.eni.0 == j.0) && same_dir e.dir there) es left) ∙ sym (ap (λ (xs : List ImageEntry). has_conn xs j there) is) ∙ k)
    (left-known label groups i j dir there image)
  where
    one_of : (a b : Bool) → (a || b) ≡ true → (b ≡ true → same_place (passed_at dir i) (passed_at there j) ≡ true) → (a ≡ true) ⊎ (same_place (passed_at dir i) (passed_at there j) ≡ true)
    one_of true b h k = inl refl
    one_of false b h k = inr (k h)
