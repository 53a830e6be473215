-- Rows asked of images.
use Rattle.std.proofs.Common.{Bool, Contains, List, Option, Some, [], ap, arith, false, find, nat_le, refl, subst, sym, true, ℕ, ◌&&◌, ◌<◌, ◌∙◌, ◌∷◌, ◌≡◌}
use Rattle.vpc_base.proofs.Lemmas.{and_comm, lt-leb}
use Rattle.vpc_laws.specs.Types.{AclRow, Box5, Dir, Header}
use Rattle.vpc_base.specs.declared.headers.Dir.TheVariants as dirs
use Rattle.header_boxes.specs.Boxes.{holds as holds_header, low_of}
use Rattle.box_images.specs.Terms.{Answers, field_of, greatest_of, header_at, number_of}
use Rattle.image_tests.specs.Types.{Image, Part, Side}
use Rattle.box_images.specs.declared.fields.Side.TheVariants.{Dst, Q, Src}
use Rattle.cut_laws.proofs.Among.{among_through, on_sides_among, row_among}
use Rattle.cut_laws.specs.Dividing.{Divide}
use Rattle.image_tests.proofs.Lemmas.{answers_more, answers_refused, answers_rule, answers_same, header_of_rest, least-number, low-is-least, number-greatest}
use Rattle.image_tests.specs.Keys.{low_on}
use Rattle.image_tests.specs.Tests.{cuts_of_block, fits_rule}
use Rattle.prefix_text.specs.Block.{holds, last_of}
use Rattle.vpc_model.specs.Terms.{acl_verdict, all_cuts, cuts_of_acl_row, cuts_of_rule, far_address, is_between, matches_proto, on_sides, verdict_of_row}
use Rattle.network_acls.proofs.Directions.{decided}
use Rattle.network_acls.specs.Tried.{AreTried, DivideRows, MatchesNone, TriedRows, row_matches, rows_tried}

-- the cuts of a row are those of its rule and of its block
pub rule_of_row : (i : Image) (r : AclRow) (x : Part Bool)
    → Answers (Divide (cuts_of_rule r.proto r.q_from r.q_to [])) (λ h. fits_rule r.proto r.q_from r.q_to (header_at i h)) i.part x
    → Answers (Divide (cuts_of_acl_row r)) (λ h. fits_rule r.proto r.q_from r.q_to (header_at i h)) i.part x
rule_of_row i r x k =
    answers_more (Divide (cuts_of_rule r.proto r.q_from r.q_to [])) (Divide (cuts_of_acl_row r)) (λ h. fits_rule r.proto r.q_from r.q_to (header_at i h)) i.part x
    (λ cuts d. record { proto = d.proto; addr = λ c (n, below, e). absurd (omega arith); p = d.p; q = d.q }) k

pub block_of_row : (i : Image) (dir : Dir) (r : AclRow) (s : Side) (body : Box5) (x : Part Bool) → ((h : Header) → number_of h s ≡ far_address dir h)
    → Answers (Divide (cuts_of_block r.block)) (λ h. holds (number_of (header_at i h) s) r.block) body x
    → Answers (Divide (cuts_of_acl_row r)) (λ h. holds (far_address dir (header_at i h)) r.block) body x
block_of_row i dir r s body x far k =
    answers_more (Divide (cuts_of_block r.block)) (Divide (cuts_of_acl_row r)) (λ h. holds (far_address dir (header_at i h)) r.block) body x
    (λ cuts d. record {
      proto = λ c (n, below, e). absurd (omega arith);
      addr = d.addr;
      p = λ c (n, below, e). absurd (omega arith);
      q = λ c (n, below, e). absurd (omega arith);
    })
    (answers_same (Divide (cuts_of_block r.block)) (λ h. holds (number_of (header_at i h) s) r.block) (λ h. holds (far_address dir (header_at i h)) r.block) body x
    (λ h. ap (λ a. holds a r.block) (far (header_at i h))) k)

-- a row whose block doesn't hold the far address doesn't match
pub block_refuses : (i : Image) (dir : Dir) (r : AclRow) (s : Side) (x : Part Bool) → ((h : Header) → number_of h s ≡ far_address dir h) → x.told ≡ false
    → Answers (Divide (cuts_of_block r.block)) (λ h. holds (number_of (header_at i h) s) r.block) i.part x
    → Answers (Divide (cuts_of_acl_row r)) (λ h. row_matches dir (header_at i h) r) i.part x
block_refuses i dir r s x far refused k =
    let enough = Divide (cuts_of_acl_row r) in
    let fits : Header → Bool = λ h. fits_rule r.proto r.q_from r.q_to (header_at i h) in
    let held : Header → Bool = λ h. holds (far_address dir (header_at i h)) r.block in
    answers_rule enough r.proto r.q_from r.q_to i held i.part x
    (answers_same enough (λ h. held h && fits h) (λ h. fits h && held h) i.part x (λ h. and_comm (held h) (fits h))
    (answers_refused enough held fits i.part x refused (block_of_row i dir r s i.part x far k)))

-- ---- rows that match no header

-- their ports end before the low corner
pub ends-before : (dir : Dir) (i : Image) (low : Header) (r : AclRow) → low ≡ header_at i (low_of i.part) → r.q_to < low.q → MatchesNone dir i r
ends-before dir i low r is less h t =
    let least = low-is-least i.q i.part h t in
    let port = ap (λ (g : Header). g.q) is in
    let fails : nat_le (header_at i h).q r.q_to ≡ false = lt-leb (header_at i h).q r.q_to (omega arith) in
    rw fails (nowhere (nat_le r.q_from (header_at i h).q) (holds (far_address dir (header_at i h)) r.block) (matches_proto r.proto (header_at i h).proto))
  where
    nowhere : (a b c : Bool) → (c && ((a && false) && b)) ≡ false
    nowhere true b true = refl
    nowhere true b false = refl
    nowhere false b true = refl
    nowhere false b false = refl

-- or begin after all headers
pub begins-after : (dir : Dir) (i : Image) (last : ℕ) (r : AclRow) → last ≡ greatest_of i.q i.part → last < r.q_from → MatchesNone dir i r
begins-after dir i last r is less h t =
    let most = number-greatest i Q h t in
    let fails : nat_le r.q_from (header_at i h).q ≡ false = lt-leb r.q_from (header_at i h).q (omega arith) in
    rw fails (nowhere (nat_le (header_at i h).q r.q_to) (holds (far_address dir (header_at i h)) r.block) (matches_proto r.proto (header_at i h).proto))
  where
    nowhere : (a b c : Bool) → (c && ((false && a) && b)) ≡ false
    nowhere a b true = refl
    nowhere a b false = refl

refused-by-block : (dir : Dir) (h : Header) (r : AclRow) → holds (far_address dir h) r.block ≡ false → row_matches dir h r ≡ false
refused-by-block dir h r fails = rw fails (nowhere (is_between r.q_from r.q_to h.q) (matches_proto r.proto h.proto))
  where
    nowhere : (a c : Bool) → (c && (a && false)) ≡ false
    nowhere true true = refl
    nowhere true false = refl
    nowhere false true = refl
    nowhere false false = refl

-- the side of the far address
side_of_far : (dir : Dir) → (s : Side) × ((h : Header) → number_of h s ≡ far_address dir h)
side_of_far dirs.Inward = (Src, λ h. refl)
side_of_far dirs.Outward = (Dst, λ h. refl)

-- their block ends before the low corner
pub block-before : (dir : Dir) (i : Image) (low : Header) (r : AclRow) → low ≡ header_at i (low_of i.part) → last_of r.block < far_address dir low → MatchesNone dir i r
block-before dir i low r is less h t =
    let s : Side = (side_of_far dir).0 in
    let far = (side_of_far dir).1 in
    let least = least-number i s h t in
    let here = far (header_at i h) in
    let there : low_on i s ≡ far_address dir low = far (header_at i (low_of i.part)) ∙ ap (far_address dir) (sym is) in
    let fails : nat_le (far_address dir (header_at i h)) (last_of r.block) ≡ false = lt-leb (far_address dir (header_at i h)) (last_of r.block) (omega arith) in
    refused-by-block dir (header_at i h) r (rw fails (nowhere (nat_le r.block.first (far_address dir (header_at i h)))))
  where
    nowhere : (a : Bool) → (a && false) ≡ false
    nowhere true = refl
    nowhere false = refl

-- or begins after all headers
pub block-after : (dir : Dir) (i : Image) (last : ℕ) (s : Side) (r : AclRow) → ((h : Header) → number_of h s ≡ far_address dir h) → last ≡ greatest_of (field_of i s) i.part
    → last < r.block.first → MatchesNone dir i r
block-after dir i last s r far is less h t =
    let most = number-greatest i s h t in
    let here = far (header_at i h) in
    let fails : nat_le r.block.first (far_address dir (header_at i h)) ≡ false = lt-leb r.block.first (far_address dir (header_at i h)) (omega arith) in
    refused-by-block dir (header_at i h) r (rw fails refl)

-- the first of some rows that matches
abbrev pub first_match : Dir → Image → List AclRow → Header → Option AclRow
first_match dir i rows h = find (row_matches dir (header_at i h)) rows

abbrev pub row_test : Dir → Image → AclRow → Header → Bool
row_test dir i r h = row_matches dir (header_at i h) r

pub no_match_yet : (dir : Dir) (i : Image) (r : AclRow) (rows : List AclRow) (h : Header) → row_matches dir (header_at i h) r ≡ false → first_match dir i (r ∷ rows) h ≡ first_match dir i rows h
no_match_yet dir i r rows h fails = rw fails refl

pub match_found : (dir : Dir) (i : Image) (r : AclRow) (rows : List AclRow) (h : Header) → row_matches dir (header_at i h) r ≡ true → first_match dir i (r ∷ rows) h ≡ Some r
match_found dir i r rows h passes = rw passes refl

-- where the edges of all rows are cuts, those of each are; and what is left of the image has the same headers
pub answer_of_row : (rows : List AclRow) (dir : Dir) (i rest : Image) (r : AclRow) (x : Part Bool) → Contains rows r → rest ≡ record i { part = rest.part }
    → Answers (Divide (cuts_of_acl_row r)) (λ h. row_matches dir (header_at rest h) r) rest.part x
    → Answers (DivideRows rows) (λ h. row_matches dir (header_at i h) r) rest.part x
answer_of_row rows dir i rest r x has e k =
    answers_more (Divide (cuts_of_acl_row r)) (DivideRows rows) (λ h. row_matches dir (header_at i h) r) rest.part x
    (λ cuts d. among_through (on_sides (cuts_of_acl_row r)) (on_sides (all_cuts cuts_of_acl_row rows)) cuts
    (on_sides_among (cuts_of_acl_row r) (all_cuts cuts_of_acl_row rows) (row_among cuts_of_acl_row rows r has)) d)
    (answers_same (Divide (cuts_of_acl_row r)) (λ h. row_matches dir (header_at rest h) r) (λ h. row_matches dir (header_at i h) r) rest.part x
    (λ h. ap (λ g. row_matches dir g r) (header_of_rest i rest h e)) k)

-- a row that matches no header of what is left
pub none_of_rest : (dir : Dir) (i rest : Image) (r : AclRow) → rest ≡ record i { part = rest.part } → MatchesNone dir rest r
    → (h : Header) → holds_header h rest.part ≡ true → row_test dir i r h ≡ false
none_of_rest dir i rest r e none h t = sym (ap (λ (g : Header). row_matches dir g r) (header_of_rest i rest h e)) ∙ none h t

-- the verdict on an image of the rows of one direction, of an index that is asked for that direction
pub decided_on : (dir asked : Dir) (i : Image) (x : Part (Bool × ℕ)) (rows seen : List AclRow) (t : TriedRows) → dir ≡ asked → AreTried asked rows → seen ≡ rows → rows ≡ rows_tried asked t
    → Answers (DivideRows seen) (λ h. verdict_of_row (find (row_matches asked (header_at i h)) seen)) i.part x
    → Answers (DivideRows (rows_tried dir t)) (λ h. acl_verdict (rows_tried dir t) dir (header_at i h)) i.part x
decided_on dir asked i x rows seen t same tried is in_index k = record {
  told = λ h inside. decided dir asked (header_at i h) rows seen t x.told same tried is in_index (k.told h inside);
  body = k.body;
  aligned = λ cuts d. k.aligned cuts (subst (λ rs. DivideRows rs cuts) (sym (is ∙ in_index ∙ ap (λ d. rows_tried d t) (sym same))) d);
}
