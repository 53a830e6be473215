-- The rows of an ACL in the order in which they are tried (VPC User Guide, "Network ACL rules").
use Rattle.std.specs.Prelude.{◌&&◌, ◌≡◌, All, Bool, IsPermutation, IsSortedByKey, List, false, filter, true}
use Rattle.std.specs.Ordering.{nat_cmp}
use Rattle.box_images.specs.Images.{header_at}
use Rattle.box_images.specs.declared.images.Image.{Image}
use Rattle.cut_laws.specs.Dividing.{Divide}
use Rattle.header_boxes.specs.Boxes.{holds as holds_header}
use Rattle.vpc_base.specs.Cuts.{CutLists}
use Rattle.vpc_base.specs.declared.headers.Dir.{Dir}
use Rattle.vpc_base.specs.declared.headers.Dir.TheVariants as dirs
use Rattle.vpc_base.specs.declared.headers.Header.{Header}
use Rattle.vpc_model.specs.declared.rows.AclRow.{AclRow}
use Rattle.vpc_model.specs.declared.numbers.AclNo.{AclNo}
use Rattle.vpc_model.specs.declared.rows.Description.{Description}
use Rattle.prefix_text.specs.Block.{holds}
use Rattle.vpc_model.specs.Acls.{acl_verdict, is_of_dir}
use Rattle.vpc_model.specs.Cuts.{all_cuts, cuts_of_acl_row, standing_cuts}
use Rattle.vpc_model.specs.Lookup.{acl_at}
use Rattle.vpc_model.specs.Sound.{is_acl}
use Rattle.vpc_model.specs.Filter.{far_address, is_between, matches_proto}

-- the rows of each direction
pub record TriedRows : Type 0 where
  pub inward : List AclRow
  pub outward : List AclRow

-- those of one
abbrev pub rows_tried : Dir → TriedRows → List AclRow
rows_tried dirs.Inward i = i.inward
rows_tried dirs.Outward i = i.outward

-- rows of the direction, by ascending number
pub record AreTried (dir : Dir) (rows : List AclRow) : Type 0 where
  pub of_dir : All (λ r. is_of_dir dir r ≡ true) rows
  pub ordered : IsSortedByKey (λ r. r.number) nat_cmp rows

-- protocol, port range and block match
abbrev pub row_matches : Dir → Header → AclRow → Bool
row_matches dir h r = matches_proto r.proto h.proto && (is_between r.q_from r.q_to h.q && holds (far_address dir h) r.block)

-- no header of an image's part does
abbrev pub MatchesNone : Dir → Image → AclRow → Type 0
MatchesNone dir i r = (h : Header) → holds_header h i.part ≡ true → row_matches dir (header_at i h) r ≡ false

-- the rows of each direction are those of the list, in an order that leaves every verdict as it was
pub record SortsRows (rows : List AclRow) (i : TriedRows) : Type 0 where
  pub same : (dir : Dir) → IsPermutation (filter (is_of_dir dir) rows) (rows_tried dir i)
  pub verdicts : (dir : Dir) (h : Header) → acl_verdict (rows_tried dir i) dir h ≡ acl_verdict rows dir h

-- the cuts divide at all edges of the rows
abbrev pub DivideRows : List AclRow → CutLists → Type 0
DivideRows rows cuts = Divide (all_cuts cuts_of_acl_row rows) cuts

-- the standing cuts of a description divide at the rows of its ACLs
abbrev pub TriedRowsAreStanding : Type 0
TriedRowsAreStanding =
    (d : Description) (a : AclNo) (i : TriedRows) (dir : Dir) → is_acl d a ≡ true → SortsRows (acl_at d a).rows i
    → DivideRows (rows_tried dir i) (standing_cuts d)
