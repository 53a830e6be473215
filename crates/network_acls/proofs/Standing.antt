-- The rows of an ACL in the order in which they are tried are rows of the description.
use Rattle.std.proofs.Common.{arith}
use Rattle.std.proofs.lemmas.Bool.Decides.{nat_tests}
use Rattle.std.proofs.lemmas.List.Elements.{Contains-get_or}
use Rattle.std.proofs.lemmas.List.Sorted.{Contains-permutation, IsPermutation-sym}
use Rattle.std.specs.List.{filter}
use Rattle.vpc_base.proofs.Members.{filter-member}
use Rattle.vpc_model.specs.Acls.{is_of_dir}
use Rattle.vpc_model.specs.Cuts.{all_cuts, cuts_of_acl, cuts_of_acl_row, on_sides, standing_cuts}
use Rattle.vpc_model.specs.Lookup.{acl_at}
use Rattle.cut_laws.proofs.Among.{among_through, on_sides_among, row_among, rows_among}
use Rattle.cut_laws.proofs.Rows.{acls_are_standing}
use Rattle.network_acls.specs.Tried.{TriedRowsAreStanding, rows_tried}

pub tried_rows_are_standing : TriedRowsAreStanding
tried_rows_are_standing d a i dir described sorts =
    let acl = acl_at d a in
    let has = Contains-get_or d.acls a.0 _ (grind (arith, nat_tests)) in
    among_through (on_sides (all_cuts cuts_of_acl_row (rows_tried dir i))) (on_sides (cuts_of_acl acl)) (standing_cuts d)
    (on_sides_among (all_cuts cuts_of_acl_row (rows_tried dir i)) (cuts_of_acl acl)
    (rows_among cuts_of_acl_row (cuts_of_acl acl) (rows_tried dir i)
    (λ r tried. row_among cuts_of_acl_row acl.rows r (filter-member (is_of_dir dir) acl.rows r
    (Contains-permutation (rows_tried dir i) (filter (is_of_dir dir) acl.rows) r (IsPermutation-sym (filter (is_of_dir dir) acl.rows) (rows_tried dir i) (sorts.same dir)) tried)).1)))
    (acls_are_standing d acl has)
