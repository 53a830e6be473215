-- The lists that are too long, all of them and part by part.
use Rattle.std.proofs.Common.{◌++◌, ◌≡◌, List, append_assoc, drop, filter, map, ℕ}
use Rattle.std.proofs.lemmas.List.{map-append}
use Rattle.vpc_model.specs.declared.refusals.Refusal.TheVariants as refusals
use Rattle.vpc_model.specs.declared.rows.Description.{Description}
use Rattle.vpc_model.specs.declared.rows.Far.{Far}
use Rattle.vpc_model.specs.Accepted.{is_long_far, list_of_far, too_many_rows}
use Rattle.reference_check.specs.LongLists.{long_by_part, told_by_list}

-- both causes for which networks are refused
fars-by_part : (n : ℕ) (fars : List Far)
    → map (λ f. refusals.TooManyRows (list_of_far f.kind)) (drop n fars ++ filter (λ f. is_long_far f.kind) fars)
    ≡ told_by_list (drop n fars) ++ told_by_list (filter (λ f. is_long_far f.kind) fars)
fars-by_part n fars = map-append (λ f. refusals.TooManyRows (list_of_far f.kind)) (drop n fars) (filter (λ f. is_long_far f.kind) fars)

pub long_by_part-is : (d : Description) → long_by_part d ≡ too_many_rows d
long_by_part-is d = rw (fars-by_part 100000 d.fars) (simp append_assoc)
