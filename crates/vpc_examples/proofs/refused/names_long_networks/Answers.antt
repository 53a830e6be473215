use Rattle.std.proofs.Common.{List, [], ◌++◌, ap, drop, filter, length, map, suc}
use Rattle.std.proofs.Math.Seq.{drop-cons}
use Rattle.std.proofs.lemmas.Bool.{ltb-true}
use Rattle.vpc_examples.proofs.refused.names_long_networks.Goals as goal
use Rattle.vpc_laws.specs.Types.{Far, Refusal}
use Rattle.vpc_model.specs.Accepted.{is_long_far, list_of_far}
use Rattle.vpc_model.specs.Lookup.{no_far}
use Rattle.vpc_model.specs.declared.refusals.Refusal.TheVariants as refusals

pub returns : goal.returns
returns c = λ xs long.
    let long_rows : List Far = filter (λ (f : Far). is_long_far f.kind) xs in
    let name : Far → Refusal = λ f. refusals.TooManyRows (list_of_far f.kind) in
    let first = drop-cons xs 100000 no_far (ltb-true 100000 (length xs) long) in
    (map name (drop (suc 100000) xs ++ long_rows) ++ [], ap (λ (rows : List Far). map name (rows ++ long_rows) ++ []) first)
