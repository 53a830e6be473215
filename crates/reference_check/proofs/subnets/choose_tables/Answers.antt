use Rattle.std.proofs.Common.{◌++◌, ◌<◌, ◌∙◌, ◌∷◌, [], List, Option, ap, length, map, sym, take, ℕ}
use Rattle.std.proofs.lemmas.Grind.{take_at_read}
use Rattle.std.proofs.lemmas.List.{map-append}
use Rattle.reference_check.specs.Attached.{chosen_table}
use Rattle.reference_check.proofs.subnets.choose_tables.Goals as goal
use Rattle.vpc_model.specs.Lookup.{no_subnet}

pub loop-k-preserved : goal.loop-k-preserved
loop-k-preserved c =
    let within : c.loop-k.k < length c.args.d.now.subnets = rw (← c.as_slice-count.ensures) c.loop-k-test.true in
    let taken = (take_at_read c.args.d.now.subnets c.loop-k.k no_subnet within).1 in
    c.in_ok-push.ensures.items
    ∙ ap (λ (xs : List (Option ℕ)). xs ++ c.choose_table.result ∷ []) c.loop-k.invariant
    ∙ ap (λ (o : Option ℕ). map (chosen_table c.args.d.now) (take c.loop-k.k c.args.d.now.subnets) ++ o ∷ []) c.choose_table.ensures
    ∙ sym (map-append (chosen_table c.args.d.now) (take c.loop-k.k c.args.d.now.subnets) _)
    ∙ ap (map (chosen_table c.args.d.now)) (sym taken)
