use Rattle.std.proofs.Common.{◌∙◌, [], List, ap, arith, subst}
use Rattle.std.proofs.lemmas.List.{get_or_default, get_or_past}
use Rattle.address_sets.specs.Runs.{is_in}
use Rattle.address_sets.specs.declared.sets.Run.{Run}
use Rattle.cut_laws.specs.Dividing.{DivideTurns}
use Rattle.security_groups.specs.Dividing.{IsStretchOf}
use Rattle.security_groups.specs.Rules.{has_entry}
use Rattle.security_groups.proofs.on_images.entries_from.Goals as goal
use Rattle.security_groups.proofs.Stretching.{stretch-none, stretch-set}

pub returns-then-list-lists : goal.returns-then-list-lists
returns-then-list-lists c =
    let set = c.index-lists-list.result in
    let is = c.index-lists-list.is ∙ get_or_default c.args.lists.now c.args.list set [] (omega arith) in
    subst (λ (s : List Run). IsStretchOf (DivideTurns (λ a. is_in a s)) (λ a. is_in a s) c.args.address c.stretch.result) is
    (stretch-set set c.args.address c.stretch.result c.stretch.ensures)

pub returns-else-list-lists : goal.returns-else-list-lists
returns-else-list-lists c =
    let lists = c.args.lists.now in
    let l = c.args.list in
    let past = get_or_past lists l [] (omega arith) in
    stretch-none (DivideTurns (λ a. has_entry lists a l)) (λ a. has_entry lists a l) c.args.address (omega (arith, c.ranges.address.fits)) (λ a. ap (is_in a) past)
