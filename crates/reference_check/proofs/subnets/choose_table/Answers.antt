use Rattle.std.proofs.Common.{◌≡◌, ◌∙◌, List, Option, ap, get_or, position, subst, sym, true, ℕ}
use Rattle.std.proofs.lemmas.List.{get_or_default}
use Rattle.vpc_model.specs.Accepted.{is_main_of, is_table_of}
use Rattle.vpc_model.specs.Choice.{or_else}
use Rattle.vpc_model.specs.Lookup.{has_vpc, no_subnet}
use Rattle.vpc_model.specs.declared.rows.Subnet.{Subnet}
use Rattle.reference_check.specs.declared.claims.Claim.TheVariants.{Unclaimed}
use Rattle.reference_check.proofs.Described.{subnet-described}
use Rattle.reference_check.proofs.Firsts.{first-of-row}
use Rattle.reference_check.proofs.subnets.choose_table.Goals as goal

pub main_of-requires-clause-described : goal.main_of-requires-clause-described
main_of-requires-clause-described c =
    let row = c.index-as_slice-k.is ∙ ap (λ (xs : List Subnet). get_or xs c.args.k c.index-as_slice-k.result) c.as_slice.ensures in
    let P : Subnet → Type 0 = λ s. has_vpc c.args.d.now s.vpc ≡ true in
    subst P (sym row) (subnet-described c.args.d.now c.args.k c.index-as_slice-k.result c.requires.described c.requires.within)

pub returns-in-Some : goal.returns-in-Some
returns-in-Some c =
    let first = first-of-row is_table_of (λ (s : Subnet). s.id) c.args.d.now.subnets c.args.d.now.tables c.args.k Unclaimed no_subnet c.args.tables.now c.requires.tables c.requires.within in
    ap (λ (o : Option ℕ). or_else o (position (is_main_of (get_or c.args.d.now.subnets c.args.k no_subnet).vpc) c.args.d.now.tables)) (sym c.in-Some.is ∙ c.first.ensures ∙ first)

pub returns-in-None : goal.returns-in-None
returns-in-None c =
    let first = first-of-row is_table_of (λ (s : Subnet). s.id) c.args.d.now.subnets c.args.d.now.tables c.args.k Unclaimed no_subnet c.args.tables.now c.requires.tables c.requires.within in
    let row = c.index-as_slice-k.is ∙ ap (λ (xs : List Subnet). get_or xs c.args.k c.index-as_slice-k.result) c.as_slice.ensures ∙ get_or_default c.args.d.now.subnets c.args.k c.index-as_slice-k.result no_subnet c.requires.within in
    c.main_of.ensures ∙ ap (λ (s : Subnet). position (is_main_of s.vpc) c.args.d.now.tables) row
    ∙ ap (λ (o : Option ℕ). or_else o (position (is_main_of (get_or c.args.d.now.subnets c.args.k no_subnet).vpc) c.args.d.now.tables)) (sym c.in-None.is ∙ c.first.ensures ∙ first)
