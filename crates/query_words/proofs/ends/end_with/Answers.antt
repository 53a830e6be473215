use Rattle.std.proofs.Common.{◌≡◌, subst, sym, true}
use Rattle.vpc_laws.proofs.Numbering.{ids_are_found}
use Rattle.vpc_laws.specs.Types.{EniNo}
use Rattle.vpc_model.specs.Lookup.{has_interface}
use Rattle.vpc_model.specs.Sound.{is_eni}
use Rattle.query_words.proofs.ends.end_with.Goals as goal

-- an id that was found has a number in range
pub end_at-requires : goal.end_at-requires
end_at-requires c =
    let d = c.args.n.now in
    let id = c.args.id.now in
    let has : has_interface d id ≡ true = sym c.in-Some.ensures.found in
    let within = ((ids_are_found d).interface id has).0 in
    subst (λ (i : EniNo). is_eni d i ≡ true) (sym c.in-Some.ensures.number) within
