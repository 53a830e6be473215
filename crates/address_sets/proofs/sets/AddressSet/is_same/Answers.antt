use Rattle.std.proofs.Common.{rules, ap}
use Rattle.std.proofs.lemmas.Bool.Decides.{Decides-and, Decides-eqb}
use Rattle.std.proofs.lemmas.Slice.Eq.{slice_eq-Decides}
use Rattle.address_sets.proofs.sets.AddressSet.is_same.Goals as goal

pub returns : goal.returns
returns c same =
    let decides = slice_eq-Decides (λ a b.
    let ends = Decides-and _ _ (Decides-eqb a.first b.first) (Decides-eqb a.last b.last) in
    ((λ is. let s = ends.0 is in search (rules, s)), (λ is. ends.1 ((ap (λ r. r.first) is), (ap (λ r. r.last) is)))))
    c.as_slice.result.now c.as_slice-2.result.now c.eq.result c.eq.ensures in
    let slices = decides.0 same in
    search (rules, slices)
