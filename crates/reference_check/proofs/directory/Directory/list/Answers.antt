use Rattle.std.proofs.Common.{◌≡◌, ◌∙◌, bytes_eq, rules, sym}
use Rattle.vpc_base.proofs.Tests.{find-nowhere}
use Rattle.vpc_model.specs.declared.rows.PrefixList.{PrefixList}
use Rattle.reference_check.proofs.Maps.{found_row, missing_row, read_row}
use Rattle.reference_check.proofs.directory.Directory.list.Goals as goal

pub returns-in-Some : goal.returns-in-Some
returns-in-Some c =
    let found = found_row (λ (x : PrefixList). x.id) c.args.id.now _ _ _ c.self.invariant.numbered.networks.lists (sym c.number.ensures.number ∙ c.in-Some.is) in
    let same : c.as_slice.result.now ≡ c.args.self.now.lists = search rules in
    read_row (λ (x : PrefixList). bytes_eq x.id c.args.id.now) c.args.self.now.lists c.in-Some.k c.index-as_slice-k.result (rw c.self.view_is at found) (rw same at c.index-as_slice-k.is)

pub returns-in-None : goal.returns-in-None
returns-in-None c =
    rw (← c.self.view_is)
    (sym
    (find-nowhere (λ (x : PrefixList). bytes_eq x.id c.args.id.now) _
    (missing_row (λ (x : PrefixList). x.id) c.args.id.now _ _ c.self.invariant.numbered.networks.lists (sym c.number.ensures.number ∙ c.in-None.is))))
