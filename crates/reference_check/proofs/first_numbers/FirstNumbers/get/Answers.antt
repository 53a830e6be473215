use Rattle.std.proofs.Common.{◌∙◌, sym}
use Rattle.reference_check.proofs.NumberLemmas.{number_in-map}
use Rattle.reference_check.proofs.first_numbers.FirstNumbers.get.Goals as goal

pub returns : goal.returns
returns c = rw (← c.self.view_is) (c.copied.ensures ∙ c.get.ensures.value ∙ sym (number_in-map (λ k. k.items) _ c.args.id.now))
