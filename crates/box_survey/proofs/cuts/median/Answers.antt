use Rattle.std.proofs.Common.{ℕ, ◌∷◌, arith, refl, subst}
use Rattle.std.proofs.lemmas.List.Elements.{Contains-append_right}
use Rattle.std.proofs.lemmas.List.Sorted.{Contains-permutation, IsPermutation-sym}
use Rattle.std.specs.List.{Contains}
use Rattle.box_survey.proofs.cuts.median.Goals as goal

pub returns-clause-some : goal.returns-clause-some
returns-clause-some c =
    let at : ℕ = c.select_nth_unstable-at.result.1.now in
    let after = c.select_nth_unstable-at.result.2.now in
    let before = c.select_nth_unstable-at.result.0.now in (
      refl,
      subst (λ xs. Contains xs at) c.as_mut_slice.ensures.value
          (Contains-permutation _ _ at (IsPermutation-sym _ _ c.select_nth_unstable-at.ensures.permutation)
          (Contains-append_right before (at ∷ after) at (0, omega arith, refl))),
    )
