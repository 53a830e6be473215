use Rattle.std.proofs.Common.{◌≡◌, ◌⊎◌, ◌∙◌, List, ap, arith, length, subst, ℕ}
use Rattle.std.specs.List.{Contains}
use Rattle.block_pieces.specs.Told.{borders_of, told_by}
use Rattle.image_tests.proofs.PieceLemmas.{firsts_on_sides}
use Rattle.vpc_model.specs.Cuts.{all_cuts, cuts_of_tgw_route}
use Rattle.transit_gateway.proofs.Choosing.{borders-rows_of, length-rows_of, told_by-rows_of}
use Rattle.transit_gateway.proofs.routes.pieces_for.Goals as goal

pub returns : goal.returns
returns c =
    let routes = c.args.routes.now in
    let pieces = c.in_ok-pieces.ensures in
    let borders = ap borders_of c.in_ok-rows.ensures.rows ∙ borders-rows_of 0 routes in
    record {
      chosen = λ a fits. pieces.told a fits ∙ (ap (λ l. told_by l a) c.in_ok-rows.ensures.rows ∙ told_by-rows_of routes a c.in_ok-rows.ensures.blocks);
      few = let same = ap length c.in_ok-rows.ensures.rows in let all = length-rows_of 0 routes in omega (arith, pieces.few);
      firsts = firsts_on_sides c.in_ok-pieces.pieces (all_cuts cuts_of_tgw_route routes) c.are_pieces.ensures
          (λ f listed. subst (λ (l : List ℕ). (f ≡ 0) ⊎ Contains l f) borders (pieces.firsts f listed));
    }
