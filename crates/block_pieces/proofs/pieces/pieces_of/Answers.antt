use Rattle.std.proofs.Common.{◌≡◌, ◌∷◌, ◌∙◌, ap, arith, length, map, subst, sym}
use Rattle.std.specs.List.{Contains}
use Rattle.vpc_base.proofs.Members.{Contains-here}
use Rattle.prefix_text.specs.Block.{IsBlock}
use Rattle.std.specs.List.{All}
use Rattle.piece_table.specs.Pieces.{told_at}
use Rattle.block_pieces.specs.declared.rows.BlockRow.{BlockRow}
use Rattle.block_pieces.specs.Told.{told_by}
use Rattle.block_pieces.specs.Sweep.{within_line}
use Rattle.block_pieces.proofs.Borders.{first-border, first-zero, length-within_line, told_at-border_pieces}
use Rattle.block_pieces.proofs.pieces.pieces_of.Goals as goal

pub of-requires-clause-some : goal.of-requires-clause-some
of-requires-clause-some c =
    let is = c.in_ok-all_borders.ensures.all in
    (first-zero c.ascending-firsts.result.items c.ascending-firsts.ensures.order ((c.ascending-firsts.ensures.members 0).1 (subst (λ l. Contains l 0) (sym is) (Contains-here 0 (within_line c.deref.result.now))))).0

pub of-requires-clause-zero : goal.of-requires-clause-zero
of-requires-clause-zero c =
    let is = c.in_ok-all_borders.ensures.all in
    (first-zero c.ascending-firsts.result.items c.ascending-firsts.ensures.order ((c.ascending-firsts.ensures.members 0).1 (subst (λ l. Contains l 0) (sym is) (Contains-here 0 (within_line c.deref.result.now))))).1

pub returns-clause-told : goal.returns-clause-told
returns-clause-told c = λ a fits.
    let is : c.in_ok-all_borders.field-0.items ≡ 0 ∷ within_line c.args.rows.items = c.in_ok-all_borders.ensures.all ∙ ap (λ l. 0 ∷ within_line l) c.deref.ensures.value in
    ap (λ p. told_at p a) c.of.ensures
    ∙ told_at-border_pieces c.args.rows.items c.in_order-rows.result.items c.ascending-firsts.result.items c.in_ok-told.told.items a
    (record {
      order = c.ascending-firsts.ensures.order;
      all = λ b border. (c.ascending-firsts.ensures.members b).1 (subst (λ l. Contains l b) (sym is) border);
      others = λ b first. subst (λ l. Contains l b) is ((c.ascending-firsts.ensures.members b).0 first);
      tell = c.in_ok-told.ensures ∙ (ap (λ l. map (told_by l) c.deref-3.result.now) c.deref-2.ensures.value ∙ ap (map (told_by c.in_order-rows.result.items)) c.deref-3.ensures.value);
    })
    (subst (All (λ (r : BlockRow). IsBlock r.block)) c.deref.ensures.value c.in_ok-all_borders.ensures.blocks) c.in_order-rows.ensures.same fits

pub returns-clause-few : goal.returns-clause-few
returns-clause-few c =
    let is = ap length c.in_ok-all_borders.ensures.all in
    let most = length-within_line c.deref.result.now in
    let same = ap length c.deref.ensures.value in
    let firsts = ap (λ p. length p.firsts) c.of.ensures in
    omega (arith, c.ascending-firsts.ensures.few)

pub returns-clause-firsts : goal.returns-clause-firsts
returns-clause-firsts c = λ f listed.
    let is : c.in_ok-all_borders.field-0.items ≡ 0 ∷ within_line c.args.rows.items = c.in_ok-all_borders.ensures.all ∙ ap (λ l. 0 ∷ within_line l) c.deref.ensures.value in
    first-border c.args.rows.items c.ascending-firsts.result.items f (λ b first. subst (λ l. Contains l b) is ((c.ascending-firsts.ensures.members b).0 first)) (subst (λ p. Contains p.firsts f) c.of.ensures listed)
