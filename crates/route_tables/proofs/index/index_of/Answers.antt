use Rattle.std.proofs.Common.{◌≡◌, ◌⊎◌, ◌∙◌, ℕ, List, ap, arith, length, refl, subst, sym}
use Rattle.std.specs.List.{Contains}
use Rattle.block_pieces.specs.Told.{told_by}
use Rattle.route_tables.specs.Rows.{counted_rows}
use Rattle.route_tables.proofs.Counting.{AreLocals, addr-cuts, first-in_cuts, told_by-counted}
use Rattle.route_tables.proofs.Once.{borders-counted_rows_once, length-counted_rows_once, told-counted_rows_once, told-local_rows_once}
use Rattle.route_tables.proofs.index.index_of.Goals as goal

pub returns-clause-chosen : goal.returns-clause-chosen
returns-clause-chosen g c = λ a fits.
    let n = c.args.n.now in
    let routes = c.args.routes.now in
    let locals : AreLocals n routes c.in_ok-locals.locals = record { told = λ b b_fits. c.in_ok-locals.ensures.told b b_fits ∙ (ap (λ l. told_by l b) c.in_ok-local_rows.ensures ∙ told-local_rows_once n routes b) } in
    c.in_ok-pieces.ensures.told a fits
    ∙ (ap (λ l. told_by l a) c.in_ok-rows.ensures.rows
    ∙ (told-counted_rows_once n c.in_ok-locals.locals routes a ∙ told_by-counted n routes c.in_ok-locals.locals a locals c.in_ok-rows.ensures.blocks))

pub returns-clause-few : goal.returns-clause-few
returns-clause-few g c =
    let most = length-counted_rows_once c.args.n.now c.in_ok-locals.locals c.args.routes.now in
    let same = ap length c.in_ok-rows.ensures.rows in
    omega (arith, c.in_ok-pieces.ensures.few)

pub returns-clause-firsts : goal.returns-clause-firsts
returns-clause-firsts g c = λ f listed.
    let n = c.args.n.now in
    let p = c.in_ok-locals.locals in
    let routes = c.args.routes.now in
    subst (λ (l : List ℕ). (f ≡ 0) ⊎ Contains l f) (sym (addr-cuts n routes))
    (first-in_cuts n p routes (counted_rows n p 0 routes) f refl (borders-counted_rows_once n p routes c.in_ok-rows.rows.items f c.in_ok-rows.ensures.rows (c.in_ok-pieces.ensures.firsts f listed)))
