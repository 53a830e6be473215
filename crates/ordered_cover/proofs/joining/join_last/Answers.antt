use Rattle.std.proofs.Common.{◌≡◌, ◌<◌, ◌∙◌, ◌⊎◌, ◌++◌, ◌∷◌, [], List, ap, arith, inl, inr, length, subst, sym}
use Rattle.std.proofs.lemmas.List.{length-append}
use Rattle.header_boxes.specs.declared.rows.Row.{Row}
use Rattle.ordered_cover.specs.Joined.{AreJoined, GoesOnEitherWay}
use Rattle.ordered_cover.specs.Kept.{IsOneWithLast}
use Rattle.ordered_cover.specs.declared.joining.Along.TheVariants as by_sides
use Rattle.ordered_cover.proofs.Joined.{joined_before, keeps_more}
use Rattle.ordered_cover.proofs.Lists.{without_last}
use Rattle.ordered_cover.proofs.joining.join_last.Goals as goal

-- a list that ends with an element is longer than what comes before
fewer : {X : Type 0} (xs before first : List X) (y : X) → xs ≡ before ++ y ∷ [] → (xs ≡ first) ⊎ (length xs < length first) → length before < length first
fewer xs before first y ended same =
    let l = length-append before (y ∷ []) in
    let e = ap length ended in
    elim same as (λ _. length before < length first) [ inl f ↦ let k = ap length f in omega (arith, l, e, k) | inr lt ↦ omega (arith, l, e, lt) ]

pub joined-preserved : goal.joined-preserved
joined-preserved g c =
    let rows = c.joined.rows.items in
    let popped = c.pop.new.self.items in
    let one : IsOneWithLast GoesOnEitherWay rows c.joined.row c.in-Some.wider = rw c.as_slice.ensures.value at c.in-Some.ensures.some in
    let same : popped ≡ one.before = c.pop.ensures.rest ∙ without_last rows one.before c.joined.rows.len one.last c.joined.rows.ok.0 one.ended in
    record {
      kept = keeps_more by_sides.PAndQ (c.args.rows.now.items ++ c.args.row ∷ []) rows popped c.joined.row c.in-Some.wider one same c.joined.invariant.kept;
      joined = λ all. subst (AreJoined GoesOnEitherWay) (sym same) (joined_before GoesOnEitherWay rows one.before one.last one.ended (c.joined.invariant.joined all));
      same = inr (subst (λ (xs : List (Row g.row.P-Word.Denot)). length xs < length c.args.rows.now.items) (sym same) (fewer rows one.before c.args.rows.now.items one.last one.ended c.joined.invariant.same));
    }

pub returns-clause-joined : goal.returns-clause-joined
returns-clause-joined g c = λ all.
    (rw c.as_slice.ensures.value at c.in_default.ensures.none) (c.joined.invariant.joined all)
