-- What is told of all headers of a body is told of some.
use Rattle.std.proofs.Common.{◌≡◌, ◌∙◌, ◌<◌, IfSome, List, None, Option, Some, inl, inr, length, subst, sym, ℕ}
use Rattle.std.proofs.lemmas.Option.{slice_get_cases}
use Rattle.vpc_base.specs.Cuts.{CutLists}
use Rattle.header_boxes.proofs.Held.{holds_low, valid_if_within}
use Rattle.header_boxes.specs.Boxes.{low_of}
use Rattle.box_images.specs.Terms.{Answers, header_at}
use Rattle.image_tests.specs.Types.{Image, Part}
use Rattle.vpc_laws.proofs.Rows.{tgw_routes_are_chosen}
use Rattle.vpc_laws.specs.Choice.{Chooses, TgwRouteYields}
use Rattle.vpc_laws.specs.Types.{Box5, Header, TgwRoute}
use Rattle.prefix_text.specs.Block.{holds}
use Rattle.vpc_model.specs.Terms.{chosen_tgw_route}

-- the low corner is one of the headers of which something is told
pub told_of_low : {T : Type 0} (enough : CutLists → Type 0) (answer : Header → T) (part : Box5) (x : Part T) → Answers enough answer part x → x.told ≡ answer (low_of x.body)
told_of_low {T} enough answer part x k = k.told (low_of x.body) (holds_low x.body (valid_if_within x.body part k.body.within))

chosen-within : (routes : List TgwRoute) (a : ℕ) (o : Option ℕ) → chosen_tgw_route routes a ≡ o → IfSome o (λ k. k < length routes)
chosen-within routes a None is = tt
chosen-within routes a (Some k) is =
    let choice = subst (λ (o : Option ℕ). Chooses (λ (r : TgwRoute). holds a r.block) TgwRouteYields routes o) is (tgw_routes_are_chosen routes a) in
    elim ((slice_get_cases routes k).1) [
      | inl some ↦ some.1
      | inr past ↦ let none : None ≡ Some choice.0 = sym past.1 ∙ choice.1 in absurd cc
    ]

-- the route that was told is one of the table's
pub chosen_within : (enough : CutLists → Type 0) (routes : List TgwRoute) (i : Image) (x : Part (Option ℕ)) → Answers enough (λ h. chosen_tgw_route routes (header_at i h).dst) i.part x
    → IfSome x.told (λ k. k < length routes)
chosen_within enough routes i x k =
    chosen-within routes (header_at i (low_of x.body)).dst x.told (sym (told_of_low enough (λ h. chosen_tgw_route routes (header_at i h).dst) i.part x k))
