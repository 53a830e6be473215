-- The addresses of one interface, asked of images.
use Rattle.std.proofs.Common.{Bool, Contains, List, Option, ap, arith, nat_le, refl, subst, sym, ℕ, ◌+◌, ◌==◌, ◌≡◌}
use Rattle.vpc_base.proofs.Lemmas.{All-contains, Contains-filter, nat_tests}
use Rattle.vpc_base.specs.declared.headers.Header.{Header}
use Rattle.box_images.specs.Terms.{Answers, IsCut, IsImageOfWalk, IsValidImage, field_of, header_at, number_of}
use Rattle.image_tests.specs.Types.{Image, Part, Side}
use Rattle.image_tests.proofs.Lemmas.{address_field, address_is_cut, answers_more, answers_same, between_itself, greatest_address, header_of_rest, side_answers}
use Rattle.image_tests.specs.Tests.{IsAddressSide, TellsSide}
use Rattle.vpc_base.specs.Cuts.{CutLists}
use Rattle.vpc_model.specs.Terms.{address_cuts, is_between}
use Rattle.box_steps.specs.Hosts.{DivideAddress, DivideOwn}

-- the test of a header
abbrev pub own_test : Side → Image → ℕ × Option ℕ → Header → Bool
own_test s i x h = x.0 == number_of (header_at i h) s

address_cut : (cuts : CutLists) (i : Image) (s : Side) (a v : ℕ) → IsImageOfWalk i → IsAddressSide s → Contains (address_cuts a) v → DivideAddress a cuts → IsCut cuts 4294967295 (field_of i s) v
address_cut cuts i s a v walk address has divide =
    address_is_cut cuts (field_of i s) v (address_field i s walk address)
    (λ le. divide.addr v (Contains-filter (λ n. nat_le n 4294967295) (address_cuts a) v has (grind (arith, nat_tests))))

-- one address, by the range from it to itself
pub address_answers : (i : Image) (s : Side) (a : ℕ) (x : Part Bool) → IsValidImage i → IsImageOfWalk i → IsAddressSide s → TellsSide i s a a x
    → Answers (DivideAddress a) (λ h. a == number_of (header_at i h) s) i.part x
address_answers i s a x valid walk address told =
    answers_same (DivideAddress a) (λ h. is_between a a (number_of (header_at i h) s)) (λ h. a == number_of (header_at i h) s) i.part x
    (λ h. between_itself a (number_of (header_at i h) s))
    (side_answers (DivideAddress a) i s a a x valid
    (λ cuts divide.
    subst (λ (n : ℕ). IsCut cuts n (field_of i s) a × IsCut cuts n (field_of i s) (a + 1)) (sym (greatest_address s address))
    (address_cut cuts i s a a walk address (0, omega arith, refl) divide, address_cut cuts i s a (a + 1) walk address (1, omega arith, refl) divide))
    told)

-- one of them, asked of what is left of an image
pub own_of_rest : (addresses : List (ℕ × Option ℕ)) (s : Side) (i rest : Image) (own : ℕ × Option ℕ) (x : Part Bool) → Contains addresses own → rest ≡ record i { part = rest.part }
    → Answers (DivideAddress own.0) (own_test s rest own) rest.part x → Answers (DivideOwn addresses) (own_test s i own) rest.part x
own_of_rest addresses s i rest own x has e k =
    answers_more (DivideAddress own.0) (DivideOwn addresses) (own_test s i own) rest.part x
    (λ cuts all. All-contains (λ (y : ℕ × Option ℕ). DivideAddress y.0 cuts) addresses own all has)
    (answers_same (DivideAddress own.0) (own_test s rest own) (own_test s i own) rest.part x
    (λ h. ap (λ (y : Header). own.0 == number_of y s) (header_of_rest i rest h e)) k)
