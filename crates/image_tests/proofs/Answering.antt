-- Answers about numbers on sides, and answers one after the other.
use Rattle.std.proofs.Common.{◌≡◌, ℕ, ◌+◌, ◌&&◌, Bool, Option, true, false, refl, ap, sym, ◌∙◌, ◌==◌, arith}
use Rattle.std.proofs.lemmas.Bool.Decides.{nat_tests}
use Rattle.vpc_base.specs.Cuts.{CutLists}
use Rattle.vpc_base.specs.declared.headers.Header.{Header}
use Rattle.header_boxes.proofs.BoxLaws.{within_holds}
use Rattle.header_boxes.specs.Boxes.{IsValid}
use Rattle.header_boxes.specs.declared.boxes.Box5.{Box5}
use Rattle.box_images.proofs.LawLemmas.{answers_follow, narrowed_are_aligned}
use Rattle.box_images.proofs.Reducing.{reduced_all, reduced_nothing}
use Rattle.box_images.specs.Answers.{Answers}
use Rattle.box_images.specs.Bodies.{IsCut}
use Rattle.box_images.specs.Fields.{greatest_on, number_of}
use Rattle.box_images.specs.Images.{IsValidImage, field_of, header_at}
use Rattle.box_images.specs.declared.fields.Side.{Side}
use Rattle.box_images.specs.declared.images.Image.{Image}
use Rattle.box_images.specs.declared.images.Part.{Part}
use Rattle.vpc_model.specs.Filter.{is_between, matches_proto}
use Rattle.image_tests.specs.Tests.{TellsSide, fits_rule}

-- where the first number of the range and the one past its last are cuts
abbrev pub EdgesAreCut : (CutLists → Type 0) → Image → Side → ℕ → ℕ → Type 0
EdgesAreCut enough i s from to =
    (cuts : CutLists) → enough cuts
    → IsCut cuts (greatest_on s) (field_of i s) from × IsCut cuts (greatest_on s) (field_of i s) (to + 1)

-- one number alone
pub between_itself : (a n : ℕ) → is_between a a n ≡ (a == n)
between_itself a n = grind (arith, nat_tests)

pub side_answers : (enough : CutLists → Type 0) (i : Image) (s : Side) (from to : ℕ) (x : Part Bool) → IsValidImage i
    → EdgesAreCut enough i s from to → TellsSide i s from to x
    → Answers enough (λ h. is_between from to (number_of (header_at i h) s)) i.part x
side_answers enough i s from to x valid edges k = record {
  told = k.told;
  body = k.body;
  aligned = λ cuts e. let both = edges cuts e in
      narrowed_are_aligned cuts i s from to x.body valid k.body k.ends both.0 both.1;
}

-- more cuts divide enough as well
pub answers_more : {T : Type 0} (few more : CutLists → Type 0) (answer : Header → T) (part : Box5) (x : Part T)
    → ((cuts : CutLists) → more cuts → few cuts) → Answers few answer part x → Answers more answer part x
answers_more {T} few more answer part x less k = record { told = k.told; body = k.body; aligned = λ cuts e. k.aligned cuts (less cuts e) }

-- where the first test doesn't hold, both don't
pub answers_refused : (enough : CutLists → Type 0) (f g : Header → Bool) (part : Box5) (x : Part Bool) → x.told ≡ false
    → Answers enough f part x → Answers enough (λ h. f h && g h) part x
answers_refused enough f g part x e k = record { told = λ h i. fails (f h) (g h) x.told e (k.told h i); body = k.body; aligned = k.aligned }
  where
    fails : (a b v : Bool) → v ≡ false → v ≡ a → v ≡ (a && b)
    fails true b v e f = absurd (let g : true ≡ false = sym f ∙ e in cc)
    fails false b v e f = e

-- where the first holds, the second decides
pub answers_both : (enough : CutLists → Type 0) (f g : Header → Bool) (part : Box5) (x y : Part Bool) → x.told ≡ true
    → Answers enough f part x → Answers enough g x.body y → Answers enough (λ h. f h && g h) part y
answers_both enough f g part x y e k l =
    answers_follow enough (λ h. f h && g h) x.body part y k.body k.aligned
    (record {
      told = λ h i. holds_too (f h) (g h) x.told y.told e (k.told h (within_holds y.body x.body h l.body.within i)) (l.told h i);
      body = l.body;
      aligned = l.aligned;
    })
  where
    holds_too : (a b v w : Bool) → v ≡ true → v ≡ a → w ≡ b → w ≡ (a && b)
    holds_too true b v w e f g = g
    holds_too false b v w e f g = absurd (let h : false ≡ true = sym f ∙ e in cc)

-- the same answer in other words
pub answers_same : {T : Type 0} (enough : CutLists → Type 0) (f g : Header → T) (part : Box5) (x : Part T) → ((h : Header) → f h ≡ g h)
    → Answers enough f part x → Answers enough g part x
answers_same {T} enough f g part x same k = record { told = λ h i. k.told h i ∙ same h; body = k.body; aligned = k.aligned }

-- something is made of the answer
pub answers_map : {S T : Type 0} (f : S → T) (enough : CutLists → Type 0) (answer : Header → S) (part : Box5) (x : Part S)
    → Answers enough answer part x → Answers enough (λ h. f (answer h)) part (record { body = x.body; told = f x.told })
answers_map {S} {T} f enough answer part x k = record { told = λ h i. ap f (k.told h i); body = k.body; aligned = k.aligned }

-- one answer for the whole part
pub answers_all : {T : Type 0} (enough : CutLists → Type 0) (answer : Header → T) (part : Box5) (told : T) → IsValid part
    → ((h : Header) → told ≡ answer h) → Answers enough answer part (record { body = part; told = told })
answers_all {T} enough answer part told valid all = reduced_all enough answer answer part part told (λ h i. sym (all h)) (reduced_nothing enough answer part valid)

-- a rule fits and another test holds
pub answers_rule : (enough : CutLists → Type 0) (proto : Option ℕ) (from to : ℕ) (i : Image) (g : Header → Bool) (part : Box5) (x : Part Bool)
    → Answers enough (λ h. fits_rule proto from to (header_at i h) && g h) part x
    → Answers enough (λ h. matches_proto proto (header_at i h).proto && (is_between from to (header_at i h).q && g h)) part x
answers_rule enough proto from to i g part x k =
    answers_same enough (λ h. fits_rule proto from to (header_at i h) && g h)
    (λ h. matches_proto proto (header_at i h).proto && (is_between from to (header_at i h).q && g h)) part x
    (λ h. associates (matches_proto proto (header_at i h).proto) (is_between from to (header_at i h).q) (g h)) k
  where
    associates : (a b c : Bool) → ((a && b) && c) ≡ (a && (b && c))
    associates true b c = refl
    associates false b c = refl
