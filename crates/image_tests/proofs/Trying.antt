-- Rows that are asked one after the other, until one passes a test.
use Rattle.std.proofs.Common.{◌≡◌, ◌<◌, ◌+◌, ◌∷◌, Bool, true, false, List, ℕ, ap, drop, get_or, length, refl, subst, sym, ◌∙◌}
use Rattle.std.specs.List.{list_any}
use Rattle.vpc_base.specs.Cuts.{CutLists}
use Rattle.vpc_base.specs.declared.headers.Header.{Header}
use Rattle.vpc_base.proofs.Steps.{drop-next}
use Rattle.header_boxes.specs.Boxes.{holds, low_of}
use Rattle.box_images.proofs.Reducing.{reduced_all, reduced_by, reduced_nothing, reduced_same, walk_within}
use Rattle.box_images.specs.Answers.{Answers, Reduces}
use Rattle.box_images.specs.Images.{IsImageOfWalk, IsValidImage, KeepsKind, header_at}
use Rattle.box_images.specs.declared.images.Image.{Image}
use Rattle.box_images.specs.declared.images.Part.{Part}

-- the image is over what is left to ask, which depends on the rows from a number on
pub record IsTrying {X T : Type 0} (enough : CutLists → Type 0) (whole : Header → T) (asked : List X → Header → T) (rows : List X) (i : Image) (k : ℕ) (rest : Image) : Type 0 where
  pub image : rest ≡ record i { part = rest.part }
  pub valid : IsValidImage rest
  pub walk : IsImageOfWalk rest
  pub reduced : Reduces enough whole (asked (drop k rows)) i.part rest.part

pub trying_first : {X T : Type 0} (enough : CutLists → Type 0) (asked : List X → Header → T) (rows : List X) (i : Image) → IsValidImage i → IsImageOfWalk i
    → IsTrying enough (asked rows) asked rows i 0 i
trying_first enough asked rows i v w = record { image = refl; valid = v; walk = w; reduced = reduced_nothing enough (asked rows) i.part v.part }

-- a row that doesn't pass is left behind
pub trying_next : {X T : Type 0} (enough : CutLists → Type 0) (whole : Header → T) (asked : List X → Header → T) (test : X → Header → Bool)
    → ((x : X) (xs : List X) (h : Header) → test x h ≡ false → asked (x ∷ xs) h ≡ asked xs h)
    → (rows : List X) (i : Image) (k : ℕ) (rest : Image) (row : X) (x : Part Bool) (next : Image)
    → k < length rows → row ≡ get_or rows k row → x.told ≡ false
    → next ≡ record rest { part = x.body } → IsValidImage next → ((addresses : List ℕ) → KeepsKind addresses rest next)
    → IsTrying enough whole asked rows i k rest → Answers enough (test row) rest.part x
    → IsTrying enough whole asked rows i (k + 1) next
trying_next {X} {T} enough whole asked test skips rows i k rest row x next below is fails image valid keeps t a = record {
  image = subst (λ (j : Image). j ≡ record i { part = j.part }) (sym image) (ap (λ (j : Image). record j { part = x.body }) t.image);
  valid = valid;
  walk = walk_within rest next t.walk keeps;
  reduced = subst (λ (j : Image). Reduces enough whole (asked (drop (k + 1) rows)) i.part j.part) (sym image)
      (reduced_by enough whole (asked (drop k rows)) (asked (drop (k + 1) rows)) i.part rest.part (test row) x false fails
      (λ h e. ap (λ xs. asked xs h) (drop-next rows k row below is) ∙ skips row (drop (k + 1) rows) h e)
      t.reduced a);
}

-- and so is one that no header of what is left passes
pub trying_passed : {X T : Type 0} (enough : CutLists → Type 0) (whole : Header → T) (asked : List X → Header → T) (test : X → Header → Bool)
    → ((x : X) (xs : List X) (h : Header) → test x h ≡ false → asked (x ∷ xs) h ≡ asked xs h)
    → (rows : List X) (i : Image) (k : ℕ) (rest : Image) (row : X) → k < length rows → row ≡ get_or rows k row
    → ((h : Header) → holds h rest.part ≡ true → test row h ≡ false)
    → IsTrying enough whole asked rows i k rest → IsTrying enough whole asked rows i (k + 1) rest
trying_passed {X} {T} enough whole asked test skips rows i k rest row below is fails t = record {
  image = t.image;
  valid = t.valid;
  walk = t.walk;
  reduced = reduced_same enough whole (asked (drop k rows)) (asked (drop (k + 1) rows)) i.part rest.part
      (λ h inside. ap (λ xs. asked xs h) (drop-next rows k row below is) ∙ skips row (drop (k + 1) rows) h (fails h inside))
      t.reduced;
}

-- a row that passes decides
pub trying_last : {X T : Type 0} (enough : CutLists → Type 0) (whole : Header → T) (asked : List X → Header → T) (test : X → Header → Bool) (rows : List X) (i : Image) (k : ℕ) (rest : Image) (row : X)
    (x : Part Bool) (told : T) → ((xs : List X) (h : Header) → test row h ≡ true → asked (row ∷ xs) h ≡ told)
    → k < length rows → row ≡ get_or rows k row → x.told ≡ true
    → IsTrying enough whole asked rows i k rest → Answers enough (test row) rest.part x
    → Answers enough whole i.part (record { body = x.body; told = told })
trying_last {X} {T} enough whole asked test rows i k rest row x told decides below is passes t a =
    let next : Header → T = λ h. told in
    reduced_all enough whole next i.part x.body told (λ h e. refl)
    (reduced_by enough whole (asked (drop k rows)) next i.part rest.part (test row) x true passes
    (λ h e. ap (λ xs. asked xs h) (drop-next rows k row below is) ∙ decides (drop (k + 1) rows) h e)
    t.reduced a)

-- whether any row passes a test
abbrev pub any_passes : {X : Type 0} → (X → Header → Bool) → List X → Header → Bool
any_passes test rows h = list_any (λ x. test x h) rows

pub none_passes_yet : {X : Type 0} (test : X → Header → Bool) (x : X) (xs : List X) (h : Header) → test x h ≡ false → any_passes test (x ∷ xs) h ≡ any_passes test xs h
none_passes_yet test x xs h fails = rw fails refl

pub one_passes : {X : Type 0} (test : X → Header → Bool) (x : X) (xs : List X) (h : Header) → test x h ≡ true → any_passes test (x ∷ xs) h ≡ true
one_passes test x xs h passes = rw passes refl

-- the header of an image over a part is that of the image
pub header_of_rest : (i rest : Image) (h : Header) → rest ≡ record i { part = rest.part } → header_at rest h ≡ header_at i h
header_of_rest i rest h e = ap (λ (j : Image). header_at j h) e

-- and so is its low corner
pub low_of_rest : {X T : Type 0} (enough : CutLists → Type 0) (whole : Header → T) (asked : List X → Header → T) (rows : List X) (i : Image) (k : ℕ) (rest : Image) (low : Header)
    → low ≡ header_at i (low_of i.part) → IsTrying enough whole asked rows i k rest → low ≡ header_at rest (low_of rest.part)
low_of_rest {X} {T} enough whole asked rows i k rest low is t = is ∙ sym (header_of_rest i rest (low_of i.part) t.image) ∙ ap (header_at rest) (sym t.reduced.inside.low)
