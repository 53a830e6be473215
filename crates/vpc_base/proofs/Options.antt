-- Values that may be wanting.
use Rattle.std.proofs.Common.{◌≡◌, ◌≢◌, ◌∙◌, Bool, None, Option, Some, false, if◌then◌else◌, is_some, option_map, refl, sym, true}
use Rattle.std.specs.Option.{option_or}

-- ---- whether there is one

pub none_if : {X : Type 0} (o : Option X) → is_some o ≡ false → o ≡ None
none_if None is = refl
none_if (Some x) is = absurd cc

pub some_if : {X : Type 0} (o : Option X) → is_some o ≡ true → o ≡ None → ⊥
some_if None is none = absurd cc
some_if (Some x) is none = absurd cc

pub some_not_none : {X : Type 0} (o : Option X) (x : X) → o ≡ Some x → o ≢ None
some_not_none o x e n = let k = sym e ∙ n in absurd (cc)

-- a value that is there by a test
pub if_some : (b : Bool) → (if b then Some (tt {0}) else None) ≢ None → b ≡ true
if_some true some = refl
if_some false some = absurd (some refl)

-- ---- what is made of one

pub is_some-option_map : {X Y : Type 0} (f : X → Y) (o : Option X) → is_some (option_map f o) ≡ is_some o
is_some-option_map f None = refl
is_some-option_map f (Some x) = refl

pub option_map-None : {X Y : Type 0} (f : X → Y) (o : Option X) → option_map f o ≡ None → o ≡ None
option_map-None f None e = refl
option_map-None f (Some x) e = absurd (cc)

-- a map after a map
pub option_map-map : {X Y Z : Type 0} (g : Y → Z) (f : X → Y) (o : Option X) → option_map g (option_map f o) ≡ option_map (λ x. g (f x)) o
option_map-map g f None = refl
option_map-map g f (Some x) = refl

pub option_map-or : {X Y : Type 0} (f : X → Y) (a b : Option X) → option_map f (option_or a b) ≡ option_or (option_map f a) (option_map f b)
option_map-or f None b = refl
option_map-or f (Some x) b = refl
