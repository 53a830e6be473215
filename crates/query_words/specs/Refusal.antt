-- What is answered to words that are read from left to right.
use Rattle.std.specs.Prelude.{◌≡◌, Err, Ok, Result}
use Rattle.query_words.specs.declared.refusal.QueryRefusal.{QueryRefusal}
use Rattle.query_words.specs.declared.refusal.QueryRefusal.TheVariants as refusals

-- what is read after a word that was taken; the first refusal is the answer
infixl 10 ◌>>=◌
abbrev pub ◌>>=◌ : {A B : Type 0} → Result A QueryRefusal → (A → Result B QueryRefusal) → Result B QueryRefusal
(Ok a) >>= next = next a
(Err cause) >>= next = Err cause

-- the answer is what is meant, or memory was wanting
abbrev pub Answers : {A : Type 0} → Result A QueryRefusal → Result A QueryRefusal → Type 0
Answers meant (Ok value) = meant ≡ Ok value
Answers meant (Err (refusals.BadWord n)) = meant ≡ Err (refusals.BadWord n)
Answers meant (Err (refusals.UnknownId n)) = meant ≡ Err (refusals.UnknownId n)
Answers meant (Err (refusals.NotAnEnd id)) = meant ≡ Err (refusals.NotAnEnd id)
Answers meant (Err (refusals.NotAStart n)) = meant ≡ Err (refusals.NotAStart n)
Answers meant (Err refusals.BothInternet) = meant ≡ Err refusals.BothInternet
Answers meant (Err (refusals.EmptyRange n)) = meant ≡ Err (refusals.EmptyRange n)
Answers meant (Err refusals.MaxOutOfRange) = meant ≡ Err refusals.MaxOutOfRange
Answers meant (Err (refusals.NoAddress id)) = meant ≡ Err (refusals.NoAddress id)
Answers meant (Err refusals.Memory) = Unit {0}
