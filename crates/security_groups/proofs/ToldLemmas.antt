-- What entries tell about pairs of numbers.
use Rattle.std.proofs.Common.{◌==◌, ◌<◌, ◌∷◌, ◌↔◌, ◌≡◌, ◌∙◌, ◌^◌, [], Bool, IsTrue, List, Some, arith, inl, inr, subst, sym, ℕ}
use Rattle.std.specs.List.{All}
use Rattle.vpc_base.proofs.Lemmas.{All-head, All-tail, cases_Bool, eqb-true}
use Rattle.number_tables.specs.Entries.{value_at}
use Rattle.number_tables.specs.Keys.{key_of}
use Rattle.number_tables.specs.declared.tables.Entry.{Entry}
use Rattle.security_groups.specs.Sharing.{AreToldShares, IsToldShare, Shares}

-- a key is of one pair
pub told-here : (keys : List ℕ) (one other key : ℕ) (b : Bool) → one < 2 ^ 32 → other < 2 ^ 32 → key ≡ key_of one other → (IsTrue b ↔ Shares keys one keys other) → IsToldShare keys (record { key = key; value = b })
told-here keys one other key b fits fits_other is says x y fits_x fits_y same =
    let first : one ≡ x = omega arith in
    let second : other ≡ y = omega arith in
    subst (λ n. IsTrue b ↔ Shares keys x keys n) second (subst (λ n. IsTrue b ↔ Shares keys n keys other) first says)

-- an entry that is found is one of all
told-at : (keys : List ℕ) (x y : ℕ) (b : Bool) (es : List (Entry Bool)) → x < 2 ^ 32 → y < 2 ^ 32 → All (IsToldShare keys) es → value_at (key_of x y) es ≡ Some b → IsTrue b ↔ Shares keys x keys y
told-at keys x y b [] fits_x fits_y all is = absurd cc
told-at keys x y b (e ∷ es) fits_x fits_y all is =
    elim (cases_Bool (e.key == key_of x y)) [
      | inl here ↦
          let found : Some e.value ≡ Some b = rw here at is in
          let value : e.value ≡ b = cc in
          subst (λ t. IsTrue t ↔ Shares keys x keys y) value (All-head (IsToldShare keys) e es all x y fits_x fits_y (eqb-true e.key (key_of x y) here))
      | inr other ↦
          let later : value_at (key_of x y) es ≡ Some b = rw other at is in
          told-at keys x y b es fits_x fits_y (All-tail (IsToldShare keys) e es all) later
    ]

pub told-all : (keys : List ℕ) (es told : List (Entry Bool)) → All (IsToldShare keys) es → ((k : ℕ) → value_at k told ≡ value_at k es) → AreToldShares keys told
told-all keys es told all same x y b fits_x fits_y is = told-at keys x y b es fits_x fits_y all (sym (same (key_of x y)) ∙ is)
